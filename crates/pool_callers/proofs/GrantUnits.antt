-- The units of a grant weigh what the grant weighs, and taken from a list they leave the rest.
use Rattle.std.proofs.Common.{◌≡◌, ◌+◌, ◌-◌, ◌≤◌, List, [], ◌∷◌, ◌++◌, refl, ◌∙◌, arith}
use Rattle.std.proofs.lemmas.List.Sums.{sum_by-cons}
use Rattle.pool_hall.specs.Sum.{total}
use Rattle.pool_hall.specs.Unit.{times, minus, pick_of, Beside}
use Rattle.pool_hall.specs.declared.unit_name.UnitName.{UnitName}
use Rattle.pool_hall.proofs.Totals.{total_append}
use Rattle.pool_hall.proofs.Units.{times_append, times_minus}
use Rattle.pool_slots.specs.declared.slot_name.RegionNumbers.{RegionNumbers}
use Rattle.pool_slots.specs.declared.slot_name.SlotName.{SlotName}
use Rattle.pool_alloc.specs.HeapLeases.{heap_slot_taken}
use Rattle.pool_alloc.specs.Leases.{Lease, memory_slot, slot_taken}
use Rattle.pool_alloc.specs.Places.{Thing, both_count, leased_count, tables_count}
use Rattle.pool_alloc.specs.Stepping.{grant_count}
use Rattle.pool_alloc.specs.TableLeases.{LeasedTable, table_slot}
use Rattle.pool_alloc.specs.declared.frame.Grant.{Grant}
use Rattle.pool_alloc.specs.declared.frame.Grant.TheVariants.{Instance, Component, Memory, Table, Stack, Heap, HeapOver}
use Rattle.pool_driver.proofs.Multisets.{same_totals}
use Rattle.pool_callers.specs.GrantUnits.{both_units, taken_units, memory_units, table_units, grant_units}

both_weigh : (t : Thing) (name : SlotName) (numbers : RegionNumbers) → total t (both_units name numbers) ≡ both_count t name numbers
both_weigh t name numbers = omega arith

memories_weigh : (t : Thing) (leases : List Lease) → total t (memory_units leases) ≡ leased_count t leases
memories_weigh t [] = refl
memories_weigh t (lease ∷ leases) = omega (
  arith,
  total_append t (both_units (memory_slot lease.index) lease.numbers) (memory_units leases),
  both_weigh t (memory_slot lease.index) lease.numbers,
  memories_weigh t leases,
  sum_by-cons (λ (l : Lease). both_count t (memory_slot l.index) l.numbers) lease leases,
)

tables_weigh : (t : Thing) (leases : List LeasedTable) → total t (table_units leases) ≡ tables_count t leases
tables_weigh t [] = refl
tables_weigh t (lease ∷ leases) = omega (
  arith,
  total_append t (both_units (table_slot lease.index) lease.numbers) (table_units leases),
  both_weigh t (table_slot lease.index) lease.numbers,
  tables_weigh t leases,
  sum_by-cons (λ (l : LeasedTable). both_count t (table_slot l.index) l.numbers) lease leases,
)

pub units_weigh : {P H : Type 0} (t : Thing) (grant : Grant P H) → total t (grant_units grant) ≡ grant_count t grant
units_weigh t (Instance lease) = omega (arith, total_append t (memory_units lease.memories.items) (table_units lease.tables.items), memories_weigh t lease.memories.items, tables_weigh t lease.tables.items)
units_weigh t Component = refl
units_weigh t (Memory lease) = omega arith
units_weigh t (Table lease) = omega arith
units_weigh t (Stack lease) = omega arith
units_weigh t (Heap lease memory) = omega (arith, total_append t (taken_units (heap_slot_taken lease)) (taken_units (slot_taken memory)))
units_weigh t (HeapOver lease) = omega arith

-- What a list weighs is what is taken from it, and what that leaves.
pub less_total : (t : Thing) (us ws : List UnitName) → ((u : UnitName) → times u ws ≤ times u us) → total t us ≡ total t ws + total t (minus us ws)
less_total t us ws within = same_totals us (ws ++ minus us ws) (λ u. omega (arith, times_append u ws (minus us ws), times_minus u us ws, within u)) t ∙ total_append t ws (minus us ws)

-- Lists that have each unit equally often stand alike beside what they need.
pub beside_same : (us ws : List UnitName) → ((u : UnitName) → times u us ≡ times u ws) → Beside us → Beside ws
beside_same us ws same beside u region some' =
    let here = same u in
    let there = same (pick_of u) in
    let right = beside u region (omega arith) in
    omega arith

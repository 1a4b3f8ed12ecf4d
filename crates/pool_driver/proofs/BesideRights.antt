-- Each region that a call has, or a grant, stands beside the right to its slot.
use Rattle.std.proofs.Common.{◌≡◌, ℕ, ◌+◌, ◌<◌, ◌≤◌, true, false, List, [], ◌∷◌, ⊎_elim, sym, ap, ◌∙◌, arith, Option, Some, None, true≢false}
use Rattle.std.specs.Prelude.{sum_by, remove}
use Rattle.std.proofs.lemmas.Bool.{cases_Bool, cases_lt}
use Rattle.std.proofs.lemmas.List.Sums.{sum_by-cons}
use Rattle.pool_hall.specs.Sum.{one_if}
use Rattle.pool_hall.specs.Unit.{same, pick_of}
use Rattle.pool_hall.specs.declared.unit_name.UnitName.{UnitName}
use Rattle.pool_hall.proofs.Totals.{total_append}
use Rattle.pool_hall.proofs.Units.{same_is, same_self}
use Rattle.pool_slots.specs.RegionCells.{right_to as unit_right, region_of as unit_region}
use Rattle.pool_slots.specs.PartUnits.{slot_units, units_of_slots}
use Rattle.pool_slots.specs.SlotQueues.{Queued}
use Rattle.pool_slots.specs.declared.slot_name.RegionNumbers.{RegionNumbers}
use Rattle.pool_slots.specs.declared.slot_name.SlotName.{SlotName}
use Rattle.pool_alloc.specs.Leases.{Lease, memory_slot, slot_taken}
use Rattle.pool_alloc.specs.TableLeases.{LeasedTable, table_slot, table_taken}
use Rattle.pool_alloc.specs.StackLeases.{stack_taken}
use Rattle.pool_alloc.specs.HeapLeases.{heap_slot_taken}
use Rattle.pool_alloc.specs.Objects.{slot_of_object}
use Rattle.pool_alloc.specs.Places.{Thing, slot_count, both_count, taken_count, queued_count, leased_count, tables_count, freed_count, instance_count, purge_count, release_count, phase_count, frame_count, heap_memory_count}
use Rattle.pool_alloc.specs.Stepping.{grant_count, count_granted}
use Rattle.pool_alloc.specs.declared.frame.Frame.{Frame}
use Rattle.pool_alloc.specs.declared.frame.FreedSlot.{FreedSlot}
use Rattle.pool_alloc.specs.declared.frame.TakenSlot.{TakenSlot}
use Rattle.pool_alloc.specs.declared.frame.Grant.TheVariants.{Instance, Component, Memory, Table, Stack, Heap, HeapOver}
use Rattle.pool_alloc.specs.declared.frame.Outcome.{Outcome}
use Rattle.pool_alloc.specs.declared.frame.Outcome.TheVariants as answer
use Rattle.pool_alloc.specs.declared.frame.Phase.{Phase}
use Rattle.pool_alloc.specs.declared.frame.Phase.TheVariants.{TakeRegion, Empty, Instantiate, MakeMemory, MakeTable, CountObject, TakeHeap, MakeHeap, CountHeap, PutNoHeap, PutBack, FreeOne, UncountObject, UncountHeap, PutHeap, FreeHeap, Reset, Purge, Release}
use Rattle.pool_alloc.specs.declared.leases.instance.InstanceLease.{InstanceLease}
use Rattle.pool_alloc.specs.declared.purge.PurgeStep.{PurgeStep}
use Rattle.pool_alloc.specs.declared.purge.PurgeStep.TheVariants as purging_step
use Rattle.pool_alloc.specs.declared.release.ReleaseStep.{ReleaseStep}
use Rattle.pool_alloc.specs.declared.release.ReleaseStep.TheVariants as releasing_step

-- the weight of one unit
abbrev pub this : UnitName → Thing
this u w = one_if (same u w)

-- what so weighs has each region beside the right to its slot
abbrev pub Pairs : (Thing → ℕ) → Type 0
Pairs F = (u : UnitName) → u.region ≡ true → 0 < F (this u) → 0 < F (this (pick_of u))

pub pairs_none : Pairs (λ t. 0)
pairs_none u region some' = absurd (omega arith)

pub pairs_sum : (F G : Thing → ℕ) → Pairs F → Pairs G → Pairs (λ t. F t + G t)
pairs_sum F G f g u region some' = ⊎_elim
    (λ (more : 0 < F (this u)). let a = f u region more in omega arith)
    (λ (less : F (this u) ≤ 0). let b = g u region (omega arith) in omega arith)
    (cases_lt 0 (F (this u)))

no_right : (name : SlotName) (u : UnitName) → u.region ≡ true → this u (unit_right name) ≡ 0
no_right name u region = ⊎_elim
    (λ (is : same u (unit_right name) ≡ true). absurd (true≢false (sym region ∙ ap (λ (z : UnitName). z.region) (same_is u (unit_right name) is))))
    (λ (other : same u (unit_right name) ≡ false). ap one_if other)
    (cases_Bool (same u (unit_right name)))

pub pairs_slot : (name : SlotName) → Pairs (λ t. slot_count t name)
pairs_slot name u region some' = let z = no_right name u region in absurd (omega arith)

pub pairs_both : (name : SlotName) (numbers : RegionNumbers) → Pairs (λ t. both_count t name numbers)
pairs_both name numbers u region some' =
    let z = no_right name u region in
    ⊎_elim
    (λ (is : same u (unit_region name numbers) ≡ true).
    let e : this (pick_of u) (unit_right name) ≡ this (unit_right name) (unit_right name) = ap (λ (w : UnitName). this (pick_of w) (unit_right name)) (same_is u (unit_region name numbers) is) in
    let f : this (unit_right name) (unit_right name) ≡ 1 = ap one_if (same_self (unit_right name)) in
    omega arith)
    (λ (other : same u (unit_region name numbers) ≡ false). let y : this u (unit_region name numbers) ≡ 0 = ap one_if other in absurd (omega arith))
    (cases_Bool (same u (unit_region name numbers)))

pairs_by : {X : Type 0} (F : Thing → X → ℕ) (xs : List X) → ((x : X) → Pairs (λ t. F t x)) → Pairs (λ t. sum_by (F t) xs)
pairs_by F [] each u region some' = absurd (omega arith)
pairs_by F (x ∷ xs) each u region some' =
    let a = sum_by-cons (F (this u)) x xs in
    let b = sum_by-cons (F (this (pick_of u))) x xs in
    let r = pairs_sum (λ t. F t x) (λ t. sum_by (F t) xs) (each x) (pairs_by F xs each) u region (omega arith) in
    omega arith

pub pairs_queued : (slots : List Queued) → Pairs (λ t. queued_count t slots)
pairs_queued [] u region some' = absurd (omega arith)
pairs_queued (m ∷ ms) u region some' =
    let a = total_append (this u) (slot_units m) (units_of_slots ms) in
    let b = total_append (this (pick_of u)) (slot_units m) (units_of_slots ms) in
    let r = pairs_sum (λ t. both_count t m.name m.numbers) (λ t. queued_count t ms) (pairs_both m.name m.numbers) (pairs_queued ms) u region (omega arith) in
    omega arith

pairs_freed : (slots : List FreedSlot) → Pairs (λ t. freed_count t slots)
pairs_freed slots = pairs_by (λ t x. slot_count t x.name) slots (λ x. pairs_slot x.name)

pairs_taken : (at : TakenSlot) → Pairs (λ t. taken_count t at)
pairs_taken at = pairs_both at.name at.numbers

pairs_leased : (leases : List Lease) → Pairs (λ t. leased_count t leases)
pairs_leased leases = pairs_by (λ t l. both_count t (memory_slot l.index) l.numbers) leases (λ l. pairs_both (memory_slot l.index) l.numbers)

pairs_tables : (leases : List LeasedTable) → Pairs (λ t. tables_count t leases)
pairs_tables leases = pairs_by (λ t l. both_count t (table_slot l.index) l.numbers) leases (λ l. pairs_both (table_slot l.index) l.numbers)

module _ {P : Type 0} where
  pairs_instance : (lease : InstanceLease P) → Pairs (λ t. instance_count t lease)
  pairs_instance lease = pairs_sum (λ t. leased_count t lease.memories.items) (λ t. tables_count t lease.tables.items) (pairs_leased lease.memories.items) (pairs_tables lease.tables.items)

  pairs_purge : (step : PurgeStep P) → Pairs (λ t. purge_count t step)
  pairs_purge (purging_step.Pick tried) = pairs_none
  pairs_purge (purging_step.TakeRegion name) = pairs_slot name
  pairs_purge (purging_step.Forget at held) = pairs_taken at
  pairs_purge (purging_step.PutRegion at held) = pairs_taken at
  pairs_purge (purging_step.Free name) = pairs_slot name

  pairs_release : (step : ReleaseStep P) → Pairs (λ t. release_count t step)
  pairs_release releasing_step.Reserve = pairs_none
  pairs_release (releasing_step.TakeWarm r j) = pairs_freed r.taken.items
  pairs_release (releasing_step.TakeRegion r k) = pairs_freed r.taken.items
  pairs_release (releasing_step.Decommit r k at held) = pairs_sum (λ t. taken_count t at) (λ t. freed_count t (remove r.taken.items k)) (pairs_taken at) (pairs_freed (remove r.taken.items k))
  pairs_release (releasing_step.PutRegion r k at held) = pairs_sum (λ t. taken_count t at) (λ t. freed_count t (remove r.taken.items k)) (pairs_taken at) (pairs_freed (remove r.taken.items k))
  pairs_release (releasing_step.Free r x) = pairs_sum (λ t. slot_count t x.name) (λ t. freed_count t r.taken.items) (pairs_slot x.name) (pairs_freed r.taken.items)

pairs_memory : (memory : Option Lease) → Pairs (λ t. heap_memory_count t memory)
pairs_memory (Some memory) = pairs_taken (slot_taken memory)
pairs_memory None = pairs_none

module _ {P H : Type 0} where
  pairs_phase : (p : Phase P H) → Pairs (λ t. phase_count t p)
  pairs_phase (TakeRegion name) = pairs_slot name
  pairs_phase (Empty at held) = pairs_taken at
  pairs_phase (Instantiate at held) = pairs_taken at
  pairs_phase (MakeMemory at held) = pairs_taken at
  pairs_phase (MakeTable at region) = pairs_taken at
  pairs_phase (CountObject object) = pairs_taken (slot_of_object object)
  pairs_phase (PutBack at held) = pairs_taken at
  pairs_phase (FreeOne name) = pairs_slot name
  pairs_phase (UncountObject object) = pairs_taken (slot_of_object object)
  pairs_phase (TakeHeap name) = pairs_slot name
  pairs_phase (MakeHeap at) = pairs_taken at
  pairs_phase (CountHeap lease) = pairs_taken (heap_slot_taken lease)
  pairs_phase (PutNoHeap at) = pairs_taken at
  pairs_phase (UncountHeap lease memory) = pairs_sum (λ t. taken_count t (heap_slot_taken lease)) (λ t. heap_memory_count t memory) (pairs_taken (heap_slot_taken lease)) (pairs_memory memory)
  pairs_phase (PutHeap lease memory) = pairs_sum (λ t. taken_count t (heap_slot_taken lease)) (λ t. heap_memory_count t memory) (pairs_taken (heap_slot_taken lease)) (pairs_memory memory)
  pairs_phase (FreeHeap name memory) = pairs_sum (λ t. slot_count t name) (λ t. taken_count t (slot_taken memory)) (pairs_slot name) (pairs_taken (slot_taken memory))
  pairs_phase (Reset object) = pairs_taken (slot_of_object object)
  pairs_phase (Purge p step) = pairs_purge step
  pairs_phase (Release step) = pairs_release step
  pairs_phase _ = pairs_none

  pub pairs_frame : (f : Frame P H) → Pairs (λ t. frame_count t f)
  pairs_frame f =
      pairs_sum (λ t. instance_count t f.objects + queued_count t f.local.slots + freed_count t f.freed.items) (λ t. phase_count t f.phase)
      (pairs_sum (λ t. instance_count t f.objects + queued_count t f.local.slots) (λ t. freed_count t f.freed.items)
      (pairs_sum (λ t. instance_count t f.objects) (λ t. queued_count t f.local.slots) (pairs_instance f.objects) (pairs_queued f.local.slots))
      (pairs_freed f.freed.items))
      (pairs_phase f.phase)

  pub pairs_answer : (o : Option (Outcome P H)) → Pairs (λ t. count_granted (grant_count t) o)
  pairs_answer None = pairs_none
  pairs_answer (Some answer.Key) = pairs_none
  pairs_answer (Some (answer.Granted (Instance lease))) = pairs_instance lease
  pairs_answer (Some (answer.Granted (Memory lease))) = pairs_taken (slot_taken lease)
  pairs_answer (Some (answer.Granted (Table lease))) = pairs_taken (table_taken lease)
  pairs_answer (Some (answer.Granted (Stack lease))) = pairs_taken (stack_taken lease)
  pairs_answer (Some (answer.Granted (Heap lease memory))) = pairs_sum (λ t. taken_count t (heap_slot_taken lease)) (λ t. taken_count t (slot_taken memory)) (pairs_taken (heap_slot_taken lease)) (pairs_taken (slot_taken memory))
  pairs_answer (Some (answer.Granted (HeapOver lease))) = pairs_taken (heap_slot_taken lease)
  pairs_answer (Some (answer.Granted Component)) = pairs_none
  pairs_answer (Some answer.Returned) = pairs_none
  pairs_answer (Some (answer.Purged n)) = pairs_none
  pairs_answer (Some (answer.Released n)) = pairs_none
  pairs_answer (Some (answer.Refused e)) = pairs_none

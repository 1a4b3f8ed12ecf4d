-- What a frame has counted, as counters that count nothing else. They are far from their end: a pool has less than 2^64 slots.
use Rattle.std.proofs.Common.{◌≡◌, ℕ, suc, ◌+◌, ◌*◌, ◌<◌, ◌≤◌, List, [], ◌∷◌, length, refl, arith, add-mul, Option, Some, None}
use Rattle.std.specs.Prelude.{◌^◌, if◌then◌else◌}
use Rattle.pool_hall.specs.Sum.{total}
use Rattle.pool_hall.specs.declared.unit_name.SlotKind.{SlotKind}
use Rattle.pool_hall.specs.declared.unit_name.SlotKind.TheVariants.{Memory as memory_kind, Table as table_kind, Stack as stack_kind, Heap as heap_kind}
use Rattle.pool_hall.proofs.Totals.{total_append}
use Rattle.std.proofs.lemmas.List.Sums.{sum_by-cons}
use Rattle.pool_index.specs.Part.{used_units}
use Rattle.pool_index.specs.declared.ids.MemoryInModule.{MemoryInModule}
use Rattle.pool_pages.specs.MakerTold.{MakerTold}
use Rattle.pool_slots.specs.Cells.{Cell, unmapped, unknown, previously_used, taken}
use Rattle.pool_slots.specs.HeapLists.{away_from}
use Rattle.pool_slots.specs.ListUnits.{all_away}
use Rattle.pool_slots.specs.PartUnits.{part_away}
use Rattle.pool_slots.specs.Parts.{part_at}
use Rattle.pool_slots.specs.Plans.{Role, shard_role, cell_role, queue_role, heaps_role, no_role, role_at}
use Rattle.pool_slots.specs.RegionCells.{away_by}
use Rattle.pool_slots.specs.declared.heap_list.HeapEntry.{HeapEntry}
use Rattle.pool_slots.specs.declared.heap_list.HeapEntry.TheVariants as entry
use Rattle.pool_slots.specs.declared.part.PoolPart.{PoolPart}
use Rattle.pool_slots.specs.declared.part.PoolPart.TheVariants as part
use Rattle.pool_slots.specs.declared.slot_name.RegionNumbers.{RegionNumbers}
use Rattle.pool_slots.specs.declared.slot_name.SlotName.{SlotName}
use Rattle.pool_alloc.specs.Leases.{Lease, memory_slot}
use Rattle.pool_alloc.specs.Places.{Thing, Counter, Counts, counted_instance, counted_component, counted_object, only, away_count, both_count, frame_count, instances_for, leased_count, tables_count, phase_count, phase_counted, phase_instances, number_counted}
use Rattle.pool_alloc.specs.BetweenSteps.{IsCore, IsPartFor}
use Rattle.pool_alloc.specs.TableLeases.{LeasedTable, table_slot}
use Rattle.pool_alloc.specs.declared.frame.Asked.{Asked}
use Rattle.pool_alloc.specs.declared.frame.Asked.TheVariants as asked
use Rattle.pool_alloc.specs.declared.frame.Frame.{Frame}
use Rattle.pool_alloc.specs.declared.frame.Object.TheVariants.{Memory, Table, Stack}
use Rattle.pool_alloc.specs.declared.frame.Phase.{Phase}
use Rattle.pool_alloc.specs.declared.frame.Phase.TheVariants.{Idle, Key, Validate, TestStack, TestHeap, CountInstance, UncountObject, UncountHeap, PutHeap, FreeHeap, ValidateComponent, CountComponent, UncountComponent, Purge, Release}
use Rattle.pool_alloc.specs.declared.pool_core.PoolCore.{PoolCore}
use Rattle.pool_alloc.specs.declared.pool_core.Settings.{Settings}
use Rattle.pool_driver.specs.Carrying.{CountsFrame}
use Rattle.pool_driver.specs.Driving.{counted_by}

module _ {P H : Type 0} where
  -- what is counted of the phase, by kinds
  phase_splits : (n : Counts) (p : Phase P H) → phase_counted n p ≡ phase_counted (only counted_component) p * n counted_component + phase_counted (only (counted_object memory_kind)) p * n (counted_object memory_kind) + phase_counted (only (counted_object table_kind)) p * n (counted_object table_kind) + phase_counted (only (counted_object stack_kind)) p * n (counted_object stack_kind) + phase_counted (only (counted_object heap_kind)) p * n (counted_object heap_kind)
  phase_splits n (UncountObject (Memory lease)) = omega arith
  phase_splits n (UncountObject (Table lease)) = omega arith
  phase_splits n (UncountObject (Stack lease)) = omega arith
  phase_splits n (UncountHeap lease (Some memory)) = omega arith
  phase_splits n (UncountHeap lease None) = omega arith
  phase_splits n (PutHeap lease (Some memory)) = omega arith
  phase_splits n (PutHeap lease None) = omega arith
  phase_splits n (FreeHeap name memory) = omega arith
  phase_splits n UncountComponent = omega arith
  phase_splits n p = omega arith

  -- These counters count what the frame has counted.
  pub counts_frame : (f : Frame P H) → CountsFrame (counted_by f) f
  counts_frame f n = omega (
    arith,
    phase_splits n f.phase,
    add-mul (length f.objects.memories.items) (phase_counted (only (counted_object memory_kind)) f.phase) (n (counted_object memory_kind)),
    add-mul (length f.objects.tables.items) (phase_counted (only (counted_object table_kind)) f.phase) (n (counted_object table_kind)),
  )

-- the weight that counts rights
abbrev pub rights : Thing
rights u = if u.region then 0 else 1

used_few : (kind : SlotKind) (step n : ℕ) (used : List (Option (Option MemoryInModule))) → total rights (used_units kind step n used) ≤ length used
used_few kind step n [] = omega arith
used_few kind step n (None ∷ used) = omega (arith, used_few kind step (n + step) used)
used_few kind step n (Some want ∷ used) = omega (arith, used_few kind step (n + step) used)

heaps_no_rights : {H : Type 0} (n : ℕ) (heaps : List (HeapEntry H)) → total rights (away_from n heaps) ≡ 0
heaps_no_rights n [] = refl
heaps_no_rights n (entry.Here heap ∷ heaps) = heaps_no_rights (suc n) heaps
heaps_no_rights n (entry.Out memory ∷ heaps) = omega (arith, heaps_no_rights (suc n) heaps)

-- a cell has no right away, and each lease has one
cell_none : (name : SlotName) (out : RegionNumbers) (held : Cell) → total rights (away_by name out held) ≡ 0
cell_none name out (unmapped region) = refl
cell_none name out (unknown slot) = refl
cell_none name out (previously_used slot) = refl
cell_none name out taken = refl

leased_rights : (ls : List Lease) → leased_count rights ls ≡ length ls
leased_rights [] = refl
leased_rights (l ∷ ls) = omega (arith, sum_by-cons (λ (m : Lease). both_count rights (memory_slot m.index) m.numbers) l ls, leased_rights ls)

table_rights : (ls : List LeasedTable) → tables_count rights ls ≡ length ls
table_rights [] = refl
table_rights (l ∷ ls) = omega (arith, sum_by-cons (λ (m : LeasedTable). both_count rights (table_slot m.index) m.numbers) l ls, table_rights ls)

asked_one : (a : Asked) → instances_for a ≤ 1
asked_one asked.Stack = omega arith
asked_one (asked.Heap ty) = omega arith
asked_one (asked.HeapOver memory) = omega arith
asked_one a = omega arith

module _ {P H : Type 0} where
  -- a part has fewer rights away than a shard may have slots
  part_few : (maker : MakerTold) (s : Settings) (r : Role) (x : PoolPart P H) → IsPartFor maker s r x → total rights (part_away x) + 1 ≤ 2 ^ 32
  part_few maker s (shard_role a j) (part.Shard shard) is = omega (arith, used_few shard.kind shard.step shard.first shard.used, is.sound.entries, is.sound.small)
  part_few maker s (cell_role name) (part.Shard shard) is = absurd is
  part_few maker s queue_role (part.Shard shard) is = absurd is
  part_few maker s (heaps_role n) (part.Shard shard) is = absurd is
  part_few maker s no_role (part.Shard shard) is = absurd is
  part_few maker s r (part.Memory cell) is = omega (arith, cell_none cell.name cell.out cell.holds)
  part_few maker s r (part.Table cell) is = omega (arith, cell_none cell.name cell.out cell.holds)
  part_few maker s r (part.Stack cell) is = omega (arith, cell_none cell.name cell.out cell.holds)
  part_few maker s r (part.Queue q) is = omega arith
  part_few maker s r (part.Heaps heaps) is = omega (arith, heaps_no_rights 0 heaps)

  all_few : (xs : List (PoolPart P H)) → ((p : ℕ) → p < length xs → total rights (part_away (part_at p xs)) + 1 ≤ 2 ^ 32) → total rights (all_away xs) ≤ 2 ^ 32 * length xs
  all_few [] each = omega arith
  all_few (x ∷ xs) each = omega (arith, total_append rights (part_away x) (all_away xs), each 0 (omega arith), all_few xs (λ p below. each (suc p) (omega arith)))

  -- and what is counted of the phase has one
  memory_right : (p : Phase P H) → phase_counted (only (counted_object memory_kind)) p ≤ phase_count rights p
  memory_right (UncountObject (Memory lease)) = omega arith
  memory_right (UncountObject (Table lease)) = omega arith
  memory_right (UncountObject (Stack lease)) = omega arith
  memory_right (UncountHeap lease (Some memory)) = omega arith
  memory_right (UncountHeap lease None) = omega arith
  memory_right (PutHeap lease (Some memory)) = omega arith
  memory_right (PutHeap lease None) = omega arith
  memory_right (FreeHeap name memory) = omega arith
  memory_right UncountComponent = omega arith
  memory_right p = omega arith

  table_right : (p : Phase P H) → phase_counted (only (counted_object table_kind)) p ≤ phase_count rights p
  table_right (UncountObject (Memory lease)) = omega arith
  table_right (UncountObject (Table lease)) = omega arith
  table_right (UncountObject (Stack lease)) = omega arith
  table_right (UncountHeap lease (Some memory)) = omega arith
  table_right (UncountHeap lease None) = omega arith
  table_right (PutHeap lease (Some memory)) = omega arith
  table_right (PutHeap lease None) = omega arith
  table_right (FreeHeap name memory) = omega arith
  table_right UncountComponent = omega arith
  table_right p = omega arith

  component_one : (p : Phase P H) → phase_counted (only counted_component) p ≤ 1
  component_one (UncountObject (Memory lease)) = omega arith
  component_one (UncountObject (Table lease)) = omega arith
  component_one (UncountObject (Stack lease)) = omega arith
  component_one (UncountHeap lease (Some memory)) = omega arith
  component_one (UncountHeap lease None) = omega arith
  component_one (PutHeap lease (Some memory)) = omega arith
  component_one (PutHeap lease None) = omega arith
  component_one (FreeHeap name memory) = omega arith
  component_one UncountComponent = omega arith
  component_one p = omega arith

  stack_one : (p : Phase P H) → phase_counted (only (counted_object stack_kind)) p ≤ 1
  stack_one (UncountObject (Memory lease)) = omega arith
  stack_one (UncountObject (Table lease)) = omega arith
  stack_one (UncountObject (Stack lease)) = omega arith
  stack_one (UncountHeap lease (Some memory)) = omega arith
  stack_one (UncountHeap lease None) = omega arith
  stack_one (PutHeap lease (Some memory)) = omega arith
  stack_one (PutHeap lease None) = omega arith
  stack_one (FreeHeap name memory) = omega arith
  stack_one UncountComponent = omega arith
  stack_one p = omega arith

  heap_one : (p : Phase P H) → phase_counted (only (counted_object heap_kind)) p ≤ 1
  heap_one (UncountObject (Memory lease)) = omega arith
  heap_one (UncountObject (Table lease)) = omega arith
  heap_one (UncountObject (Stack lease)) = omega arith
  heap_one (UncountHeap lease (Some memory)) = omega arith
  heap_one (UncountHeap lease None) = omega arith
  heap_one (PutHeap lease (Some memory)) = omega arith
  heap_one (PutHeap lease None) = omega arith
  heap_one (FreeHeap name memory) = omega arith
  heap_one UncountComponent = omega arith
  heap_one p = omega arith

  instance_one : (p : Phase P H) (n : ℕ) → n ≤ 1 → phase_instances p * n ≤ 1
  instance_one Idle n one = omega arith
  instance_one Key n one = omega arith
  instance_one Validate n one = omega arith
  instance_one TestStack n one = omega arith
  instance_one TestHeap n one = omega arith
  instance_one CountInstance n one = omega arith
  instance_one (ValidateComponent info) n one = omega arith
  instance_one CountComponent n one = omega arith
  instance_one UncountComponent n one = omega arith
  instance_one (Purge c step) n one = omega arith
  instance_one (Release step) n one = omega arith
  instance_one p n one = omega (arith, one)

  -- So no counter that counts a frame alone stands at its end.
  pub few_counted : (maker : MakerTold) (c : PoolCore P H) (f : Frame P H) → IsCore maker c → frame_count rights f ≤ away_count rights c → (k : Counter) → number_counted k (counted_by f) + 1 < 2 ^ 64
  few_counted maker c f core fits k =
      let all = all_few c.parts (λ p below. part_few maker c.settings (role_at c.plan p) (part_at p c.parts) (core.parts p below)) in
      let m = leased_rights f.objects.memories.items in
      let t = table_rights f.objects.tables.items in
      let places = core.plan.small in
      let pm = memory_right f.phase in
      let pt = table_right f.phase in
      few k (omega arith) (omega arith)
    where
      few : (k : Counter) → length f.objects.memories.items + phase_counted (only (counted_object memory_kind)) f.phase ≤ 2 ^ 32 * length c.parts → length f.objects.tables.items + phase_counted (only (counted_object table_kind)) f.phase ≤ 2 ^ 32 * length c.parts → number_counted k (counted_by f) + 1 < 2 ^ 64
      few counted_instance m t = omega (arith, instance_one f.phase (instances_for f.asked) (asked_one f.asked))
      few counted_component m t = omega (arith, component_one f.phase)
      few (counted_object memory_kind) m t = omega (arith, m, core.plan.small)
      few (counted_object table_kind) m t = omega (arith, t, core.plan.small)
      few (counted_object stack_kind) m t = omega (arith, stack_one f.phase)
      few (counted_object heap_kind) m t = omega (arith, heap_one f.phase)

-- Where each slot and each region is: with the pool, with a party's call, or in a grant. Each that is given out is counted
-- once. The same measure weighs what the pool's counters count.
use Rattle.std.specs.Prelude.{ℕ, ◌+◌, ◌*◌, List, length, sum_by, remove, Option, Some, None}
use Rattle.pool_alloc.specs.Imports.{Queued, total, UnitName, unit_right, unit_region, units_of_slots, is_right, is_region, all_away, all_kept, RegionNumbers, SlotName, SlotKind, memory_kind, table_kind, stack_kind, heap_kind}
use Rattle.pool_alloc.specs.HeapLeases.{LeasedHeap, heap_slot_taken}
use Rattle.pool_alloc.specs.Leases.{Lease, memory_slot, slot_taken}
use Rattle.pool_alloc.specs.declared.pool_core.Counters.{Counters}
use Rattle.pool_alloc.specs.declared.pool_core.PoolCore.{PoolCore}
use Rattle.pool_alloc.specs.declared.frame.Frame.{Frame}
use Rattle.pool_alloc.specs.declared.frame.FreedSlot.{FreedSlot}
use Rattle.pool_alloc.specs.declared.frame.Phase.{Phase}
use Rattle.pool_alloc.specs.declared.frame.Phase.TheVariants.{Idle, Key, Validate, TestStack, TestHeap, CountInstance, TakeRegion, Empty, Instantiate, MakeMemory, MakeTable, CountObject, TakeHeap, MakeHeap, CountHeap, PutNoHeap, PutBack, FreeOne, UncountObject, UncountHeap, PutHeap, FreeHeap, Reset, ValidateComponent, CountComponent, UncountComponent, Purge, Release}
use Rattle.pool_alloc.specs.Objects.{slot_of_object}
use Rattle.pool_alloc.specs.TableLeases.{LeasedTable, table_slot}
use Rattle.pool_alloc.specs.declared.frame.Asked.{Asked}
use Rattle.pool_alloc.specs.declared.frame.Asked.TheVariants.{Memory as memory_asked, Table as table_asked, Stack as stack_asked, Heap as heap_asked, HeapOver as heap_over_asked}
use Rattle.pool_alloc.specs.declared.frame.TakenSlot.{TakenSlot}
use Rattle.pool_alloc.specs.declared.leases.instance.InstanceLease.{InstanceLease}
use Rattle.pool_alloc.specs.declared.purge.PurgeStep.{PurgeStep}
use Rattle.pool_alloc.specs.declared.purge.PurgeStep.TheVariants as purging_step
use Rattle.pool_alloc.specs.declared.release.ReleaseStep.{ReleaseStep}
use Rattle.pool_alloc.specs.declared.release.ReleaseStep.TheVariants as releasing_step

-- A weight for each unit. The right to use a slot is one, and so is its region, whatever numbers its unit tells.
abbrev pub Thing : Type 0
Thing = UnitName → ℕ

-- The weight that counts the right to one slot, and nothing else.
abbrev pub right_to : SlotName → Thing
right_to name = is_right name

-- The weight that counts the region of one slot, and nothing else.
abbrev pub region_of : SlotName → Thing
region_of name = is_region name

-- What the pool counts: an instance, a component, or an object of a kind.
pub data Counter : Type 0 where
  counted_instance : Counter
  counted_component : Counter
  counted_object : SlotKind → Counter

-- A weight for each that is counted.
abbrev pub Counts : Type 0
Counts = Counter → ℕ

-- The weight that counts one of them, and nothing else.
abbrev pub only : Counter → Counts
only counted_instance counted_instance = 1
only counted_component counted_component = 1
only (counted_object memory_kind) (counted_object memory_kind) = 1
only (counted_object table_kind) (counted_object table_kind) = 1
only (counted_object stack_kind) (counted_object stack_kind) = 1
only (counted_object heap_kind) (counted_object heap_kind) = 1
only _ _ = 0

-- One measure of all that the pool gives out and counts: a weight for each unit, and one for each that is counted.
pub record Weight : Type 0 where
  pub unit : Thing
  pub counts : Counts

-- The weight of units alone.
abbrev pub of_units : Thing → Weight
of_units t = record { unit = t; counts = λ k. 0 }

-- The weight of what is counted alone.
abbrev pub of_counts : Counts → Weight
of_counts n = record { unit = λ u. 0; counts = n }

-- What the right to a slot weighs.
abbrev pub slot_count : Thing → SlotName → ℕ
slot_count t name = t (unit_right name)

-- What the region of a slot weighs, with the numbers that it tells.
abbrev pub region_count : Thing → SlotName → RegionNumbers → ℕ
region_count t name numbers = t (unit_region name numbers)

-- What the right to a slot and its region weigh together.
abbrev pub both_count : Thing → SlotName → RegionNumbers → ℕ
both_count t name numbers = slot_count t name + region_count t name numbers

-- what a slot weighs that was taken, with its region
abbrev pub taken_count : Thing → TakenSlot → ℕ
taken_count t at = both_count t at.name at.numbers

-- What a heap with its memory weighs.
abbrev pub heap_count : {H : Type 0} → Thing → LeasedHeap H → Lease → ℕ
heap_count t lease memory = taken_count t (heap_slot_taken lease) + taken_count t (slot_taken memory)

-- What the memory weighs that was granted with a heap, if there is one.
abbrev pub heap_memory_count : Thing → Option Lease → ℕ
heap_memory_count t (Some memory) = taken_count t (slot_taken memory)
heap_memory_count t None = 0

-- What is counted of it.
abbrev pub heap_memory_counted : Counts → Option Lease → ℕ
heap_memory_counted n (Some memory) = n (counted_object memory_kind)
heap_memory_counted n None = 0

-- What slots in a queue weigh, with their regions.
abbrev pub queued_count : Thing → List Queued → ℕ
queued_count t slots = total t (units_of_slots slots)

-- What leases of memories weigh, each with its slot and region.
abbrev pub leased_count : Thing → List Lease → ℕ
leased_count t leases = sum_by (λ l. both_count t (memory_slot l.index) l.numbers) leases

-- What leases of tables weigh, each with its slot and region.
abbrev pub tables_count : Thing → List LeasedTable → ℕ
tables_count t leases = sum_by (λ l. both_count t (table_slot l.index) l.numbers) leases

-- What slots weigh that are to be freed; their regions are in their cells already.
abbrev pub freed_count : Thing → List FreedSlot → ℕ
freed_count t slots = sum_by (λ x. slot_count t x.name) slots

-- how many instances a call counts: one for an object by itself counts none
abbrev pub instances_for : Asked → ℕ
instances_for (memory_asked m) = 0
instances_for (table_asked ty) = 0
instances_for stack_asked = 0
instances_for (heap_asked ty) = 0
instances_for (heap_over_asked memory) = 0
instances_for _ = 1

-- What a pool has counted.
abbrev pub counters_counted : Counts → Counters → ℕ
counters_counted n x =
    x.core_instances * n counted_instance + x.component_instances * n counted_component
    + x.memories * n (counted_object memory_kind) + x.tables * n (counted_object table_kind) + x.stacks * n (counted_object stack_kind) + x.gc_heaps * n (counted_object heap_kind)

-- How many of one are counted.
abbrev pub number_counted : Counter → Counters → ℕ
number_counted k x = counters_counted (only k) x

module _ {P H : Type 0} where
  -- What the pool's parts have given out.
  abbrev pub away_count : Thing → PoolCore P H → ℕ
  away_count t c = total t (all_away c.parts)

  -- What the queues of the pool keep of what is given out.
  abbrev pub kept_count : Thing → PoolCore P H → ℕ
  kept_count t c = total t (all_kept c.parts)

  -- What the pool has given out, and counted.
  abbrev pub away_weight : Weight → PoolCore P H → ℕ
  away_weight w c = away_count w.unit c + counters_counted w.counts c.counters

module _ {P : Type 0} where
  -- What the slots and regions of an instance weigh.
  abbrev pub instance_count : Thing → InstanceLease P → ℕ
  instance_count t lease = leased_count t lease.memories.items + tables_count t lease.tables.items

  -- What is counted of an instance's objects.
  abbrev pub instance_counted : Counts → InstanceLease P → ℕ
  instance_counted n lease = length lease.memories.items * n (counted_object memory_kind) + length lease.tables.items * n (counted_object table_kind)

  -- What a purge has taken for its next step.
  abbrev pub purge_count : Thing → PurgeStep P → ℕ
  purge_count t (purging_step.Pick tried) = 0
  purge_count t (purging_step.TakeRegion name) = slot_count t name
  purge_count t (purging_step.Forget at held) = taken_count t at
  purge_count t (purging_step.PutRegion at held) = taken_count t at
  purge_count t (purging_step.Free name) = slot_count t name

  -- What a release has taken for its next step: its slots, and the region that it has out.
  abbrev pub release_count : Thing → ReleaseStep P → ℕ
  release_count t releasing_step.Reserve = 0
  release_count t (releasing_step.TakeWarm r j) = freed_count t r.taken.items
  release_count t (releasing_step.TakeRegion r k) = freed_count t r.taken.items
  release_count t (releasing_step.Decommit r k at held) = taken_count t at + freed_count t (remove r.taken.items k)
  release_count t (releasing_step.PutRegion r k at held) = taken_count t at + freed_count t (remove r.taken.items k)
  release_count t (releasing_step.Free r x) = slot_count t x.name + freed_count t r.taken.items

module _ {P H : Type 0} where
  -- what a call has taken for its next step
  abbrev pub phase_count : Thing → Phase P H → ℕ
  phase_count t (TakeRegion name) = slot_count t name
  phase_count t (Empty at held) = taken_count t at
  phase_count t (Instantiate at held) = taken_count t at
  phase_count t (MakeMemory at held) = taken_count t at
  phase_count t (MakeTable at region) = taken_count t at
  phase_count t (CountObject object) = taken_count t (slot_of_object object)
  phase_count t (PutBack at held) = taken_count t at
  phase_count t (FreeOne name) = slot_count t name
  phase_count t (UncountObject object) = taken_count t (slot_of_object object)
  phase_count t (TakeHeap name) = slot_count t name
  phase_count t (MakeHeap at) = taken_count t at
  phase_count t (CountHeap lease) = taken_count t (heap_slot_taken lease)
  phase_count t (PutNoHeap at) = taken_count t at
  phase_count t (UncountHeap lease memory) = taken_count t (heap_slot_taken lease) + heap_memory_count t memory
  phase_count t (PutHeap lease memory) = taken_count t (heap_slot_taken lease) + heap_memory_count t memory
  phase_count t (FreeHeap name memory) = slot_count t name + taken_count t (slot_taken memory)
  phase_count t (Reset object) = taken_count t (slot_of_object object)
  phase_count t (Purge p step) = purge_count t step
  phase_count t (Release step) = release_count t step
  phase_count t _ = 0

  -- what a party's call has
  abbrev pub frame_count : Thing → Frame P H → ℕ
  frame_count t f = instance_count t f.objects + queued_count t f.local.slots + freed_count t f.freed.items + phase_count t f.phase

  -- 1 where a call has counted its instance and hasn't counted it off.
  abbrev pub phase_instances : Phase P H → ℕ
  phase_instances Idle = 0
  phase_instances Key = 0
  phase_instances Validate = 0
  phase_instances TestStack = 0
  phase_instances TestHeap = 0
  phase_instances CountInstance = 0
  phase_instances (ValidateComponent info) = 0
  phase_instances CountComponent = 0
  phase_instances UncountComponent = 0
  phase_instances (Purge p step) = 0
  phase_instances (Release step) = 0
  phase_instances _ = 1

  -- What is counted still of what the phase has: an object, a heap or a component that is counted off next, or the memory of a
  -- heap on its way back.
  abbrev pub phase_counted : Counts → Phase P H → ℕ
  phase_counted n (UncountObject object) = n (counted_object (slot_of_object object).name.kind)
  phase_counted n (UncountHeap lease memory) = n (counted_object heap_kind) + heap_memory_counted n memory
  phase_counted n (PutHeap lease memory) = heap_memory_counted n memory
  phase_counted n (FreeHeap name memory) = n (counted_object memory_kind)
  phase_counted n UncountComponent = n counted_component
  phase_counted n _ = 0

  -- How many counted instances a frame's call has: one from its count to its end, if it is for an instance.
  abbrev pub frame_instances : Frame P H → ℕ
  frame_instances f = phase_instances f.phase * instances_for f.asked

  -- What a party's call has counted.
  abbrev pub frame_counted : Counts → Frame P H → ℕ
  frame_counted n f = instance_counted n f.objects + phase_counted n f.phase + frame_instances f * n counted_instance

  -- What a party's call has, and has counted.
  abbrev pub frame_weight : Weight → Frame P H → ℕ
  frame_weight w f = frame_count w.unit f + frame_counted w.counts f

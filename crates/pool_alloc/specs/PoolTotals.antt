-- What the parts of the pool have together, for its numbers.
use Rattle.std.specs.Prelude.{ℕ, ◌-◌, ◌^◌, List, length, min, sum_by, map, Option, None, Some, if◌then◌else◌}
use Rattle.pool_alloc.specs.Imports.{PageCalls, resident_bytes, slot_of, no_calls, added, all_calls, calls_in, cell_of, PoolPart, calls_held, same_kind, option_map_or, Told, SlotKind, memory_kind, table_kind, stack_kind}
use Rattle.pool_alloc.specs.declared.frame.Object.{Object}
use Rattle.pool_alloc.specs.declared.frame.Object.TheVariants.{Memory, Table, Stack}
use Rattle.pool_alloc.specs.declared.leases.instance.InstanceLease.{InstanceLease}
use Rattle.pool_slots.specs.declared.part.PoolPart.TheVariants as part
use Rattle.pool_alloc.specs.Leases.{Lease}
use Rattle.pool_alloc.specs.TableLeases.{LeasedTable}
use Rattle.pool_alloc.specs.declared.pool_core.PoolCore.{PoolCore}
use Rattle.pool_alloc.specs.declared.metrics.Metrics.{Metrics}
use Rattle.pool_alloc.specs.declared.frame.Frame.{Frame}
use Rattle.pool_alloc.specs.declared.frame.Phase.{Phase}
use Rattle.pool_alloc.specs.declared.frame.Phase.TheVariants.{Empty, Instantiate, MakeMemory, MakeTable, CountObject, PutBack, UncountObject, UncountHeap, PutHeap, FreeHeap, Reset, Purge, Release}
use Rattle.pool_alloc.specs.declared.purge.PurgeStep.{PurgeStep}
use Rattle.pool_alloc.specs.declared.purge.PurgeStep.TheVariants as purging_step
use Rattle.pool_alloc.specs.declared.release.ReleaseStep.{ReleaseStep}
use Rattle.pool_alloc.specs.declared.release.ReleaseStep.TheVariants as releasing_step

-- How many warm slots of a kind a part has, if it is a shard of that kind.
abbrev pub warm_in : {P H : Type 0} → SlotKind → PoolPart P H → ℕ
warm_in kind (part.Shard s) = if same_kind kind s.kind then length s.warm else 0
warm_in kind _ = 0

-- How many warm slots of a kind the parts have, up to the end of the count's type.
abbrev pub warm_slots : {P H : Type 0} → SlotKind → List (PoolPart P H) → ℕ
warm_slots kind parts = min (sum_by (warm_in kind) parts) (2 ^ 32 - 1)

-- How many bytes the warm slots of a part keep resident, if it is a shard of this kind.
abbrev pub resident_in : {P H : Type 0} → SlotKind → PoolPart P H → ℕ
resident_in kind (part.Shard s) = if same_kind kind s.kind then resident_bytes s else 0
resident_in kind _ = 0

-- How many bytes the warm slots of a kind keep resident, up to the end of the count's type.
abbrev pub resident_sum : {P H : Type 0} → SlotKind → List (PoolPart P H) → ℕ
resident_sum kind parts = min (sum_by (resident_in kind) parts) (2 ^ 64 - 1)

-- the calls on the regions that lie in a part: in a cell, or in a queue
abbrev pub part_calls : {P H : Type 0} → PoolPart P H → PageCalls
part_calls (part.Memory cell) = calls_in cell.holds
part_calls (part.Table cell) = calls_in cell.holds
part_calls (part.Stack cell) = calls_in cell.holds
part_calls (part.Queue q) = calls_held q.slots
part_calls _ = no_calls

-- The page calls on the regions that lie in the pool's parts.
abbrev pub calls_of_parts : {P H : Type 0} → List (PoolPart P H) → PageCalls
calls_of_parts parts = all_calls (map part_calls parts)

-- the calls on the region of a table, none where it has none
abbrev pub table_calls : LeasedTable → PageCalls
table_calls l = option_map_or (λ (region : Told). region.calls) l.table.region no_calls

-- The page calls on the region of an object.
abbrev pub calls_of_object : {P : Type 0} → Object P → PageCalls
calls_of_object (Memory lease) = (slot_of lease.memory).region.calls
calls_of_object (Table lease) = table_calls lease
calls_of_object (Stack lease) = lease.stack.slot.region.calls

-- The page calls on the region of the memory that was granted with a heap, if there is one.
abbrev pub calls_of_heap_memory : Option Lease → PageCalls
calls_of_heap_memory (Some lease) = (slot_of lease.memory).region.calls
calls_of_heap_memory None = no_calls

-- The page calls on the regions of granted memories.
abbrev pub calls_of_leases : List Lease → PageCalls
calls_of_leases leases = all_calls (map (λ l. (slot_of l.memory).region.calls) leases)

-- The page calls on the regions of granted tables.
abbrev pub calls_of_tables : List LeasedTable → PageCalls
calls_of_tables leases = all_calls (map table_calls leases)

-- The page calls on the regions of an instance.
abbrev pub calls_of_instance : {P : Type 0} → InstanceLease P → PageCalls
calls_of_instance lease = added (calls_of_leases lease.memories.items) (calls_of_tables lease.tables.items)

module _ {P H : Type 0} where
  -- the calls on the regions in the pool's parts, together
  abbrev pub calls_kept : PoolCore P H → PageCalls
  calls_kept c = calls_of_parts c.parts

module _ {P : Type 0} where
  -- The page calls on the region that a purge has out.
  abbrev pub calls_in_purge : PurgeStep P → PageCalls
  calls_in_purge (purging_step.Forget at held) = calls_in (cell_of held)
  calls_in_purge (purging_step.PutRegion at held) = calls_in (cell_of held)
  calls_in_purge _ = no_calls

  -- The page calls on the region that a release has out.
  abbrev pub calls_in_release : ReleaseStep P → PageCalls
  calls_in_release (releasing_step.Decommit r k at held) = calls_in (cell_of held)
  calls_in_release (releasing_step.PutRegion r k at held) = calls_in (cell_of held)
  calls_in_release _ = no_calls

module _ {P H : Type 0} where
  -- The page calls on the region that a call has out for its next step.
  abbrev pub calls_in_phase : Phase P H → PageCalls
  calls_in_phase (Empty at held) = held.region.calls
  calls_in_phase (Instantiate at held) = held.region.calls
  calls_in_phase (MakeMemory at held) = held.region.calls
  calls_in_phase (MakeTable at region) = region.calls
  calls_in_phase (CountObject object) = calls_of_object object
  calls_in_phase (PutBack at held) = calls_in (cell_of held)
  calls_in_phase (UncountObject object) = calls_of_object object
  calls_in_phase (UncountHeap lease memory) = calls_of_heap_memory memory
  calls_in_phase (PutHeap lease memory) = calls_of_heap_memory memory
  calls_in_phase (FreeHeap name memory) = (slot_of memory.memory).region.calls
  calls_in_phase (Reset object) = calls_of_object object
  calls_in_phase (Purge p step) = calls_in_purge step
  calls_in_phase (Release step) = calls_in_release step
  calls_in_phase _ = no_calls

  -- The page calls on all regions that a party's frame has: of its objects, its queue and its phase.
  abbrev pub calls_in_frame : Frame P H → PageCalls
  calls_in_frame f = added (calls_of_instance f.objects) (added (calls_held f.local.slots) (calls_in_phase f.phase))

  -- All numbers of the pool: what is granted, and per kind the warm slots with their resident bytes.
  abbrev pub metrics_of : PoolCore P H → Metrics
  metrics_of c = record {
    core_instances = c.counters.core_instances;
    component_instances = c.counters.component_instances;
    memories = c.counters.memories;
    tables = c.counters.tables;
    stacks = c.counters.stacks;
    gc_heaps = c.counters.gc_heaps;
    unused_warm_memories = warm_slots memory_kind c.parts;
    unused_memory_bytes_resident = resident_sum memory_kind c.parts;
    unused_warm_tables = warm_slots table_kind c.parts;
    unused_table_bytes_resident = resident_sum table_kind c.parts;
    unused_warm_stacks = warm_slots stack_kind c.parts;
    unused_stack_bytes_resident = if c.settings.stack_zeroing then Some (resident_sum stack_kind c.parts) else None;
  }

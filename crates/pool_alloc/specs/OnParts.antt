-- The steps that change one part of the pool, on that part alone: what each needs of it, and its row. The step table has the same
-- rows on the whole pool. So whoever holds the part makes the step.
use Rattle.std.specs.Prelude.{◌+◌, ◌^◌, ◌<◌, ◌≤◌, List, length, Option, Some, None}
use Rattle.pool_alloc.specs.Imports.{ShardState, CellState, HeapEntry, Queue, Queued, first_of_kind, others_of_kind, IsSpareOf, IsShardPart, IsCellPart, IsHere, IsOut, IsCleanOnceUsed, IsAwaited, CanMerge, cell_of, cell_of_part, heap_slot, PoolPart, Plan}
use Rattle.pool_slots.specs.declared.part.PoolPart.TheVariants as part
use Rattle.pool_alloc.specs.CanStep.{HasAllocators, CanTryShard, CanTakeRegion, CanFreeOne, CanGoOn, CanEndStripe, CanPutNext, CanFree}
use Rattle.pool_alloc.specs.Purges.{purged_stripe, pick_affine_on, take_affine_on, put_affine_on, free_affine_on}
use Rattle.pool_alloc.specs.Releases.{released_stripe, nth_taken, take_warm_on, take_resident_on, put_resident_on, free_taken_on}
use Rattle.pool_alloc.specs.StepTable.{FlushStep, put, free, flush_step, pick_on, take_queue_on, take_region_on, take_heap_on, put_heap_on, heap_freed, put_back_on, free_one_on, free_heap_on, merge_on, put_region_on, free_on}
use Rattle.pool_alloc.specs.StepReads.{IsQueuePart, IsHeapsPart, shard_in, queue_in, heaps_in, part_holding, allocator_for, cell_returned, first_shard}
use Rattle.pool_alloc.specs.Turns.{Row, lifted, stays}
use Rattle.pool_alloc.specs.declared.frame.Frame.{Frame}
use Rattle.pool_alloc.specs.declared.frame.Phase.{Phase}
use Rattle.pool_alloc.specs.declared.frame.Phase.TheVariants.{Pick, TakeQueue, TakeRegion, TakeHeap, PutNoHeap, PutBack, FreeOne, PutHeap, FreeHeap, Merge, Flush, Purge, Release}
use Rattle.pool_alloc.specs.declared.pool_core.Settings.{Settings}
use Rattle.pool_alloc.specs.declared.purge.PurgeCursor.{PurgeCursor}
use Rattle.pool_alloc.specs.declared.purge.PurgeStep.{PurgeStep}
use Rattle.pool_alloc.specs.declared.purge.PurgeStep.TheVariants as purging_step
use Rattle.pool_alloc.specs.declared.release.ReleaseStep.{ReleaseStep}
use Rattle.pool_alloc.specs.declared.release.ReleaseStep.TheVariants as releasing_step

module _ {P H : Type 0} where
  -- A step of a purge, on the part that it changes. To forget what a slot holds changes none.
  abbrev pub CanPurgeOn : Settings → Plan → PurgeCursor → PurgeStep P → PoolPart P H → Type 0
  CanPurgeOn s plan p (purging_step.Pick tried) x = IsShardPart x × CanGoOn s plan p × (tried < (purged_stripe plan p).shards)
  CanPurgeOn s plan p (purging_step.TakeRegion name) x = IsCellPart x
  CanPurgeOn s plan p (purging_step.PutRegion at held) x = IsCellPart x × IsCleanOnceUsed (cell_of held) × IsAwaited (cell_of held) (cell_of_part x)
  CanPurgeOn s plan p (purging_step.Free name) x = IsShardPart x × CanGoOn s plan p × CanFreeOne name plan (shard_in x)
  CanPurgeOn s plan p _ x = ⊥

  -- A step of a release, on the part that it changes. To reserve its lists and to decommit change none.
  abbrev pub CanReleaseOn : Plan → ReleaseStep P → PoolPart P H → Type 0
  CanReleaseOn plan (releasing_step.TakeWarm r j) x = IsShardPart x × CanEndStripe plan r × (j < (released_stripe plan r).shards) × (length r.local.items + length (shard_in x).warm ≤ r.local.room) × (length r.taken.items + length (shard_in x).warm ≤ r.taken.room)
  CanReleaseOn plan (releasing_step.TakeRegion r k) x = IsCellPart x × (k < length r.taken.items)
  CanReleaseOn plan (releasing_step.PutRegion r k at held) x = IsCellPart x × CanEndStripe plan r × (k < length r.taken.items) × IsCleanOnceUsed (cell_of held) × IsAwaited (cell_of held) (cell_of_part x)
  CanReleaseOn plan (releasing_step.Free r y) x = IsShardPart x × CanEndStripe plan r × (y.bytes ≤ 2 ^ 32) × CanFreeOne y.name plan (shard_in x)
  CanReleaseOn plan _ x = ⊥

  -- A slot that goes back is that of the cell, which is empty.
  abbrev pub CanPutOn : Option Queued → PoolPart P H → Type 0
  CanPutOn None x = ⊥
  CanPutOn (Some m) x = IsCellPart x × IsAwaited (cell_returned m) (cell_of_part x)

  -- A step of a flush, on the part that it changes. To decommit and to zero change none.
  abbrev pub CanFlushOn : Plan → FlushStep → PoolPart P H → Frame P H → Type 0
  CanFlushOn plan (put kind) x f = CanPutOn (first_of_kind kind f.local.slots) x × CanPutNext f.local f.freed
  CanFlushOn plan free x f = IsShardPart x × CanFree plan f.freed.items (shard_in x)
  CanFlushOn plan _ x f = ⊥

  -- What the code of such a step needs of the part at its place, in each phase. In other phases no part changes.
  abbrev pub CanStepOn : Settings → Plan → Phase P H → PoolPart P H → Frame P H → Type 0
  CanStepOn s plan (Pick tried) x f = IsShardPart x × HasAllocators plan f.stripe × CanTryShard plan (allocator_for plan f) tried × (length f.objects.memories.items < 2 ^ 32)
  CanStepOn s plan TakeQueue x f = IsQueuePart x × HasAllocators plan f.stripe × (f.queues + 1 < 2 ^ 32) × IsSpareOf (queue_in x) f.local
  CanStepOn s plan (TakeRegion name) x f = IsCellPart x × CanTakeRegion s name (cell_of_part x)
  CanStepOn s plan (TakeHeap name) x f = IsHeapsPart x × (name.slot < length (heaps_in x)) × IsHere name.slot (heaps_in x)
  CanStepOn s plan (PutNoHeap at) x f = IsHeapsPart x × IsOut at.name.slot (heaps_in x)
  CanStepOn s plan (PutBack at held) x f = IsCellPart x × IsCleanOnceUsed (cell_of held) × IsAwaited (cell_of held) (cell_of_part x)
  CanStepOn s plan (FreeOne name) x f = IsShardPart x × CanFreeOne name plan (shard_in x)
  CanStepOn s plan (PutHeap lease memory) x f = IsHeapsPart x × IsOut lease.index (heaps_in x)
  CanStepOn s plan (FreeHeap name memory) x f = IsShardPart x × CanFreeOne name plan (shard_in x)
  CanStepOn s plan Merge x f = IsQueuePart x × CanMerge (queue_in x) f.local
  CanStepOn s plan Flush x f = CanFlushOn plan (flush_step f.local f.freed.items) x f
  CanStepOn s plan (Purge p step) x f = CanPurgeOn s plan p step x
  CanStepOn s plan (Release step) x f = CanReleaseOn plan step x
  CanStepOn s plan _ x f = ⊥

  -- A row on a shard, a cell, a queue or the list of heaps, as a row on the part.
  abbrev pub on_shard : Row ShardState P H → Row (PoolPart P H) P H
  on_shard r = lifted (λ shard. part.Shard shard) r

  abbrev pub on_cell : PoolPart P H → Row CellState P H → Row (PoolPart P H) P H
  on_cell x r = lifted (λ cell. part_holding cell x) r

  abbrev pub on_queue : Row Queue P H → Row (PoolPart P H) P H
  on_queue r = lifted (λ queue. part.Queue queue) r

  abbrev pub on_heaps : Row (List (HeapEntry H)) P H → Row (PoolPart P H) P H
  on_heaps r = lifted (λ heaps. part.Heaps heaps) r

  -- The part stays, and so does the frame: no such step is made.
  abbrev pub unmoved : PoolPart P H → Frame P H → Row (PoolPart P H) P H
  unmoved x f = record { part = x; frame = f; turn = stays }

  -- The rows of a purge on a part.
  abbrev pub purge_on : Settings → Plan → PurgeCursor → PurgeStep P → PoolPart P H → Frame P H → Row (PoolPart P H) P H
  purge_on s plan p (purging_step.Pick tried) x f = on_shard (pick_affine_on s.max_memories_per_module plan p tried (shard_in x) f)
  purge_on s plan p (purging_step.TakeRegion name) x f = on_cell x (take_affine_on p name (cell_of_part x) f)
  purge_on s plan p (purging_step.PutRegion at held) x f = on_cell x (put_affine_on p at.name (cell_of held) (cell_of_part x) f)
  purge_on s plan p (purging_step.Free name) x f = on_shard (free_affine_on s.max_memories_per_module plan p name (shard_in x) f)
  purge_on s plan p _ x f = unmoved x f

  -- The rows of a release on a part.
  abbrev pub release_on : Plan → ReleaseStep P → PoolPart P H → Frame P H → Row (PoolPart P H) P H
  release_on plan (releasing_step.TakeWarm r j) x f = on_shard (take_warm_on plan r j (shard_in x) f)
  release_on plan (releasing_step.TakeRegion r k) x f = on_cell x (take_resident_on r k (nth_taken r k).name (cell_of_part x) f)
  release_on plan (releasing_step.PutRegion r k at held) x f = on_cell x (put_resident_on plan r k (cell_of held) (cell_of_part x) f)
  release_on plan (releasing_step.Free r y) x f = on_shard (free_taken_on plan r y (shard_in x) f)
  release_on plan _ x f = unmoved x f

  -- The first slot of a kind goes back into its cell.
  abbrev pub put_on : Option Queued → List Queued → PoolPart P H → Frame P H → Row (PoolPart P H) P H
  put_on None rest x f = unmoved x f
  put_on (Some m) rest x f = on_cell x (put_region_on m rest (cell_of_part x) f)

  -- The rows of a flush on a part.
  abbrev pub flush_on : Plan → FlushStep → PoolPart P H → Frame P H → Row (PoolPart P H) P H
  flush_on plan (put kind) x f = put_on (first_of_kind kind f.local.slots) (others_of_kind kind f.local.slots) x f
  flush_on plan free x f = on_shard (free_on plan (first_shard plan f.freed.items) (shard_in x) f)
  flush_on plan _ x f = unmoved x f

  -- The step table on one part, by phases.
  abbrev pub row_on : Settings → Plan → Phase P H → PoolPart P H → Frame P H → Row (PoolPart P H) P H
  row_on s plan (Pick tried) x f = on_shard (pick_on plan tried (shard_in x) f)
  row_on s plan TakeQueue x f = on_queue (take_queue_on plan (queue_in x) f)
  row_on s plan (TakeRegion name) x f = on_cell x (take_region_on s name (cell_of_part x) f)
  row_on s plan (TakeHeap name) x f = on_heaps (take_heap_on name (heaps_in x) f)
  row_on s plan (PutNoHeap at) x f = on_heaps (put_heap_on at.name.slot None (FreeOne at.name) (heaps_in x) f)
  row_on s plan (PutBack at held) x f = on_cell x (put_back_on at.name (cell_of held) (cell_of_part x) f)
  row_on s plan (FreeOne name) x f = on_shard (free_one_on plan name (shard_in x) f)
  row_on s plan (PutHeap lease memory) x f = on_heaps (put_heap_on lease.index (Some lease.heap) (heap_freed (heap_slot lease.index) memory) (heaps_in x) f)
  row_on s plan (FreeHeap name memory) x f = on_shard (free_heap_on plan name memory (shard_in x) f)
  row_on s plan Merge x f = on_queue (merge_on s (queue_in x) f)
  row_on s plan Flush x f = flush_on plan (flush_step f.local f.freed.items) x f
  row_on s plan (Purge p step) x f = purge_on s plan p step x f
  row_on s plan (Release step) x f = release_on plan step x f
  row_on s plan _ x f = unmoved x f

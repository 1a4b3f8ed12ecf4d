-- What a step changes: one part of the pool, by its place; one counter, by its name; or neither.
use Rattle.std.specs.Prelude.{◌≡◌, ℕ, ◌+◌, ◌%◌, ◌^◌, ◌<◌, List, length, All, true, if◌then◌else◌, Option, Some, None}
use Rattle.pool_alloc.specs.Imports.{cell_place, home_of, first_of_kind, IsPlacedAllocator, Plan, Queued}
use Rattle.pool_alloc.specs.CanStep.{CanPlace, HasAllocators, CanTryShard, CanTryQueue, CanGoOn, CanEndStripe}
use Rattle.pool_alloc.specs.Freeing.{HasHome, CanBeFreed}
use Rattle.pool_alloc.specs.Purges.{has_turns, purged_stripe}
use Rattle.pool_alloc.specs.Releases.{released_stripe, nth_taken}
use Rattle.pool_alloc.specs.StepTable.{FlushStep, put, free, flush_step}
use Rattle.pool_alloc.specs.StepReads.{allocator_for, queues_searched, shard_tried, queue_tried, first_shard}
use Rattle.pool_alloc.specs.declared.counters.CounterName.{CounterName}
use Rattle.pool_alloc.specs.declared.counters.CounterName.TheVariants as counter
use Rattle.pool_alloc.specs.declared.frame.Frame.{Frame}
use Rattle.pool_alloc.specs.declared.frame.FreedSlot.{FreedSlot}
use Rattle.pool_alloc.specs.declared.frame.Object.{Object}
use Rattle.pool_alloc.specs.declared.frame.Object.TheVariants.{Memory, Table, Stack}
use Rattle.pool_alloc.specs.declared.frame.Phase.{Phase}
use Rattle.pool_alloc.specs.declared.frame.Phase.TheVariants.{Key, CountInstance, Pick, TakeQueue, TakeRegion, CountObject, TakeHeap, CountHeap, PutNoHeap, PutBack, FreeOne, UncountObject, UncountHeap, PutHeap, FreeHeap, Merge, Flush, UncountInstance, CountComponent, UncountComponent, Purge, Release}
use Rattle.pool_alloc.specs.declared.pool_core.Counters.{Counters}
use Rattle.pool_alloc.specs.declared.pool_core.PoolCore.{PoolCore}
use Rattle.pool_alloc.specs.declared.pool_core.Settings.{Settings}
use Rattle.pool_alloc.specs.declared.purge.PurgeCursor.{PurgeCursor}
use Rattle.pool_alloc.specs.declared.purge.PurgeStep.{PurgeStep}
use Rattle.pool_alloc.specs.declared.purge.PurgeStep.TheVariants as purging_step
use Rattle.pool_alloc.specs.declared.release.ReleaseStep.{ReleaseStep}
use Rattle.pool_alloc.specs.declared.release.ReleaseStep.TheVariants as releasing_step
use Rattle.pool_alloc.specs.declared.step.targets.Target.{Target}
use Rattle.pool_alloc.specs.declared.step.targets.Target.TheVariants.{Part, Up, Down, Alone}

-- The number at a counter.
abbrev pub number_at : CounterName → Counters → ℕ
number_at counter.Key n = n.key
number_at counter.CoreInstances n = n.core_instances
number_at counter.ComponentInstances n = n.component_instances
number_at counter.Memories n = n.memories
number_at counter.Tables n = n.tables
number_at counter.Stacks n = n.stacks
number_at counter.GcHeaps n = n.gc_heaps

-- The counters with another number at one of them.
abbrev pub with_number : CounterName → ℕ → Counters → Counters
with_number counter.Key k n = record n { key = k }
with_number counter.CoreInstances k n = record n { core_instances = k }
with_number counter.ComponentInstances k n = record n { component_instances = k }
with_number counter.Memories k n = record n { memories = k }
with_number counter.Tables k n = record n { tables = k }
with_number counter.Stacks k n = record n { stacks = k }
with_number counter.GcHeaps k n = record n { gc_heaps = k }

-- What counting up leaves of the number at a counter: the key counter's counts modulo 2^64.
abbrev pub counted_up : CounterName → ℕ → ℕ
counted_up counter.Key n = (n + 1) % 2 ^ 64
counted_up _ n = n + 1

-- There is a next number. The key counter begins anew.
abbrev pub CanCountUp : CounterName → ℕ → Type 0
CanCountUp counter.Key n = Unit {0}
CanCountUp _ n = n + 1 < 2 ^ 64

-- What a step of a flush changes that puts the first slot of a kind back: the cell of that slot.
abbrev pub put_target : Plan → Option Queued → Target
put_target plan None = Alone
put_target plan (Some m) = Part (cell_place plan m.name)

-- What a step of a flush changes: the cell of the slot that is put back, or the shard of those that are freed. To decommit
-- and to zero changes neither part nor counter.
abbrev pub flush_target : Plan → FlushStep → List Queued → List FreedSlot → Target
flush_target plan (put kind) slots freed = put_target plan (first_of_kind kind slots)
flush_target plan free slots freed = Part (first_shard plan freed)
flush_target plan _ slots freed = Alone

-- Its place is a number that the code can compute.
abbrev pub CanFindFlush : Plan → FlushStep → List Queued → List FreedSlot → Type 0
CanFindFlush plan (put kind) slots freed = (m : Queued) → first_of_kind kind slots ≡ Some m → CanPlace plan m.name
CanFindFlush plan free slots freed = All (CanBeFreed plan) freed
CanFindFlush plan _ slots freed = Unit {0}

module _ {P : Type 0} where
  -- The counter of an object, by what it is.
  abbrev pub object_counter : Object P → CounterName
  object_counter (Memory lease) = counter.Memories
  object_counter (Table lease) = counter.Tables
  object_counter (Stack lease) = counter.Stacks

  -- What a step of a purge changes. A purge without turns picks from no shard.
  abbrev pub purge_target : Settings → Plan → PurgeCursor → PurgeStep P → Target
  purge_target s plan p (purging_step.Pick tried) = if has_turns s.max_memories_per_module plan then Part ((purged_stripe plan p).first_place + tried) else Alone
  purge_target s plan p (purging_step.TakeRegion name) = Part (cell_place plan name)
  purge_target s plan p (purging_step.PutRegion at held) = Part (cell_place plan at.name)
  purge_target s plan p (purging_step.Free name) = Part (home_of plan name).place
  purge_target s plan p _ = Alone

  -- What a step of a release changes.
  abbrev pub release_target : Plan → ReleaseStep P → Target
  release_target plan (releasing_step.TakeWarm r j) = Part ((released_stripe plan r).first_place + j)
  release_target plan (releasing_step.TakeRegion r k) = Part (cell_place plan (nth_taken r k).name)
  release_target plan (releasing_step.PutRegion r k at held) = Part (cell_place plan at.name)
  release_target plan (releasing_step.Free r x) = Part (home_of plan x.name).place
  release_target plan _ = Alone

  -- The place of a purge's next step is a number that the code can compute.
  abbrev pub CanFindPurge : Settings → Plan → PurgeCursor → PurgeStep P → Type 0
  CanFindPurge s plan p (purging_step.Pick tried) = has_turns s.max_memories_per_module plan ≡ true → CanGoOn s plan p × (tried < (purged_stripe plan p).shards) × IsPlacedAllocator (purged_stripe plan p)
  CanFindPurge s plan p (purging_step.TakeRegion name) = CanPlace plan name
  CanFindPurge s plan p (purging_step.PutRegion at held) = CanPlace plan at.name
  CanFindPurge s plan p (purging_step.Free name) = HasHome plan name
  CanFindPurge s plan p _ = Unit {0}

  -- And that of a release's.
  abbrev pub CanFindRelease : Plan → ReleaseStep P → Type 0
  CanFindRelease plan (releasing_step.TakeWarm r j) = CanEndStripe plan r × (j < (released_stripe plan r).shards) × IsPlacedAllocator (released_stripe plan r)
  CanFindRelease plan (releasing_step.TakeRegion r k) = (k < length r.taken.items) × CanPlace plan (nth_taken r k).name
  CanFindRelease plan (releasing_step.PutRegion r k at held) = CanPlace plan at.name
  CanFindRelease plan (releasing_step.Free r x) = HasHome plan x.name
  CanFindRelease plan _ = Unit {0}

module _ {P H : Type 0} where
  -- The pool with another number at one of its counters.
  abbrev pub counting : CounterName → ℕ → PoolCore P H → PoolCore P H
  counting name n c = record c { counters = with_number name n c.counters }

  -- What a frame's next step changes: the part at a place; a counter, which counts up or down; or neither.
  abbrev pub next_target : Settings → Plan → Phase P H → Frame P H → Target
  next_target s plan Key f = Up counter.Key
  next_target s plan CountInstance f = Up counter.CoreInstances
  next_target s plan (Pick tried) f = Part (shard_tried tried plan f)
  next_target s plan TakeQueue f = Part (queue_tried f.queues plan f)
  next_target s plan (TakeRegion name) f = Part (cell_place plan name)
  next_target s plan (CountObject object) f = Up (object_counter object)
  next_target s plan (TakeHeap name) f = Part plan.heap_list
  next_target s plan (CountHeap lease) f = Up counter.GcHeaps
  next_target s plan (PutNoHeap at) f = Part plan.heap_list
  next_target s plan (PutBack at held) f = Part (cell_place plan at.name)
  next_target s plan (FreeOne name) f = Part (home_of plan name).place
  next_target s plan (UncountObject object) f = Down (object_counter object)
  next_target s plan (UncountHeap lease memory) f = Down counter.GcHeaps
  next_target s plan (PutHeap lease memory) f = Part plan.heap_list
  next_target s plan (FreeHeap name memory) f = Part (home_of plan name).place
  next_target s plan Merge f = Part (queue_tried 0 plan f)
  next_target s plan Flush f = flush_target plan (flush_step f.local f.freed.items) f.local.slots f.freed.items
  next_target s plan UncountInstance f = Down counter.CoreInstances
  next_target s plan CountComponent f = Up counter.ComponentInstances
  next_target s plan UncountComponent f = Down counter.ComponentInstances
  next_target s plan (Purge p step) f = purge_target s plan p step
  next_target s plan (Release step) f = release_target plan step
  next_target s plan _ f = Alone

  -- The place, where the step has one, is a number that the code can compute.
  abbrev pub CanFindTarget : Settings → Plan → Phase P H → Frame P H → Type 0
  CanFindTarget s plan (Pick tried) f = HasAllocators plan f.stripe × CanTryShard plan (allocator_for plan f) tried
  CanFindTarget s plan TakeQueue f = CanTryQueue plan × (f.queues < queues_searched plan)
  CanFindTarget s plan (TakeRegion name) f = CanPlace plan name
  CanFindTarget s plan (PutBack at held) f = CanPlace plan at.name
  CanFindTarget s plan (FreeOne name) f = HasHome plan name
  CanFindTarget s plan (FreeHeap name memory) f = HasHome plan name
  CanFindTarget s plan Merge f = CanTryQueue plan
  CanFindTarget s plan Flush f = CanFindFlush plan (flush_step f.local f.freed.items) f.local.slots f.freed.items
  CanFindTarget s plan (Purge p step) f = CanFindPurge s plan p step
  CanFindTarget s plan (Release step) f = CanFindRelease plan step
  CanFindTarget s plan _ f = Unit {0}

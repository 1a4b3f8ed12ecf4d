-- A step: a row of the table under answers that may come, and what it keeps.
use Rattle.std.specs.Prelude.{◌≡◌, ◌⊎◌, ℕ, ◌+◌, ◌^◌, ◌<◌, ◌≤◌, ◌&&◌, List, Bool, true, false, not, Option, Some, None, is_some}
use Rattle.pool_alloc.specs.Imports.{MakerTold, Exchange, ShardState, CellState, HeapEntry, SlotName, Queue, memory_kind, table_kind, stack_kind, heap_kind}
use Rattle.pool_alloc.specs.PartyTold.{PartyTold}
use Rattle.pool_alloc.specs.StepReads.{StepGiven, with_shard, with_cell, with_queue, counting_keys, counting_instances, counting_memories, counting_tables, counting_stacks, counting_heaps, counting_components, with_heaps}
use Rattle.pool_alloc.specs.HeapLeases.{heap_slot_taken}
use Rattle.pool_alloc.specs.Leases.{slot_taken}
use Rattle.pool_alloc.specs.StackLeases.{stack_taken}
use Rattle.pool_alloc.specs.TableLeases.{table_taken}
use Rattle.pool_alloc.specs.Turns.{After}
use Rattle.pool_alloc.specs.StepTable.{row}
use Rattle.pool_alloc.specs.PageCallAnswers.{MayBeTold, IsPlanned, AsksOf, MakesOf, LimiterHears}
use Rattle.pool_alloc.specs.Places.{Thing, Counter, Counts, number_counted, counted_instance, counted_component, counted_object, only, Weight, kept_count, away_weight, frame_weight, instance_count, instance_counted, taken_count, heap_count}
use Rattle.pool_alloc.specs.BetweenSteps.{IsCore, IsFrame, FitsCore}
use Rattle.pool_alloc.specs.declared.pool_core.Counters.{Counters}
use Rattle.pool_alloc.specs.declared.pool_core.PoolCore.{PoolCore}
use Rattle.pool_alloc.specs.declared.frame.Frame.{Frame}
use Rattle.pool_alloc.specs.declared.frame.Phase.{Phase}
use Rattle.pool_alloc.specs.declared.frame.Phase.TheVariants.{Idle, MakeHeap}
use Rattle.pool_alloc.specs.declared.frame.Grant.{Grant}
use Rattle.pool_alloc.specs.declared.frame.Grant.TheVariants.{Instance, Memory, Table, Stack, Heap, HeapOver, Component}
use Rattle.pool_alloc.specs.declared.frame.Outcome.{Outcome}
use Rattle.pool_alloc.specs.declared.frame.Outcome.TheVariants.{Key, Granted, Returned, Purged, Released, Refused}

-- No counter but the key rose by more than one.
abbrev pub RiseByOne : Counters → Counters → Type 0
RiseByOne old new = (k : Counter) → number_counted k new ≤ number_counted k old + 1

module _ {P H : Type 0} where
  -- What the slots and regions of a grant weigh.
  abbrev pub grant_count : Thing → Grant P H → ℕ
  grant_count t (Instance lease) = instance_count t lease
  grant_count t Component = 0
  grant_count t (Memory lease) = taken_count t (slot_taken lease)
  grant_count t (Table lease) = taken_count t (table_taken lease)
  grant_count t (Stack lease) = taken_count t (stack_taken lease)
  grant_count t (Heap lease memory) = heap_count t lease memory
  grant_count t (HeapOver lease) = taken_count t (heap_slot_taken lease)

  -- What is counted of a grant.
  abbrev pub grant_counted : Counts → Grant P H → ℕ
  grant_counted n (Instance lease) = n counted_instance + instance_counted n lease
  grant_counted n Component = n counted_component
  grant_counted n (Memory lease) = n (counted_object memory_kind)
  grant_counted n (Table lease) = n (counted_object table_kind)
  grant_counted n (Stack lease) = n (counted_object stack_kind)
  grant_counted n (Heap lease memory) = n (counted_object heap_kind) + n (counted_object memory_kind)
  grant_counted n (HeapOver lease) = n (counted_object heap_kind)

  -- What a grant has, and is counted for.
  abbrev pub grant_weight : Weight → Grant P H → ℕ
  grant_weight w grant = grant_count w.unit grant + grant_counted w.counts grant

  -- 1 for a grant that is an instance.
  abbrev pub grant_instances : Grant P H → ℕ
  grant_instances grant = grant_counted (only counted_instance) grant

  -- 1 for a grant that is a component.
  abbrev pub grant_components : Grant P H → ℕ
  grant_components grant = grant_counted (only counted_component) grant

  -- How many memories a grant has: an instance's, or the one that was granted with a heap.
  abbrev pub grant_memories : Grant P H → ℕ
  grant_memories grant = grant_counted (only (counted_object memory_kind)) grant

  -- How many tables a grant has.
  abbrev pub grant_tables : Grant P H → ℕ
  grant_tables grant = grant_counted (only (counted_object table_kind)) grant

  -- 1 for a grant that is a stack.
  abbrev pub grant_stacks : Grant P H → ℕ
  grant_stacks grant = grant_counted (only (counted_object stack_kind)) grant

  -- 1 for a grant that is a heap.
  abbrev pub grant_heaps : Grant P H → ℕ
  grant_heaps grant = grant_counted (only (counted_object heap_kind)) grant

  -- the number that an answer has of what grants have
  abbrev pub count_granted : (Grant P H → ℕ) → Option (Outcome P H) → ℕ
  count_granted of (Some (Granted grant)) = of grant
  count_granted of (Some Key) = 0
  count_granted of (Some Returned) = 0
  count_granted of (Some (Purged n)) = 0
  count_granted of (Some (Released n)) = 0
  count_granted of (Some (Refused e)) = 0
  count_granted of None = 0

  -- the answers are ones that may come, of the pages by their plans and of the limiter and the maker of heaps too, and the row
  -- is taken
  pub record Takes (old new : PartyTold) (g : StepGiven H) (c : PoolCore P H) (f : Frame P H) (a : After P H) : Type 0 where
    pub told : MayBeTold c.settings g f.phase f
    pub planned : IsPlanned c.settings g f.phase f
    pub limiter : AsksOf old.limiter new.limiter g f.phase f
    pub heaps : MakesOf old.heaps new.heaps g f.phase
    pub is : a ≡ row g c f

  -- the step is a row of the table, over a limiter and a maker of heaps
  abbrev pub StepsTo : PartyTold → PartyTold → PoolCore P H → Frame P H → After P H → Type 0
  StepsTo old new c f a = (g : StepGiven H) × Takes old new g c f a

  -- A step of the table, with what passed between it and the limiter: that and no more.
  abbrev pub StepsAsking : (List Exchange → Type 0) → PartyTold → PartyTold → PoolCore P H → Frame P H → After P H → Type 0
  StepsAsking Passes old new c f a = (g : StepGiven H) × (Takes old new g c f a × LimiterHears Passes g f.phase f)

  -- Nothing is lost or made, whatever each weighs: what the pool gives out in the step comes into the frame, the grant or a
  -- queue, and what it takes back leaves them. Counters change as what is counted.
  abbrev pub Conserves : PoolCore P H → Frame P H → After P H → Type 0
  Conserves c f a = (w : Weight) → kept_count w.unit a.core + (frame_weight w a.frame + count_granted (grant_weight w) a.outcome) + away_weight w c ≡ kept_count w.unit c + frame_weight w f + away_weight w a.core

  -- What no step changes: the settings and the plan, and so how many slots, shards and queues there are.
  pub record IsSameSize (old new : PoolCore P H) : Type 0 where
    pub settings : new.settings ≡ old.settings
    pub plan : new.plan ≡ old.plan

  -- Only the shard at one place changed.
  abbrev pub ChangesShard : PoolCore P H → PoolCore P H → Type 0
  ChangesShard old new = (place : ℕ) × (shard : ShardState) × (new ≡ with_shard place shard old)

  -- Only the cell of one slot changed.
  abbrev pub ChangesCell : PoolCore P H → PoolCore P H → Type 0
  ChangesCell old new = (name : SlotName) × (cell : CellState) × (new ≡ with_cell name cell old)

  -- Only one queue changed.
  abbrev pub ChangesQueue : PoolCore P H → PoolCore P H → Type 0
  ChangesQueue old new = (place : ℕ) × (queue : Queue) × (new ≡ with_queue place queue old)

  -- Only the list of heaps changed.
  abbrev pub ChangesHeaps : PoolCore P H → PoolCore P H → Type 0
  ChangesHeaps old new = (heaps : List (HeapEntry H)) × (new ≡ with_heaps heaps old)

  -- Only one counter changed.
  abbrev pub ChangesCounter : PoolCore P H → PoolCore P H → Type 0
  ChangesCounter old new = (n : ℕ) × ((new ≡ counting_keys n old) ⊎ ((new ≡ counting_instances n old) ⊎ ((new ≡ counting_memories n old) ⊎ ((new ≡ counting_tables n old) ⊎ ((new ≡ counting_stacks n old) ⊎ ((new ≡ counting_heaps n old) ⊎ (new ≡ counting_components n old)))))))

  -- At most one part of the pool changed: a shard, a cell, a queue, the list of heaps or a counter.
  abbrev pub ChangesOnePart : PoolCore P H → PoolCore P H → Type 0
  ChangesOnePart old new = (new ≡ old) ⊎ (ChangesShard old new ⊎ (ChangesCell old new ⊎ (ChangesQueue old new ⊎ (ChangesHeaps old new ⊎ ChangesCounter old new))))

  -- the step asks the maker of heaps
  abbrev pub makes_heap : Phase P H → Bool
  makes_heap (MakeHeap at) = true
  makes_heap _ = false

  -- no call is under way
  abbrev pub is_idle : Phase P H → Bool
  is_idle Idle = true
  is_idle _ = false

  -- A step answers exactly where the call that was under way ends with it. No counter but the key rises by more than one.
  pub record EndsWith (c : PoolCore P H) (f : Frame P H) (a : After P H) : Type 0 where
    pub answer : is_some a.outcome ≡ (not (is_idle f.phase) && is_idle a.frame.phase)
    pub by_one : RiseByOne c.counters a.core.counters

  -- no counter but the key stands at its end
  abbrev pub CanCount : PoolCore P H → Type 0
  CanCount c = (k : Counter) → number_counted k c.counters + 1 < 2 ^ 64

  -- the frame can make a step on the core
  pub record CanStep (maker : MakerTold) (c : PoolCore P H) (f : Frame P H) : Type 0 where
    pub core : IsCore maker c
    pub frame : IsFrame maker c.settings c.plan f
    pub fits : FitsCore c f

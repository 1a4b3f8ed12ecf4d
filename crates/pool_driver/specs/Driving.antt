-- A call's frame, driven over a hall: what ties it to its seat, and what the seat sees of each step.
use Rattle.std.specs.Prelude.{◌≡◌, ℕ, ◌+◌, ◌-◌, ◌<◌, List, [], length, Option, None}
use Rattle.pool_pages.specs.MakerTold.{MakerTold}
use Rattle.pool_hall.specs.Seat.{made_with, view}
use Rattle.pool_hall.specs.Step.{add_view, subtract_view, put_view}
use Rattle.pool_hall.specs.Tally.{additions, subtractions, number}
use Rattle.pool_hall.specs.declared.unit_name.SlotKind.TheVariants.{Memory as memory_kind, Table as table_kind, Stack as stack_kind, Heap as heap_kind}
use Rattle.pool_hall.specs.declared.unit_name.UnitName.{UnitName}
use Rattle.pool_hall.specs.declared.view.View.{View}
use Rattle.pool_limits.specs.Exchanges.{Exchange}
use Rattle.pool_slots.specs.Parts.{part_at}
use Rattle.pool_slots.specs.declared.part.PoolPart.{PoolPart}
use Rattle.pool_alloc.specs.Calls.{frame_made}
use Rattle.pool_alloc.specs.PartyTold.{PartyTold}
use Rattle.pool_alloc.specs.Places.{Counter, Counts, counted_instance, counted_component, counted_object, only, frame_counted, frame_instances, phase_counted}
use Rattle.pool_alloc.specs.BetweenSteps.{IsFrame}
use Rattle.pool_alloc.specs.StepReads.{with_part}
use Rattle.pool_alloc.specs.Stepping.{CanStep, StepsAsking, count_granted, grant_counted}
use Rattle.pool_alloc.specs.Targets.{counted_up, counting, next_target, number_at}
use Rattle.pool_alloc.specs.declared.counters.CounterName.{CounterName}
use Rattle.pool_alloc.specs.declared.counters.CounterName.TheVariants as counter
use Rattle.pool_alloc.specs.declared.frame.Frame.{Frame}
use Rattle.pool_alloc.specs.declared.frame.Outcome.{Outcome}
use Rattle.pool_alloc.specs.declared.pool_core.Counters.{Counters}
use Rattle.pool_alloc.specs.declared.pool_core.PoolCore.{PoolCore}
use Rattle.pool_alloc.specs.declared.step.targets.Target.{Target}
use Rattle.pool_alloc.specs.declared.step.targets.Target.TheVariants.{Part, Up, Down, Alone}
use Rattle.pool_driver.specs.Carrying.{Carries}
use Rattle.pool_driver.specs.Faults.{FrameKeeps, AnswerKeeps}
use Rattle.pool_driver.specs.Growing.{AreKept}
use Rattle.pool_driver.specs.Placed.{About, IsSmall, pool_meaning}
use Rattle.pool_driver.specs.Pools.{IsOpen, core_of}
use Rattle.pool_driver.specs.declared.open_pool.OpenPool.{OpenPool}

-- Of which pool a call is, and what else its seat has: units that the call doesn't touch, and what else the seat has counted.
pub record Given : Type 0 where
  pub about : About
  pub rest : List UnitName
  pub counted : Counts

-- A call whose seat has nothing else.
abbrev pub alone_of : About → Given
alone_of a = record { about = a; rest = []; counted = λ k. 0 }

-- The number of a counter in the hall.
abbrev pub counter_number : CounterName → ℕ
counter_number counter.Key = 0
counter_number counter.CoreInstances = 1
counter_number counter.ComponentInstances = 2
counter_number counter.Memories = 3
counter_number counter.Tables = 4
counter_number counter.Stacks = 5
counter_number counter.GcHeaps = 6

-- The counter that counts this.
abbrev pub counter_of : Counter → CounterName
counter_of counted_instance = counter.CoreInstances
counter_of counted_component = counter.ComponentInstances
counter_of (counted_object memory_kind) = counter.Memories
counter_of (counted_object table_kind) = counter.Tables
counter_of (counted_object stack_kind) = counter.Stacks
counter_of (counted_object heap_kind) = counter.GcHeaps

module _ {P H : Type 0} where
  -- The counters that count what a frame has counted, and nothing else.
  abbrev pub counted_by : Frame P H → Counters
  counted_by f = record {
    key = 0;
    core_instances = frame_instances f;
    component_instances = phase_counted (only counted_component) f.phase;
    memories = length f.objects.memories.items + phase_counted (only (counted_object memory_kind)) f.phase;
    tables = length f.objects.tables.items + phase_counted (only (counted_object table_kind)) f.phase;
    stacks = phase_counted (only (counted_object stack_kind)) f.phase;
    gc_heaps = phase_counted (only (counted_object heap_kind)) f.phase;
  }

  -- Parts of this pool, at so many places, and counters, on which the frame can make its step. No seat sees the parts between two steps: this is
  -- what is left of the last moment.
  pub record StandsOn (a : About) (places : ℕ) (f : Frame P H) : Type 0 where
    pub counters : Counters
    pub parts : List (PoolPart P H)
    pub long : length parts ≡ places
    pub kept : AreKept parts
    pub can : CanStep a.maker (core_of a counters None parts) f

  -- What a frame needs before its step, by what the step changes: one that counts is told of all parts as it counts.
  abbrev pub StandsFor : Target → About → ℕ → Frame P H → Type 0
  StandsFor (Part p) a places f = StandsOn a places f
  StandsFor Alone a places f = StandsOn a places f
  StandsFor (Up name) a places f = Unit {0}
  StandsFor (Down name) a places f = Unit {0}

  -- A seat has added on each counter but the key as often more than it has subtracted as frame and answer have counted, and others of its
  -- that have counted so much.
  abbrev pub HasCounted : {T : Type 0} → Counts → View T → Frame P H → Option (Outcome P H) → Type 0
  HasCounted others v f o = (k : Counter) → number (subtractions (counter_number (counter_of k))) v + (frame_counted (only k) f + count_granted (grant_counted (only k)) o + others k) ≡ number (additions (counter_number (counter_of k))) v

  -- The frame is one of the pool, and no region that it or its answer has lost faults. The units of its seat are those of the frame and of the
  -- answer, and the rest, and so it has counted.
  pub record IsDriven {T : Type 0} (places : ℕ) (g : Given) (v : View T) (f : Frame P H) (o : Option (Outcome P H)) : Type 0 where
    pub frame : IsFrame g.about.maker g.about.settings g.about.plan f
    pub keeps : FrameKeeps f
    pub answer : AnswerKeeps o
    pub carries : Carries g.rest v.units f o
    pub counted : HasCounted g.counted v f o
    pub stands : StandsFor (next_target g.about.settings g.about.plan f.phase f) g.about places f

-- The seat of an open pool may drive each frame as it is made.
abbrev pub DrivesFirst : {P H M R : Type 0} → (M → MakerTold) → OpenPool P H M R → Type 0
DrivesFirst {P} {H} told o = (a : About) → IsOpen told a o → (home : ℕ) → IsDriven {P = P} {H = H} (length (made_with o.pool.hall)) (alone_of a) (view o.seat) (frame_made home a.settings) None

-- What a step changed in the hall: the part at a place, from the first to the second; a counter, at which this number was found; or nothing.
pub data Change (T : Type 0) : Type 0 where
  changed : ℕ → T → T → Change T
  counted : CounterName → ℕ → Change T
  uncounted : CounterName → Change T
  unchanged : Change T

-- Whether the number that a step found at a counter decides how it goes on: at that of keys, of instances and of components. There the core
-- that the seat is told of has this number.
abbrev pub Decides : CounterName → ℕ → ℕ → Type 0
Decides counter.Key found n = n ≡ found
Decides counter.CoreInstances found n = n ≡ found
Decides counter.ComponentInstances found n = n ≡ found
Decides _ found n = Unit {0}

module _ {T P H : Type 0} (about : T → About) (inner : T → PoolPart P H) where
  -- The view after a change.
  abbrev pub view_after : Change T → View T → View T
  view_after (changed p x y) v = put_view (pool_meaning about inner) p x y v
  view_after (counted name found) v = add_view (counter_number name) found v
  view_after (uncounted name) v = subtract_view (counter_number name) v
  view_after unchanged v = v

  -- The step changed this in the core, as its target says: the part at the target's place, whose counts fit 64 bits before and after; the
  -- counter with its name; or nothing.
  abbrev pub IsChangeOf : Change T → Target → PoolCore P H → PoolCore P H → Type 0
  IsChangeOf (changed p x y) target c d = (target ≡ Part p) × (p < length c.parts) × (part_at p c.parts ≡ inner x) × (d ≡ with_part p (inner y) c) × IsSmall (inner x) × IsSmall (inner y)
  IsChangeOf (counted name found) target c d = (target ≡ Up name) × Decides name found (number_at name c.counters) × (d ≡ counting name (counted_up name (number_at name c.counters)) c)
  IsChangeOf (uncounted name) target c d = (target ≡ Down name) × (d ≡ counting name (number_at name c.counters - 1) c)
  IsChangeOf unchanged target c d = (target ≡ Alone) × (d ≡ c)

  -- What a seat sees of a step: on some core with the pool's settings and plan the frame could make its step, and it is one of the step
  -- table. What that changed is all that the seat notes.
  pub record SeesStep (Passes : List Exchange → Type 0) (old new : PartyTold) (a : About) (v w : View T) (f next : Frame P H) (o : Option (Outcome P H)) : Type 0 where
    pub core : PoolCore P H
    pub left : PoolCore P H
    pub settings : core.settings ≡ a.settings
    pub plan : core.plan ≡ a.plan
    pub can : CanStep a.maker core f
    pub row : StepsAsking Passes old new core f (record { core = left; frame = next; outcome = o })
    pub change : Change T
    pub of : IsChangeOf change (next_target a.settings a.plan f.phase f) core left
    pub view : w ≡ view_after change v

  -- The same of a step that asks nobody, whatever limiter and maker of heaps there are.
  abbrev pub SeesAlike : About → View T → View T → Frame P H → Frame P H → Option (Outcome P H) → Type 0
  SeesAlike a v w f next o = (told : PartyTold) → SeesStep (λ passed. passed ≡ []) told told a v w f next o

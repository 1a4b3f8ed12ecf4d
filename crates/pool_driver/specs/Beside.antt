-- The rest of what a seat has, beside the frame of its call: on the core on which a step is made, that is away too.
use Rattle.std.specs.Prelude.{◌≡◌, ◌+◌, ◌≤◌, List, [], Option}
use Rattle.pool_hall.specs.Sum.{total}
use Rattle.pool_limits.specs.Exchanges.{Exchange}
use Rattle.pool_alloc.specs.PartyTold.{PartyTold}
use Rattle.pool_alloc.specs.Places.{Thing, away_count, frame_count, kept_count}
use Rattle.pool_alloc.specs.Stepping.{CanStep, StepsAsking}
use Rattle.pool_alloc.specs.declared.frame.Frame.{Frame}
use Rattle.pool_alloc.specs.declared.frame.Outcome.{Outcome}
use Rattle.pool_alloc.specs.declared.pool_core.PoolCore.{PoolCore}
use Rattle.pool_driver.specs.Driving.{Given}

module _ {P H : Type 0} where
  -- A core of the pool on which a frame can make its step, and which has given out, and doesn't keep, what the frame has and what else
  -- its seat has.
  pub record StandsBeside (g : Given) (c : PoolCore P H) (f : Frame P H) : Type 0 where
    pub settings : c.settings ≡ g.about.settings
    pub plan : c.plan ≡ g.about.plan
    pub can : CanStep g.about.maker c f
    pub away : (t : Thing) → kept_count t c + (frame_count t f + total t g.rest) ≤ away_count t c

  -- A step of the table, on such a core.
  pub record BesideStep (Passes : List Exchange → Type 0) (old new : PartyTold) (g : Given) (f next : Frame P H) (o : Option (Outcome P H)) : Type 0 where
    pub core : PoolCore P H
    pub left : PoolCore P H
    pub stands : StandsBeside g core f
    pub row : StepsAsking Passes old new core f (record { core = left; frame = next; outcome = o })

  -- A step is one of the table on such a core: on that of a moment, or on any where it changes neither part nor counter. So there is
  -- one wherever there was one before.
  abbrev pub StepsBeside : (List Exchange → Type 0) → PartyTold → PartyTold → Given → Frame P H → Frame P H → Option (Outcome P H) → Type 0
  StepsBeside Passes old new g f next o = (c : PoolCore P H) → StandsBeside g c f → BesideStep Passes old new g f next o

  -- The same of a step that asks nobody, whatever limiter and maker of heaps there are.
  abbrev pub StepsBesideAlike : Given → Frame P H → Frame P H → Option (Outcome P H) → Type 0
  StepsBesideAlike g f next o = (told : PartyTold) → BesideStep (λ passed. passed ≡ []) told told g f next o

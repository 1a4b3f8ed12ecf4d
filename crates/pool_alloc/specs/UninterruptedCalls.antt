-- The steps of one call with no step of another call between them.
use Rattle.std.specs.Prelude.{◌≡◌, ◌+◌, List, [], ◌∷◌, None}
use Rattle.pool_alloc.specs.declared.frame.Call.TheVariants as call
use Rattle.pool_alloc.specs.declared.frame.Call.{Call}
use Rattle.pool_alloc.specs.PartyTold.{PartyTold}
use Rattle.pool_alloc.specs.Places.{Weight, kept_count, away_weight}
use Rattle.pool_alloc.specs.Stepping.{StepsTo}
use Rattle.pool_alloc.specs.Turns.{After}
use Rattle.pool_alloc.specs.declared.pool_core.PoolCore.{PoolCore}
use Rattle.pool_alloc.specs.declared.frame.Frame.{Frame}

module _ {P H : Type 0} where
  -- a step, under some limiter and some maker of heaps
  abbrev pub IsStep : PoolCore P H → Frame P H → After P H → Type 0
  IsStep c f a = (old : PartyTold) × ((new : PartyTold) × StepsTo old new c f a)

  -- Steps of the frame's call, each made on what the one before left. What each but the last leaves is listed, and none of
  -- those answers; this is what the last leaves.
  abbrev pub AreSteps : PoolCore P H → Frame P H → List (After P H) → After P H → Type 0
  AreSteps c f [] a = IsStep c f a
  AreSteps c f (b ∷ rest) a = IsStep c f b × ((b.outcome ≡ None) × AreSteps b.core b.frame rest a)

  -- the call asks for something, and brings nothing along
  abbrev pub IsAsking : Call P H → Type 0
  IsAsking (call.GiveBack grant) = ⊥
  IsAsking _ = Unit {0}

  -- Every count is as it was, whatever each weighs: how many instances, components, memories, tables, stacks and heaps there
  -- are, and what is given out less what queues keep of it.
  abbrev pub HasSameCounts : PoolCore P H → PoolCore P H → Type 0
  HasSameCounts old new = (w : Weight) → away_weight w new + kept_count w.unit old ≡ away_weight w old + kept_count w.unit new

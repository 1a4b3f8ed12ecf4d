-- A step that has an object in hand asks neither the limiter nor the maker of heaps.
use Rattle.std.proofs.Common.{◌≡◌, true, List, []}
use Rattle.pool_limits.specs.Exchanges.{Exchange}
use Rattle.pool_alloc.specs.PartyTold.{PartyTold}
use Rattle.pool_alloc.specs.PageCallAnswers.{LimiterHears}
use Rattle.pool_alloc.specs.StepReads.{StepGiven}
use Rattle.pool_alloc.specs.InHand.{holds_object}
use Rattle.pool_alloc.specs.Turns.{After}
use Rattle.pool_alloc.specs.Stepping.{StepsTo, StepsAsking}
use Rattle.pool_alloc.specs.declared.pool_core.PoolCore.{PoolCore}
use Rattle.pool_alloc.specs.declared.frame.Frame.{Frame}
use Rattle.pool_alloc.specs.declared.frame.Phase.{Phase}
use Rattle.pool_alloc.specs.declared.frame.Phase.TheVariants.{MakeMemory, MakeTable}

module _ {P H : Type 0} where
  hears_nothing : (Passes : List Exchange → Type 0) (g : StepGiven H) (next : Phase P H) (f : Frame P H) → holds_object next ≡ true → Passes [] → LimiterHears Passes g next f
  hears_nothing Passes g (MakeMemory at held) f holds none = absurd cc
  hears_nothing Passes g (MakeTable at region) f holds none = absurd cc
  hears_nothing Passes g next f holds none = none

  pub asks_nobody : (Passes : List Exchange → Type 0) {old new : PartyTold} (c : PoolCore P H) (f : Frame P H) (a : After P H) → holds_object f.phase ≡ true → Passes [] → StepsTo old new c f a → StepsAsking Passes old new c f a
  asks_nobody Passes c f a holds none steps = (steps.0, (steps.1, hears_nothing Passes steps.0 f.phase f holds none))

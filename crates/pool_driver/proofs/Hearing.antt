-- A step on a part or on a counter says nothing to the limiter.
use Rattle.std.proofs.Common.{◌≡◌, Bool, true, false, List, [], true≢false, Option}
use Rattle.pool_limits.specs.Exchanges.{Exchange}
use Rattle.pool_slots.specs.declared.plan.Plan.{Plan}
use Rattle.pool_alloc.specs.PageCallAnswers.{LimiterHears}
use Rattle.pool_alloc.specs.PartyTold.{PartyTold}
use Rattle.pool_alloc.specs.StepReads.{StepGiven}
use Rattle.pool_alloc.specs.Stepping.{StepsAsking}
use Rattle.pool_alloc.specs.Targets.{next_target}
use Rattle.pool_alloc.specs.Turns.{After}
use Rattle.pool_alloc.specs.declared.frame.Frame.{Frame}
use Rattle.pool_alloc.specs.declared.frame.Outcome.{Outcome}
use Rattle.pool_alloc.specs.declared.frame.Phase.{Phase}
use Rattle.pool_alloc.specs.declared.frame.Phase.TheVariants.{MakeMemory, MakeTable}
use Rattle.pool_alloc.specs.declared.pool_core.PoolCore.{PoolCore}
use Rattle.pool_alloc.specs.declared.pool_core.Settings.{Settings}
use Rattle.pool_alloc.specs.declared.step.targets.Target.{Target}
use Rattle.pool_alloc.specs.declared.step.targets.Target.TheVariants.{Alone}
use Rattle.pool_slots.specs.declared.part.PoolPart.{PoolPart}
use Rattle.pool_hall.specs.declared.view.View.{View}
use Rattle.pool_driver.specs.Driving.{SeesStep, SeesAlike}
use Rattle.pool_driver.specs.Placed.{About}

-- the step changes neither a part nor a counter
abbrev pub is_alone : Target → Bool
is_alone Alone = true
is_alone _ = false

module _ {P H : Type 0} where
  hears : (A B : List Exchange → Type 0) (g : StepGiven H) (s : Settings) (plan : Plan) (p : Phase P H) (f : Frame P H) → is_alone (next_target s plan p f) ≡ false → (A [] → B []) → LimiterHears A g p f → LimiterHears B g p f
  hears A B g s plan (MakeMemory at held) f not_alone more heard = absurd (true≢false not_alone)
  hears A B g s plan (MakeTable at region) f not_alone more heard = absurd (true≢false not_alone)
  hears A B g s plan p f not_alone more heard = more heard

  -- So what passed doesn't matter, where nothing may.
  pub alike : (A B : List Exchange → Type 0) {old new : PartyTold} (s : Settings) (plan : Plan) (c : PoolCore P H) (f : Frame P H) (a : After P H) → is_alone (next_target s plan f.phase f) ≡ false → (A [] → B []) → StepsAsking A old new c f a → StepsAsking B old new c f a
  alike A B s plan c f a not_alone more steps = (steps.0, (steps.1.0, hears A B steps.0 s plan f.phase f not_alone more steps.1.1))

module _ {T P H : Type 0} (about : T → About) (inner : T → PoolPart P H) where
  -- What is so for every party is so for one that heard nothing.
  pub sees_for : (Passes : List Exchange → Type 0) → Passes [] → (told : PartyTold) (a : About) (v w : View T) (f next : Frame P H) (o : Option (Outcome P H)) → is_alone (next_target a.settings a.plan f.phase f) ≡ false → SeesAlike about inner a v w f next o → SeesStep about inner Passes told told a v w f next o
  sees_for Passes none told a v w f next o not_alone sees =
      let s = sees told in
      record {
        core = s.core;
        left = s.left;
        settings = s.settings;
        plan = s.plan;
        can = s.can;
        row = alike (λ passed. passed ≡ []) Passes a.settings a.plan s.core f (record { core = s.left; frame = next; outcome = o }) not_alone (λ e. none) s.row;
        change = s.change;
        of = s.of;
        view = s.view;
      }

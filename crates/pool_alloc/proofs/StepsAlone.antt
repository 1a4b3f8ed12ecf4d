-- A step that changes no part and counts nothing is the step table's row on every pool.
use Rattle.std.proofs.Common.{◌≡◌, ◌∙◌, List, refl, ap, subst, sym, Option}
use Rattle.pool_alloc.proofs.Imports.{Exchange, Plan}
use Rattle.pool_alloc.specs.PageCallAnswers.{MayBeTold, IsPlanned, AsksOf, MakesOf, LimiterHears}
use Rattle.pool_alloc.specs.PartyTold.{PartyTold}
use Rattle.pool_alloc.specs.StepTable.{row_of}
use Rattle.pool_alloc.specs.StepReads.{StepGiven, under}
use Rattle.pool_alloc.specs.Stepping.{StepsAsking}
use Rattle.pool_alloc.specs.StepsAlone.{StepsAlone}
use Rattle.pool_alloc.specs.Turns.{After, resting, stepped}
use Rattle.pool_alloc.specs.declared.frame.Frame.{Frame}
use Rattle.pool_alloc.specs.declared.frame.Outcome.{Outcome}
use Rattle.pool_alloc.specs.declared.frame.Phase.{Phase}
use Rattle.pool_alloc.specs.declared.frame.Phase.TheVariants.{Idle}
use Rattle.pool_alloc.specs.declared.pool_core.PoolCore.{PoolCore}
use Rattle.pool_alloc.specs.declared.pool_core.Settings.{Settings}
use Rattle.pool_alloc.proofs.StepsAsRows.{by_row}

module _ {P H : Type 0} where
  -- What holds of each pool under settings and a plan holds of each pool that has them.
  of_each : (Q : PoolCore P H → Type 0) (s : Settings) (plan : Plan) → ((c : PoolCore P H) → Q (under s plan c)) → (c : PoolCore P H) → c.settings ≡ s → c.plan ≡ plan → Q c
  of_each Q s plan each c settings planned =
      let S : Settings → Type 0 = λ t. Q (under t plan c) in
      let L : Plan → Type 0 = λ p. Q (under c.settings p c) in
      subst L (sym planned) (subst S (sym settings) (each c))

  -- The row is made with what the phase had, in a frame that has none.
  pub alone_row : (Passes : List Exchange → Type 0) (old new : PartyTold) (g : StepGiven H) (phase : Phase P H) (s : Settings) (plan : Plan) (f e next : Frame P H) (o : Option (Outcome P H)) → f.phase ≡ phase → e ≡ resting f → MayBeTold s g phase f → IsPlanned s g phase f → AsksOf old.limiter new.limiter g phase f → MakesOf old.heaps new.heaps g phase → LimiterHears Passes g phase f → ((c : PoolCore P H) → ◌≡◌ {A = After P H} (record { core = under s plan c; frame = next; outcome = o }) (stepped (row_of g phase (under s plan c) e))) → StepsAlone Passes old new s plan f next o
  alone_row Passes old new g phase s plan f e next o is rested told planned asks makes passed row =
      of_each (λ c. StepsAsking Passes old new c f (record { core = c; frame = next; outcome = o })) s plan
      (λ c. by_row Passes old new g phase (under s plan c) f (record { core = under s plan c; frame = next; outcome = o }) Idle is refl told planned asks makes passed
      (row c ∙ ap (λ (x : Frame P H). stepped (row_of g phase (under s plan c) x)) rested))

  -- the frame that a phase was taken out of
  pub emptied : (f : Frame P H) (left : Phase P H) → left ≡ Idle → record f { phase = left } ≡ resting f
  emptied f left gone = ap (λ (p : Phase P H). record f { phase = p }) gone

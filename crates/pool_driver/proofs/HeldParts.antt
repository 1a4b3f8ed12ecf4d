-- A seat that took the place of a frame's next step: the step can be made on the part, and after it the part may be put.
use Rattle.std.proofs.Common.{◌≡◌, ℕ, ◌<◌, List, [], length, map, refl, sym, ap, subst, ◌∙◌, arith, Option, Some, None, length-set, ◌≢◌, ⊎_elim}
use Rattle.std.proofs.lemmas.Bool.{cases_eq}
use Rattle.std.proofs.lemmas.Option.{same_Some}
use Rattle.pool_limits.specs.Exchanges.{Exchanged}
use Rattle.pool_limits.specs.LimiterTold.{unlimited}
use Rattle.pool_hall.specs.Step.{Taken, MayPut, put_view}
use Rattle.pool_hall.specs.declared.view.View.{View}
use Rattle.pool_hall.proofs.Totals.{inside, gotten}
use Rattle.pool_slots.specs.Parts.{part_at}
use Rattle.pool_slots.specs.Plans.{IsPlanned}
use Rattle.pool_slots.specs.declared.part.PoolPart.{PoolPart}
use Rattle.pool_slots.proofs.ListUnits.{read_at}
use Rattle.pool_alloc.specs.OnParts.{CanStepOn, row_on}
use Rattle.pool_alloc.specs.PartFlows.{FlowsOnPart}
use Rattle.pool_alloc.specs.PartyTold.{PartyTold}
use Rattle.pool_alloc.specs.BetweenSteps.{IsPartAt}
use Rattle.pool_alloc.specs.StepReads.{with_part}
use Rattle.pool_alloc.specs.Stepping.{CanStep, StepsTo, StepsAsking}
use Rattle.pool_alloc.specs.Targets.{next_target}
use Rattle.pool_alloc.specs.Turns.{After, PartAfter, part_after, resting}
use Rattle.pool_alloc.specs.declared.frame.Frame.{Frame}
use Rattle.pool_alloc.specs.declared.frame.Outcome.{Outcome}
use Rattle.pool_alloc.specs.declared.pool_core.PoolCore.{PoolCore}
use Rattle.pool_alloc.specs.declared.step.targets.Target.TheVariants.{Part}
use Rattle.pool_alloc.proofs.OnParts.{steps_at as steps_on}
use Rattle.pool_alloc.proofs.PartFlows.{flows_on_part}
use Rattle.pool_alloc.proofs.PoolParts.{part_same, part_other}
use Rattle.pool_alloc.proofs.StepNeeds.{can_still, step_ok}
use Rattle.pool_alloc.proofs.NextTargets.{can_on}
use Rattle.pool_driver.specs.Beside.{StepsBesideAlike}
use Rattle.pool_driver.specs.Driving.{Given, IsDriven, SeesAlike, changed, counted_by}
use Rattle.pool_driver.specs.Faults.{PartKeeps}
use Rattle.pool_driver.specs.Growing.{AreKept, IsKept, PartGrows}
use Rattle.pool_driver.specs.Placed.{About, Fits, IsSmall, about_made, pool_meaning}
use Rattle.pool_driver.specs.Pools.{IsPool}
use Rattle.pool_driver.proofs.Conserving.{even_alike}
use Rattle.pool_driver.proofs.Cores.{map_at, map_length}
use Rattle.pool_driver.proofs.Counted.{counts_frame}
use Rattle.pool_driver.proofs.Driven.{core_with, can_with, places_with, kept_with, steps_at, driven_next}
use Rattle.pool_driver.proofs.Faulted.{keeps_step}
use Rattle.pool_driver.proofs.GrowingSteps.{grows_step}
use Rattle.pool_driver.proofs.Hearing.{is_alone, alike}
use Rattle.pool_driver.proofs.MomentsBeside.{away_beside}
use Rattle.pool_driver.proofs.Puts.{may_put, carries_on}
use Rattle.pool_driver.proofs.Standing.{fits_stands}

-- what a step is told that asks nobody
abbrev pub nobody : PartyTold
nobody = record { limiter = unlimited; heaps = record { plan = None; made = 0; faults = 0 } }

module _ {T P H : Type 0} (about : T → About) (inner : T → PoolPart P H) (made : List T) (limits : List ℕ) (g : Given) (of : about_made about made ≡ Some g.about) (pool : IsPool g.about (length made)) (v : View T) (f : Frame P H) (driven : IsDriven (length made) g v f None)
    (p : ℕ) (target : next_target g.about.settings g.about.plan f.phase f ≡ Part p) (x : T) (told : Taken (pool_meaning about inner) made limits p x v) where
  abbrev core_now : PoolCore P H
  core_now = core_with about inner made limits v.units told.moment g of pool f driven.frame driven.carries (counted_by f)

  can_now : CanStep g.about.maker core_now f
  can_now = can_with about inner made limits v.units told.moment g of pool f driven.frame driven.carries (counted_by f) (counts_frame f)

  kept_now : AreKept core_now.parts
  kept_now = kept_with about inner made limits v.units told.moment g of pool f driven.frame driven.carries

  below : p < length core_now.parts
  below = omega (arith, inside told.moment.now p x (gotten told.moment.now p x told.here), map_length about inner told.moment.now)

  part_here : part_at p core_now.parts ≡ inner x
  part_here = read_at (map inner told.moment.now) p _ (inner x) (map_at about inner told.moment.now p x (gotten told.moment.now p x told.here))

  -- The step can be made on the part that was taken.
  pub can_here : CanStepOn g.about.settings g.about.plan f.phase (inner x) f
  can_here = subst (λ (z : PoolPart P H). CanStepOn g.about.settings g.about.plan f.phase z f) part_here (can_on p core_now f (steps_at g.about.maker core_now f can_now) target).1

  module _ (y : T) (origin : about y ≡ about x) (next : Frame P H) (o : Option (Outcome P H)) (row : ◌≡◌ {A = PartAfter (PoolPart P H) P H} (record { part = inner y; frame = next; outcome = o }) (part_after (row_on g.about.settings g.about.plan f.phase (inner x) (resting f)))) (small : IsSmall (inner y)) where
    abbrev after_now : After P H
    after_now = record { core = with_part p (inner y) core_now; frame = next; outcome = o }

    row_now : ◌≡◌ {A = PartAfter (PoolPart P H) P H} (record { part = inner y; frame = next; outcome = o }) (part_after (row_on g.about.settings g.about.plan f.phase (part_at p core_now.parts) (resting f)))
    row_now = subst (λ (z : PoolPart P H). ◌≡◌ {A = PartAfter (PoolPart P H) P H} (record { part = inner y; frame = next; outcome = o }) (part_after (row_on g.about.settings g.about.plan f.phase z (resting f)))) (sym part_here) row

    asking : (party : PartyTold) → StepsAsking (λ passed. passed ≡ []) party party core_now f after_now
    asking party = alike (λ passed. Exchanged {R = Unit {0}} (λ a e b. Unit {0}) passed tt tt) (λ passed. passed ≡ []) g.about.settings g.about.plan core_now f after_now (ap is_alone target) (λ e. refl) (steps_on {R = Unit {0}} (λ a e b. Unit {0}) tt party p core_now f (inner y) next o target row_now)

    steps_now : StepsTo nobody nobody core_now f after_now
    steps_now = let s = asking nobody in (s.0, s.1.0)

    part_put : part_at p (with_part p (inner y) core_now).parts ≡ inner y
    part_put = part_same p (inner y) core_now below

    long : length (with_part p (inner y) core_now).parts ≡ length core_now.parts
    long = length-set core_now.parts p (inner y)

    flows : FlowsOnPart (inner x) (inner y) f after_now
    flows =
        let all = flows_on_part core_now f after_now p (inner y) (step_ok g.about.maker nobody nobody core_now f after_now can_now steps_now).conserves below refl in
        subst (λ (z : PoolPart P H). FlowsOnPart z (inner y) f after_now) part_here all

    still_now : CanStep g.about.maker after_now.core next
    still_now = can_still g.about.maker nobody nobody core_now f after_now can_now steps_now

    fits_left : Fits about inner made p y
    fits_left =
        let old = told.stands.fits in
        let is : about x ≡ g.about = same_Some _ _ (sym old.of ∙ of) in
        let part : IsPartAt g.about.maker g.about.settings g.about.plan p (inner y) = subst (IsPartAt g.about.maker g.about.settings g.about.plan p) part_put (still_now.core.parts p (omega (arith, below, long))) in
        let keeps = (keeps_step g.about.maker nobody nobody core_now f after_now can_now steps_now kept_now driven.keeps).2 p below in
        record {
          of = old.of ∙ ap (λ (z : About). Some z) (sym origin);
          inside = old.inside;
          planned = subst (λ (z : About). IsPlanned z.plan (length made)) (sym origin) old.planned;
          part = subst (λ (z : About). IsPartAt z.maker z.settings z.plan p (inner y)) (sym (origin ∙ is)) part;
          faults = subst PartKeeps part_put keeps;
          small = small;
        }

    grows : PartGrows (inner x) (inner y)
    grows =
        let all = grows_step g.about.maker nobody nobody core_now f after_now can_now steps_now driven.keeps p below (kept_now p below).small (subst IsSmall (sym part_put) small) in
        subst (λ (z : PoolPart P H). PartGrows z (inner y)) part_here (subst (PartGrows (part_at p core_now.parts)) part_put all)

    -- After it the part may be put.
    pub may_put_here : MayPut (pool_meaning about inner) made limits p x y v.units
    may_put_here = may_put (pool_meaning about inner) inner (λ z. refl) (λ z. refl) x y v.units g.rest f after_now driven.carries flows made limits p (fits_stands about inner made limits p y fits_left)
        (record { topped = grows.topped; steady = grows.steady; rises = grows.rises })

    kept_left : AreKept after_now.core.parts
    kept_left q inside' = ⊎_elim
        (λ (is : q ≡ p). subst (λ (n : ℕ). IsKept (part_at n after_now.core.parts)) (sym is) (subst IsKept (sym part_put) (record { faults = fits_left.faults; small = small })))
        (λ (other : q ≢ p). subst IsKept (sym (part_other p q (inner y) core_now other)) (kept_now q (omega (arith, inside', long))))
        (cases_eq q p)

    -- What the step leaves is driven, and this is what the seat saw.
    pub driven_here : IsDriven (length made) g (put_view (pool_meaning about inner) p x y v) next o
    driven_here =
        let w : View T = put_view (pool_meaning about inner) p x y v in
        driven_next g (length made) v w f driven (counted_by f) core_now.parts can_now kept_now nobody nobody (counted_by f) after_now.core.parts next o steps_now
        (long ∙ places_with about inner made limits v.units told.moment g of pool f driven.frame driven.carries) kept_left
        (carries_on (pool_meaning about inner) inner (λ z. refl) (λ z. refl) x y v.units g.rest f after_now driven.carries flows)
        (even_alike g.counted v w core_now f after_now (step_ok g.about.maker nobody nobody core_now f after_now can_now steps_now).conserves refl (λ t. refl) (λ t. refl) driven.counted)

    pub sees_here : SeesAlike about inner g.about v (put_view (pool_meaning about inner) p x y v) f next o
    sees_here party = record {
      core = core_now;
      left = after_now.core;
      settings = refl;
      plan = refl;
      can = can_now;
      row = asking party;
      change = changed p x y;
      of = (target, below, part_here, refl, told.stands.fits.small, small);
      view = refl;
    }

    -- What else the seat has was away on that core.
    pub beside_here : StepsBesideAlike g f next o
    beside_here party = record {
      core = core_now;
      left = after_now.core;
      stands = record { settings = refl; plan = refl; can = can_now; away = away_beside about inner made limits v.units told.moment g.rest f driven.carries };
      row = asking party;
    }

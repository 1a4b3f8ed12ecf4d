-- The same of a seat over the code's own settings and plan: one that took the place, was lent the part and put it; and one that counted.
use Rattle.std.proofs.Common.{◌≡◌, ℕ, ◌<◌, List, length, sym, ap, subst, ◌∙◌, Option, Some, None}
use Rattle.pool_hall.specs.Meaning.{Meaning}
use Rattle.pool_hall.specs.Moment.{Moment}
use Rattle.pool_hall.specs.Step.{Taken, MayPut, add_view, put_view, subtract_view}
use Rattle.pool_hall.specs.Tally.{additions, subtractions, number}
use Rattle.pool_hall.specs.Seat.{made_with, limits_of, view, HasPart, with_part, IsTaken, CanPut, IsPut}
use Rattle.pool_hall.specs.declared.hall.Hall.{Hall}
use Rattle.pool_hall.specs.declared.hall.HallSeat.{HallSeat}
use Rattle.pool_hall.specs.declared.view.View.{View}
use Rattle.pool_hall.proofs.Callers.{lent_is, can_put, view_after}
use Rattle.pool_slots.specs.declared.part.PoolPart.{PoolPart}
use Rattle.pool_slots.specs.declared.plan.Plan.{Plan}
use Rattle.pool_limits.specs.Exchanges.{Exchange}
use Rattle.pool_alloc.specs.OnCounters.{CanStepCounted, counted_on}
use Rattle.pool_alloc.specs.OnParts.{CanStepOn, row_on}
use Rattle.pool_alloc.specs.PartyTold.{PartyTold}
use Rattle.pool_alloc.specs.StepsAlone.{CanStepAlone, StepsAlone}
use Rattle.pool_alloc.specs.Targets.{next_target}
use Rattle.pool_alloc.specs.Turns.{Left, PartAfter, left_by, part_after, resting}
use Rattle.pool_alloc.specs.declared.counters.CounterName.{CounterName}
use Rattle.pool_alloc.specs.declared.frame.Frame.{Frame}
use Rattle.pool_alloc.specs.declared.frame.Outcome.{Outcome}
use Rattle.pool_alloc.specs.declared.pool_core.Settings.{Settings}
use Rattle.pool_alloc.specs.declared.step.targets.Target.TheVariants.{Part, Up, Down, Alone}
use Rattle.pool_driver.specs.Beside.{StepsBeside, StepsBesideAlike}
use Rattle.pool_driver.specs.Driving.{Given, IsDriven, SeesAlike, SeesStep, counter_number}
use Rattle.pool_driver.specs.Placed.{About, IsSmall, about_made, pool_meaning}
use Rattle.pool_driver.specs.Pools.{IsPool}
use Rattle.pool_driver.proofs.CountersDriven.{can_count_up, can_count_down, driven_up, driven_down, beside_up, beside_down, beside_alone, sees_up, sees_down, counted_more, can_alone_here, driven_alone, sees_alone}
use Rattle.pool_driver.proofs.HeldParts.{can_here, may_put_here, driven_here, beside_here, sees_here}

module _ {T P H : Type 0} (about : T → About) (inner : T → PoolPart P H) (h : Hall T) (g : Given) (of : about_made about (made_with h) ≡ Some g.about) (pool : IsPool g.about (length (made_with h))) (s t : HallSeat T) (taken : IsTaken (pool_meaning about inner) h s t)
    (f : Frame P H) (driven : IsDriven (length (made_with h)) g (view s) f None) (p : ℕ) (at : t.place ≡ p) (target : next_target g.about.settings g.about.plan f.phase f ≡ Part p) (x : T) (lent : HasPart t x) (settings : Settings) (plan : Plan) (same_settings : settings ≡ g.about.settings) (same_plan : plan ≡ g.about.plan) where
  abbrev m : Meaning T
  m = pool_meaning about inner

  is : taken.part ≡ x
  is = lent_is m h s t taken x lent

  told : Taken m (made_with h) (limits_of h) p x (view s)
  told = subst (λ (q : ℕ). Taken m (made_with h) (limits_of h) q x (view s)) at (subst (λ (z : T). Taken m (made_with h) (limits_of h) t.place z (view s)) is taken.told)

  pub can_hold : CanStepOn settings plan f.phase (inner x) f
  can_hold =
      subst (λ (z : Settings). CanStepOn z plan f.phase (inner x) f) (sym same_settings)
      (subst (λ (z : Plan). CanStepOn g.about.settings z f.phase (inner x) f) (sym same_plan) (can_here about inner (made_with h) (limits_of h) g of pool (view s) f driven p target x told))

  module _ (y : T) (origin : about y ≡ about x) (next : Frame P H) (o : Option (Outcome P H)) (row : ◌≡◌ {A = PartAfter (PoolPart P H) P H} (record { part = inner y; frame = next; outcome = o }) (part_after (row_on settings plan f.phase (inner x) (resting f)))) (small : IsSmall (inner y)) where
    row_here : ◌≡◌ {A = PartAfter (PoolPart P H) P H} (record { part = inner y; frame = next; outcome = o }) (part_after (row_on g.about.settings g.about.plan f.phase (inner x) (resting f)))
    row_here = subst (λ (z : Settings). ◌≡◌ {A = PartAfter (PoolPart P H) P H} (record { part = inner y; frame = next; outcome = o }) (part_after (row_on z g.about.plan f.phase (inner x) (resting f)))) same_settings (subst (λ (z : Plan). ◌≡◌ {A = PartAfter (PoolPart P H) P H} (record { part = inner y; frame = next; outcome = o }) (part_after (row_on settings z f.phase (inner x) (resting f)))) same_plan row)

    may : MayPut m (made_with h) (limits_of h) t.place taken.part y (view s).units
    may =
        subst (λ (z : T). MayPut m (made_with h) (limits_of h) t.place z y (view s).units) (sym is)
        (subst (λ (q : ℕ). MayPut m (made_with h) (limits_of h) q x y (view s).units) (sym at) (may_put_here about inner (made_with h) (limits_of h) g of pool (view s) f driven p target x told y origin next o row_here small))

    pub can_put_back : CanPut m h (with_part t y)
    can_put_back = can_put m h s t taken y may

    module _ (u : HallSeat T) (put : IsPut m (with_part t y) u) where
      seen : put_view m p x y (view s) ≡ view u
      seen = sym (view_after m h s t taken y u put ∙ ap (λ (z : T). put_view m t.place z y (view s)) is ∙ ap (λ (q : ℕ). put_view m q x y (view s)) at)

      pub driven_after : IsDriven (length (made_with h)) g (view u) next o
      driven_after = subst (λ (w : View T). IsDriven (length (made_with h)) g w next o) seen (driven_here about inner (made_with h) (limits_of h) g of pool (view s) f driven p target x told y origin next o row_here small)

      pub beside_after : StepsBesideAlike g f next o
      beside_after = beside_here about inner (made_with h) (limits_of h) g of pool (view s) f driven p target x told y origin next o row_here small

      pub sees_after : SeesAlike about inner g.about (view s) (view u) f next o
      sees_after = subst (λ (w : View T). SeesAlike about inner g.about (view s) w f next o) seen (sees_here about inner (made_with h) (limits_of h) g of pool (view s) f driven p target x told y origin next o row_here small)

module _ {T P H : Type 0} (about : T → About) (inner : T → PoolPart P H) (made : List T) (limits : List ℕ) (g : Given) (of : about_made about made ≡ Some g.about) (pool : IsPool g.about (length made)) (v : View T) (f : Frame P H) (driven : IsDriven (length made) g v f None) (moment : Moment (pool_meaning about inner) made limits v.units)
    (name : CounterName) (settings : Settings) (plan : Plan) (same_settings : settings ≡ g.about.settings) (same_plan : plan ≡ g.about.plan) (number : ℕ) (numbered : number ≡ counter_number name) where
  counts_here : (next : Frame P H) (o : Option (Outcome P H)) (found : ℕ) → ◌≡◌ {A = Left P H} (record { frame = next; outcome = o }) (left_by (counted_on settings plan f.phase found (resting f))) → ◌≡◌ {A = Left P H} (record { frame = next; outcome = o }) (left_by (counted_on g.about.settings g.about.plan f.phase found (resting f)))
  counts_here next o found row =
      subst (λ (z : Settings). ◌≡◌ {A = Left P H} (record { frame = next; outcome = o }) (left_by (counted_on z g.about.plan f.phase found (resting f)))) same_settings
      (subst (λ (z : Plan). ◌≡◌ {A = Left P H} (record { frame = next; outcome = o }) (left_by (counted_on settings z f.phase found (resting f)))) same_plan row)

  module _ (target : next_target g.about.settings g.about.plan f.phase f ≡ Up name) where
    pub can_up_here : CanStepCounted plan f.phase f
    can_up_here = subst (λ (z : Plan). CanStepCounted z f.phase f) (sym same_plan) (can_count_up about inner made limits g of pool v f driven moment name target)

    module _ (found : ℕ) (next : Frame P H) (o : Option (Outcome P H)) (row : ◌≡◌ {A = Left P H} (record { frame = next; outcome = o }) (left_by (counted_on settings plan f.phase found (resting f)))) (w : View T) (seen : w ≡ add_view number found v) where
      seen_up : add_view (counter_number name) found v ≡ w
      seen_up = sym (seen ∙ ap (λ (n : ℕ). add_view n found v) numbered)

      pub driven_after_up : IsDriven (length made) g w next o
      driven_after_up = subst (λ (z : View T). IsDriven (length made) g z next o) seen_up (driven_up about inner made limits g of pool v f driven moment name target found next o (counts_here next o found row))

      pub beside_after_up : StepsBesideAlike g f next o
      beside_after_up = beside_up about inner made limits g of pool v f driven moment name target found next o (counts_here next o found row)

      pub sees_after_up : SeesAlike about inner g.about v w f next o
      sees_after_up = subst (λ (z : View T). SeesAlike about inner g.about v z f next o) seen_up (sees_up about inner made limits g of pool v f driven moment name target found next o (counts_here next o found row))

  module _ (target : next_target g.about.settings g.about.plan f.phase f ≡ Down name) where
    pub can_down_here : CanStepCounted plan f.phase f
    can_down_here = subst (λ (z : Plan). CanStepCounted z f.phase f) (sym same_plan) (can_count_down about inner made limits g of pool v f driven moment name target)

    module _ (found : ℕ) (next : Frame P H) (o : Option (Outcome P H)) (row : ◌≡◌ {A = Left P H} (record { frame = next; outcome = o }) (left_by (counted_on settings plan f.phase found (resting f)))) (w : View T) (seen : w ≡ subtract_view number v) where
      seen_down : subtract_view (counter_number name) v ≡ w
      seen_down = sym (seen ∙ ap (λ (n : ℕ). subtract_view n v) numbered)

      pub driven_after_down : IsDriven (length made) g w next o
      driven_after_down = subst (λ (z : View T). IsDriven (length made) g z next o) seen_down (driven_down about inner made limits g of pool v f driven moment name target found next o (counts_here next o found row))

      pub beside_after_down : StepsBesideAlike g f next o
      beside_after_down = beside_down about inner made limits g of pool v f driven moment name target found next o (counts_here next o found row)

      pub sees_after_down : SeesAlike about inner g.about v w f next o
      sees_after_down = subst (λ (z : View T). SeesAlike about inner g.about v z f next o) seen_down (sees_down about inner made limits g of pool v f driven moment name target found next o (counts_here next o found row))

-- Whoever counts down at a counter by its number has counted up there before.
pub may_count_down : {T P H : Type 0} (places : ℕ) (g : Given) (v : View T) (f : Frame P H) → IsDriven places g v f None → (name : CounterName) (c : ℕ) → c ≡ counter_number name → next_target g.about.settings g.about.plan f.phase f ≡ Down name → number (subtractions c) v < number (additions c) v
may_count_down places g v f driven name c numbered target = subst (λ (n : ℕ). number (subtractions n) v < number (additions n) v) (sym numbered) (counted_more places g v f driven name target)

-- A step without part or counter, likewise.
module _ {T P H : Type 0} (places : ℕ) (g : Given) (v : View T) (f : Frame P H) (driven : IsDriven places g v f None) (settings : Settings) (plan : Plan) (same_settings : settings ≡ g.about.settings) (same_plan : plan ≡ g.about.plan) (target : next_target g.about.settings g.about.plan f.phase f ≡ Alone) where
  pub can_step_alone : CanStepAlone settings plan f.phase f
  can_step_alone =
      subst (λ (z : Settings). CanStepAlone z plan f.phase f) (sym same_settings)
      (subst (λ (z : Plan). CanStepAlone g.about.settings z f.phase f) (sym same_plan) (can_alone_here places g v f driven target))

  module _ (Passes : List Exchange → Type 0) (old new : PartyTold) (next : Frame P H) (o : Option (Outcome P H)) (row : StepsAlone Passes old new settings plan f next o) where
    row_alone : StepsAlone Passes old new g.about.settings g.about.plan f next o
    row_alone =
        subst (λ (z : Settings). StepsAlone Passes old new z g.about.plan f next o) same_settings
        (subst (λ (z : Plan). StepsAlone Passes old new settings z f next o) same_plan row)

    pub driven_after_alone : IsDriven places g v next o
    driven_after_alone = driven_alone places g v f driven target Passes old new next o row_alone

    pub beside_after_alone : StepsBeside Passes old new g f next o
    beside_after_alone = beside_alone places g v f driven target Passes old new next o row_alone

    pub sees_after_alone : (about : T → About) (inner : T → PoolPart P H) → SeesStep about inner Passes old new g.about v v f next o
    sees_after_alone about inner = sees_alone places g v f driven target Passes old new next o row_alone about inner

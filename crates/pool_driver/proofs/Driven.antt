-- A frame that is driven over a hall: it can make its step on what a moment shows, and what the step leaves is driven.
use Rattle.std.proofs.Common.{◌≡◌, ℕ, ◌*◌, ◌≤◌, List, length, map, sym, ap, subst, ◌∙◌, arith, Option, Some, None}
use Rattle.pool_pages.specs.MakerTold.{MakerTold}
use Rattle.pool_hall.specs.Moment.{Moment}
use Rattle.pool_hall.specs.Sum.{total}
use Rattle.pool_hall.specs.declared.unit_name.UnitName.{UnitName}
use Rattle.pool_hall.specs.declared.view.View.{View}
use Rattle.pool_hall.proofs.Totals.{element, got}
use Rattle.pool_slots.specs.ListUnits.{all_away, all_kept}
use Rattle.pool_slots.specs.declared.part.PoolPart.{PoolPart}
use Rattle.pool_slots.proofs.ListUnits.{read_at}
use Rattle.pool_alloc.specs.CanStep.{CanStepAt}
use Rattle.pool_alloc.specs.PartyTold.{PartyTold}
use Rattle.pool_alloc.specs.Places.{counted_instance, counted_component, of_units, only, frame_instances, instances_for, phase_counted, phase_instances}
use Rattle.pool_alloc.specs.BetweenSteps.{IsFrame}
use Rattle.pool_alloc.specs.Stepping.{CanStep, Conserves, StepsTo}
use Rattle.pool_alloc.specs.Targets.{next_target}
use Rattle.pool_alloc.specs.Turns.{After}
use Rattle.pool_alloc.specs.declared.counters.CounterName.{CounterName}
use Rattle.pool_alloc.specs.declared.counters.CounterName.TheVariants as counter
use Rattle.pool_alloc.specs.declared.frame.Frame.{Frame}
use Rattle.pool_alloc.specs.declared.frame.Outcome.{Outcome}
use Rattle.pool_alloc.specs.declared.pool_core.Counters.{Counters}
use Rattle.pool_alloc.specs.declared.pool_core.PoolCore.{PoolCore}
use Rattle.pool_alloc.specs.declared.step.targets.Target.{Target}
use Rattle.pool_alloc.specs.declared.step.targets.Target.TheVariants.{Part, Up, Down, Alone}
use Rattle.pool_alloc.proofs.StepNeeds.{can_step_at, can_still}
use Rattle.pool_alloc.proofs.Weights.{conserves_units, frame_units}
use Rattle.pool_driver.specs.Carrying.{Carries, CountsFrame}
use Rattle.pool_driver.specs.Driving.{Given, HasCounted, IsDriven, StandsOn, StandsFor, counted_by}
use Rattle.pool_driver.specs.Growing.{AreKept, IsKept}
use Rattle.pool_driver.specs.Placed.{About, about_made, pool_meaning}
use Rattle.pool_driver.specs.Pools.{IsPool, core_of}
use Rattle.pool_driver.proofs.Cores.{map_at, map_length}
use Rattle.pool_driver.proofs.Counted.{counts_frame, few_counted, rights}
use Rattle.pool_driver.proofs.CountingSteps.{first_instance, first_component, ups_instances, ups_components}
use Rattle.pool_driver.proofs.Faulted.{keeps_step}
use Rattle.pool_driver.proofs.MomentSteps.{can_step}

module _ {P H : Type 0} (maker : MakerTold) where
  -- the core with counters that count the frame alone
  abbrev pub recounted : PoolCore P H → Frame P H → PoolCore P H
  recounted c f = record c { counters = counted_by f }

  -- The frame can make its step on it too, and none of these counters stands at its end.
  pub can_recounted : (c : PoolCore P H) (f : Frame P H) → CanStep maker c f → CanStep maker (recounted c f) f
  can_recounted c f can = record {
    core = record { settings = can.core.settings; page = can.core.page; plan = can.core.plan; stripes = can.core.stripes; parts = can.core.parts };
    frame = can.frame;
    fits = record { once = λ w. omega (arith, can.fits.once (of_units w.unit), frame_units w.unit f, counts_frame f w.counts); others = can.fits.others };
  }

  pub steps_at : (c : PoolCore P H) (f : Frame P H) → CanStep maker c f → CanStepAt f.phase (recounted c f) f
  steps_at c f can = can_step_at maker (recounted c f) f (can_recounted c f can) (few_counted maker c f can.core (omega (arith, can.fits.once (of_units rights), frame_units rights f)))

module _ {P H : Type 0} (a : About) (places : ℕ) where
  -- A frame that stands on some pool has what it needs, whatever its step changes.
  pub stands_for : (t : Target) (f : Frame P H) → StandsOn a places f → StandsFor t a places f
  stands_for (Part p) f stands = stands
  stands_for Alone f stands = stands
  stands_for (Up name) f stands = tt
  stands_for (Down name) f stands = tt

module _ {T P H : Type 0} (about : T → About) (inner : T → PoolPart P H) (made : List T) (limits : List ℕ) (us : List UnitName) (moment : Moment (pool_meaning about inner) made limits us) (g : Given) (of : about_made about made ≡ Some g.about) (pool : IsPool g.about (length made))
    (f : Frame P H) (frame : IsFrame g.about.maker g.about.settings g.about.plan f) (carries : Carries g.rest us f None) where
  -- The core that the moment shows, with these counters.
  abbrev pub core_with : Counters → PoolCore P H
  core_with n = core_of g.about n None (map inner moment.now)

  pub can_with : (n : Counters) → CountsFrame n f → CanStep g.about.maker (core_with n) f
  can_with n counts = can_step about inner made limits us moment g.about of pool n None g.rest f frame counts carries

  pub places_with : length (map inner moment.now) ≡ length made
  places_with = map_length about inner moment.now ∙ moment.all

  -- What fits its place keeps faults and has counts that fit.
  pub kept_with : AreKept (map inner moment.now)
  kept_with p below =
      let it = element moment.now p (omega (arith, below, map_length about inner moment.now)) in
      let fits = (moment.stand p it.0 (got moment.now p it.0 it.1)).fits in
      subst (λ (z : PoolPart P H). IsKept z) (sym (read_at (map inner moment.now) p _ (inner it.0) (map_at about inner moment.now p it.0 it.1))) (record { faults = fits.faults; small = fits.small })

  -- the counters that count the frame alone, and have the number found where that decides
  abbrev pub found_by : CounterName → ℕ → Counters
  found_by counter.Key found = record (counted_by f) { key = found }
  found_by counter.CoreInstances found = record (counted_by f) { core_instances = found }
  found_by counter.ComponentInstances found = record (counted_by f) { component_instances = found }
  found_by _ found = counted_by f

  more_times : (a b c : ℕ) → a ≡ 0 → a * c ≤ b * c
  more_times a b c none = omega (arith, ap (λ (n : ℕ). n * c) none)

  pub counts_found : (name : CounterName) (found : ℕ) → next_target g.about.settings g.about.plan f.phase f ≡ Up name → CountsFrame (found_by name found) f
  counts_found counter.Key found is n = omega (arith, counts_frame f n)
  counts_found counter.CoreInstances found is n =
      let none : phase_instances f.phase ≡ 0 = omega (arith, ap (λ (t : Target). ups_instances t * phase_instances f.phase) is, first_instance g.about.settings g.about.plan f f.phase) in
      let first : frame_instances f ≡ 0 = omega (arith, ap (λ (k : ℕ). k * instances_for f.asked) none) in
      omega (arith, counts_frame f n, more_times (frame_instances f) found (n counted_instance) first)
  counts_found counter.ComponentInstances found is n =
      let first : phase_counted (only counted_component) f.phase ≡ 0 = omega (arith, ap (λ (t : Target). ups_components t * phase_counted (only counted_component) f.phase) is, first_component g.about.settings g.about.plan f f.phase) in
      omega (arith, counts_frame f n, more_times (phase_counted (only counted_component) f.phase) found (n counted_component) first)
  counts_found counter.Memories found is n = counts_frame f n
  counts_found counter.Tables found is n = counts_frame f n
  counts_found counter.Stacks found is n = counts_frame f n
  counts_found counter.GcHeaps found is n = counts_frame f n

module _ {T P H : Type 0} (g : Given) (places : ℕ) (v w : View T) (f : Frame P H) (driven : IsDriven places g v f None) (n : Counters) (parts : List (PoolPart P H)) (can : CanStep g.about.maker (core_of g.about n None parts) f) (kept : AreKept parts)
    (old new : PartyTold) (m : Counters) (later : List (PoolPart P H)) (next : Frame P H) (o : Option (Outcome P H)) (steps : StepsTo old new (core_of g.about n None parts) f (record { core = core_of g.about m None later; frame = next; outcome = o })) where
  -- What a step leaves is driven, where the seat carries what it left and counts as it did.
  pub driven_next : length later ≡ places → AreKept later → Carries g.rest w.units next o → HasCounted g.counted w next o → IsDriven places g w next o
  driven_next long fit carries even =
      let left : After P H = record { core = core_of g.about m None later; frame = next; outcome = o } in
      let keeps = keeps_step g.about.maker old new (core_of g.about n None parts) f left can steps kept driven.keeps in
      let still = can_still g.about.maker old new (core_of g.about n None parts) f left can steps in
      record {
        frame = still.frame;
        keeps = keeps.0;
        answer = keeps.1;
        carries = carries;
        counted = even;
        stands = stands_for g.about places (next_target g.about.settings g.about.plan next.phase next) next (record { counters = m; parts = later; long = long; kept = fit; can = still });
      }

module _ {P H : Type 0} (rest us : List UnitName) (c : PoolCore P H) (f : Frame P H) (a : After P H) (conserves : Conserves c f a) where
  -- After a step that changes no part the seat carries what the frame has and its answer.
  pub carries_alike : a.core.parts ≡ c.parts → Carries rest us f None → Carries rest us a.frame a.outcome
  carries_alike same carries = record {
    units = λ t. omega (
      arith,
      carries.units t,
      conserves_units c f a conserves t,
      ap (λ (xs : List (PoolPart P H)). total t (all_away xs)) same,
      ap (λ (xs : List (PoolPart P H)). total t (all_kept xs)) same,
    );
    beside = carries.beside;
  }

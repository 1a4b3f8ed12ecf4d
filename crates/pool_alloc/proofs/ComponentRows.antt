-- The rows of a component.
use Rattle.std.proofs.Common.{◌≡◌, ◌+◌, ◌-◌, Bool, true, false, refl, sym, subst, arith, Option, Some, None, nat_lt, ◌<◌}
use Rattle.pool_alloc.proofs.Imports.{ltb-true, ltb-false, MakerTold, ComponentInfo, Unsupported}
use Rattle.pool_alloc.specs.PartyTold.{PartyTold}
use Rattle.pool_slots.specs.declared.errors.AllocError.TheVariants as refusal
use Rattle.pool_alloc.specs.Refusals.{component_refused}
use Rattle.pool_alloc.specs.StepTable.{component_tested, validate_component_row, component_counted, count_component_row, uncount_component_row}
use Rattle.pool_alloc.specs.CallStages.{IsBroken, no_call, stage_back, Goes}
use Rattle.pool_alloc.specs.Places.{counted_component, only}
use Rattle.pool_alloc.specs.Stepping.{grant_weight}
use Rattle.pool_alloc.specs.Turns.{Row, answer_of, failing}
use Rattle.pool_alloc.specs.declared.pool_core.PoolCore.{PoolCore}
use Rattle.pool_alloc.specs.declared.frame.Ending.{Ending}
use Rattle.pool_alloc.specs.declared.frame.Ending.TheVariants.{Granted as granted, Returned as returned, Refused as refused}
use Rattle.pool_alloc.specs.declared.frame.Frame.{Frame}
use Rattle.pool_alloc.specs.declared.frame.Phase.{Phase}
use Rattle.pool_alloc.specs.declared.frame.Phase.TheVariants.{Idle, ValidateComponent, CountComponent, UncountComponent}
use Rattle.pool_alloc.proofs.BeforeTheTurn.{in_phase, held_of, none_granted, none_counted, IsReadyRow, one_less, only_one}
use Rattle.pool_alloc.proofs.CoreChanges.{core_with_counters}
use Rattle.pool_alloc.proofs.SharedByRows.{Can, kept_part}
use Rattle.pool_alloc.proofs.Weights.{counted_fits}

module _ {P H : Type 0} (maker : MakerTold) (old new : PartyTold) where
  abbrev Shows : Phase P H → PoolCore P H → Frame P H → Row (PoolCore P H) P H → Type 0
  Shows p c f r = IsReadyRow maker old new c (in_phase p f) r

  -- It is tested.
  tested_ready : (info : ComponentInfo) (o : Option Unsupported) (c : PoolCore P H) (f : Frame P H) → Can maker (ValidateComponent info) c f → component_refused c.settings info ≡ o → Shows (ValidateComponent info) c f (component_tested o c (in_phase Idle f))
  tested_ready info (Some rule) c f can is = record {
    kept = kept_part maker old new c (in_phase (ValidateComponent info) f) c (failing (refusal.Unsupported rule) (in_phase Idle f)) can.core (held_of maker c.settings c.plan (in_phase (ValidateComponent info) f) can.frame) refl refl refl refl;
    shape = (can.frame.shape, tt);
    even = λ w. omega arith;
    fewer = omega arith;
    way = let B : Option Unsupported → Type 0 = λ o. IsBroken o (refusal.Unsupported rule) in subst B (sym is) refl;
    searched = λ s. tt;
  }
  tested_ready info None c f can is = record {
    kept = kept_part maker old new c (in_phase (ValidateComponent info) f) c (in_phase Idle f) can.core (held_of maker c.settings c.plan (in_phase (ValidateComponent info) f) can.frame) refl refl refl refl;
    shape = (refl, can.frame.shape);
    even = λ w. omega arith;
    fewer = omega arith;
    way = is;
    searched = λ s. tt;
  }

  pub validate_component_ready : (info : ComponentInfo) (c : PoolCore P H) (f : Frame P H) → Can maker (ValidateComponent info) c f → Shows (ValidateComponent info) c f (validate_component_row info c (in_phase Idle f))
  validate_component_ready info c f can = tested_ready info (component_refused c.settings info) c f can refl

  -- It is counted.
  counted_ready : (b : Bool) (c : PoolCore P H) (f : Frame P H) → Can maker CountComponent c f → nat_lt c.counters.component_instances c.settings.max_component_instances ≡ b → Shows CountComponent c f (component_counted b c (in_phase Idle f))
  counted_ready true c f can is = record {
    kept = record { core = core_with_counters maker (record c.counters { component_instances = c.counters.component_instances + 1 }) c can.core; held = held_of maker c.settings c.plan (in_phase CountComponent f) can.frame; asked = refl; settings = refl; plan = refl; by_one = λ k. omega (arith, only_one k counted_component) };
    shape = (can.frame.shape, tt);
    even = λ w. omega arith;
    fewer = omega arith;
    way = ltb-true _ _ is;
    searched = λ s. tt;
  }
  counted_ready false c f can is = record {
    kept = record { core = core_with_counters maker (record c.counters { component_instances = c.counters.component_instances + 1 }) c can.core; held = held_of maker c.settings c.plan (in_phase CountComponent f) can.frame; asked = refl; settings = refl; plan = refl; by_one = λ k. omega (arith, only_one k counted_component) };
    shape = (refl, (can.frame.shape, refl));
    even = λ w. omega arith;
    fewer = omega arith;
    way = (refl, ltb-false _ _ is);
    searched = λ s. tt;
  }

  pub count_component_ready : (c : PoolCore P H) (f : Frame P H) → Can maker CountComponent c f → Shows CountComponent c f (count_component_row c (in_phase Idle f))
  count_component_ready c f can = counted_ready (nat_lt c.counters.component_instances c.settings.max_component_instances) c f can refl

  -- It is counted off.
  back_way : (c : PoolCore P H) (f : Frame P H) (e : Ending) → Goes maker old new c f (stage_back e) no_call (Some (answer_of e))
  back_way c f granted = tt
  back_way c f returned = tt
  back_way c f (refused x) = refl

  one_counted : (c : PoolCore P H) (f : Frame P H) → Can maker UncountComponent c f → 0 < c.counters.component_instances
  one_counted c f can = omega (arith, counted_fits c (in_phase UncountComponent f) can.fits (only counted_component))

  pub uncount_component_ready : (c : PoolCore P H) (f : Frame P H) → Can maker UncountComponent c f → Shows UncountComponent c f (uncount_component_row c (in_phase Idle f))
  uncount_component_ready c f can = record {
    kept = record { core = core_with_counters maker (record c.counters { component_instances = c.counters.component_instances - 1 }) c can.core; held = held_of maker c.settings c.plan (in_phase UncountComponent f) can.frame; asked = refl; settings = refl; plan = refl; by_one = λ k. omega (arith, one_less c.counters.component_instances (only k counted_component) (one_counted c f can)) };
    shape = (can.frame.shape.0, none_granted _ f.ending);
    even = λ w. omega (arith, none_counted {P = P} {H = H} (grant_weight w) f.ending, one_less c.counters.component_instances (w.counts counted_component) (one_counted c f can));
    fewer = omega arith;
    way = back_way c (in_phase UncountComponent f) f.ending;
    searched = λ s. tt;
  }

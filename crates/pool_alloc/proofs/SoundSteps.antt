-- A row of the table is a sound step.
use Rattle.pool_alloc.proofs.Imports.{MakerTold}
use Rattle.pool_alloc.specs.PartyTold.{PartyTold}
use Rattle.pool_alloc.specs.SoundSteps.{IsSoundStep}
use Rattle.pool_alloc.specs.Stepping.{CanStep, StepsTo}
use Rattle.pool_alloc.specs.Turns.{After}
use Rattle.pool_alloc.specs.declared.frame.Frame.{Frame}
use Rattle.pool_alloc.specs.declared.pool_core.PoolCore.{PoolCore}
use Rattle.pool_alloc.proofs.OneParts.{step_changes, step_spares}
use Rattle.pool_alloc.proofs.StepNeeds.{step_ok, same_size, can_still, step_grants, step_fewer}

pub sound_step : {P H : Type 0} (maker : MakerTold) (old new : PartyTold) (c : PoolCore P H) (f : Frame P H) (a : After P H) → CanStep maker c f → StepsTo old new c f a → IsSoundStep maker old new c f a
sound_step maker old new c f a can steps =
    let ok = step_ok maker old new c f a can steps in
    record {
      can = can_still maker old new c f a can steps;
      conserves = ok.conserves;
      part = step_changes c f a steps;
      size = same_size maker old new c f a can ok;
      spare = step_spares c f a steps;
      granted = step_grants maker old new c f a can steps;
      goes = ok.goes;
      searched = ok.searched;
      ended = ok.ends;
      fewer = step_fewer maker old new c f a can steps;
    }

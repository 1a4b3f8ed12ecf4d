-- What is known of a step of a call, all in one place.
use Rattle.std.proofs.Common.{◌≡◌, ◌+◌, ◌≤◌, false}
use Rattle.pool_run.proofs.Imports.{MakerTold, PartyTold, steps_left, IsGrantOf, IfGranted, IsSearched, IsCore, IsFrame, stage_of, GoesOn, is_idle, CanStep, StepsTo, Conserves, IsSameSize, After, PoolCore, Frame, step_ok, same_size, step_grants, step_fewer, PlainHeap}
use Rattle.pool_run.proofs.StageSteps.{IsStagedStep, staged}

module _ {P : Type 0} where
  pub record IsStepped (maker : MakerTold) (old new : PartyTold) (c : PoolCore P PlainHeap) (f : Frame P PlainHeap) (a : After P PlainHeap) : Type 0 where
    pub core : IsCore maker a.core
    pub frame : IsFrame maker a.core.settings a.core.plan a.frame
    pub goes : GoesOn maker old new c f a
    pub staged : IsStagedStep (stage_of f) (stage_of a.frame) a.outcome
    pub conserves : Conserves c f a
    pub size : IsSameSize c a.core
    pub searched : IsSearched c f → IsSearched a.core a.frame
    pub fewer : is_idle f.phase ≡ false → steps_left a.core a.frame + 1 ≤ steps_left c f
    pub granted : IfGranted (IsGrantOf maker c.settings c.plan f.asked) a.outcome

  pub stepped : (maker : MakerTold) (old new : PartyTold) (c : PoolCore P PlainHeap) (f : Frame P PlainHeap) (a : After P PlainHeap) → CanStep maker c f → StepsTo old new c f a → IsStepped maker old new c f a
  stepped maker old new c f a can by =
      let ok = step_ok maker old new c f a can by in
      record {
        core = ok.core;
        frame = ok.frame;
        goes = ok.goes;
        staged = staged maker old new c f (stage_of f) (stage_of a.frame) a.outcome ok.goes.way;
        conserves = ok.conserves;
        size = same_size maker old new c f a can ok;
        searched = ok.searched;
        fewer = step_fewer maker old new c f a can by;
        granted = step_grants maker old new c f a can by;
      }

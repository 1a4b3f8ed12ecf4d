-- What a step of a call keeps, and what it tells of how the call went on. All of it follows from the row that the step is, and from
-- what held before it.
use Rattle.std.specs.Prelude.{◌≡◌, ◌+◌, ◌≤◌, false}
use Rattle.pool_alloc.specs.Imports.{MakerTold}
use Rattle.pool_alloc.specs.StepBounds.{steps_left}
use Rattle.pool_alloc.specs.Calls.{IsGrantOf, IfGranted}
use Rattle.pool_alloc.specs.PartyTold.{PartyTold}
use Rattle.pool_alloc.specs.Searches.{IsSearched}
use Rattle.pool_alloc.specs.CallStages.{GoesOn}
use Rattle.pool_alloc.specs.Stepping.{CanStep, Conserves, EndsWith, IsSameSize, ChangesOnePart, is_idle}
use Rattle.pool_alloc.specs.Turns.{After}
use Rattle.pool_alloc.specs.declared.frame.Frame.{Frame}
use Rattle.pool_alloc.specs.declared.pool_core.PoolCore.{PoolCore}

-- A step keeps the pool sound: another step can follow, nothing is lost or made, one part changes at most, and the sizes and the
-- spare lists stay. A grant has what was asked for. The call went on as its stage lets it, keeps what it has
-- searched, answers exactly where it ends, and has fewer steps left.
pub record IsSoundStep {P H : Type 0} (maker : MakerTold) (old new : PartyTold) (c : PoolCore P H) (f : Frame P H) (a : After P H) : Type 0 where
  pub can : CanStep maker a.core a.frame
  pub conserves : Conserves c f a
  pub part : ChangesOnePart c a.core
  pub size : IsSameSize c a.core
  pub spare : a.core.spare ≡ c.spare
  pub granted : IfGranted (IsGrantOf maker c.settings c.plan f.asked) a.outcome
  pub goes : GoesOn maker old new c f a
  pub searched : IsSearched c f → IsSearched a.core a.frame
  pub ended : EndsWith c f a
  pub fewer : is_idle f.phase ≡ false → steps_left a.core a.frame + 1 ≤ steps_left c f

-- Replies come in time, whatever turns of others lie between.
use Rattle.std.specs.Prelude.{ℕ, List}
use Rattle.pool_pages.specs.MakerTold.{MakerTold}
use Rattle.pool_run.specs.Agreeing.{IsRunnable}
use Rattle.pool_run.specs.Folds.{RunParts, RunState, Folds, told_state}
use Rattle.pool_run.specs.Runs.{AreInTime, IsMadeRun}
use Rattle.pool_run.specs.RunsMade.{commands_in, nothing_told}
use Rattle.pool_run.specs.declared.input.Input.{Input}

-- From a run as it is made of an input, whatever turns of whatever parties come first and whatever turns come then: each party has its
-- replies in time in those that come then. So from the first turn of a command to its reply its party makes no more turns than the
-- command's bound.
abbrev pub RepliesComeInTime : Type 0 → Type 0
RepliesComeInTime P =
    (input : Input) (maker : MakerTold) → IsRunnable input maker → (run : RunParts P) → IsMadeRun input maker run → (first turns : List ℕ) (s end : RunState P)
    → Folds run.modules (commands_in input.parties) first (told_state run (nothing_told input.parties)) s
    → Folds run.modules (commands_in input.parties) turns s end
    → AreInTime input run.core turns s.replies end.replies

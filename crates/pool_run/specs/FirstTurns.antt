-- A run as it is made can make turns.
use Rattle.std.specs.Prelude.{◌≡◌, true}
use Rattle.pool_pages.specs.MakerTold.{MakerTold}
use Rattle.pool_run.specs.Agreeing.{IsRunnable}
use Rattle.pool_run.specs.Folds.{RunParts, told_state}
use Rattle.pool_run.specs.Progress.{IsRunOf}
use Rattle.pool_run.specs.Runs.{IsMadeRun, world_of}
use Rattle.pool_run.specs.RunsMade.{Background, commands_in, nothing_told}
use Rattle.pool_run.specs.Validity.{is_valid}
use Rattle.pool_run.specs.declared.input.Input.{Input}

-- what a run as it is made of the input is of
abbrev pub made_of : {P : Type 0} → Input → MakerTold → RunParts P → Background
made_of input maker run = record { world = world_of input maker; modules = run.modules; inputs = commands_in input.parties }

-- A run that was made of a valid input of which no rule is broken is what its first turn asks for.
abbrev pub MadeRunsTurn : Type 0 → Type 0
MadeRunsTurn P = (input : Input) (maker : MakerTold) → IsRunnable input maker → is_valid input ≡ true → (run : RunParts P) → IsMadeRun input maker run → IsRunOf (made_of input maker run) input.parties (told_state run (nothing_told input.parties))

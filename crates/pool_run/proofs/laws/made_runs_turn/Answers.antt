use Rattle.std.proofs.Common.{refl}
use Rattle.pool_run.specs.Folds.{told_state}
use Rattle.pool_run.specs.RunsMade.{nothing_told}
use Rattle.pool_run.proofs.InputsRun.{is_run_of}
use Rattle.pool_run.proofs.laws.made_runs_turn.Goals as goal

pub returns : goal.returns
returns g c input maker runnable valid run made = is_run_of input maker run (told_state run (nothing_told input.parties)) runnable valid made refl

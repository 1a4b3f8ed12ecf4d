-- Runs that were summed up.
use Rattle.std.specs.Prelude.{◌≡◌, ℕ, List, ◌++◌, String, string_bytes}
use Rattle.std.specs.declared.alloc.Global.{Global}
use Rattle.pool_pages.specs.MakerTold.{MakerTold}
use Rattle.pool_run.specs.Folds.{told_state}
use Rattle.pool_run.specs.Runs.{IsRun}
use Rattle.pool_run.specs.RunsMade.{commands_in, nothing_told}
use Rattle.pool_run.specs.Schedules.{turns_of}
use Rattle.pool_run.specs.Watching.{AreTurnsOfRun, Tells, TurnTold}
use Rattle.pool_run.specs.declared.input.Input.{Input}
use Rattle.pool_run.specs.declared.output.RunOutput.{RunOutput}
use Rattle.pool_view_summary.specs.Costs.{CostTurns}
use Rattle.pool_view_summary.specs.CostsText.{costs_text}
use Rattle.pool_view_summary.specs.Counts.{CountTurns}
use Rattle.pool_view_summary.specs.CountsText.{counts_text}
use Rattle.pool_view_summary.specs.declared.costs.Costs.{Costs}
use Rattle.pool_view_summary.specs.declared.counts.Counts.{Counts}

-- Counts and costs are those of all turns of a run of the input. The output is that of this run.
pub record IsSummedUp (P : Type 0) (input : Input) (maker : MakerTold) (output : RunOutput) (counts : Counts) (costs : Costs) : Type 0 where
  pub run : IsRun P input maker output
  pub turns : List ℕ
  pub order : AreTurnsOfRun input.finish (commands_in input.parties) (turns_of input.schedule) turns run.end
  pub told : List (TurnTold P)
  pub tells : Tells run.start.modules (commands_in input.parties) turns (told_state run.start (nothing_told input.parties)) run.end told
  pub counted : CountTurns input told counts
  pub cost : CostTurns input run.start.parties told costs

-- This is the text of counts and costs of a run of the input.
abbrev pub IsSummary : Type 0 → Input → MakerTold → String Global → Type 0
IsSummary P input maker text = (output : RunOutput) × (counts : Counts) × (costs : Costs) × IsSummedUp P input maker output counts costs × (string_bytes text ≡ counts_text counts ++ costs_text costs output)

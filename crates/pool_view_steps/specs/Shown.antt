-- Runs that were traced.
use Rattle.std.specs.Prelude.{◌≡◌, ℕ, true, List, Option, Some, None, IfSome}
use Rattle.pool_pages.specs.MakerTold.{MakerTold}
use Rattle.pool_types.specs.Rising.{Rose}
use Rattle.pool_forms.specs.Streams.{SinkTold, Wrote}
use Rattle.pool_run.specs.Folds.{told_state}
use Rattle.pool_run.specs.Runs.{IsRun, start_listed}
use Rattle.pool_run.specs.RunsMade.{commands_in, nothing_told}
use Rattle.pool_run.specs.Schedules.{turns_of}
use Rattle.pool_run.specs.Watching.{AreTurnsOfRun, Tells, TurnTold}
use Rattle.pool_run.specs.declared.input.Input.{Input}
use Rattle.pool_run.specs.declared.output.RunOutput.{RunOutput}
use Rattle.pool_view_steps.specs.Lines.{TraceText}
use Rattle.pool_view_steps.specs.declared.shown.ShowFault.{ShowFault}
use Rattle.pool_view_steps.specs.declared.shown.ShowFault.TheVariants.{Write, Memory, PageFault}
use Rattle.pool_view_steps.specs.declared.trace.TraceFault.{TraceFault}
use Rattle.pool_view_steps.specs.declared.trace.TraceFault.TheVariants as trace

-- The text is the lines of all turns of a run of the input, in order. The output is that of this run.
pub record IsTraced (P : Type 0) (input : Input) (maker : MakerTold) (output : RunOutput) (text : List ℕ) : Type 0 where
  pub run : IsRun P input maker output
  pub turns : List ℕ
  pub order : AreTurnsOfRun input.finish (commands_in input.parties) (turns_of input.schedule) turns run.end
  pub told : List (TurnTold P)
  pub tells : Tells run.start.modules (commands_in input.parties) turns (told_state run.start (nothing_told input.parties)) run.end told
  pub lines : TraceText input 0 told text

-- What kept a trace from going on, as the answer of who shows a run.
abbrev pub shown_by : Option TraceFault → Option ShowFault
shown_by None = None
shown_by (Some trace.Write) = Some Write
shown_by (Some trace.Memory) = Some Memory

-- Something that is made before the first turn couldn't be made: where the maker tells which calls fail, one of those is listed.
abbrev pub IsUnmade : Input → MakerTold → Type 0
IsUnmade input maker = IfSome maker.plan (λ plan. start_listed input plan ≡ true)

-- What a trace of a run writes, by how it ends.
abbrev pub TracesTo : Type 0 → Input → MakerTold → SinkTold → SinkTold → Option ShowFault → Type 0
TracesTo P input maker old new None = (output : RunOutput) × (text : List ℕ) × IsTraced P input maker output text × Wrote text old new
TracesTo P input maker old new (Some Write) = Rose old.faults new.faults
TracesTo P input maker old new (Some Memory) = (text : List ℕ) × Wrote text old new
TracesTo P input maker old new (Some PageFault) = (new ≡ old) × IsUnmade input maker

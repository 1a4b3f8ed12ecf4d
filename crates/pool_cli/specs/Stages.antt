-- How the steps of the program end, before and as it writes. These are the contracts of its private functions: what a
-- caller of the program is promised stands in `Statuses`.
use Rattle.std.specs.Prelude.{◌≡◌, ℕ, List, ◌⊎◌, Result, Ok, Err, true, String, string_bytes}
use Rattle.std.specs.declared.alloc.Global.{Global}
use Rattle.pool_pages.specs.MakerTold.{MakerTold}
use Rattle.pool_pages.specs.Told.{Told}
use Rattle.pool_types.specs.declared.bad_config.BadConfig.{BadConfig}
use Rattle.pool_cli.specs.Lines.{config_line, line_of}
use Rattle.pool_forms.specs.Reading.{Reading}
use Rattle.pool_cli.specs.Statuses.{Format, HasRead, HasDone, HasFaulted, Fails, WroteBadConfig, WroteLess, WroteOutput, reads_input}
use Rattle.pool_forms.specs.Streams.{SourceTold, SinkTold, ReadWhole, Wrote, WrotePart}
use Rattle.pool_run.specs.declared.output.RunFault.{RunFault}
use Rattle.pool_run.specs.declared.output.RunFault.TheVariants as run
use Rattle.pool_forms.specs.declared.json_input.InputFault.{InputFault}
use Rattle.pool_forms.specs.declared.json_input.InputFault.TheVariants as fault
use Rattle.pool_cli.specs.declared.failure.Failure.{Failure}
use Rattle.pool_cli.specs.declared.failure.Failure.TheVariants as failure
use Rattle.pool_cli.specs.declared.status.Status.{Status}
use Rattle.pool_cli.specs.declared.status.Status.TheVariants.{Ok as Success, BadUsage, BadInput, BadConfig as BadSettings, PageFault, ReadFault, WriteFault, NoMemory, TooLong}
use Rattle.pool_cli.specs.declared.words.Task.{Task}
use Rattle.pool_cli.specs.declared.words.Task.TheVariants.{Load}

-- the bytes were read, or each task that reads an input fails, and not for a making
abbrev pub ReadsBytes : SourceTold → SourceTold → Result (List ℕ) Failure → Type 0
ReadsBytes source_old source_new (Ok bytes) = ReadWhole bytes source_old source_new
ReadsBytes source_old source_new (Err failure) = (task : Task) → reads_input task ≡ true → Fails ⊥ task failure source_old source_new

-- an input was read that fits, or the program fails, and not for a making
abbrev pub ReadsInput : {X : Type 0} → Task → Format X → (X → Reading X) → SourceTold → SourceTold → Result X Failure → Type 0
ReadsInput task f of_fit source_old source_new (Ok input) = HasRead f (of_fit input) source_old source_new
ReadsInput task f of_fit source_old source_new (Err failure) = Fails ⊥ task failure source_old source_new

-- settings are refused with this error, unless memory ran out
abbrev pub Refuses : BadConfig → Failure → Type 0
Refuses error failure.BadUsage = ⊥
Refuses error failure.BadInput = ⊥
Refuses error (failure.BadConfig line) = string_bytes line ≡ config_line error
Refuses error failure.PageFault = ⊥
Refuses error failure.ReadFault = ⊥
Refuses error failure.NoMemory = Unit {0}
Refuses error failure.TooLong = ⊥

-- what a text that isn't read as an input ends the program with
abbrev pub input_failure : InputFault → Failure
input_failure fault.Invalid = failure.BadInput
input_failure fault.Memory = failure.NoMemory

-- the failure of a run that isn't made
abbrev pub IsRunFailure : RunFault → Failure → Type 0
IsRunFailure run.BadInput f = f ≡ failure.BadInput
IsRunFailure (run.BadConfig error) f = Refuses error f
IsRunFailure run.PageFault f = f ≡ failure.PageFault
IsRunFailure run.Memory f = f ≡ failure.NoMemory

-- the text of the output, or why there is none
abbrev pub Prepares : {P : Type 0} → (P → Told) → Task → SourceTold → SourceTold → MakerTold → MakerTold → Result (String Global) Failure → Type 0
Prepares {P = P} told task source_old source_new maker_old maker_new (Ok text) = HasDone P task (string_bytes text) source_old source_new maker_old maker_new
Prepares told task source_old source_new maker_old maker_new (Err failure) = Fails (HasFaulted told task source_old source_new maker_old maker_new) task failure source_old source_new

-- The text of the output of a load, or why there is none; whatever the source, nothing is read of it.
abbrev pub PreparesLoad : {P : Type 0} → (P → Told) → ℕ → MakerTold → MakerTold → Result (String Global) Failure → Type 0
PreparesLoad told seed maker_old maker_new result = (source : SourceTold) → Prepares told (Load seed) source source maker_old maker_new result

-- the text was written and the status stays, or a write failed
abbrev pub WritesText : Status → List ℕ → SinkTold → SinkTold → Status → Type 0
WritesText status text sink_old sink_new result = ((result ≡ status) × Wrote text sink_old sink_new) ⊎ ((result ≡ WriteFault) × WrotePart text sink_old sink_new)

-- there is no output for this cause, and its line was written, all of it
abbrev pub WroteLine : {P : Type 0} → (P → Told) → Task → Failure → SourceTold → SourceTold → SinkTold → SinkTold → MakerTold → MakerTold → Type 0
WroteLine told task cause source_old source_new sink_old sink_new maker_old maker_new =
    Fails (HasFaulted told task source_old source_new maker_old maker_new) task cause source_old source_new × Wrote (line_of cause) sink_old sink_new

-- how the program ends
abbrev pub Ends : {P : Type 0} → (P → Told) → Task → Status → SourceTold → SourceTold → SinkTold → SinkTold → MakerTold → MakerTold → Type 0
Ends {P = P} told task Success source_old source_new sink_old sink_new maker_old maker_new = WroteOutput P task source_old source_new sink_old sink_new maker_old maker_new
Ends told task WriteFault source_old source_new sink_old sink_new maker_old maker_new = WroteLess told task source_old source_new sink_old sink_new maker_old maker_new
Ends told task BadSettings source_old source_new sink_old sink_new maker_old maker_new = WroteBadConfig task source_old source_new sink_old sink_new
Ends told task BadUsage source_old source_new sink_old sink_new maker_old maker_new = WroteLine told task failure.BadUsage source_old source_new sink_old sink_new maker_old maker_new
Ends told task BadInput source_old source_new sink_old sink_new maker_old maker_new = WroteLine told task failure.BadInput source_old source_new sink_old sink_new maker_old maker_new
Ends told task PageFault source_old source_new sink_old sink_new maker_old maker_new = WroteLine told task failure.PageFault source_old source_new sink_old sink_new maker_old maker_new
Ends told task ReadFault source_old source_new sink_old sink_new maker_old maker_new = WroteLine told task failure.ReadFault source_old source_new sink_old sink_new maker_old maker_new
Ends told task NoMemory source_old source_new sink_old sink_new maker_old maker_new = WroteLine told task failure.NoMemory source_old source_new sink_old sink_new maker_old maker_new
Ends told task TooLong source_old source_new sink_old sink_new maker_old maker_new = WroteLine told task failure.TooLong source_old source_new sink_old sink_new maker_old maker_new

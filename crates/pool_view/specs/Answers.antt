-- What the program writes about an input, and how it ends.
use Rattle.std.specs.Prelude.{◌≡◌, ◌↔◌, ◌⊎◌, ◌≤◌, ◌<◌, ℕ, List, ◌++◌, length, codes, Bool, true, false, Option, Some, None, Result, Ok, Err, String, string_bytes}
use Rattle.std.specs.declared.alloc.Global.{Global}
use Rattle.std.specs.declared.alloc.AllocError.{AllocError}
use Rattle.pool_types.specs.Rising.{Rose}
use Rattle.pool_pages.specs.declared.failing.Failing.{Failing}
use Rattle.pool_pages.specs.declared.made_region.MadeRegion.{MadeRegion}
use Rattle.pool_pages.specs.MemoryTold.{memory_maker}
use Rattle.pool_forms.specs.Output.{line_feed}
use Rattle.pool_forms.specs.Streams.{SourceTold, SinkTold, ReadWhole, ReadTooMuch, Wrote, WrotePart, most_input}
use Rattle.pool_run.specs.Runs.{with_faults}
use Rattle.pool_run.specs.declared.input.Input.{Input}
use Rattle.pool_run.specs.declared.output.RunOutput.{RunOutput}
use Rattle.pool_view_steps.specs.Shown.{IsTraced, IsUnmade}
use Rattle.pool_view_steps.specs.declared.shown.ShowFault.{ShowFault}
use Rattle.pool_view_steps.specs.declared.shown.ShowFault.TheVariants.{Write as Failed, Memory as Exhausted, PageFault as Unmade}
use Rattle.pool_view_summary.specs.CostsText.{costs_text}
use Rattle.pool_view_summary.specs.CountsText.{counts_text}
use Rattle.pool_view_summary.specs.Shown.{IsSummedUp}
use Rattle.pool_view_summary.specs.declared.costs.Costs.{Costs}
use Rattle.pool_view_summary.specs.declared.counts.Counts.{Counts}
use Rattle.pool_view.specs.Findings.{Finding, IsInputOf, can_run, no_input, breaks_rule, finding, shared_finding, status_of}
use Rattle.pool_view.specs.declared.answer.Answer.{Answer}
use Rattle.pool_view.specs.declared.status.Status.{Status}
use Rattle.pool_view.specs.declared.status.Status.TheVariants.{Ok as Success, BadUsage, BadInput, BadConfig as BadSettings, PageFault, ReadFault, WriteFault, NoMemory, TooLong}
use Rattle.pool_view.specs.declared.words.Question.{Question}
use Rattle.pool_view.specs.declared.words.Question.TheVariants.{Check, CheckShared, Explain, Trace, Summary, Chart}

-- the line of an input that can be run
abbrev pub ok_line : List ℕ
ok_line = codes "ok" ++ line_feed

-- the line of a problem: its place and its cause
abbrev pub problem_line : List ℕ → List ℕ → List ℕ
problem_line place cause = place ++ codes ": " ++ cause ++ line_feed

-- what is written where the words are none that the program has
abbrev pub usage_line : List ℕ
usage_line = codes "usage: check | check on-demand | check shared | explain | trace | summary | chart, with the input as standard input" ++ line_feed

-- what is written where the input is too long
abbrev pub too_long_line : List ℕ
too_long_line = codes "input: more than 67108864 bytes" ++ line_feed

-- the line of an input of which a region or an image can't be made
abbrev pub page_fault_line : List ℕ
page_fault_line = codes "faults: the making of a region or of an image fails" ++ line_feed

-- The status is that of what was found, and the line `ok` is the answer exactly to an input that can be run.
pub record Says (f : Finding) (text : List ℕ) (ends : Status) : Type 0 where
  pub status : ends ≡ status_of f
  pub ok : (text ≡ ok_line) ↔ (f ≡ can_run)

-- What the bytes are found to be, by what is asked about them.
abbrev pub finding_for : Question → List ℕ → Finding
finding_for CheckShared bytes = shared_finding bytes
finding_for _ bytes = finding bytes

-- The input is run to answer the question.
abbrev pub runs : Question → Bool
runs Trace = true
runs Summary = true
runs Chart = true
runs _ = false

-- The answer is written as the input is run.
abbrev pub streams : Question → Bool
streams Trace = true
streams _ = false

-- Something for a run of the input that the bytes are can't be made: the input lists the failure of a making.
abbrev pub IsUnmadeOf : List ℕ → Type 0
IsUnmadeOf bytes = (input : Input) × IsInputOf bytes input × IsUnmade input (with_faults input (memory_maker input.page 0))

-- An answer that a run gives, where the input can be run: what is to be shown of the run, or that something for it can't be made.
abbrev pub ShowsRun : (List ℕ → Type 0) → List ℕ → List ℕ → Status → Type 0
ShowsRun Shows bytes text Success = (finding bytes ≡ can_run) × Shows text
ShowsRun Shows bytes text PageFault = (finding bytes ≡ can_run) × IsUnmadeOf bytes × (text ≡ page_fault_line)
ShowsRun Shows bytes text status = status ≡ status_of (finding bytes)

-- The text is the lines of a run of the input that the bytes are, one for each turn.
abbrev pub IsTraceOf : List ℕ → List ℕ → Type 0
IsTraceOf bytes text = (input : Input) × (output : RunOutput) × IsInputOf bytes input × IsTraced (Failing MadeRegion) input (with_faults input (memory_maker input.page 0)) output text

-- The text is that of the counts and the costs of a run of the input that the bytes are.
abbrev pub IsSummaryOf : List ℕ → List ℕ → Type 0
IsSummaryOf bytes text =
    (input : Input) × (output : RunOutput) × (counts : Counts) × (costs : Costs) × IsInputOf bytes input × IsSummedUp (Failing MadeRegion) input (with_faults input (memory_maker input.page 0)) output counts costs × (text ≡ counts_text counts ++ costs_text costs output)

-- nothing is said of a picture
abbrev pub IsPicture : List ℕ → Type 0
IsPicture text = Unit {0}

-- this answers the question about the bytes
abbrev pub IsAnswer : Question → List ℕ → List ℕ → Status → Type 0
IsAnswer Check bytes text status = Says (finding bytes) text status
IsAnswer CheckShared bytes text status = Says (shared_finding bytes) text status
IsAnswer Explain bytes text status = status ≡ status_of (finding bytes)
IsAnswer Trace bytes text status = ShowsRun (IsTraceOf bytes) bytes text status
IsAnswer Summary bytes text status = ShowsRun (IsSummaryOf bytes) bytes text status
IsAnswer Chart bytes text status = ShowsRun IsPicture bytes text status

-- the status is one of an input that was read
abbrev pub is_of_input : Status → Bool
is_of_input Success = true
is_of_input BadInput = true
is_of_input BadSettings = true
is_of_input PageFault = true
is_of_input _ = false

-- A question is asked, the source was read to its end, and the answer about its bytes was written, all of it.
pub record HasAnswered (asked : Option Question) (status : Status) (source_old source_new : SourceTold) (sink_old sink_new : SinkTold) : Type 0 where
  pub question : Question
  pub asks : asked ≡ Some question
  pub bytes : List ℕ
  pub whole : ReadWhole bytes source_old source_new
  pub text : List ℕ
  pub is : IsAnswer question bytes text status
  pub wrote : Wrote text sink_old sink_new

-- A fault of the source or of the sink, or want of memory, stands in the way; or, where the input is run, a making that fails.
abbrev pub IsHindrance : Question → Status → Type 0
IsHindrance question status = (status ≡ ReadFault) ⊎ (status ≡ WriteFault) ⊎ (status ≡ NoMemory) ⊎ ((status ≡ PageFault) × (runs question ≡ true))

-- What was written where there was no memory for an answer: nothing, or so much of a trace.
abbrev pub LeftAt : Question → SinkTold → SinkTold → Type 0
LeftAt Trace sink_old sink_new = (text : List ℕ) × Wrote text sink_old sink_new
LeftAt _ sink_old sink_new = sink_new ≡ sink_old

-- the status is the one that the bytes lead to, or a hindrance
pub record FollowsBytes (status : Status) (bytes : List ℕ) (question : Question) : Type 0 where
  pub short : length bytes ≤ most_input → (status ≡ status_of (finding_for question bytes)) ⊎ IsHindrance question status
  pub long : most_input < length bytes → (status ≡ TooLong) ⊎ IsHindrance question status

-- The text was written and the status stays, or a write failed. The contract of a private function.
abbrev pub WritesText : Status → List ℕ → SinkTold → SinkTold → Status → Type 0
WritesText status text sink_old sink_new result =
    ((result ≡ status) × Wrote text sink_old sink_new) ⊎ ((result ≡ WriteFault) × WrotePart text sink_old sink_new)

-- An answer that was made is written, or there was no memory for it. The contract of a private function.
abbrev pub WritesMade : Result Answer AllocError → SinkTold → SinkTold → Status → Type 0
WritesMade (Ok a) sink_old sink_new result = WritesText a.status (string_bytes a.text) sink_old sink_new result
WritesMade (Err e) sink_old sink_new result = (result ≡ NoMemory) × (sink_new ≡ sink_old)

-- How a trace ends that this kept from going on, if something did. The contract of a private function.
abbrev pub EndsTrace : Option ShowFault → SinkTold → SinkTold → Status → Type 0
EndsTrace None sink_old sink_new result = (result ≡ Success) × (sink_new ≡ sink_old)
EndsTrace (Some Failed) sink_old sink_new result = (result ≡ WriteFault) × (sink_new ≡ sink_old)
EndsTrace (Some Exhausted) sink_old sink_new result = (result ≡ NoMemory) × (sink_new ≡ sink_old)
EndsTrace (Some Unmade) sink_old sink_new result = WritesText PageFault page_fault_line sink_old sink_new result

-- The answer has this text, or says that something can't be made. The contract of a private function.
abbrev pub ShownAs : Result (String Global) ShowFault → Answer → Type 0
ShownAs (Ok text) a = (a.text ≡ text) × (a.status ≡ Success)
ShownAs (Err Unmade) a = (string_bytes a.text ≡ page_fault_line) × (a.status ≡ PageFault)
ShownAs (Err other) a = ⊥

-- The answer to what was found to be no input that can be run.
pub record RefusesAs (f : Finding) (text : List ℕ) (status : Status) : Type 0 where
  pub says : Says f text status
  pub cause : (f ≡ no_input) ⊎ (f ≡ breaks_rule)

-- An answer to the question about the bytes was written; or a part of it, until a write failed; or there was no memory for it. The
-- contract of a private function.
abbrev pub WritesAnswer : Question → List ℕ → SinkTold → SinkTold → Status → Type 0
WritesAnswer question bytes sink_old sink_new result =
    ((text : List ℕ) × IsAnswer question bytes text result × Wrote text sink_old sink_new)
    ⊎ ((result ≡ WriteFault) × Rose sink_old.faults sink_new.faults)
    ⊎ ((result ≡ NoMemory) × LeftAt question sink_old sink_new)

-- How the program ends, by its status. The contract of a private function.
abbrev pub Ends : Option Question → Status → SourceTold → SourceTold → SinkTold → SinkTold → Type 0
Ends asked Success source_old source_new sink_old sink_new = HasAnswered asked Success source_old source_new sink_old sink_new
Ends asked BadInput source_old source_new sink_old sink_new = HasAnswered asked BadInput source_old source_new sink_old sink_new
Ends asked BadSettings source_old source_new sink_old sink_new = HasAnswered asked BadSettings source_old source_new sink_old sink_new
Ends asked PageFault source_old source_new sink_old sink_new = HasAnswered asked PageFault source_old source_new sink_old sink_new
Ends asked BadUsage source_old source_new sink_old sink_new = (asked ≡ None) × (source_new ≡ source_old) × Wrote usage_line sink_old sink_new
Ends asked ReadFault source_old source_new sink_old sink_new = (question : Question) × (asked ≡ Some question) × Rose source_old.faults source_new.faults × (sink_new ≡ sink_old)
Ends asked WriteFault source_old source_new sink_old sink_new = Rose sink_old.faults sink_new.faults
Ends asked NoMemory source_old source_new sink_old sink_new = (question : Question) × (asked ≡ Some question) × LeftAt question sink_old sink_new
Ends asked TooLong source_old source_new sink_old sink_new = (question : Question) × (asked ≡ Some question) × ReadTooMuch source_old source_new × Wrote too_long_line sink_old sink_new

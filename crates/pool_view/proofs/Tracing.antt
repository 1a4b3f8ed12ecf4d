-- How a trace ends, and how answers are written.
use Rattle.std.proofs.Common.{◌≡◌, ℕ, List, [], Bool, true, false, Option, Some, None, Result, Ok, Err, refl, sym, subst, inl, inr, IfOk, string_bytes}
use Rattle.std.specs.declared.alloc.AllocError.{AllocError}
use Rattle.pool_types.specs.Rising.{Rose}
use Rattle.pool_pages.specs.MemoryTold.{memory_maker}
use Rattle.pool_pages.specs.declared.failing.Failing.{Failing}
use Rattle.pool_pages.specs.declared.made_region.MadeRegion.{MadeRegion}
use Rattle.pool_forms.specs.Streams.{SinkTold, Wrote}
use Rattle.pool_run.specs.Runs.{with_faults}
use Rattle.pool_run.specs.declared.input.Input.{Input}
use Rattle.pool_view_steps.proofs.Printing.{wrote_same}
use Rattle.pool_view_steps.specs.Shown.{TracesTo}
use Rattle.pool_view_steps.specs.declared.shown.ShowFault.{ShowFault}
use Rattle.pool_view_steps.specs.declared.shown.ShowFault.TheVariants.{Write as Failed, Memory as Exhausted, PageFault as Unmade}
use Rattle.pool_view.specs.Answers.{EndsTrace, IsAnswer, IsTraceOf, LeftAt, RefusesAs, ShowsRun, WritesAnswer, WritesMade, WritesText, page_fault_line, streams}
use Rattle.pool_view.specs.Findings.{Finding, IsInputOf, can_run, finding}
use Rattle.pool_view.specs.declared.answer.Answer.{Answer}
use Rattle.pool_view.specs.declared.status.Status.{Status}
use Rattle.pool_view.specs.declared.status.Status.TheVariants.{Ok as Success, PageFault, WriteFault, NoMemory}
use Rattle.pool_view.specs.declared.words.Question.{Question}
use Rattle.pool_view.specs.declared.words.Question.TheVariants.{Check, CheckShared, Explain, Trace, Summary, Chart}
use Rattle.pool_view.proofs.Saying.{shows_refused}

-- A text of an answer was written, or a part of it.
written : (question : Question) (bytes text : List ℕ) (status : Status) (old new : SinkTold) (result : Status) → IsAnswer question bytes text status → WritesText status text old new result → WritesAnswer question bytes old new result
written question bytes text status old new result is writes =
    elim writes [
      | inl all ↦ let S : Status → Type 0 = λ s. IsAnswer question bytes text s in inl (text, subst S (sym all.0) is, all.1)
      | inr less ↦ inr (inl (less.0, less.1.faults))
    ]

-- a trace of an input that can be run ends so
pub trace_ends : (bytes : List ℕ) (input : Input) (f : Option ShowFault) (old mid new : SinkTold) (result : Status) → IsInputOf bytes input → finding bytes ≡ can_run → TracesTo (Failing MadeRegion) input (with_faults input (memory_maker input.page 0)) old mid f → EndsTrace f mid new result → WritesAnswer Trace bytes old new result
trace_ends bytes input None old mid new result of can traced ends =
    let At : SinkTold → Type 0 = λ s. Wrote traced.1 old s in
    let S : Status → Type 0 = λ s. ShowsRun (IsTraceOf bytes) bytes traced.1 s in
    inl (traced.1, subst S (sym ends.0) (can, (input, traced.0, of, traced.2)), subst At (sym ends.1) traced.3)
trace_ends bytes input (Some Failed) old mid new result of can traced ends = let R : SinkTold → Type 0 = λ s. Rose old.faults s.faults in inr (inl (ends.0, subst R (sym ends.1) traced))
trace_ends bytes input (Some Exhausted) old mid new result of can traced ends = let At : SinkTold → Type 0 = λ s. Wrote traced.0 old s in inr (inr (ends.0, (traced.0, subst At (sym ends.1) traced.1)))
trace_ends bytes input (Some Unmade) old mid new result of can traced ends =
    let From : SinkTold → Type 0 = λ s. WritesText PageFault page_fault_line s new result in
    written Trace bytes page_fault_line PageFault old new result (can, (input, of, traced.1), refl) (subst From traced.0 ends)

left_same : (question : Question) (old new : SinkTold) → streams question ≡ false → new ≡ old → LeftAt question old new
left_same Check old new whole same = same
left_same CheckShared old new whole same = same
left_same Explain old new whole same = same
left_same Trace old new whole same = cc
left_same Summary old new whole same = same
left_same Chart old new whole same = same

-- an answer that is made whole is written
pub whole_written : (question : Question) (bytes : List ℕ) (answer : Result Answer AllocError) (old new : SinkTold) (result : Status) → streams question ≡ false → IfOk answer (λ a. IsAnswer question bytes (string_bytes a.text) a.status) → WritesMade answer old new result → WritesAnswer question bytes old new result
whole_written question bytes (Ok a) old new result whole is writes = written question bytes (string_bytes a.text) a.status old new result is writes
whole_written question bytes (Err e) old new result whole is writes = inr (inr (writes.0, left_same question old new whole writes.1))

-- only a trace is written as the input is run
pub is_trace : (question : Question) (bytes : List ℕ) (old new : SinkTold) (result : Status) → streams question ≡ true → WritesAnswer Trace bytes old new result → WritesAnswer question bytes old new result
is_trace Check bytes old new result is writes = cc
is_trace CheckShared bytes old new result is writes = cc
is_trace Explain bytes old new result is writes = cc
is_trace Trace bytes old new result is writes = writes
is_trace Summary bytes old new result is writes = cc
is_trace Chart bytes old new result is writes = cc

-- the answer where there is no input to trace is written
pub refused_written : (bytes : List ℕ) (answer : Result Answer AllocError) (old new : SinkTold) (result : Status) → IfOk answer (λ a. ShowsRun (IsTraceOf bytes) bytes (string_bytes a.text) a.status) → WritesMade answer old new result → WritesAnswer Trace bytes old new result
refused_written bytes (Ok a) old new result is writes = written Trace bytes (string_bytes a.text) a.status old new result is writes
refused_written bytes (Err e) old new result is writes = inr (inr (writes.0, ([], wrote_same old new writes.1)))

use Rattle.std.proofs.lemmas.Result.{IfOk-weaker}
use Rattle.pool_view.proofs.Saying.{shows_refused}
use Rattle.pool_view.proofs.Tracing.{refused_written, trace_ends}
use Rattle.pool_view.specs.Answers.{IsTraceOf}
use Rattle.pool_view.specs.Findings.{finding}
use Rattle.pool_view.proofs.runs.trace.Goals as goal

pub returns-in-Err : goal.returns-in-Err
returns-in-Err g c =
    refused_written c.args.bytes.now c.refused.result _ _ c.write_made.result
    (IfOk-weaker c.refused.result _ _ (λ a refuses. shows_refused (IsTraceOf c.args.bytes.now) c.args.bytes.now _ a.status (refuses (finding c.args.bytes.now) c.in-Err.ensures.finds)) c.refused.ensures)
    c.write_made.ensures

pub returns-in-Ok : goal.returns-in-Ok
returns-in-Ok g c = trace_ends c.args.bytes.now c.in-Ok.input c.trace_of-fault.result _ _ _ c.end_trace.result c.in-Ok.ensures.of c.in-Ok.ensures.finds c.trace_of-fault.ensures c.end_trace.ensures

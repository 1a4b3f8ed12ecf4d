use Rattle.std.proofs.Common.{sym, ◌∙◌}
use Rattle.pool_view.proofs.Tracing.{is_trace}
use Rattle.pool_view.proofs.view_main.write_answer.Goals as goal

pub returns-then-streams : goal.returns-then-streams
returns-then-streams g c = is_trace c.args.question c.args.bytes.now _ _ c.trace.result (sym c.streams.ensures ∙ c.if-streams.true) c.trace.ensures

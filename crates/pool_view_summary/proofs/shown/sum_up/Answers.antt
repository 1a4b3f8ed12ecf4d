use Rattle.std.proofs.lemmas.Result.{IfOk-weaker}
use Rattle.pool_run.specs.Runs.{with_faults}
use Rattle.pool_view_summary.proofs.SummedUp.{summary_of}
use Rattle.pool_view_summary.proofs.shown.sum_up.Goals as goal

pub returns-in-Ok-run_watched-clause-ok : goal.returns-in-Ok-run_watched-clause-ok
returns-in-Ok-run_watched-clause-ok g c =
    IfOk-weaker c.summary_text.result _ _
    (λ text has. summary_of c.args.input.now (with_faults c.args.input.now (g.M.PageMaker.told c.args.pages.now)) _ _ c.run_watched.new.watcher text c.in-Ok.ensures.counts c.in-Ok.ensures.sums c.in-Ok.ensures.seen c.in-Ok-run_watched.ensures.watched has)
    c.summary_text.ensures.ok

use Rattle.std.proofs.Common.{ap, Err}
use Rattle.pool_run.specs.Runs.{with_faults}
use Rattle.pool_view_steps.proofs.Printing.{traced_from, nothing_traced_from}
use Rattle.pool_view_steps.proofs.shown.trace_run.Goals as goal

pub returns-in-Ok : goal.returns-in-Ok
returns-in-Ok g c =
    traced_from g.K.Sink.told c.args.input.now (with_faults c.args.input.now (g.M.PageMaker.told c.args.pages.now)) _ c.args.printer.now c.begin.new.self c.run_watched.new.watcher c.fault.result c.shown_by.result
    c.begin.ensures c.in-Ok.ensures.watched c.fault.ensures c.shown_by.ensures

pub returns-in-Err : goal.returns-in-Err
returns-in-Err g c =
    nothing_traced_from g.K.Sink.told _ c.args.input.now (g.M.PageMaker.told c.args.pages.now) _ c.fault_of_run.result c.args.printer.now c.begin.new.self c.run_watched.new.watcher
    c.begin.ensures c.in-Err.ensures.untold c.fault_of_run.ensures.which (λ is. c.in-Err.ensures.fault (ap Err (c.fault_of_run.ensures.unmade is)))

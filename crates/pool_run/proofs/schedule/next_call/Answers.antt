use Rattle.pool_run.specs.Watching.{WatchesSome}
use Rattle.pool_run.proofs.Watched.{some_none, some_more, some_on}
use Rattle.pool_run.proofs.schedule.next_call.Goals as goal

pub returns-clause-watched : goal.returns-clause-watched
returns-clause-watched g c =
    let Leads = g.W.Watcher.leads c.args.input.now in
    let first : WatchesSome Leads g.of.modules g.of.inputs c.args.i c.args.run.now c.turn.new.self c.args.watcher.now c.turn.new.watcher =
    some_more Leads g.of.modules g.of.inputs c.args.i c.args.run.now c.args.run.now c.turn.new.self c.args.watcher.now c.args.watcher.now c.turn.new.watcher (some_none Leads g.of.modules g.of.inputs c.args.i c.args.run.now c.args.watcher.now) c.requires.1.1.1.1.1 c.turn.ensures.told in
    some_on Leads g.of.modules g.of.inputs c.args.i c.args.run.now c.turn.new.self c.end_call.new.run c.args.watcher.now c.turn.new.watcher c.end_call.new.watcher first c.end_call.ensures.watched

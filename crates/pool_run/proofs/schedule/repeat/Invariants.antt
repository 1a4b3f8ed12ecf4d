use Rattle.std.proofs.Common.{replicate}
use Rattle.pool_run.specs.Progress.{IsRunOf}
use Rattle.pool_run.specs.Watching.{Watches}
use Rattle.pool_run.proofs.schedule.repeat.Given as goal

abbrev pub ghost-turn : goal.ghost-turn
ghost-turn g a = record { of = g.of; told = a.self.now.replies }

-- the turns so far
abbrev pub invariant-loop-turn : goal.invariant-loop-turn
invariant-loop-turn g l = record {
  watched : Watches (g.W.Watcher.leads l.input) g.of.modules g.of.inputs (replicate l.turn l.i) l.fn.run l.run l.fn.watcher l.watcher;
  run : IsRunOf g.of l.input.parties l.run;
}

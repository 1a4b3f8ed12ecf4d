use Rattle.pool_run.specs.Progress.{IsRunOf}
use Rattle.pool_run.proofs.Watched.{WatchesBelow}
use Rattle.pool_run.proofs.schedule.finish.Given as goal

abbrev pub ghost-finish_party : goal.ghost-finish_party
ghost-finish_party g a = g.of

-- the parties so far have nothing left
abbrev pub invariant-loop-i : goal.invariant-loop-i
invariant-loop-i g l = record {
  finishes : WatchesBelow (g.W.Watcher.leads l.input) g.of.modules g.of.inputs l.i l.fn.run l.run l.fn.watcher l.watcher;
  run : IsRunOf g.of l.input.parties l.run;
}

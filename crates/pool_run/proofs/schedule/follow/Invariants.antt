use Rattle.std.proofs.Common.{take}
use Rattle.pool_run.specs.Progress.{IsRunOf}
use Rattle.pool_run.specs.Schedules.{turns_of}
use Rattle.pool_run.specs.Watching.{Watches}
use Rattle.pool_run.proofs.schedule.follow.Given as goal

abbrev pub ghost-repeat : goal.ghost-repeat
ghost-repeat g a = g.of

-- the turns of the entries so far
abbrev pub invariant-loop-at : goal.invariant-loop-at
invariant-loop-at g l = record {
  watched : Watches (g.W.Watcher.leads l.input) g.of.modules g.of.inputs (turns_of (take l.at l.schedule)) l.fn.run l.run l.fn.watcher l.watcher;
  run : IsRunOf g.of l.input.parties l.run;
}

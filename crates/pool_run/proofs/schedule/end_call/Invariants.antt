use Rattle.std.proofs.Common.{◌≡◌, slice_get}
use Rattle.pool_run.specs.Progress.{calls_begun, turns_left, IsRunOf}
use Rattle.pool_run.specs.Watching.{WatchesSome}
use Rattle.pool_run.proofs.schedule.end_call.Given as goal

abbrev pub ghost-turn : goal.ghost-turn
ghost-turn g a = record { of = g.of; told = a.self.now.replies }

-- some turns so far, and no call more
abbrev pub invariant-loop-alloc : goal.invariant-loop-alloc
invariant-loop-alloc g l = record {
  watched : WatchesSome (g.W.Watcher.leads l.input) g.of.modules g.of.inputs l.i l.fn.run l.run l.fn.watcher l.watcher;
  run : IsRunOf g.of l.input.parties l.run;
  begun : calls_begun (slice_get l.run.parties l.i) ≡ calls_begun (slice_get l.fn.run.parties l.i);
}

-- at most how many turns are left
abbrev pub decreases-loop-alloc : goal.decreases-loop-alloc
decreases-loop-alloc g l = turns_left l.run.core (slice_get l.run.parties l.i)

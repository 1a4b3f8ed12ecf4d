use Rattle.std.proofs.Common.{◌≡◌, ◌+◌, ◌-◌, false, length, slice_get}
use Rattle.pool_run.specs.Folds.{commands_of}
use Rattle.pool_run.specs.Progress.{is_busy, calls_begun, IsRunOf}
use Rattle.pool_run.specs.Watching.{WatchesSome}
use Rattle.pool_run.proofs.schedule.finish_party.Given as goal

abbrev pub ghost-end_call : goal.ghost-end_call
ghost-end_call g a = g.of

abbrev pub ghost-next_call : goal.ghost-next_call
ghost-next_call g a = g.of

-- some turns so far, after which no call of the party is under way
abbrev pub invariant-loop-alloc : goal.invariant-loop-alloc
invariant-loop-alloc g l = record {
  watched : WatchesSome (g.W.Watcher.leads l.input) g.of.modules g.of.inputs l.i l.fn.run l.run l.fn.watcher l.watcher;
  run : IsRunOf g.of l.input.parties l.run;
  idle : is_busy (slice_get l.run.parties l.i) ≡ false;
  count : l.count ≡ length (commands_of g.of.inputs l.i);
}

-- how many calls are still to begin: one for each command that is left, and one for the party's stripe
abbrev pub decreases-loop-alloc : goal.decreases-loop-alloc
decreases-loop-alloc g l = l.count + 1 - calls_begun (slice_get l.run.parties l.i)

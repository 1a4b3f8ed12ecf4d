use Rattle.std.proofs.Common.{◌≡◌}
use Rattle.pool_alloc.specs.Closing.{IsClosing}
use Rattle.pool_alloc.specs.StepBounds.{steps_left}
use Rattle.pool_alloc.proofs.pool_core.PoolCore.flush_queue.Given as goal

abbrev pub ghost-closing_step : goal.ghost-closing_step
ghost-closing_step g a = g.of

-- the flush is under way, or over
abbrev pub invariant-loop-alloc : goal.invariant-loop-alloc
invariant-loop-alloc g l = record {
  closing : IsClosing g.of.maker g.of.emptied l.self l.frame;
  settings : l.self.settings ≡ l.fn.self.settings;
  plan : l.self.plan ≡ l.fn.self.plan;
}

-- at most how many steps are left
abbrev pub decreases-loop-alloc : goal.decreases-loop-alloc
decreases-loop-alloc g l = steps_left l.self l.frame

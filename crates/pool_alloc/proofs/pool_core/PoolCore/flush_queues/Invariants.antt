use Rattle.std.proofs.Common.{◌≡◌, ◌+◌}
use Rattle.pool_alloc.specs.Closing.{IsClosed}
use Rattle.pool_alloc.specs.StepReads.{queues_searched}
use Rattle.pool_alloc.proofs.pool_core.PoolCore.flush_queues.Given as goal

abbrev pub ghost-flush_queue : goal.ghost-flush_queue
ghost-flush_queue g a = record { maker = g.maker; emptied = a.at + 1 }

-- the first queues are flushed
abbrev pub invariant-loop-at : goal.invariant-loop-at
invariant-loop-at g l = record {
  closed : IsClosed g.maker l.at l.self l.frame;
  settings : l.self.settings ≡ l.fn.self.settings;
  plan : l.self.plan ≡ l.fn.self.plan;
  last : l.at-end ≡ queues_searched l.fn.self.plan;
}

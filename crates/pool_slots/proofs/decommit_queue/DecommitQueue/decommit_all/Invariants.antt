use Rattle.std.proofs.Common.{length}
use Rattle.pool_slots.proofs.Flushing.{IsFlushing}
use Rattle.pool_slots.proofs.decommit_queue.DecommitQueue.decommit_all.Given as goal

abbrev pub invariant-loop-self : goal.invariant-loop-self
invariant-loop-self g l = IsFlushing l.fn.self l.self

abbrev pub decreases-loop-self : goal.decreases-loop-self
decreases-loop-self g l = length l.self.ranges

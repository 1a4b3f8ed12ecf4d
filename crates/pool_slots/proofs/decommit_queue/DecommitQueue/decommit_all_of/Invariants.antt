use Rattle.std.proofs.Common.{length}
use Rattle.pool_slots.proofs.SlotOrders.{EndsAs}
use Rattle.pool_slots.proofs.SlotRuns.{IsRunning}
use Rattle.pool_slots.proofs.decommit_queue.DecommitQueue.decommit_all_of.Given as goal

abbrev pub invariant-loop-slot : goal.invariant-loop-slot
invariant-loop-slot g l = record {
  running : IsRunning l.slot l.at l.fn.self l.self;
  order : EndsAs l.slot l.fn.self l.self;
}

abbrev pub decreases-loop-slot : goal.decreases-loop-slot
decreases-loop-slot g l = length l.self.ranges

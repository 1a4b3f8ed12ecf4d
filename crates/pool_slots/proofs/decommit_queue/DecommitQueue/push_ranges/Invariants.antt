use Rattle.std.proofs.Common.{◌≡◌, take, length}
use Rattle.pool_slots.specs.SlotQueues.{with_ranges}
use Rattle.pool_slots.proofs.decommit_queue.DecommitQueue.push_ranges.Given as goal

-- the ranges so far are pushed
abbrev pub invariant-loop-at : goal.invariant-loop-at
invariant-loop-at g l = record {
  pushed : l.self ≡ with_ranges l.kind l.slot.0 (take l.at l.ranges) l.fn.self;
  all : l.at-end ≡ length l.ranges;
}

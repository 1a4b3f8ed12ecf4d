use Rattle.std.proofs.Common.{◌≡◌, length, take}
use Rattle.std.specs.List.{AllByRecursion}
use Rattle.pool_slots.specs.Listed.{SlotFailsAsListed}
use Rattle.pool_slots.proofs.decommit_queue.DecommitQueue.failures_law.Given as goal

-- it holds of the slots so far
abbrev pub invariant-loop-at : goal.invariant-loop-at
invariant-loop-at g l = record {
  seen : AllByRecursion SlotFailsAsListed (take l.at l.self.slots);
  all : l.at-end ≡ length l.self.slots;
}

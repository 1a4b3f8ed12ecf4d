use Rattle.std.proofs.Common.{◌≡◌, length, take}
use Rattle.pool_slots.specs.SlotQueues.{calls_held}
use Rattle.pool_slots.proofs.decommit_queue.DecommitQueue.page_calls.Given as goal

-- the calls on the slots so far
abbrev pub invariant-loop-at : goal.invariant-loop-at
invariant-loop-at g l = record {
  calls : l.calls ≡ calls_held (take l.at l.self.slots);
  all : l.at-end ≡ length l.self.slots;
}

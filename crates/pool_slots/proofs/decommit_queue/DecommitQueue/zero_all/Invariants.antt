use Rattle.std.proofs.Common.{◌≡◌, length, map, filter}
use Rattle.pool_slots.specs.SlotQueues.{is_to_zero}
use Rattle.pool_slots.specs.Flushes.{zeroed_of}
use Rattle.pool_slots.proofs.decommit_queue.DecommitQueue.zero_all.Given as goal

abbrev pub invariant-loop-kind : goal.invariant-loop-kind
invariant-loop-kind g l = record {
  same : l.self ≡ record l.fn.self { slots = l.self.slots };
  zeroed : map (zeroed_of l.kind) l.self.slots ≡ map (zeroed_of l.kind) l.fn.self.slots;
}

abbrev pub decreases-loop-kind : goal.decreases-loop-kind
decreases-loop-kind g l = length (filter (is_to_zero l.kind) l.self.slots)

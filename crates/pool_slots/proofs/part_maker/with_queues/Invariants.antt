use Rattle.std.proofs.Common.{◌≡◌, ◌++◌, map}
use Rattle.std.specs.List.{range_with_len}
use Rattle.pool_slots.specs.PartsMade.{queue_made}
use Rattle.pool_slots.proofs.part_maker.with_queues.Given as goal

-- the queues so far stand behind the parts
abbrev pub invariant-loop-queue : goal.invariant-loop-queue
invariant-loop-queue g l = record {
  made : l.parts.items ≡ l.fn.parts.items ++ map (queue_made l.room) (range_with_len 0 l._queue);
}

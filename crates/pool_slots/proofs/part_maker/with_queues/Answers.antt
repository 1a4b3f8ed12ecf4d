use Rattle.std.proofs.Common.{◌≡◌, ◌++◌, List, map, subst, arith}
use Rattle.std.specs.List.{range_with_len}
use Rattle.pool_slots.specs.PartsMade.{queue_made}
use Rattle.pool_slots.specs.declared.part.PoolPart.{PoolPart}
use Rattle.pool_slots.proofs.part_maker.with_queues.Goals as goal

pub returns-clause-made : goal.returns-clause-made
returns-clause-made g c =
    let ends : c.loop-queue._queue ≡ c.args.queues = omega (arith, c.loop-queue-test.false, c.loop-queue.auto._queue-end) in
    subst (λ n. c.loop-queue.parts.items ≡ c.args.parts.items ++ map (queue_made c.args.room) (range_with_len 0 n)) ends c.loop-queue.invariant.made

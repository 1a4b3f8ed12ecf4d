use Rattle.std.proofs.Common.{◌≡◌, ◌++◌, map, subst, arith}
use Rattle.std.specs.List.{range_with_len}
use Rattle.pool_slots.specs.PartsMade.{shard_part}
use Rattle.pool_slots.proofs.part_maker.with_shards_of.Goals as goal

pub make_shard-requires-clause-numbers : goal.make_shard-requires-clause-numbers
make_shard-requires-clause-numbers g c = c.requires c.loop-shard.shard c.loop-shard-test.true

pub returns-clause-made : goal.returns-clause-made
returns-clause-made g c =
    let ends : c.loop-shard.shard ≡ c.args.allocator.shards = omega (arith, c.loop-shard-test.false, c.loop-shard.auto.shard-end) in
    subst (λ n. c.loop-shard.parts.items ≡ c.args.parts.items ++ map (shard_part c.args.warm c.args.allocator) (range_with_len 0 n)) ends c.loop-shard.invariant.made

use Rattle.std.proofs.Common.{◌≡◌, ◌++◌, map}
use Rattle.std.specs.List.{range_with_len}
use Rattle.pool_slots.specs.PartsMade.{shard_part}
use Rattle.pool_slots.proofs.part_maker.with_shards_of.Given as goal

-- the shards so far stand behind the parts
abbrev pub invariant-loop-shard : goal.invariant-loop-shard
invariant-loop-shard g l = record {
  made : l.parts.items ≡ l.fn.parts.items ++ map (shard_part l.warm l.allocator) (range_with_len 0 l.shard);
}

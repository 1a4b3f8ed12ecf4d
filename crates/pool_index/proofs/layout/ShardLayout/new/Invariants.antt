use Rattle.std.proofs.Common.{◌≡◌, map}
use Rattle.std.specs.List.{range_with_len}
use Rattle.pool_index.specs.Layout.{shard_at}
use Rattle.pool_index.proofs.layout.ShardLayout.new.Given as goal

abbrev pub invariant-loop-k : goal.invariant-loop-k
invariant-loop-k l = l.shards.items ≡ map (shard_at l.capacity l.warm l.slots_per_shard) (range_with_len 0 l.k)

use Rattle.std.proofs.Common.{◌≡◌, map, All}
use Rattle.std.specs.List.{range_with_len}
use Rattle.pool_index.specs.MadeShards.{made_shard}
use Rattle.pool_index.specs.Shard.{IsShard}
use Rattle.pool_index.proofs.alloc_calls.made_shards.Given as goal

abbrev pub invariant-loop-k : goal.invariant-loop-k
invariant-loop-k l = record { items : l.parts.items ≡ map (made_shard l.capacity l.warm l.slots_per_shard) (range_with_len 0 l.k); sound : All IsShard l.parts.items }

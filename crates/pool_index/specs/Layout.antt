-- How slots and warm slots are split among shards.
use Rattle.std.specs.Prelude.{ℕ, ◌+◌, ◌-◌, ◌*◌, ◌/◌, ◌%◌, map, min, max, nat_lt, if◌then◌else◌}
use Rattle.std.specs.Int.{div_ceil}
use Rattle.std.specs.List.{range_with_len}
use Rattle.pool_index.specs.declared.layout.ShardLayout.{ShardLayout}

-- the slots of each shard but the last: below 128 slots there is one shard
abbrev pub slots_per_shard : ℕ → ℕ → ℕ
slots_per_shard capacity requested = max 1 (if nat_lt capacity 128 then capacity else div_ceil capacity (max 1 requested))

-- as many shards as it takes to hold the slots, and at least one
abbrev pub shard_count : ℕ → ℕ → ℕ
shard_count capacity slots = max 1 (div_ceil capacity slots)

-- the slots of shard k: each shard is full but the last, which has the rest
abbrev pub capacity_of : ℕ → ℕ → ℕ → ℕ
capacity_of capacity slots k = min slots (capacity - k * slots)

-- the warm slots of shard k: the same for each shard, and one more for as many of the first shards as are left over
abbrev pub budget_of : ℕ → ℕ → ℕ → ℕ
budget_of warm shards k = warm / shards + (if nat_lt k (warm % shards) then 1 else 0)

-- shard k, where each shard but the last has a number of slots
abbrev pub shard_at : ℕ → ℕ → ℕ → ℕ → ℕ × ℕ
shard_at capacity warm slots k = (capacity_of capacity slots k, budget_of warm (shard_count capacity slots) k)

-- How so many slots and warm slots are split among shards: equal blocks of slots, the last one with the rest.
abbrev pub layout : ℕ → ℕ → ℕ → ShardLayout
layout capacity warm requested = record {
  slots_per_shard = slots_per_shard capacity requested;
  shards = map (shard_at capacity warm (slots_per_shard capacity requested)) (range_with_len 0 (shard_count capacity (slots_per_shard capacity requested)));
}

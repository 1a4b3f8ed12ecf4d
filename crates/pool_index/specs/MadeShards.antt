-- The shards that an index allocator is made of, and which of them a slot is in.
use Rattle.std.specs.Prelude.{◌≡◌, ℕ, ◌-◌, ◌*◌, ◌/◌, ◌^◌, ◌<◌, min, map, List, []}
use Rattle.std.specs.List.{range_with_len}
use Rattle.pool_hall.specs.declared.unit_name.SlotKind.TheVariants.{Memory}
use Rattle.pool_index.specs.Layout.{capacity_of, budget_of, shard_count}
use Rattle.pool_index.specs.Shard.{ShardState, fresh_shard}

-- Shard k as it is made, where each shard but the last has so many slots: slots are numbered through
abbrev pub made_shard : ℕ → ℕ → ℕ → ℕ → ShardState
made_shard capacity warm slots k = fresh_shard Memory (k * slots) 1 (capacity_of capacity slots k) (budget_of warm (shard_count capacity slots) k)

-- The shards of an allocator as it is made: no slot was used yet.
abbrev pub made_shards : ℕ → ℕ → ℕ → List ShardState
made_shards capacity warm slots = map (made_shard capacity warm slots) (range_with_len 0 (shard_count capacity slots))

-- The place of the shard that a slot is in. A number past the last slot counts to the last shard
abbrev pub place_of_slot : ℕ → ℕ → ℕ → ℕ
place_of_slot slots shards slot = min (slot / slots) (shards - 1)

-- The parts were made as the shards of an allocator
pub record AreMade (made : List ShardState) (limits : List ℕ) (capacity warm slots shards : ℕ) : Type 0 where
  pub is : made ≡ made_shards capacity warm slots
  pub count : shards ≡ shard_count capacity slots
  pub some : 0 < slots
  pub none : limits ≡ []
  pub small : capacity < 2 ^ 32

-- A call on a shard, by the units that it moves.
use Rattle.std.specs.Prelude.{◌≡◌, ◌+◌, ◌≤◌, List}
use Rattle.pool_hall.specs.declared.unit_name.UnitName.{UnitName}
use Rattle.pool_hall.specs.Unit.{times}
use Rattle.pool_index.specs.Shard.{ShardState, IsShard, IsSameShard}
use Rattle.pool_index.specs.Part.{shard_units}

-- The shard s became the shard t: the units of the first list came out of it, and those of the second went back into it
pub record Moves (s t : ShardState) (come leave : List UnitName) : Type 0 where
  pub same : IsSameShard s t
  pub sound : IsShard t
  pub cold : s.cold ≤ t.cold
  pub flow : (u : UnitName) → times u (shard_units t) + times u leave ≡ times u (shard_units s) + times u come

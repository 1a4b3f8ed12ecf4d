-- Parts of a hall that may be shards, beside parts of other kinds.
use Rattle.std.specs.Prelude.{◌≡◌, ℕ, ◌<◌, false, List, [], Option, Some}
use Rattle.pool_hall.specs.Meaning.{Meaning}
use Rattle.pool_index.specs.Shard.{ShardState, IsShard, IsSameShard}
use Rattle.pool_index.specs.Part.{slot_unit, shard_units, shard_counts, is_topped}

-- A part that is a shard means what the shard means, and may be left as any state of that shard
pub record MeansShard {T : Type 0} (m : Meaning T) (shard : T → Option ShardState) : Type 0 where
  pub away : (x : T) (s : ShardState) → shard x ≡ Some s → m.away x ≡ shard_units s
  pub kept : (x : T) (s : ShardState) → shard x ≡ Some s → m.kept x ≡ []
  pub counts : (x : T) (s : ShardState) → shard x ≡ Some s → m.counts x ≡ shard_counts s
  pub steady : (x : T) (s : ShardState) → shard x ≡ Some s → m.steady x ≡ false
  pub topped : (x : T) (s : ShardState) → shard x ≡ Some s → m.topped x ≡ is_topped s
  pub sound : (made : List T) (limits : List ℕ) (p : ℕ) (x : T) (s : ShardState) → shard x ≡ Some s → m.fits made limits p x → IsShard s
  pub place : (made : List T) (limits : List ℕ) (p : ℕ) (x : T) (s : ShardState) → shard x ≡ Some s → m.fits made limits p x → (k : ℕ) → k < s.capacity → m.place made limits (slot_unit s k) ≡ p
  pub fits : (made : List T) (limits : List ℕ) (p : ℕ) (x y : T) (s t : ShardState) → shard x ≡ Some s → shard y ≡ Some t → m.fits made limits p x → IsSameShard s t → IsShard t → m.fits made limits p y

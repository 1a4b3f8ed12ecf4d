-- What a hall sees of a shard.
use Rattle.std.specs.Prelude.{◌≡◌, ℕ, zero, suc, ◌+◌, ◌<◌, ◌==◌, ◌&&◌, ◌||◌, Bool, false, List, [], ◌∷◌, Option, Some, None, slice_index_or, if◌then◌else◌}
use Rattle.pool_hall.specs.declared.unit_name.SlotKind.{SlotKind}
use Rattle.pool_hall.specs.declared.unit_name.SlotKind.TheVariants.{Memory}
use Rattle.pool_hall.specs.declared.unit_name.UnitName.{UnitName}
use Rattle.pool_hall.specs.Unit.{kind_number, pick_unit}
use Rattle.pool_hall.specs.Meaning.{Meaning}
use Rattle.pool_index.specs.declared.ids.MemoryInModule.{MemoryInModule}
use Rattle.pool_index.specs.Shard.{ShardState, IsShard, IsSameShard, fresh_shard, slot_number, resident_bytes}

-- the pick unit of slot k of a shard
abbrev pub slot_unit : ShardState → ℕ → UnitName
slot_unit s k = pick_unit s.kind (slot_number s k)

-- the pick units of the used slots, where the first slot has the number n, and each next one a number that is `step` more
abbrev pub used_units : SlotKind → ℕ → ℕ → List (Option (Option MemoryInModule)) → List UnitName
used_units kind step n [] = []
used_units kind step n (None ∷ used) = used_units kind step (n + step) used
used_units kind step n (Some want ∷ used) = pick_unit kind n ∷ used_units kind step (n + step) used

-- the units that a shard has given out: the pick units of its used slots
abbrev pub shard_units : ShardState → List UnitName
shard_units s = used_units s.kind s.step s.first s.used

-- The place of the count of cold picks among a shard's counts.
abbrev pub cold_picks : ℕ
cold_picks = 0

-- The place of the count of full answers among a shard's counts.
abbrev pub full_answers : ℕ
full_answers = 1

-- The place of the count of affine misses among a shard's counts.
abbrev pub affine_misses : ℕ
affine_misses = 2

-- The place of the count of takes of all warm slots among a shard's counts.
abbrev pub warm_takes : ℕ
warm_takes = 3

-- The place of the bytes that warm slots keep resident among a shard's counts.
abbrev pub bytes_kept : ℕ
bytes_kept = 4

-- The counts of a shard that a hall sees: first uses, full answers, affine misses, takes of all warm slots, and the bytes that warm slots keep resident.
abbrev pub shard_counts : ShardState → List ℕ
shard_counts s = s.cold ∷ s.full_answers ∷ s.affine_misses ∷ s.warm_takes ∷ resident_bytes s ∷ []

-- each slot was used once
abbrev pub is_topped : ShardState → Bool
is_topped s = s.cold == s.capacity

-- a number below n passes a test
abbrev pub any_below : ℕ → (ℕ → Bool) → Bool
any_below zero p = false
any_below (suc n) p = p n || any_below n p

-- the slot of a unit is one of a shard's
abbrev pub has_slot : ShardState → UnitName → Bool
has_slot s u = (kind_number s.kind == kind_number u.kind) && any_below s.capacity (λ k. slot_number s k == u.slot)

-- The place of a unit: that of the first shard that has its slot, and that of the last shard where none has
abbrev pub owner_from : ℕ → List ShardState → UnitName → ℕ
owner_from p [] u = p
owner_from p (s ∷ []) u = p
owner_from p (s ∷ t ∷ ss) u = if has_slot s u then p else owner_from (p + 1) (t ∷ ss) u

-- The shard, among these, to which a slot's unit belongs.
abbrev pub owner : List ShardState → UnitName → ℕ
owner ss u = owner_from 0 ss u

-- the shard at a place; past the end it doesn't matter which
abbrev pub shard_at : List ShardState → ℕ → ShardState
shard_at ss p = slice_index_or ss p (fresh_shard Memory 0 0 0 0)

-- a shard that fits a place of a hall that was made with these shards: it has the slots of the shard that was there first, and these are of this place
pub record FitsAt (made : List ShardState) (p : ℕ) (s : ShardState) : Type 0 where
  pub sound : IsShard s
  pub same : IsSameShard (shard_at made p) s
  pub own : (k : ℕ) → k < s.capacity → owner made (slot_unit s k) ≡ p

-- What a hall sees of a shard: the units of its used slots are away, it keeps none, and its counts may fall.
abbrev pub shard_meaning : Meaning ShardState
shard_meaning = record {
  fits = λ made limits p s. FitsAt made p s;
  away = shard_units;
  kept = λ s. [];
  counts = shard_counts;
  steady = λ s. false;
  topped = is_topped;
  place = λ made limits u. owner made u;
}

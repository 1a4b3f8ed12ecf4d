-- Slots that are freed, taken and counted while their shard is held.
use Rattle.std.specs.Prelude.{◌≡◌, ℕ, ◌+◌, ◌-◌, ◌^◌, ◌≤◌, ◌==◌, ◌&&◌, if◌then◌else◌, not, nat_lt, Bool, true, Option, None, Some, IsSome, sum_by, List, [], ◌∷◌, ◌++◌, length, map}
use Rattle.pool_hall.specs.declared.unit_name.UnitName.{UnitName}
use Rattle.pool_hall.specs.declared.unit_name.SlotKind.TheVariants.{Memory}
use Rattle.pool_hall.specs.declared.view.View.{View}
use Rattle.pool_hall.specs.Unit.{times, pick_unit}
use Rattle.pool_index.specs.Taken.{TakenState}
use Rattle.pool_index.specs.declared.counting.ShardCounts.{ShardCounts}
use Rattle.pool_index.specs.declared.ids.SlotId.{SlotId}
use Rattle.pool_index.specs.Laws.{free_all}
use Rattle.pool_index.specs.Shard.{ShardState, IsShard, IsSameShard, use_of, slot_number, after_free, taken_slots, after_take_warm, used_count, resident_bytes}

-- a slot of the shard s was freed, and t is left
pub record IsFreed (slot : SlotId) (bytes : ℕ) (s t : ShardState) : Type 0 where
  pub after : t ≡ after_free slot bytes s
  pub same : IsSameShard s t
  pub sound : IsShard t

-- these slots of a shard may be freed one after the other: each is used when it is its turn
abbrev pub CanFree : List (SlotId × ℕ) → ShardState → Type 0
CanFree [] s = Unit {0}
CanFree (p ∷ ps) s = (IsSome (use_of s p.0.0) × (p.1 ≤ 2 ^ 32)) × CanFree ps (after_free p.0 p.1 s)

-- slots of the shard s were freed one after the other, and t is left
pub record AreFreed (slots : List (SlotId × ℕ)) (s t : ShardState) : Type 0 where
  pub after : t ≡ free_all slots s
  pub same : IsSameShard s t
  pub sound : IsShard t

-- the number is one from the first on, and below the end where there is one
abbrev pub is_among : ℕ → Option ℕ → ℕ → Bool
is_among first None n = not (nat_lt n first)
is_among first (Some end) n = not (nat_lt n first) && nat_lt n end

-- those of these slots that are numbered from the first on and below the end, in their order, each by its number behind the first
abbrev pub slots_among : ℕ → Option ℕ → List (SlotId × ℕ) → List (SlotId × ℕ)
slots_among first end [] = []
slots_among first end (x ∷ xs) = if is_among first end x.0.0 then (record { 0 = x.0.0 - first }, x.1) ∷ slots_among first end xs else slots_among first end xs

-- a slot of a shard by the number by which it is known outside
abbrev pub known_outside : ShardState → SlotId × ℕ → SlotId × ℕ
known_outside s p = (record { 0 = slot_number s p.0.0 }, p.1)

-- all warm slots of a shard, by the numbers by which they are known outside
abbrev pub taken_outside : ShardState → List (SlotId × ℕ)
taken_outside s = map (known_outside s) (taken_slots s)

-- the pick units of memory slots
abbrev pub units_of_slots : List (SlotId × ℕ) → List UnitName
units_of_slots items = map (λ p. pick_unit Memory p.0.0) items

-- what a shard tells of itself
pub record IsCounted (s : ShardState) (r : ShardCounts) : Type 0 where
  pub sound : IsShard s
  pub warm : r.warm ≡ length s.warm
  pub bytes : r.bytes ≡ resident_bytes s
  pub none : r.is_empty ≡ (used_count s == 0)

-- There is room for all warm slots of the shard.
abbrev pub HasRoomFor : ShardState → TakenState → Type 0
HasRoomFor s taken = length taken.items + length s.warm ≤ taken.room

-- all warm slots of the shard s came behind those that were taken before, and t is left
pub record IsTakenFrom (s t : ShardState) (old new : TakenState) : Type 0 where
  pub taken : new ≡ record old { items = old.items ++ taken_outside s }
  pub after : t ≡ after_take_warm s
  pub same : IsSameShard s t
  pub sound : IsShard t

-- no slot of any of the shards is used
abbrev pub all_unused : List ShardState → Bool
all_unused [] = true
all_unused (s ∷ ss) = (used_count s == 0) && all_unused ss

-- what shards tell together
pub record IsSum (ss : List ShardState) (r : ShardCounts) : Type 0 where
  pub warm : r.warm ≡ sum_by (λ s. length s.warm) ss
  pub bytes : r.bytes ≡ sum_by resident_bytes ss
  pub none : r.is_empty ≡ all_unused ss

-- the view has each of these units, as often as it is in the list
abbrev pub HasAll : {T : Type 0} → List UnitName → View T → Type 0
HasAll us v = (u : UnitName) → times u us ≤ times u v.units

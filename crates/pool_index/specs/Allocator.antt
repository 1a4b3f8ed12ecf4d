-- Index allocators and their seats.
use Rattle.std.specs.Prelude.{◌≡◌, ℕ, zero, suc, ◌+◌, ◌-◌, ◌*◌, ◌%◌, ◌^◌, ◌==◌, nat_lt, if◌then◌else◌, List, [], ◌∷◌, length, sum_by, Option, Some, option_map}
use Rattle.pool_hall.specs.declared.view.View.{View}
use Rattle.pool_hall.specs.declared.hall.HallSeat.{HallSeat}
use Rattle.pool_hall.specs.declared.unit_name.SlotKind.TheVariants.{Memory}
use Rattle.pool_hall.specs.Tally.{counted, number}
use Rattle.pool_hall.specs.Seat.{made_with, limits_of, IsSeatOf, IsFree}
use Rattle.pool_index.specs.MadeShards.{place_of_slot}
use Rattle.pool_index.specs.Part.{shard_meaning, warm_takes, bytes_kept}
use Rattle.pool_index.specs.Round.{HeldShard, HeldInTurn}
use Rattle.pool_index.specs.Laws.{free_all}
use Rattle.pool_index.specs.Shard.{ShardState}
use Rattle.pool_index.specs.declared.allocator.ModuleAffinityIndexAllocator.{ModuleAffinityIndexAllocator}
use Rattle.pool_index.specs.declared.ids.SlotId.{SlotId}
use Rattle.pool_index.specs.declared.round.ShardPlaces.{ShardPlaces}
use Rattle.pool_index.specs.declared.shard_calls.ShardAt.{ShardAt}

-- what the allocator's hall was made with
abbrev pub made_of : ModuleAffinityIndexAllocator → List ShardState
made_of a = made_with a.hall

-- The limits of the counters of an index allocator.
abbrev pub limits_in : ModuleAffinityIndexAllocator → List ℕ
limits_in a = limits_of a.hall

-- The number of slots of an index allocator.
abbrev pub slot_count : ModuleAffinityIndexAllocator → ℕ
slot_count a = a.capacity

-- The places of an index allocator's shards in its hall, which has nothing else.
abbrev pub places_of : ModuleAffinityIndexAllocator → ShardPlaces
places_of a = record { kind = Memory; first = 0; count = a.shards }

-- The shard at a place of an index allocator's hall.
abbrev pub shard_in : ModuleAffinityIndexAllocator → ℕ → ShardAt
shard_in a p = record { place = p; kind = Memory; first = p * a.slots_per_shard; step = 1 }

-- the number of the slot that was answered, if one was
abbrev pub slot_answered : Option SlotId → Option ℕ
slot_answered r = option_map (λ s. s.0) r

-- The place of a slot's shard.
abbrev pub place_in : ModuleAffinityIndexAllocator → ℕ → ℕ
place_in a slot = place_of_slot a.slots_per_shard a.shards slot

-- The number of a slot within its shard.
abbrev pub local_in : ModuleAffinityIndexAllocator → ℕ → ℕ
local_in a slot = slot - place_in a slot * a.slots_per_shard

-- the seat is one of the allocator's, and holds no place
pub record IsIndexSeat (a : ModuleAffinityIndexAllocator) (s : HallSeat ShardState) : Type 0 where
  pub own : IsSeatOf a.hall s
  pub free : IsFree s

-- The shards were held one after the other, from the first on, and each was left as this says; and this is true of the states in which they were found
pub record FoundInTurn (a : ModuleAffinityIndexAllocator) (left : ShardState → ShardState) (tells : List ShardState → Type 0) (v w : View ShardState) : Type 0 where
  pub states : List ShardState
  pub all : length states ≡ a.shards
  pub held : HeldInTurn shard_meaning Some (made_of a) (limits_in a) left 0 states v w
  pub told : tells states

-- those of these slots whose shard is at a place, in their order, each by its number within the shard
abbrev pub slots_at : ModuleAffinityIndexAllocator → ℕ → List (SlotId × ℕ) → List (SlotId × ℕ)
slots_at a p [] = []
slots_at a p (x ∷ xs) = if p == place_in a x.0.0 then (record { 0 = local_in a x.0.0 }, x.1) ∷ slots_at a p xs else slots_at a p xs

-- The shard at a place was held once, and these of its slots were freed there in the order of the list: each is the last of the shard's warm slots then, and keeps so many bytes resident. Where there are none the shard was not held
abbrev pub FreedInShard : ModuleAffinityIndexAllocator → ℕ → List (SlotId × ℕ) → View ShardState → View ShardState → Type 0
FreedInShard a p [] v w = w ≡ v
FreedInShard a p (x ∷ xs) v w = (s : ShardState) × HeldShard shard_meaning Some (made_of a) (limits_in a) p s (free_all (x ∷ xs) s) v w

-- Of the first n shards, one after the other, those of these slots were freed that are theirs
abbrev pub FreedInTurn : ModuleAffinityIndexAllocator → ℕ → List (SlotId × ℕ) → View ShardState → View ShardState → Type 0
FreedInTurn a zero items v w = w ≡ v
FreedInTurn a (suc n) items v w = (u : View ShardState) × FreedInTurn a n items v u × FreedInShard a n (slots_at a n items) u w

-- the bytes that these slots keep, of those that belong to the shard at a place
abbrev pub bytes_into : ModuleAffinityIndexAllocator → ℕ → List (SlotId × ℕ) → ℕ
bytes_into a p items = sum_by (λ x. if p == place_in a x.0.0 then x.1 else 0) items

-- Each shard keeps so many bytes more as these slots of it, and no other count rose
abbrev pub AddsBytes : ModuleAffinityIndexAllocator → List (SlotId × ℕ) → View ShardState → View ShardState → Type 0
AddsBytes a items v w = (p i : ℕ) → number (counted p i) w ≡ number (counted p i) v + (if i == bytes_kept then bytes_into a p items else 0)

-- what a taking of all warm slots of the first n shards adds to the count i at a place, where these slots were taken: one such taking to each of these shards, and modulo 2 ^ 64 the bytes that its slots kept are no longer kept
abbrev pub taking_adds : ModuleAffinityIndexAllocator → ℕ → List (SlotId × ℕ) → ℕ → ℕ → ℕ
taking_adds a n items p i = if i == warm_takes then (if nat_lt p n then 1 else 0) else (if i == bytes_kept then (2 ^ 64 - bytes_into a p items) % 2 ^ 64 else 0)

-- All warm slots of the first n shards were taken, and these are they: each of the shards counts one such taking, and no longer the bytes that they kept. No other count rose
abbrev pub CountsTaking : ModuleAffinityIndexAllocator → ℕ → List (SlotId × ℕ) → View ShardState → View ShardState → Type 0
CountsTaking a n items v w = (p i : ℕ) → number (counted p i) w ≡ number (counted p i) v + taking_adds a n items p i

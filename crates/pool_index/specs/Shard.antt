-- A shard: which of its slots are cold, warm and used, what a pick takes, and what a free gives back.
use Rattle.std.specs.Prelude.{◌≡◌, ◌≢◌, ℕ, ◌+◌, ◌*◌, ◌%◌, ◌^◌, ◌<◌, ◌≤◌, ◌==◌, Bool, List, [], ◌∷◌, ◌++◌, length, replicate, slice_index_or, slice_set, remove, count_by, sum_by, map, All, Option, None, Some, is_some, IsSome, option_map, unwrap_or, nat_lt, if◌then◌else◌}
use Rattle.std.specs.Option.{option_or, option_map_or}
use Rattle.pool_index.specs.Affinity.{is_affine}
use Rattle.pool_index.specs.Lists.{with_bytes, use_again}
use Rattle.pool_index.specs.Positions.{last_position}
use Rattle.pool_index.specs.declared.ids.MemoryInModule.{MemoryInModule}
use Rattle.pool_index.specs.declared.ids.SlotId.{SlotId}
use Rattle.pool_hall.specs.declared.unit_name.SlotKind.{SlotKind}
use Rattle.pool_index.specs.declared.warm_slot.WarmSlot.{WarmSlot}

-- Slots from `cold` up to the capacity were never used. `warm` has the others that are free, in the order in which
-- they were freed. `used` has an entry for each slot: for a used one, what it was picked for. The counts are modulo
-- 2 ^ 64: picks that found no slot, picks by affinity alone that found none, and takings of the whole warm list.
pub record ShardState : Type 0 where
  pub kind : SlotKind
  pub first : ℕ
  pub step : ℕ
  pub capacity : ℕ
  pub budget : ℕ
  pub cold : ℕ
  pub warm : List WarmSlot
  pub used : List (Option (Option MemoryInModule))
  pub full_answers : ℕ
  pub affine_misses : ℕ
  pub warm_takes : ℕ

-- what slot k was picked for, where it is used
abbrev pub use_of : ShardState → ℕ → Option (Option MemoryInModule)
use_of s k = slice_index_or s.used k None

-- slot k is used
abbrev pub is_used : ShardState → ℕ → Bool
is_used s k = is_some (use_of s k)

-- how many slots are used
abbrev pub used_count : ShardState → ℕ
used_count s = count_by is_some s.used

-- how many entries a slot has in a warm list
abbrev pub warm_count : ℕ → List WarmSlot → ℕ
warm_count k warm = count_by (λ e. e.slot.0 == k) warm

-- the bytes that warm slots keep resident
abbrev pub resident_bytes : ShardState → ℕ
resident_bytes s = sum_by (λ e. e.bytes) s.warm

-- the number by which a shard's slot is known outside
abbrev pub slot_number : ShardState → ℕ → ℕ
slot_number s k = s.first + k * s.step

-- 1 where a test holds, and otherwise 0
abbrev pub one_if : Bool → ℕ
one_if b = if b then 1 else 0

-- the numbers by which slots are known outside differ, and fit 32 bits
pub record NumbersFit (first step capacity : ℕ) : Type 0 where
  pub apart : 0 < step
  pub fit : (k : ℕ) → k < capacity → first + k * step < 2 ^ 32

-- Used, warm and cold slots are a partition: each slot below `cold` is either used or has one entry in the warm list,
-- and no other slot is in either.
pub record IsShard (s : ShardState) : Type 0 where
  pub partition : (k : ℕ) → warm_count k s.warm + one_if (is_used s k) ≡ one_if (nat_lt k s.cold)
  pub total : length s.warm + used_count s ≡ s.cold
  pub cold_at_most : s.cold ≤ s.capacity
  pub entries : length s.used ≡ s.capacity
  pub bytes : All (λ e. e.bytes ≤ 2 ^ 32) s.warm
  pub numbers : NumbersFit s.first s.step s.capacity
  pub small : s.capacity < 2 ^ 32
  pub counts : (s.full_answers < 2 ^ 64) × (s.affine_misses < 2 ^ 64) × (s.warm_takes < 2 ^ 64)

-- a shard whose slots are all cold, as it is made
abbrev pub fresh_shard : SlotKind → ℕ → ℕ → ℕ → ℕ → ShardState
fresh_shard kind first step capacity budget = record {
  kind = kind;
  first = first;
  step = step;
  capacity = capacity;
  budget = budget;
  cold = 0;
  warm = [];
  used = replicate capacity None;
  full_answers = 0;
  affine_misses = 0;
  warm_takes = 0;
}

-- where a pick finds its slot: at a place of the warm list, or at the first cold slot
pub data Choice : Type 0 where
  warm_at : ℕ → Choice
  next_cold : Choice

-- the warm slot that was freed last of those that are affine to the wanted memory
abbrev pub affine_choice : Option MemoryInModule → ShardState → Option Choice
affine_choice None s = None
affine_choice (Some of) s = option_map warm_at (last_position (is_affine of) s.warm)

-- the warm slot that was freed first
abbrev pub warm_choice : ShardState → Option Choice
warm_choice s = if nat_lt 0 (length s.warm) then Some (warm_at 0) else None

-- a slot that was never used
abbrev pub cold_choice : ShardState → Option Choice
cold_choice s = if nat_lt s.cold s.capacity then Some next_cold else None

-- An affine slot comes before all others. Cold slots come before warm ones where there are fewer warm ones than the
-- budget allows, and after them otherwise.
abbrev pub choice : Option MemoryInModule → ShardState → Option Choice
choice want s = option_or (affine_choice want s) (if nat_lt (length s.warm) s.budget then option_or (cold_choice s) (warm_choice s) else option_or (warm_choice s) (cold_choice s))

-- the entry at a place of the warm list; past its end it doesn't matter which
abbrev pub entry_at : ShardState → ℕ → WarmSlot
entry_at s i = slice_index_or s.warm i (record { slot = record { 0 = 0 }; affinity = None; bytes = 0 })

-- the slot of a choice, with the bytes that it keeps resident: none where it is cold
abbrev pub slot_and_bytes : ShardState → Choice → SlotId × ℕ
slot_and_bytes s (warm_at i) = ((entry_at s i).slot, (entry_at s i).bytes)
slot_and_bytes s next_cold = (record { 0 = s.cold }, 0)

-- the choice is taken: the slot leaves the cold or warm ones, and is used for what was wanted
abbrev pub after_choice : Option MemoryInModule → ShardState → Choice → ShardState
after_choice want s (warm_at i) = record s { warm = remove s.warm i; used = slice_set s.used (entry_at s i).slot.0 (Some want) }
after_choice want s next_cold = record s { cold = s.cold + 1; used = slice_set s.used s.cold (Some want) }

-- what a pick answers
abbrev pub pick_answer : Option MemoryInModule → ShardState → Option (SlotId × ℕ)
pick_answer want s = option_map (slot_and_bytes s) (choice want s)

-- where no slot is free, only the count of full answers rises
abbrev pub after_full : ShardState → ShardState
after_full s = record s { full_answers = (s.full_answers + 1) % 2 ^ 64 }

-- what a pick leaves
abbrev pub after_pick : Option MemoryInModule → ShardState → ShardState
after_pick want s = option_map_or (after_choice want s) (choice want s) (after_full s)

-- what a free leaves: the slot is the last of the warm list, affine to what it was picked for
abbrev pub after_free : SlotId → ℕ → ShardState → ShardState
after_free slot bytes s = record s {
  warm = s.warm ++ record { slot = slot; affinity = unwrap_or (use_of s slot.0) None; bytes = bytes } ∷ [];
  used = slice_set s.used slot.0 None;
}

-- a pick by affinity alone takes the slot that a pick for the memory takes first, and records no affinity
abbrev pub affine_answer : MemoryInModule → ShardState → Option SlotId
affine_answer of s = option_map (λ c. (slot_and_bytes s c).0) (affine_choice (Some of) s)

-- where no slot is affine, only the count of affine misses rises
abbrev pub after_affine_pick : MemoryInModule → ShardState → ShardState
after_affine_pick of s = option_map_or (after_choice None s) (affine_choice (Some of) s) (record s { affine_misses = (s.affine_misses + 1) % 2 ^ 64 })

-- all warm slots in their order
abbrev pub taken_slots : ShardState → List (SlotId × ℕ)
taken_slots s = map with_bytes s.warm

-- all warm slots are taken: each is used, and keeps its affinity
abbrev pub after_take_warm : ShardState → ShardState
after_take_warm s = record s { warm = []; used = use_again s.warm s.used; warm_takes = (s.warm_takes + 1) % 2 ^ 64 }

-- what no pick and no free changes
pub record IsSameShard (old new : ShardState) : Type 0 where
  pub kind : new.kind ≡ old.kind
  pub first : new.first ≡ old.first
  pub step : new.step ≡ old.step
  pub capacity : new.capacity ≡ old.capacity
  pub budget : new.budget ≡ old.budget

-- slots other than this one are used as before
abbrev pub KeepsOthers : SlotId → ShardState → ShardState → Type 0
KeepsOthers slot old new = (k : ℕ) → k ≢ slot.0 → use_of new k ≡ use_of old k

-- a used slot stays used for the same
abbrev pub KeepsUsed : ShardState → ShardState → Type 0
KeepsUsed old new = (k : ℕ) → IsSome (use_of old k) → use_of new k ≡ use_of old k

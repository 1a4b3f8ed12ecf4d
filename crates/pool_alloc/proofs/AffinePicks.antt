-- A pick by affinity alone leaves a shard, and gives out the slot that it answers.
use Rattle.std.proofs.Common.{◌≡◌, ℕ, ◌+◌, ◌^◌, ◌<◌, refl, arith, Option, Some, None, ◌%◌, IfSome, option_map}
use Rattle.pool_alloc.proofs.Imports.{option_map_or, mod-lt, IsChoice, affine_taken, total, shard_units, slot_unit, ShardState, IsShard, IsSameShard, Choice, warm_at, next_cold, affine_choice, affine_answer, after_affine_pick, after_choice, entry_at, slot_and_bytes, MemoryInModule, SlotId, IsFree, warm_slot_free, after_warm_sound, after_cold_sound}
use Rattle.pool_alloc.specs.Places.{Thing}
use Rattle.pool_alloc.proofs.SlotCounts.{choice_more}

-- where no slot is affine
abbrev missed : ShardState → ShardState
missed s = record s { affine_misses = (s.affine_misses + 1) % 2 ^ 64 }

missed_sound : (s : ShardState) → IsShard s → IsShard (missed s)
missed_sound s sound =
    record {
      partition = sound.partition;
      total = sound.total;
      cold_at_most = sound.cold_at_most;
      entries = sound.entries;
      bytes = sound.bytes;
      numbers = sound.numbers;
      small = sound.small;
      counts = (sound.counts.0, mod-lt (s.affine_misses + 1) {m = 2 ^ 64} (omega arith), sound.counts.2);
    }

choice_sound : (s : ShardState) (o : Option Choice) → IsShard s → IfSome o (IsChoice s) → IsShard (option_map_or (after_choice None s) o (missed s))
choice_sound s None sound taken = missed_sound s sound
choice_sound s (Some (warm_at i)) sound taken = after_warm_sound None s _ i refl sound taken
choice_sound s (Some next_cold) sound taken = after_cold_sound None s _ refl sound taken

choice_same : (s : ShardState) (o : Option Choice) → IsSameShard s (option_map_or (after_choice None s) o (missed s))
choice_same s None = record { kind = refl; first = refl; step = refl; capacity = refl; budget = refl }
choice_same s (Some (warm_at i)) = record { kind = refl; first = refl; step = refl; capacity = refl; budget = refl }
choice_same s (Some next_cold) = record { kind = refl; first = refl; step = refl; capacity = refl; budget = refl }

choice_inside : (s : ShardState) (o : Option Choice) → IsShard s → IfSome o (IsChoice s) → IfSome (option_map (λ c. (slot_and_bytes s c).0) o) (λ k. k.0 < s.capacity)
choice_inside s None sound taken = tt
choice_inside s (Some (warm_at i)) sound taken =
    let free : IsFree s (entry_at s i).slot.0 = warm_slot_free s i sound taken in
    omega (arith, free.within, sound.entries)
choice_inside s (Some next_cold) sound taken = taken

-- how much the slot weighs that is answered
abbrev pub affine_count : Thing → ShardState → Option SlotId → ℕ
affine_count t s (Some k) = t (slot_unit s k.0)
affine_count t s None = 0

choice_counts : (t : Thing) (s : ShardState) (o : Option Choice) → IsShard s → IfSome o (IsChoice s) → total t (shard_units (option_map_or (after_choice None s) o (missed s))) ≡ total t (shard_units s) + affine_count t s (option_map (λ c. (slot_and_bytes s c).0) o)
choice_counts t s None sound taken = omega arith
choice_counts t s (Some c) sound taken = choice_more t None s c sound taken

module _ (of : MemoryInModule) (s : ShardState) (sound : IsShard s) where
  pub affine_sound : IsShard (after_affine_pick of s)
  affine_sound = choice_sound s (affine_choice (Some of) s) sound (affine_taken (Some of) s)

  pub affine_same : IsSameShard s (after_affine_pick of s)
  affine_same = choice_same s (affine_choice (Some of) s)

  pub affine_inside : IfSome (affine_answer of s) (λ k. k.0 < s.capacity)
  affine_inside = choice_inside s (affine_choice (Some of) s) sound (affine_taken (Some of) s)

  pub affine_counts : (t : Thing) → total t (shard_units (after_affine_pick of s)) ≡ total t (shard_units s) + affine_count t s (affine_answer of s)
  affine_counts t = choice_counts t s (affine_choice (Some of) s) sound (affine_taken (Some of) s)

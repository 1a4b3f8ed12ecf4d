-- What a pick leaves is a shard with the same slots, and the slot that it gives is one of them.
use Rattle.std.proofs.Common.{◌+◌, ◌^◌, ◌<◌, refl, arith, Option, Some, None, IfSome, option_map}
use Rattle.pool_alloc.proofs.Imports.{option_map_or, mod-lt, IsChoice, choice_taken, MemoryInModule, ShardState, IsShard, IsSameShard, Choice, warm_at, next_cold, choice, slot_and_bytes, after_choice, after_full, after_pick, pick_answer, entry_at, IsFree, warm_slot_free, after_warm_sound, after_cold_sound}

full_sound : (s : ShardState) → IsShard s → IsShard (after_full s)
full_sound s sound =
    record {
      partition = sound.partition;
      total = sound.total;
      cold_at_most = sound.cold_at_most;
      entries = sound.entries;
      bytes = sound.bytes;
      numbers = sound.numbers;
      small = sound.small;
      counts = (mod-lt (s.full_answers + 1) {m = 2 ^ 64} (omega arith), sound.counts.1, sound.counts.2);
    }

choice_sound : (want : Option MemoryInModule) (s : ShardState) (o : Option Choice) → IsShard s → IfSome o (IsChoice s) → IsShard (option_map_or (after_choice want s) o (after_full s))
choice_sound want s None sound taken = full_sound s sound
choice_sound want s (Some (warm_at i)) sound taken = after_warm_sound want s _ i refl sound taken
choice_sound want s (Some next_cold) sound taken = after_cold_sound want s _ refl sound taken

choice_same : (want : Option MemoryInModule) (s : ShardState) (o : Option Choice) → IsSameShard s (option_map_or (after_choice want s) o (after_full s))
choice_same want s None = record { kind = refl; first = refl; step = refl; capacity = refl; budget = refl }
choice_same want s (Some (warm_at i)) = record { kind = refl; first = refl; step = refl; capacity = refl; budget = refl }
choice_same want s (Some next_cold) = record { kind = refl; first = refl; step = refl; capacity = refl; budget = refl }

choice_inside : (s : ShardState) (o : Option Choice) → IsShard s → IfSome o (IsChoice s) → IfSome (option_map (slot_and_bytes s) o) (λ p. p.0.0 < s.capacity)
choice_inside s None sound taken = tt
choice_inside s (Some (warm_at i)) sound taken =
    let free : IsFree s (entry_at s i).slot.0 = warm_slot_free s i sound taken in
    omega (arith, free.within, sound.entries)
choice_inside s (Some next_cold) sound taken = taken

pub picked_sound : (want : Option MemoryInModule) (s : ShardState) → IsShard s → IsShard (after_pick want s)
picked_sound want s sound = choice_sound want s (choice want s) sound (choice_taken want s)

pub picked_same : (want : Option MemoryInModule) (s : ShardState) → IsSameShard s (after_pick want s)
picked_same want s = choice_same want s (choice want s)

pub picked_inside : (want : Option MemoryInModule) (s : ShardState) → IsShard s → IfSome (pick_answer want s) (λ p. p.0.0 < s.capacity)
picked_inside want s sound = choice_inside s (choice want s) sound (choice_taken want s)

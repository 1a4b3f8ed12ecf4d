-- What a pick is by the warm list alone, and that slots that are taken and freed in order come back as they were.
use Rattle.std.specs.Prelude.{◌≡◌, ℕ, ◌+◌, ◌%◌, ◌^◌, false, List, [], ◌∷◌, ◌++◌, Option, None, Some, IfSome, filter, MatchOption}
use Rattle.std.specs.Option.{option_or}
use Rattle.pool_index.specs.Affinity.{same_memory, is_affine}
use Rattle.pool_index.specs.Shard.{ShardState, IsShard, pick_answer, affine_answer, after_affine_pick, taken_slots, after_take_warm, after_free}
use Rattle.pool_index.specs.declared.ids.MemoryInModule.{MemoryInModule}
use Rattle.pool_index.specs.declared.ids.SlotId.{SlotId}
use Rattle.pool_index.specs.declared.warm_slot.WarmSlot.{WarmSlot}

-- the last element of a list
abbrev pub last_of : {X : Type 0} → List X → Option X
last_of [] = None
last_of (x ∷ xs) = option_or (last_of xs) (Some x)

-- the warm slots that are affine to a memory, in the order in which they were freed
abbrev pub affine_slots : MemoryInModule → ShardState → List WarmSlot
affine_slots of s = filter (is_affine of) s.warm

-- a pick for a memory takes the last of the warm slots that are affine to it, where there is one
abbrev pub AffineSlotFirst : Type 0
AffineSlotFirst = (of : MemoryInModule) (s : ShardState) → IfSome (last_of (affine_slots of s)) (λ e. pick_answer (Some of) s ≡ Some (e.slot, e.bytes))

-- a pick by affinity alone takes the last of the slots that are affine to the memory
pub record TakesLastAffine (of : MemoryInModule) (s : ShardState) (e : WarmSlot) : Type 0 where
  pub answer : affine_answer of s ≡ Some e.slot
  pub others : affine_slots of s ≡ affine_slots of (after_affine_pick of s) ++ e ∷ []
  pub apart : (other : MemoryInModule) → same_memory other of ≡ false → affine_slots other (after_affine_pick of s) ≡ affine_slots other s

-- A pick takes the last freed of the warm slots that are affine to the memory; where none is, it takes none of them.
abbrev pub AffineSlotsAreFiltered : Type 0
AffineSlotsAreFiltered = (of : MemoryInModule) (s : ShardState) → MatchOption (last_of (affine_slots of s)) (affine_answer of s ≡ None) (TakesLastAffine of s)

-- slots are freed one after the other, each with its bytes
abbrev pub free_all : List (SlotId × ℕ) → ShardState → ShardState
free_all [] s = s
free_all (p ∷ ps) s = free_all ps (after_free p.0 p.1 s)

-- Warm slots that are all taken and freed again in their order leave the shard as it was, but for one count.
abbrev pub TakenSlotsComeBack : Type 0
TakenSlotsComeBack = (s : ShardState) → IsShard s → free_all (taken_slots s) (after_take_warm s) ≡ record s { warm_takes = (s.warm_takes + 1) % 2 ^ 64 }

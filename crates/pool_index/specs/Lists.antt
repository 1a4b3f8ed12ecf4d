-- The slots that were used: the free ones in a list, and what each of the others was picked for.
use Rattle.std.specs.Prelude.{ℕ, ◌+◌, ◌-◌, ◌*◌, ◌++◌, List, [], ◌∷◌, length, filter, min, take, drop, slice_index_or, slice_set, remove, sum_by, Option, None, Some, unwrap_or}
use Rattle.pool_index.specs.Table.{same_affinity}
use Rattle.pool_index.specs.declared.ids.MemoryInModule.{MemoryInModule}
use Rattle.pool_index.specs.declared.ids.SlotId.{SlotId}
use Rattle.pool_index.specs.declared.warm_slot.WarmSlot.{WarmSlot}

-- the warm slots in the order in which they were freed, and for each slot what it was picked for, where it is used
pub record SlotLists : Type 0 where
  pub warm : List WarmSlot
  pub used : List (Option (Option MemoryInModule))

-- the warm slot at a place; past the end it doesn't matter which
abbrev pub warm_slot : SlotLists → ℕ → WarmSlot
warm_slot l i = slice_index_or l.warm i (record { slot = record { 0 = 0 }; affinity = None; bytes = 0 })

-- the slot of a warm slot, with the bytes that it keeps resident
abbrev pub with_bytes : WarmSlot → SlotId × ℕ
with_bytes e = (e.slot, e.bytes)

-- a slot with its bytes, by the number that it has where the first slot has this one, and each next one so much more
abbrev pub numbered : ℕ → ℕ → SlotId × ℕ → SlotId × ℕ
numbered first step p = (record { 0 = first + p.0.0 * step }, p.1)

-- the bytes that warm slots keep resident
abbrev pub bytes_of : List WarmSlot → ℕ
bytes_of warm = sum_by (λ e. e.bytes) warm

-- the warm slot at a place is used for what was wanted
abbrev pub use_warm : Option MemoryInModule → SlotLists → ℕ → SlotLists
use_warm want l i = record { warm = remove l.warm i; used = slice_set l.used (warm_slot l i).slot.0 (Some want) }

-- a slot is used for what was wanted
abbrev pub use_slot : SlotId → Option MemoryInModule → SlotLists → SlotLists
use_slot slot want l = record l { used = slice_set l.used slot.0 (Some want) }

-- a used slot is the last warm one, affine to what it was picked for
abbrev pub free_slot : SlotId → ℕ → SlotLists → SlotLists
free_slot slot bytes l = record {
  warm = l.warm ++ record { slot = slot; affinity = unwrap_or (slice_index_or l.used slot.0 None) None; bytes = bytes } ∷ [];
  used = slice_set l.used slot.0 None;
}

-- each of these slots is used for what it is affine to
abbrev pub use_again : List WarmSlot → List (Option (Option MemoryInModule)) → List (Option (Option MemoryInModule))
use_again [] used = used
use_again (e ∷ es) used = use_again es (slice_set used e.slot.0 (Some e.affinity))

-- those of these warm slots that have this affinity, or that have none
abbrev pub with_same : Option MemoryInModule → List WarmSlot → List WarmSlot
with_same a warm = filter (λ e. same_affinity a e.affinity) warm

-- How many records a free accesses: that of the slot twice, and those of the last slots of all the warm ones and of those with its affinity, where there are any
abbrev pub free_accesses : SlotId → SlotLists → ℕ
free_accesses slot l = 2 + min 1 (length l.warm) + min 1 (length (with_same (unwrap_or (slice_index_or l.used slot.0 None) None) l.warm))

-- How many records a take of the warm slot at a place accesses: that of the slot, and those of its neighbours among all warm slots and among those with its affinity
abbrev pub take_accesses : SlotLists → ℕ → ℕ
take_accesses l i = 1 + min 1 i + min 1 (length l.warm - (i + 1)) + min 1 (length (with_same (warm_slot l i).affinity (take i l.warm))) + min 1 (length (with_same (warm_slot l i).affinity (drop (i + 1) l.warm)))

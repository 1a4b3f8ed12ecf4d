-- Lists of slots that are linked through their records.
use Rattle.std.specs.Prelude.{◌≡◌, ◌≢◌, ◌==◌, ◌+◌, ◌-◌, ℕ, zero, suc, Bool, true, false, List, [], ◌∷◌, length, map, filter, sum_by, Option, None, Some, option_map}
use Rattle.std.specs.Option.{option_map_or}
use Rattle.pool_index.specs.Lists.{SlotLists}
use Rattle.pool_index.specs.Records.{record_of, links_of}
use Rattle.pool_index.specs.Table.{same_affinity, ends_at, ends_len, table_total}
use Rattle.pool_index.specs.declared.affinity_table.AffinityEntry.{AffinityEntry}
use Rattle.pool_index.specs.declared.affinity_table.Ends.{Ends}
use Rattle.pool_index.specs.declared.ids.MemoryInModule.{MemoryInModule}
use Rattle.pool_index.specs.declared.slot_row.Chain.{Chain}
use Rattle.pool_index.specs.declared.slot_row.Chain.TheVariants.{Freed, Affine}
use Rattle.pool_index.specs.declared.slot_row.Links.{Links}
use Rattle.pool_index.specs.declared.slot_row.SlotRecord.{SlotRecord}
use Rattle.pool_index.specs.declared.slot_row.SlotRecord.TheVariants.{Cold, Used, Warm}
use Rattle.pool_index.specs.declared.warm_slot.WarmSlot.{WarmSlot}

-- a fact holds of each slot of a list
abbrev pub Each : (ℕ → Type 0) → List ℕ → Type 0
Each P [] = Unit {0}
Each P (k ∷ ks) = P k × Each P ks

-- no slot is twice in a list
abbrev pub Apart : List ℕ → Type 0
Apart [] = Unit {0}
Apart (k ∷ ks) = Each (λ j. j ≢ k) ks × Apart ks

-- the first slot of a list
abbrev pub first_of : List ℕ → Option ℕ
first_of [] = None
first_of (k ∷ ks) = Some k

-- the last slot of a list that begins with this one
abbrev pub last_in : ℕ → List ℕ → ℕ
last_in k [] = k
last_in k (j ∷ ks) = last_in j ks

-- where a list begins and ends, and how many slots it has
abbrev pub ends_of : List ℕ → Option Ends
ends_of [] = None
ends_of (k ∷ ks) = Some (record { first = k; last = last_in k ks; len = length (k ∷ ks) })

-- by these links after and before a slot, the list is linked in both directions, with this slot before it
abbrev pub Linked : (ℕ → Option ℕ) → (ℕ → Option ℕ) → Option ℕ → List ℕ → Type 0
Linked after before p [] = Unit {0}
Linked after before p (k ∷ ks) = (before k ≡ p) × (after k ≡ first_of ks) × Linked after before (Some k) ks

-- The slot that follows slot k in a list, if any.
abbrev pub after_in : Chain → List SlotRecord → ℕ → Option ℕ
after_in c rs k = (links_of c (record_of rs k)).after

-- The slot before slot k in a list, if any.
abbrev pub before_in : Chain → List SlotRecord → ℕ → Option ℕ
before_in c rs k = (links_of c (record_of rs k)).before

-- the slots are linked in one of the two lists
abbrev pub IsLinked : Chain → List SlotRecord → List ℕ → Type 0
IsLinked c rs ks = Linked (after_in c rs) (before_in c rs) None ks

-- what a slot was picked for, where it is used
abbrev pub use_in : SlotRecord → Option (Option MemoryInModule)
use_in Cold = None
use_in (Used a) = Some a
use_in (Warm w) = None

-- The slot was freed and keeps what it held.
abbrev pub is_warm : SlotRecord → Bool
is_warm Cold = false
is_warm (Used a) = false
is_warm (Warm w) = true

-- the entry of a slot in the warm list
abbrev pub entry_in : ℕ → SlotRecord → WarmSlot
entry_in k Cold = record { slot = record { 0 = k }; affinity = None; bytes = 0 }
entry_in k (Used a) = record { slot = record { 0 = k }; affinity = None; bytes = 0 }
entry_in k (Warm w) = record { slot = record { 0 = k }; affinity = w.affinity; bytes = w.bytes }

-- The entry of slot k in the list of warm slots.
abbrev pub warm_entry : List SlotRecord → ℕ → WarmSlot
warm_entry rs k = entry_in k (record_of rs k)

-- the slots of a list of so many, from this one on
abbrev pub followed : List SlotRecord → ℕ → Option ℕ → List ℕ
followed rs zero k = []
followed rs (suc n) None = []
followed rs (suc n) (Some k) = k ∷ followed rs n (after_in Freed rs k)

-- the first slot of a list with these ends
abbrev pub ends_first : Option Ends → Option ℕ
ends_first e = option_map (λ e. e.first) e

-- the lists that records stand for
abbrev pub lists_of : List SlotRecord → Option Ends → SlotLists
lists_of rs freed = record {
  warm = map (warm_entry rs) (followed rs (ends_len freed) (ends_first freed));
  used = map use_in rs;
}

-- a slot has this affinity
abbrev pub has_affinity : List SlotRecord → Option MemoryInModule → ℕ → Bool
has_affinity rs a k = same_affinity a (warm_entry rs k).affinity

-- the slots of a list that have an affinity
abbrev pub with_affinity : List SlotRecord → Option MemoryInModule → List ℕ → List ℕ
with_affinity rs a ks = filter (has_affinity rs a) ks

-- the warm slots, in the order in which they were freed, are linked, and so are those of each affinity
pub record IsWoven (rs : List SlotRecord) (table : List (Option AffinityEntry)) (freed : Option Ends) (bytes : ℕ) (ks : List ℕ) : Type 0 where
  pub freed_ends : freed ≡ ends_of ks
  pub freed_linked : IsLinked Freed rs ks
  pub affine_ends : (a : Option MemoryInModule) → ends_at table a ≡ ends_of (with_affinity rs a ks)
  pub affine_linked : (a : Option MemoryInModule) → IsLinked Affine rs (with_affinity rs a ks)
  pub apart : Apart ks
  pub warm : Each (λ k. is_warm (record_of rs k) ≡ true) ks
  pub total : table_total table ≡ length ks
  pub bytes_kept : bytes ≡ sum_by (λ k. (warm_entry rs k).bytes) ks

-- the slot is this one
abbrev pub is_at : ℕ → Option ℕ → Bool
is_at k o = option_map_or (λ j. j == k) o false

-- the last slot, if there is one, and else this one
abbrev pub last_or : Option ℕ → List ℕ → Option ℕ
last_or p [] = p
last_or p (k ∷ ks) = last_or (Some k) ks

-- The last slot of a list, if it has one.
abbrev pub ends_last : Option Ends → Option ℕ
ends_last e = option_map (λ e. e.last) e

-- the ends of a list with one slot more
abbrev pub ends_with : Option Ends → ℕ → Option Ends
ends_with None k = Some (record { first = k; last = k; len = 1 })
ends_with (Some e) k = Some (record { first = e.first; last = k; len = e.len + 1 })

-- the ends of a list that has these slots before and after the one that is taken out
abbrev pub ends_around : Option ℕ → Option ℕ → Ends → Option Ends
ends_around None None e = None
ends_around None (Some k) e = Some (record { first = k; last = e.last; len = e.len - 1 })
ends_around (Some k) None e = Some (record { first = e.first; last = k; len = e.len - 1 })
ends_around (Some j) (Some k) e = Some (record { first = e.first; last = e.last; len = e.len - 1 })

-- the ends of a list without a slot that has these neighbours in it
abbrev pub ends_without : Links → Option Ends → Option Ends
ends_without l None = None
ends_without l (Some e) = ends_around l.before l.after e

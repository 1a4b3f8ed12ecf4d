-- The table of affinities: where the list of each begins and ends.
use Rattle.std.specs.Prelude.{◌≡◌, ℕ, ◌<◌, ◌+◌, ◌-◌, ◌*◌, ◌/◌, ◌%◌, ◌^◌, Bool, true, false, nat_lt, List, [], ◌∷◌, length, slice_index_or, sum_by, Option, None, Some, if◌then◌else◌}
use Rattle.std.specs.Option.{option_or, option_map_or}
use Rattle.pool_index.specs.Affinity.{same_memory}
use Rattle.pool_index.specs.declared.ids.MemoryInModule.{MemoryInModule}
use Rattle.pool_index.specs.declared.affinity_table.Ends.{Ends}
use Rattle.pool_index.specs.declared.affinity_table.AffinityEntry.{AffinityEntry}
use Rattle.pool_index.specs.declared.affinity_table.Spot.{Spot}

-- the same memory, or none both times
abbrev pub same_affinity : Option MemoryInModule → Option MemoryInModule → Bool
same_affinity (Some a) (Some b) = same_memory a b
same_affinity None None = true
same_affinity (Some a) None = false
same_affinity None (Some b) = false

-- a number made of an affinity
unfoldable pub mixed : Option MemoryInModule → ℕ
mixed None = 0
mixed (Some m) = (m.0.0 * 11400714819323198485 % 2 ^ 64 + m.1.0 * 14029467366897019727 % 2 ^ 64) % 2 ^ 64

-- where among so many places an affinity is looked for first
unfoldable pub home : ℕ → Option MemoryInModule → ℕ
home len a = mixed a / 2 ^ 32 % len

-- the place so far behind a home, round the end
abbrev pub place : ℕ → ℕ → ℕ → ℕ
place len home distance = if nat_lt (home + distance) len then home + distance else home + distance - len

-- how far behind a home a place is
abbrev pub distance : ℕ → ℕ → ℕ → ℕ
distance len home at' = if nat_lt at' home then at' + len - home else at' - home

-- the place has the entry of an affinity
abbrev pub has : Option MemoryInModule → Option AffinityEntry → Bool
has a e = option_map_or (λ e. same_affinity a e.affinity) e false

-- the ends that a place has of the list of an affinity
abbrev pub own : Option MemoryInModule → Option AffinityEntry → Option Ends
own a None = None
own a (Some e) = if same_affinity a e.affinity then Some e.ends else None

-- an affinity's entry
abbrev pub entry_with : Option MemoryInModule → Option Ends → Option AffinityEntry
entry_with a None = None
entry_with a (Some ends) = Some (record { affinity = a; ends = ends })

-- the ends of the list of an affinity
abbrev pub ends_at : List (Option AffinityEntry) → Option MemoryInModule → Option Ends
ends_at [] a = None
ends_at (e ∷ es) a = option_or (own a e) (ends_at es a)

-- how many slots a list has
abbrev pub ends_len : Option Ends → ℕ
ends_len None = 0
ends_len (Some e) = e.len

-- How many warm slots are affine to an entry of the table; none where there is no entry.
abbrev pub entry_len : Option AffinityEntry → ℕ
entry_len None = 0
entry_len (Some e) = e.ends.len

-- how many slots all lists have
abbrev pub table_total : List (Option AffinityEntry) → ℕ
table_total es = sum_by entry_len es

-- a search for an affinity found this
pub record IsSpot (es : List (Option AffinityEntry)) (a : Option MemoryInModule) (s : Spot) : Type 0 where
  pub its : s.home ≡ home (length es) a
  pub within : s.home < length es
  pub list : s.ends ≡ ends_at es a
  pub found : (i : ℕ) → s.entry ≡ Some i → (i < length es) × (has a (slice_index_or es i None) ≡ true)
  pub absent : s.entry ≡ None → (i : ℕ) → has a (slice_index_or es i None) ≡ false

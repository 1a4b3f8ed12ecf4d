-- What is known of the fields of a table of affinities.
use Rattle.std.specs.Prelude.{◌≡◌, ℕ, ◌<◌, ◌≤◌, ◌^◌, true, List, Option, None, IfSome, length, slice_index_or}
use Rattle.pool_index.specs.Table.{home, distance, has}
use Rattle.pool_index.specs.declared.ids.MemoryInModule.{MemoryInModule}
use Rattle.pool_index.specs.declared.affinity_table.AffinityEntry.{AffinityEntry}

-- each affinity has one entry at most, which is within the reach of its home
pub record IsTable (entries : List (Option AffinityEntry)) (reach : List ℕ) : Type 0 where
  pub once : (i j : ℕ) (a : Option MemoryInModule) → has a (slice_index_or entries i None) ≡ true → has a (slice_index_or entries j None) ≡ true → i ≡ j
  pub near : (i : ℕ) (a : Option MemoryInModule) → has a (slice_index_or entries i None) ≡ true → distance (length entries) (home (length entries) a) i < slice_index_or reach (home (length entries) a) 0
  pub within : (k : ℕ) → slice_index_or reach k 0 ≤ length entries
  pub lists : (i : ℕ) → IfSome (slice_index_or entries i None) (λ e. 0 < e.ends.len)
  pub homes : length reach ≡ length entries
  pub some : 0 < length entries
  pub small : length entries < 2 ^ 63

use Rattle.std.proofs.Common.{◌≡◌, ℕ, ◌<◌, true, None, is_some, slice_index_or}
use Rattle.pool_index.specs.Table.{place}
use Rattle.pool_index.proofs.affinity_table.AffinityTable.vacancy.Given as goal

abbrev pub invariant-loop-distance : goal.invariant-loop-distance
invariant-loop-distance l = (d : ℕ) → d < l.distance → is_some (slice_index_or l.self (place l.len l.home d) None) ≡ true

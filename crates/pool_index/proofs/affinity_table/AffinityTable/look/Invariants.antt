use Rattle.std.proofs.Common.{◌≡◌, ℕ, ◌<◌, false, None, slice_index_or}
use Rattle.pool_index.specs.Table.{has, place}
use Rattle.pool_index.proofs.affinity_table.AffinityTable.look.Given as goal

abbrev pub invariant-loop-distance : goal.invariant-loop-distance
invariant-loop-distance l = (d : ℕ) → d < l.distance → has l.affinity (slice_index_or l.self (place l.len l.home d) None) ≡ false

use Rattle.std.proofs.Common.{◌≡◌, ℕ, ◌-◌, ◌<◌, ◌≤◌, false, None, is_some, slice_index_or}
use Rattle.pool_index.specs.Table.{place}
use Rattle.pool_index.proofs.affinity_table.AffinityTable.taken_within.Given as goal

abbrev pub invariant-loop-back : goal.invariant-loop-back
invariant-loop-back l = (d : ℕ) → l.reach - l.back ≤ d → d < l.reach → is_some (slice_index_or l.self (place l.len l.home d) None) ≡ false

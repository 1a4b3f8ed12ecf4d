use Rattle.std.proofs.Common.{ℕ, ◌≤◌, ◌<◌, ◌-◌, length, slice_index_or}
use Rattle.pool_table.proofs.failing_numbers.count_below.Given as goal

-- so many are below it
abbrev pub invariant-loop-count : goal.invariant-loop-count
invariant-loop-count l = record {
  within : l.count ≤ length l.sorted;
  before : (k : ℕ) → k < l.count → slice_index_or l.sorted k 0 < l.number;
}

abbrev pub decreases-loop-count : goal.decreases-loop-count
decreases-loop-count l = length l.sorted - l.count

use Rattle.std.proofs.Common.{◌≡◌, replicate}
use Rattle.pool_view_summary.proofs.marks.zeros.Given as goal

-- as many zeros so far
abbrev pub invariant-loop-at : goal.invariant-loop-at
invariant-loop-at l = l.all.items ≡ replicate l.at 0

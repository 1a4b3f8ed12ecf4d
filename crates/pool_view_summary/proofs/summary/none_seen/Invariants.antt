use Rattle.std.proofs.Common.{◌≡◌, replicate}
use Rattle.pool_view_summary.specs.Seen.{unseen}
use Rattle.pool_view_summary.proofs.summary.none_seen.Given as goal

-- as many so far
abbrev pub invariant-loop-party : goal.invariant-loop-party
invariant-loop-party l = l.all.items ≡ replicate l.party unseen

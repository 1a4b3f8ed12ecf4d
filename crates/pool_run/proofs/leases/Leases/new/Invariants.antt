use Rattle.std.proofs.Common.{◌≡◌, replicate, None}
use Rattle.pool_run.proofs.leases.Leases.new.Given as goal

-- as many places so far, and no lease
abbrev pub invariant-loop-place : goal.invariant-loop-place
invariant-loop-place g l = l.places.items ≡ replicate l.place None

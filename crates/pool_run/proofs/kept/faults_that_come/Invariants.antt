use Rattle.std.proofs.Common.{◌≡◌, filter, take}
use Rattle.pool_run.specs.Kept.{can_come}
use Rattle.pool_run.proofs.kept.faults_that_come.Given as goal

-- what comes of the entries so far
abbrev pub invariant-loop-at : goal.invariant-loop-at
invariant-loop-at l = l.kept.items ≡ filter can_come (take l.at l.faults)

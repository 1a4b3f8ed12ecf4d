use Rattle.std.proofs.Common.{◌≡◌, ◌+◌, ◌*◌, sum_by, take}
use Rattle.pool_run.proofs.bounds.over_stripes.Given as goal

-- what was found so far
abbrev pub invariant-loop-allocator : goal.invariant-loop-allocator
invariant-loop-allocator l = l.total ≡ sum_by (λ a. a.capacity * l.slot + l.stripe) (take l.allocator-index l.all)

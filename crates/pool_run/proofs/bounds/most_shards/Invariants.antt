use Rattle.std.proofs.Common.{◌≡◌, max, take}
use Rattle.pool_alloc.specs.StepBounds.{most_shards}
use Rattle.pool_run.proofs.bounds.most_shards.Given as goal

-- what was found so far
abbrev pub invariant-loop-allocator : goal.invariant-loop-allocator
invariant-loop-allocator l = l.most ≡ max l.fn.least (most_shards (take l.allocator-index l.all))

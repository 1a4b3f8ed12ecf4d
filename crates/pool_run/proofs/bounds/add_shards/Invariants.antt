use Rattle.std.proofs.Common.{◌≡◌, ◌+◌, take}
use Rattle.pool_alloc.specs.StepBounds.{all_shards}
use Rattle.pool_run.proofs.bounds.add_shards.Given as goal

-- what was found so far
abbrev pub invariant-loop-allocator : goal.invariant-loop-allocator
invariant-loop-allocator l = l.total ≡ l.fn.before + all_shards (take l.allocator-index l.all)

use Rattle.std.proofs.Common.{◌-◌, ◌≤◌}
use Rattle.pool_memory.specs.Copying.{IsCopied}
use Rattle.pool_memory.proofs.moving.copy_bytes.Given as goal

abbrev pub invariant-loop-done : goal.invariant-loop-done
invariant-loop-done g l = (l.done ≤ l.len) × IsCopied 0 l.done l.from l.fn.to l.to

abbrev pub decreases-loop-done : goal.decreases-loop-done
decreases-loop-done g l = l.len - l.done

use Rattle.std.proofs.Common.{◌≡◌, replicate}
use Rattle.pool_run.specs.Turns.{no_lists}
use Rattle.pool_run.proofs.run.no_slots.Given as goal

-- as many lists so far
abbrev pub invariant-loop-at : goal.invariant-loop-at
invariant-loop-at l = l.slots.items ≡ replicate l.at no_lists

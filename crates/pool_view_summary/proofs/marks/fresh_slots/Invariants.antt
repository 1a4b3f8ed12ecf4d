use Rattle.std.proofs.Common.{◌≡◌, replicate}
use Rattle.pool_view_summary.specs.Marks.{fresh}
use Rattle.pool_view_summary.proofs.marks.fresh_slots.Given as goal

-- as many slots so far, none of which was picked
abbrev pub invariant-loop-slot : goal.invariant-loop-slot
invariant-loop-slot l = l.pasts.items ≡ replicate l.slot fresh

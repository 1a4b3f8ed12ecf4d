use Rattle.std.proofs.Common.{◌≡◌, length, drop}
use Rattle.pool_index.specs.Freed.{slots_among}
use Rattle.pool_index.proofs.free_call.has_between.Given as goal

abbrev pub invariant-loop-at : goal.invariant-loop-at
invariant-loop-at l = length (slots_among l.first l.end (drop l.at l.slots)) ≡ length (slots_among l.first l.end l.slots)

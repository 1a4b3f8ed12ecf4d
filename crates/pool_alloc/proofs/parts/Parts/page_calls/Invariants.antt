use Rattle.std.proofs.Common.{◌≡◌, take}
use Rattle.pool_alloc.specs.PoolTotals.{calls_of_parts}
use Rattle.pool_alloc.proofs.parts.Parts.page_calls.Given as goal

-- the calls on the regions of the parts so far
abbrev pub invariant-loop-part : goal.invariant-loop-part
invariant-loop-part g l = l.calls ≡ calls_of_parts (take l.part-index l.part-items)

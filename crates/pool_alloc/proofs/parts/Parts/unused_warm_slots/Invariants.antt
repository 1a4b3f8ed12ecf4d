use Rattle.std.proofs.Common.{◌≡◌, take}
use Rattle.pool_alloc.specs.PoolTotals.{warm_slots}
use Rattle.pool_alloc.proofs.parts.Parts.unused_warm_slots.Given as goal

-- those of the parts so far
abbrev pub invariant-loop-part : goal.invariant-loop-part
invariant-loop-part g l = l.slots ≡ warm_slots l.kind (take l.part-index l.part-items)

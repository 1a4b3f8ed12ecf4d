use Rattle.std.proofs.Common.{◌≡◌, take}
use Rattle.pool_alloc.specs.PoolTotals.{resident_sum}
use Rattle.pool_alloc.proofs.parts.Parts.unused_bytes_resident.Given as goal

-- those of the parts so far
abbrev pub invariant-loop-part : goal.invariant-loop-part
invariant-loop-part g l = l.bytes ≡ resident_sum l.kind (take l.part-index l.part-items)

use Rattle.std.proofs.Common.{◌<◌, ℕ, IfSome}
use Rattle.pool_table.specs.Tables.{IsZeroWord}
use Rattle.pool_table.proofs.static_elements.StaticElements.is_all_zero.Given as goal

abbrev pub invariant-loop-index : goal.invariant-loop-index
invariant-loop-index g l =
    IfSome l.self.region.contents (λ c. (k : ℕ) → k < l.index → IsZeroWord l.self.kind k c.bytes)

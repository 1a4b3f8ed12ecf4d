use Rattle.std.proofs.Common.{◌≡◌, ℕ, ◌<◌, slice_index_or}
use Rattle.pool_table.specs.Elements.{Element, empty}
use Rattle.pool_table.proofs.dynamic_elements.DynamicElements.is_all_zero.Given as goal

abbrev pub invariant-loop-index : goal.invariant-loop-index
invariant-loop-index g l = (k : ℕ) (d : Element) → k < l.index → slice_index_or l.self.elements k d ≡ empty l.self.kind

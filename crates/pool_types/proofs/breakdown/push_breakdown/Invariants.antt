use Rattle.std.proofs.Common.{◌≡◌, ◌++◌, string_bytes, drop}
use Rattle.pool_types.specs.Breakdown.{breakdown, listed_parts}
use Rattle.pool_types.proofs.breakdown.push_breakdown.Given as goal

abbrev pub invariant-loop-part : goal.invariant-loop-part
invariant-loop-part l = string_bytes l.out ++ listed_parts l.fn.size (drop l.part-index l.parts) ≡ string_bytes l.fn.out ++ breakdown l.fn.size l.fn.info

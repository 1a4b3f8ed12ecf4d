use Rattle.std.proofs.Common.{◌≡◌, take}
use Rattle.pool_types.proofs.copies.copy_parts.Given as goal

-- the parts so far are copied
abbrev pub invariant-loop-part : goal.invariant-loop-part
invariant-loop-part l = l.copies.items ≡ take l.part-index l.parts

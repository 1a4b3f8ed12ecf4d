use Rattle.std.proofs.Common.{take}
use Rattle.std.specs.List.{AllByRecursion}
use Rattle.pool_slots.specs.Listed.{PartFailsAsListed}
use Rattle.pool_driver.proofs.closing.failures_law.Given as goal

-- it holds of the parts so far
abbrev pub invariant-loop-part : goal.invariant-loop-part
invariant-loop-part g l = AllByRecursion PartFailsAsListed (take l.part-index l.parts)

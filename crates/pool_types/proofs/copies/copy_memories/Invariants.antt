use Rattle.std.proofs.Common.{◌≡◌, take}
use Rattle.pool_types.proofs.copies.copy_memories.Given as goal

-- the memories so far are copied
abbrev pub invariant-loop-decl : goal.invariant-loop-decl
invariant-loop-decl l = l.copies.items ≡ take l.decl-index l.memories

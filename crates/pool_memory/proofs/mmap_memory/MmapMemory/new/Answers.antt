use Rattle.pool_memory.proofs.Moves.{new_keeps}
use Rattle.pool_memory.proofs.mmap_memory.MmapMemory.new.Goals as goal

pub invariant_of-result : goal.invariant_of-result
invariant_of-result g c = new_keeps c.in-Some.layout c.args.minimum c.extra_on_growth.result c.in-Ok.slot c.in-Ok.ensures.made

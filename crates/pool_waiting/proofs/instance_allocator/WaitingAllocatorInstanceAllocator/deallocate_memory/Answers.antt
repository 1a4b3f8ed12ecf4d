use Rattle.pool_alloc.specs.Held.{memory_held}
use Rattle.pool_callers.specs.Callers.{about_pool}
use Rattle.pool_waiting.proofs.Waited.{loses_returned}
use Rattle.pool_waiting.proofs.instance_allocator.WaitingAllocatorInstanceAllocator.deallocate_memory.Goals as goal

pub returns-clause-held : goal.returns-clause-held
returns-clause-held g c = loses_returned (about_pool g.M.PageMaker.told c.args.self.now.allocator.now) (memory_held c.args.memory) c.args.seat.now c.deallocate_memory.new.seat c.deallocate_memory.ensures.returned

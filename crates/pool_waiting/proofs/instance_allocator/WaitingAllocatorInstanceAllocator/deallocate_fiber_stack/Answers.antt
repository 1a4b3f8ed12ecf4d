use Rattle.pool_alloc.specs.Held.{stack_held}
use Rattle.pool_callers.specs.Callers.{about_pool}
use Rattle.pool_waiting.proofs.Waited.{loses_returned}
use Rattle.pool_waiting.proofs.instance_allocator.WaitingAllocatorInstanceAllocator.deallocate_fiber_stack.Goals as goal

pub returns-clause-held : goal.returns-clause-held
returns-clause-held g c = loses_returned (about_pool g.M.PageMaker.told c.args.self.now.allocator.now) (stack_held c.args.stack) c.args.seat.now c.deallocate_fiber_stack.new.seat c.deallocate_fiber_stack.ensures.returned

use Rattle.pool_alloc.specs.Held.{heap_held}
use Rattle.pool_callers.specs.Callers.{about_pool}
use Rattle.pool_waiting.proofs.Waited.{loses_returned}
use Rattle.pool_waiting.proofs.instance_allocator.WaitingAllocatorInstanceAllocator.deallocate_gc_heap.Goals as goal

pub returns-clause-held : goal.returns-clause-held
returns-clause-held g c = loses_returned (about_pool g.M.PageMaker.told c.args.self.now.allocator.now) (heap_held c.args.heap) c.args.seat.now c.deallocate_gc_heap_over.new.seat c.deallocate_gc_heap_over.ensures.returned

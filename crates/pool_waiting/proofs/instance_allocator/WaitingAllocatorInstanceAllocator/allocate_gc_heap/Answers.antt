use Rattle.std.proofs.Common.{refl}
use Rattle.pool_alloc.specs.Held.{heap_held}
use Rattle.pool_alloc.specs.declared.frame.Asked.TheVariants as wanted
use Rattle.pool_callers.specs.Callers.{about_pool}
use Rattle.pool_waiting.proofs.Waited.{gains_ends}
use Rattle.pool_waiting.proofs.instance_allocator.WaitingAllocatorInstanceAllocator.allocate_gc_heap.Goals as goal

pub returns-clause-held : goal.returns-clause-held
returns-clause-held g c = gains_ends (about_pool g.M.PageMaker.told c.args.self.now.allocator.now) heap_held c.args.home.0 c.args.seat.now.frame.stripe (wanted.HeapOver c.args.memory) c.allocate_gc_heap_over.result c.args.seat.now c.args.seat.now c.allocate_gc_heap_over.new.seat refl c.allocate_gc_heap_over.ensures.granted c.allocate_gc_heap_over.ensures.refused

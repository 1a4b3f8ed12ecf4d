use Rattle.pool_callers.specs.Callers.{about_pool}
use Rattle.pool_waiting.proofs.Waited.{keeps_kept}
use Rattle.pool_waiting.proofs.instance_allocator.WaitingAllocatorInstanceAllocator.next_available_pkey.Goals as goal

pub returns-clause-held : goal.returns-clause-held
returns-clause-held g c = keeps_kept (about_pool g.M.PageMaker.told c.args.self.now.allocator.now) c.args.seat.now c.next_available_pkey.new.seat c.next_available_pkey.ensures.kept

use Rattle.pool_callers.specs.Callers.{about_pool}
use Rattle.pool_waiting.proofs.Waited.{core_lost, core_there}
use Rattle.pool_waiting.proofs.instance_allocator.WaitingAllocatorInstanceAllocator.decrement_core_instance_count.Goals as goal

pub decrement_core_instance_count-requires-clause-some : goal.decrement_core_instance_count-requires-clause-some
decrement_core_instance_count-requires-clause-some g c = core_there (about_pool g.M.PageMaker.told c.args.self.now.allocator.now) c.args.seat.now c.requires.gives

pub returns-clause-held : goal.returns-clause-held
returns-clause-held g c = core_lost (about_pool g.M.PageMaker.told c.args.self.now.allocator.now) c.args.seat.now c.decrement_core_instance_count.new.seat c.decrement_core_instance_count.ensures.uncounted

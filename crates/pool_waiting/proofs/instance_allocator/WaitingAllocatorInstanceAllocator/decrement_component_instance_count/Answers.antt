use Rattle.pool_callers.specs.Callers.{about_pool}
use Rattle.pool_waiting.proofs.Waited.{component_lost, component_there}
use Rattle.pool_waiting.proofs.instance_allocator.WaitingAllocatorInstanceAllocator.decrement_component_instance_count.Goals as goal

pub decrement_component_instance_count-requires-clause-some : goal.decrement_component_instance_count-requires-clause-some
decrement_component_instance_count-requires-clause-some g c = component_there (about_pool g.M.PageMaker.told c.args.self.now.allocator.now) c.args.seat.now c.requires.gives

pub returns-clause-held : goal.returns-clause-held
returns-clause-held g c = component_lost (about_pool g.M.PageMaker.told c.args.self.now.allocator.now) c.args.seat.now c.decrement_component_instance_count.new.seat c.decrement_component_instance_count.ensures.uncounted

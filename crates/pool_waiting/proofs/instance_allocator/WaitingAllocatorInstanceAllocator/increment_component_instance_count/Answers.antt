use Rattle.pool_alloc.specs.StepTable.{no_component_left}
use Rattle.pool_callers.specs.Callers.{about_pool}
use Rattle.pool_driver.specs.Telling.{component_counter}
use Rattle.pool_waiting.proofs.Waited.{component_gained}
use Rattle.pool_waiting.proofs.instance_allocator.WaitingAllocatorInstanceAllocator.increment_component_instance_count.Goals as goal

pub returns-clause-held : goal.returns-clause-held
returns-clause-held g c =
    component_gained (about_pool g.M.PageMaker.told c.args.self.now.allocator.now) component_counter (no_component_left c.args.self.now.allocator.now.pool.settings) c.increment_component_instance_count.result c.args.seat.now c.increment_component_instance_count.new.seat
    c.increment_component_instance_count.ensures.counted c.increment_component_instance_count.ensures.refused

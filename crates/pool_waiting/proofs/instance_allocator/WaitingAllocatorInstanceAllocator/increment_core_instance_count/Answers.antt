use Rattle.pool_alloc.specs.StepTable.{no_instance_left}
use Rattle.pool_callers.specs.Callers.{about_pool}
use Rattle.pool_driver.specs.Telling.{instance_counter}
use Rattle.pool_waiting.proofs.Waited.{core_gained}
use Rattle.pool_waiting.proofs.instance_allocator.WaitingAllocatorInstanceAllocator.increment_core_instance_count.Goals as goal

pub returns-clause-held : goal.returns-clause-held
returns-clause-held g c =
    core_gained (about_pool g.M.PageMaker.told c.args.self.now.allocator.now) instance_counter (no_instance_left c.args.self.now.allocator.now.pool.settings) c.increment_core_instance_count.result c.args.seat.now c.increment_core_instance_count.new.seat
    c.increment_core_instance_count.ensures.counted c.increment_core_instance_count.ensures.refused

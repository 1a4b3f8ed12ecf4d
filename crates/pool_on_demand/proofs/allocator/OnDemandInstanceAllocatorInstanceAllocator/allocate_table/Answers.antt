use Rattle.std.proofs.Common.{refl}
use Rattle.pool_on_demand.proofs.allocator.OnDemandInstanceAllocatorInstanceAllocator.allocate_table.Goals as goal

pub returns-clause-made : goal.returns-clause-made
returns-clause-made g c = (c.next_table.ensures.made (g.M.PageMaker.told c.args._seat.now.maker), refl)

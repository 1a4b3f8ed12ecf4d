use Rattle.pool_hall.specs.Seat.{view}
use Rattle.pool_callers.specs.Callers.{about_pool}
use Rattle.pool_callers.proofs.Writing.{gives_written, keeps_written}
use Rattle.pool_uses.proofs.instances.write_and_drop.Goals as goal

pub deallocate_module-requires-clause-gives : goal.deallocate_module-requires-clause-gives
deallocate_module-requires-clause-gives g c = gives_written (about_pool g.M.PageMaker.told c.args.allocator.now) (view c.allocate_module.new.seat.seat) c.in_ok-instance.instance 0 c.args.at c.args.bytes.now c.write-written.new.self c.write-written.result c.write-written.ensures c.in_ok-instance.ensures.granted.gives

pub returns-clause-keeps : goal.returns-clause-keeps
returns-clause-keeps g c = keeps_written c.in_ok-instance.instance 0 c.args.at c.args.bytes.now c.write-written.new.self c.write-written.result c.write-written.ensures (view c.args.seat.now.seat) (view c.allocate_module.new.seat.seat) (view c.deallocate_module.new.seat.seat) c.in_ok-instance.ensures.granted.gains c.deallocate_module.ensures.returned.loses

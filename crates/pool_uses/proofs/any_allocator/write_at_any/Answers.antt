use Rattle.std.proofs.Common.{[], ◌∙◌}
use Rattle.pool_uses.proofs.any_allocator.write_at_any.Goals as goal

pub deallocate_module-requires-clause-gives : goal.deallocate_module-requires-clause-gives
deallocate_module-requires-clause-gives g c =
    let laws = g.met.A.InstanceAllocator in
    let had = c.in-Ok.ensures.held c.args.seat.now [] (laws.holds_none c.args.allocator.now c.args.seat.now c.requires.fits) in
    laws.holds_gives c.args.allocator.now c.args.seat.now c.allocate_module.new.seat _ [] (laws.holds_written c.args.allocator.now c.args.seat.now c.allocate_module.new.seat c.in-Ok.instance c.write-written.new.self [] 0 c.args.at c.args.bytes.now c.write-written.result c.write-written.ensures.wrote had)

pub returns-clause-seat : goal.returns-clause-seat
returns-clause-seat g c = record { still = c.deallocate_module.ensures.seat.still; same_page = c.deallocate_module.ensures.seat.same_page ∙ c.in-Ok.ensures.seat.same_page }

pub returns-clause-held : goal.returns-clause-held
returns-clause-held g c = λ base held has.
    c.deallocate_module.ensures.held base held (g.met.A.InstanceAllocator.holds_written c.args.allocator.now base c.allocate_module.new.seat c.in-Ok.instance c.write-written.new.self held 0 c.args.at c.args.bytes.now c.write-written.result c.write-written.ensures.wrote (c.in-Ok.ensures.held base held has))

use Rattle.std.proofs.Common.{arith}
use Rattle.pool_hall.specs.Seat.{view}
use Rattle.pool_alloc.specs.declared.frame.Grant.TheVariants.{Instance}
use Rattle.pool_callers.specs.Callers.{about_pool}
use Rattle.pool_callers.proofs.Giving.{gives_last, gives_later, gives_still}
use Rattle.pool_uses.proofs.instances.two_at_once.Goals as goal

pub deallocate_module-requires-clause-gives : goal.deallocate_module-requires-clause-gives
deallocate_module-requires-clause-gives g c = gives_later (about_pool g.M.PageMaker.told c.args.allocator.now) (Instance c.in_ok-one.one) (Instance c.in-Ok.other) (view c.allocate_module.new.seat.seat) (view c.allocate_module-2.new.seat.seat) c.in_ok-one.ensures.granted.gives c.in-Ok.ensures.granted.gains

pub deallocate_module-requires-in-Ok-clause-gives : goal.deallocate_module-requires-in-Ok-clause-gives
deallocate_module-requires-in-Ok-clause-gives g c =
    gives_last (about_pool g.M.PageMaker.told c.args.allocator.now) (Instance c.in-Ok.other) (Instance c.in_ok-one.one) (view c.args.seat.now.seat) (view c.allocate_module.new.seat.seat) (view c.allocate_module-2.new.seat.seat) (view c.deallocate_module.new.seat.seat)
    c.requires.seat.driven.carries.beside c.in_ok-one.ensures.granted.gains c.in-Ok.ensures.granted.gains c.deallocate_module.ensures.returned.loses c.in-Ok.ensures.granted.gives

pub deallocate_module-requires-in-Err-clause-gives : goal.deallocate_module-requires-in-Err-clause-gives
deallocate_module-requires-in-Err-clause-gives g c = gives_still (about_pool g.M.PageMaker.told c.args.allocator.now) (Instance c.in_ok-one.one) (view c.allocate_module.new.seat.seat) (view c.allocate_module-2.new.seat.seat) c.in_ok-one.ensures.granted.gives c.in-Err.ensures.refused.keeps

pub returns-in-Ok-clause-keeps : goal.returns-in-Ok-clause-keeps
returns-in-Ok-clause-keeps g c =
    let gained = c.in_ok-one.ensures.granted.gains in
    let more = c.in-Ok.ensures.granted.gains in
    let lost = c.deallocate_module.ensures.returned.loses in
    let less = c.deallocate_module-in-Ok.ensures.returned.loses in
    record { units = λ t. omega (arith, gained.units t, more.units t, lost.units t, less.units t); counted = λ k. omega (arith, gained.counted k, more.counted k, lost.counted k, less.counted k) }

pub returns-in-Err-clause-keeps : goal.returns-in-Err-clause-keeps
returns-in-Err-clause-keeps g c =
    let gained = c.in_ok-one.ensures.granted.gains in
    let kept = c.in-Err.ensures.refused.keeps in
    let lost = c.deallocate_module-in-Err.ensures.returned.loses in
    record { units = λ t. omega (arith, gained.units t, kept.units t, lost.units t); counted = λ k. omega (arith, gained.counted k, kept.counted k, lost.counted k) }

use Rattle.std.proofs.Common.{arith}
use Rattle.pool_hall.specs.Seat.{view}
use Rattle.pool_alloc.specs.declared.frame.Grant.TheVariants.{Instance}
use Rattle.pool_callers.specs.Callers.{about_pool}
use Rattle.pool_callers.proofs.Giving.{gives_still}
use Rattle.pool_uses.proofs.numbers.warm_beside.Goals as goal

pub deallocate_module-requires-clause-gives : goal.deallocate_module-requires-clause-gives
deallocate_module-requires-clause-gives g c = gives_still (about_pool g.M.PageMaker.told c.args.allocator.now) (Instance c.in_ok-instance.instance) (view c.allocate_module.new.seat.seat) (view c.warm_now-warm.new.seat.seat) c.in_ok-instance.ensures.granted.gives c.warm_now-warm.ensures.keeps

pub returns-clause-keeps : goal.returns-clause-keeps
returns-clause-keeps g c =
    let gained = c.in_ok-instance.ensures.granted.gains in
    let kept = c.warm_now-warm.ensures.keeps in
    let lost = c.deallocate_module.ensures.returned.loses in
    record { units = λ t. omega (arith, gained.units t, kept.units t, lost.units t); counted = λ k. omega (arith, gained.counted k, kept.counted k, lost.counted k) }

use Rattle.std.proofs.Common.{arith}
use Rattle.pool_hall.specs.Seat.{view}
use Rattle.pool_alloc.specs.declared.frame.Grant.TheVariants.{Stack}
use Rattle.pool_callers.specs.Callers.{about_pool}
use Rattle.pool_callers.proofs.Giving.{gives_last, gives_later, gives_still}
use Rattle.pool_uses.proofs.two_stacks.hold_two.Goals as goal

pub deallocate_fiber_stack-requires-clause-gives : goal.deallocate_fiber_stack-requires-clause-gives
deallocate_fiber_stack-requires-clause-gives g c = gives_still (about_pool g.M.PageMaker.told c.args.allocator.now) (Stack c.in-Ok.first) (view c.allocate_fiber_stack.new.seat.seat) (view c.allocate_fiber_stack-2.new.seat.seat) c.in-Ok.ensures.granted.gives c.in_default-allocate_fiber_stack.ensures.refused.keeps

pub returns-in_default-allocate_fiber_stack-clause-keeps : goal.returns-in_default-allocate_fiber_stack-clause-keeps
returns-in_default-allocate_fiber_stack-clause-keeps g c =
    let gained = c.in-Ok.ensures.granted.gains in
    let kept = c.in_default-allocate_fiber_stack.ensures.refused.keeps in
    let lost = c.deallocate_fiber_stack.ensures.returned.loses in
    record { units = λ t. omega (arith, gained.units t, kept.units t, lost.units t); counted = λ k. omega (arith, gained.counted k, kept.counted k, lost.counted k) }

pub deallocate_fiber_stack-requires-2-clause-gives : goal.deallocate_fiber_stack-requires-2-clause-gives
deallocate_fiber_stack-requires-2-clause-gives g c = gives_later (about_pool g.M.PageMaker.told c.args.allocator.now) (Stack c.in-Ok.first) (Stack c.in-Ok-allocate_fiber_stack.second) (view c.allocate_fiber_stack.new.seat.seat) (view c.allocate_fiber_stack-2.new.seat.seat) c.in-Ok.ensures.granted.gives c.in-Ok-allocate_fiber_stack.ensures.granted.gains

pub deallocate_fiber_stack-requires-3-clause-gives : goal.deallocate_fiber_stack-requires-3-clause-gives
deallocate_fiber_stack-requires-3-clause-gives g c =
    gives_last (about_pool g.M.PageMaker.told c.args.allocator.now) (Stack c.in-Ok-allocate_fiber_stack.second) (Stack c.in-Ok.first) (view c.args.seat.now.seat) (view c.allocate_fiber_stack.new.seat.seat) (view c.allocate_fiber_stack-2.new.seat.seat) (view c.deallocate_fiber_stack-2.new.seat.seat)
    c.requires.seat.driven.carries.beside c.in-Ok.ensures.granted.gains c.in-Ok-allocate_fiber_stack.ensures.granted.gains c.deallocate_fiber_stack-2.ensures.returned.loses c.in-Ok-allocate_fiber_stack.ensures.granted.gives

pub returns-clause-keeps : goal.returns-clause-keeps
returns-clause-keeps g c =
    let gained = c.in-Ok.ensures.granted.gains in
    let more = c.in-Ok-allocate_fiber_stack.ensures.granted.gains in
    let lost = c.deallocate_fiber_stack-2.ensures.returned.loses in
    let less = c.deallocate_fiber_stack-3.ensures.returned.loses in
    record { units = λ t. omega (arith, gained.units t, more.units t, lost.units t, less.units t); counted = λ k. omega (arith, gained.counted k, more.counted k, lost.counted k, less.counted k) }

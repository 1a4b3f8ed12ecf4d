use Rattle.std.proofs.Common.{refl, ap, replicate}
use Rattle.pool_hall.specs.Seat.{view}
use Rattle.pool_alloc.specs.StackLeases.{LeasedStack}
use Rattle.pool_alloc.specs.Stepping.{grant_count}
use Rattle.pool_alloc.specs.declared.frame.Grant.TheVariants.{Stack}
use Rattle.pool_callers.specs.Callers.{about_pool}
use Rattle.pool_callers.proofs.Giving.{keeps_round}
use Rattle.pool_callers.proofs.Writing.{gives_stack_written}
use Rattle.pool_uses.proofs.one_caller.use_a_stack.Goals as goal

pub deallocate_fiber_stack-requires-clause-gives : goal.deallocate_fiber_stack-requires-clause-gives
deallocate_fiber_stack-requires-clause-gives g c = gives_stack_written (about_pool g.M.PageMaker.told c.args.allocator.now) (view c.allocate_fiber_stack.new.seat.seat) c.in_ok-stack.stack c.fill.new.self 0 (replicate c.len-len.result 7) c.fill.ensures.written c.fill.ensures.plain c.in_ok-stack.ensures.granted.gives

pub returns-clause-keeps : goal.returns-clause-keeps
returns-clause-keeps g c = keeps_round {P = g.row.P.Denot} {H = g.row.H.Denot} (Stack c.in_ok-stack.stack) (Stack c.fill.new.self) (view c.args.seat.now.seat) (view c.allocate_fiber_stack.new.seat.seat) (view c.deallocate_fiber_stack.new.seat.seat) c.in_ok-stack.ensures.granted.gains c.deallocate_fiber_stack.ensures.returned.loses
    (λ t. ap (λ (l : LeasedStack). grant_count {P = g.row.P.Denot} {H = g.row.H.Denot} t (Stack l)) c.fill.ensures.written)
    (λ k. refl)

use Rattle.pool_hall.specs.Seat.{view}
use Rattle.pool_callers.proofs.Giving.{nothing_kept}
use Rattle.pool_uses.proofs.one_caller.run_one_caller.Goals as goal

pub close-requires-clause-nothing : goal.close-requires-clause-nothing
close-requires-clause-nothing g c = nothing_kept (view c.in_ok-allocator.seat.seat) (view c.use_a_stack-used.new.seat.seat) c.in_ok-allocator.ensures.nothing c.use_a_stack-used.ensures.keeps

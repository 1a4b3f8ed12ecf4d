use Rattle.pool_hall.specs.Seat.{view}
use Rattle.pool_callers.proofs.Giving.{keeps_twice, nothing_kept}
use Rattle.pool_checks.proofs.page_call_tests.a_queue_is_flushed_for_a_request.Goals as goal

pub close-parts-requires-clause-nothing : goal.close-parts-requires-clause-nothing
close-parts-requires-clause-nothing g c =
    nothing_kept (view c.in_ok-allocator.seat.seat) (view c.write_and_drop-one.new.seat.seat) c.in_ok-allocator.ensures.nothing
    (keeps_twice (view c.in_ok-allocator.seat.seat) (view c.two_at_once-both.new.seat.seat) (view c.write_and_drop-one.new.seat.seat) c.two_at_once-both.ensures.keeps c.write_and_drop-one.ensures.keeps)

use Rattle.pool_hall.specs.Seat.{view}
use Rattle.pool_callers.proofs.Giving.{keeps_twice, nothing_kept}
use Rattle.pool_checks.proofs.page_call_tests.a_warm_slot_keeps_its_image.Goals as goal

pub close-parts-requires-clause-nothing : goal.close-parts-requires-clause-nothing
close-parts-requires-clause-nothing g c =
    nothing_kept (view c.in_ok-allocator.seat.seat) (view c.write_and_drop-second.new.seat.seat) c.in_ok-allocator.ensures.nothing
    (keeps_twice (view c.in_ok-allocator.seat.seat) (view c.write_and_drop-first.new.seat.seat) (view c.write_and_drop-second.new.seat.seat) c.write_and_drop-first.ensures.keeps c.write_and_drop-second.ensures.keeps)

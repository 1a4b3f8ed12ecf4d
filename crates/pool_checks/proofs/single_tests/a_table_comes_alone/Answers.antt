use Rattle.pool_hall.specs.Seat.{view}
use Rattle.pool_callers.proofs.Giving.{keeps_twice, nothing_kept}
use Rattle.pool_checks.proofs.single_tests.a_table_comes_alone.Goals as goal

pub close-parts-requires-clause-nothing : goal.close-parts-requires-clause-nothing
close-parts-requires-clause-nothing g c =
    nothing_kept (view c.in_ok-allocator.seat.seat) (view c.look_at_a_table-element.new.seat.seat) c.in_ok-allocator.ensures.nothing
    (keeps_twice (view c.in_ok-allocator.seat.seat) (view c.fill_a_table-filled.new.seat.seat) (view c.look_at_a_table-element.new.seat.seat) c.fill_a_table-filled.ensures.keeps c.look_at_a_table-element.ensures.keeps)

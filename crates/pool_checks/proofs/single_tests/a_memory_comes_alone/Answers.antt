use Rattle.pool_hall.specs.Seat.{view}
use Rattle.pool_callers.proofs.Giving.{keeps_twice, nothing_kept}
use Rattle.pool_checks.proofs.single_tests.a_memory_comes_alone.Goals as goal

pub close-parts-requires-clause-nothing : goal.close-parts-requires-clause-nothing
close-parts-requires-clause-nothing g c =
    nothing_kept (view c.in_ok-allocator.seat.seat) (view c.read_a_memory-read.new.seat.seat) c.in_ok-allocator.ensures.nothing
    (keeps_twice (view c.in_ok-allocator.seat.seat) (view c.write_a_memory-written.new.seat.seat) (view c.read_a_memory-read.new.seat.seat) c.write_a_memory-written.ensures.keeps c.read_a_memory-read.ensures.keeps)

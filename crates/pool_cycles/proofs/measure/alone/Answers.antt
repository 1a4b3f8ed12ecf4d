use Rattle.pool_hall.specs.Seat.{view}
use Rattle.pool_callers.proofs.Giving.{nothing_kept}
use Rattle.pool_cycles.proofs.measure.alone.Goals as goal

pub close-parts-requires-clause-nothing : goal.close-parts-requires-clause-nothing
close-parts-requires-clause-nothing g c = nothing_kept (view c.args.seat.seat) (view c.work-seat.result.0.seat) c.requires.nothing c.work-seat.ensures.worker.keeps

use Rattle.std.proofs.Common.{◌∙◌}
use Rattle.pool_hall.specs.Seat.{view}
use Rattle.pool_callers.proofs.Giving.{keeps_twice}
use Rattle.pool_uses.proofs.turnover.cycles.Goals as goal

pub loop-preserved : goal.loop-preserved
loop-preserved g c = record {
  seat = c.cycle.ensures.seat;
  keeps = keeps_twice (view c.args.seat.seat) (view c.loop.seat.seat) (view c.cycle.new.seat.seat) c.loop.invariant.keeps c.cycle.ensures.keeps;
  portions = c.cycle.ensures.portions ∙ c.loop.invariant.portions;
}

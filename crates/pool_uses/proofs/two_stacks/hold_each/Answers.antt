use Rattle.std.proofs.Common.{◌∙◌}
use Rattle.pool_hall.specs.Seat.{view}
use Rattle.pool_callers.proofs.Giving.{keeps_twice}
use Rattle.pool_uses.proofs.two_stacks.hold_each.Goals as goal

pub loop-preserved : goal.loop-preserved
loop-preserved g c = record {
  seat = c.turn-found.ensures.seat;
  keeps = keeps_twice (view c.args.seat.seat) (view c.loop.seat.seat) (view c.turn-found.new.seat.seat) c.loop.invariant.keeps c.turn-found.ensures.keeps;
  portions = c.turn-found.ensures.portions ∙ c.loop.invariant.portions;
}

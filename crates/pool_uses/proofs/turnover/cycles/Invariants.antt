use Rattle.std.proofs.Common.{◌≡◌}
use Rattle.pool_hall.specs.Seat.{view}
use Rattle.pool_callers.specs.Callers.{IsCaller, Keeps}
use Rattle.pool_uses.proofs.turnover.cycles.Given as goal

abbrev pub invariant-loop : goal.invariant-loop
invariant-loop g l = record {
  seat : IsCaller g.M.PageMaker.told l.allocator l.seat;
  keeps : Keeps (view l.initial.seat.seat) (view l.seat.seat);
  portions : (view l.seat.seat).portions ≡ (view l.initial.seat.seat).portions;
}

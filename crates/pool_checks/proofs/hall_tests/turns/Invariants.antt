use Rattle.std.proofs.Common.{◌≡◌, []}
use Rattle.pool_hall.specs.Seat.{view, IsSeatOf, IsFree}
use Rattle.pool_checks.proofs.hall_tests.turns.Given as goal

-- between turns the seat holds nothing
abbrev pub invariant-loop-i : goal.invariant-loop-i
invariant-loop-i g l = record {
  own : IsSeatOf l.hall l.seat;
  free : IsFree l.seat;
  none : (view l.seat).units ≡ [];
  portions : (view l.seat).portions ≡ (view l.initial.seat).portions;
}

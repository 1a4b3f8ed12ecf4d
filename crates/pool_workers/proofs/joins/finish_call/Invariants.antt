use Rattle.std.proofs.Common.{◌≡◌, length, None}
use Rattle.pool_hall.specs.Seat.{made_with, view, IsSeatOf, IsFree}
use Rattle.pool_driver.specs.Calling.{GoesOnSince}
use Rattle.pool_driver.specs.Driving.{IsDriven}
use Rattle.pool_threads.specs.Noted.{Grows}
use Rattle.pool_workers.proofs.joins.finish_call.Given as goal

-- the call goes on, and has not ended
abbrev pub invariant-loop : goal.invariant-loop
invariant-loop g l = record {
  own : IsSeatOf l.pool.hall l.seat;
  free : IsFree l.seat;
  unanswered : l.outcome ≡ None;
  driven : IsDriven (length (made_with l.pool.hall)) g.given (view l.seat) l.party.frame None;
  goes : GoesOnSince g.given.about (view l.initial.seat) (view l.seat) l.initial.party.frame l.party.frame;
  grows : Grows (view l.initial.seat) (view l.seat);
  live : l.party.live ≡ l.initial.party.live;
}

abbrev pub ghost-step : goal.ghost-step
ghost-step g a = g.given

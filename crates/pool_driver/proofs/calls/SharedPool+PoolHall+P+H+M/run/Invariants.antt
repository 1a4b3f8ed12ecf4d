use Rattle.std.proofs.Common.{◌≡◌, length, None}
use Rattle.pool_hall.specs.Seat.{made_with, view, IsSeatOf, IsFree}
use Rattle.pool_driver.specs.Asking.{AskedSince}
use Rattle.pool_driver.specs.Calling.{GoesOnSince}
use Rattle.pool_driver.specs.Driving.{IsDriven}
use Rattle.pool_driver.proofs.calls.SharedPool+PoolHall+P+H+M.run.Given as goal

abbrev pub invariant-loop : goal.invariant-loop
invariant-loop g l = record {
  own : IsSeatOf l.self.hall l.seat;
  free : IsFree l.seat;
  unanswered : l.outcome ≡ None;
  driven : IsDriven (length (made_with l.self.hall)) g.given (view l.seat) l.frame None;
  goes : GoesOnSince g.given.about (view l.initial.seat) (view l.seat) l.initial.frame l.frame;
  asked : AskedSince g.L.ResourceLimiter.leads l.initial.limiter l.limiter (record { limiter = g.L.ResourceLimiter.told l.initial.limiter; heaps = g.K.HeapMaker.told l.initial.heaps }) (record { limiter = g.L.ResourceLimiter.told l.limiter; heaps = g.K.HeapMaker.told l.heaps }) l.initial.frame l.frame;
}

abbrev pub ghost-step : goal.ghost-step
ghost-step g a = g.given

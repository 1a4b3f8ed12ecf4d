use Rattle.std.proofs.Common.{◌≡◌}
use Rattle.pool_hall.specs.Seat.{view, IsSeatOf, IsFree}
use Rattle.pool_hall.proofs.hall.Hall.take.Given as goal

-- the place of the try
abbrev pub ghosts-try_take : goal.ghosts-try_take
ghosts-try_take g a = record { number = a.place }

-- a try that finds the place taken leaves the seat as it was
abbrev pub invariant-loop : goal.invariant-loop
invariant-loop g l = record { own : IsSeatOf l.self l.seat; free : IsFree l.seat; same : view l.seat ≡ view l.initial.seat }

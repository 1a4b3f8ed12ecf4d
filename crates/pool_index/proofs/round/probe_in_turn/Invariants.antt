use Rattle.std.proofs.Common.{◌≡◌}
use Rattle.pool_hall.specs.Seat.{made_with, limits_of, view, IsSeatOf, IsFree}
use Rattle.pool_index.specs.Round.{round_place, NoneFound}
use Rattle.pool_index.proofs.round.probe_in_turn.Given as goal

-- the shards so far were probed, and none had a slot
abbrev pub invariant-loop-i : goal.invariant-loop-i
invariant-loop-i g l = record {
  own : IsSeatOf l.hall l.seat;
  free : IsFree l.seat;
  none : NoneFound g.T.Part.meaning g.T.MaybeShard.shard (made_with l.hall) (limits_of l.hall) l.probe (round_place l.places l.home) l.i (view l.initial.seat) (view l.seat);
}

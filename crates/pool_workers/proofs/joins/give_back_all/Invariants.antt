use Rattle.std.proofs.Common.{◌≡◌, ℕ, ◌<◌, length, All, IfSome, None, slice_index_or}
use Rattle.pool_hall.specs.Seat.{made_with, view, IsSeatOf, IsFree}
use Rattle.pool_alloc.specs.Calls.{IsGrant, IsIdle}
use Rattle.pool_driver.specs.Driving.{IsDriven}
use Rattle.pool_driver.specs.Faults.{GrantKeeps}
use Rattle.pool_threads.specs.Working.{given_by}
use Rattle.pool_workers.specs.Sparing.{Spares}
use Rattle.pool_workers.proofs.joins.give_back_all.Given as goal

-- so many places have nothing live
abbrev pub invariant-loop-at : goal.invariant-loop-at
invariant-loop-at g l = record {
  own : IsSeatOf l.pool.hall l.seat;
  free : IsFree l.seat;
  idle : IsIdle l.party.frame;
  driven : IsDriven (length (made_with l.pool.hall)) (given_by g.job l.party.live) (view l.seat) l.party.frame None;
  keeps : All (λ x. IfSome x GrantKeeps) l.party.live;
  grants : All (λ x. IfSome x (IsGrant g.job.world.maker g.job.settings g.job.plan)) l.party.live;
  none : (i : ℕ) → i < l.at → slice_index_or l.party.live i None ≡ None;
  long : length l.party.live ≡ length l.initial.party.live;
  spares : Spares g.job.plan (view l.initial.seat) (view l.seat);
}

abbrev pub ghost-give_back_at : goal.ghost-give_back_at
ghost-give_back_at g a = g.job

use Rattle.std.proofs.Common.{◌≡◌, ◌<◌, ◌≤◌, true, length, vec_capacity}
use Rattle.pool_hall.specs.Seat.{made_with, view, IsSeatOf, IsFree}
use Rattle.pool_alloc.specs.Calls.{IsIdle}
use Rattle.pool_run.specs.Ties.{IsReserved}
use Rattle.pool_run.specs.Turns.{host_of_party}
use Rattle.pool_threads.specs.Asked.{asked, faulted, refused}
use Rattle.pool_threads.specs.Noted.{Notes}
use Rattle.pool_threads.specs.Working.{IsAtWork, IsToldSoFar}
use Rattle.pool_threads.proofs.party.perform.Given as goal

-- so many commands have their replies, for which there is room
abbrev pub invariant-loop-at : goal.invariant-loop-at
invariant-loop-at g l = record {
  own : IsSeatOf l.pool.hall l.seat;
  free : IsFree l.seat;
  work : IsAtWork g.job (length (made_with l.pool.hall)) (view l.seat) l.party;
  told : IsToldSoFar g.job l.commands l.replies.items l.party;
  idle : IsIdle l.party.frame;
  drawn : 0 < length l.commands → l.party.keyed ≡ true;
  host : host_of_party l.party ≡ host_of_party l.initial.party;
  home : l.party.frame.home ≡ l.initial.party.frame.home;
  stripe : l.party.frame.stripe ≡ l.initial.party.frame.stripe;
  notes : Notes g.job.plan l.initial.party.frame.home l.initial.party.frame.stripe (λ k. asked k l.modules l.commands l.replies.items) (λ k. refused k l.commands l.replies.items) (faulted l.commands l.replies.items) (view l.initial.seat) (view l.seat);
  done : length l.replies.items ≡ l.at;
  room : length l.commands ≤ vec_capacity l.replies;
  reserved : IsReserved l.party.frame l.slots;
}

abbrev pub ghost-run_command : goal.ghost-run_command
ghost-run_command g a = g.job

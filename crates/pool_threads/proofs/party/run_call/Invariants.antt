use Rattle.std.proofs.Common.{◌≡◌, not, List, length, None}
use Rattle.pool_hall.specs.Seat.{made_with, view, IsSeatOf, IsFree}
use Rattle.pool_alloc.specs.CallStages.{stage_of}
use Rattle.pool_driver.specs.Calling.{GoesOnSince}
use Rattle.pool_run.specs.RunsMade.{is_drawing}
use Rattle.pool_run.specs.Ties.{IsReserved}
use Rattle.pool_run.specs.declared.command.Command.{Command}
use Rattle.pool_run.specs.declared.reply.Reply.{Reply}
use Rattle.pool_threads.specs.Noted.{Grows}
use Rattle.pool_threads.specs.Working.{IsAtWork, IsToldSoFar, StaysSame, about_job, given_by}
use Rattle.pool_threads.proofs.party.run_call.Given as goal

-- the party is at work, with the live grants and the replies that it began with
abbrev pub invariant-loop : goal.invariant-loop
invariant-loop g l = record {
  own : IsSeatOf l.pool.hall l.seat;
  free : IsFree l.seat;
  unanswered : l.outcome ≡ None;
  work : IsAtWork g.of.job (length (made_with l.pool.hall)) (view l.seat) l.party;
  given : g.of.given ≡ given_by g.of.job l.party.live;
  keyed : is_drawing (stage_of l.party.frame) ≡ not l.party.keyed;
  same : l.party.keyed ≡ l.initial.party.keyed;
  done : l.party.done ≡ l.initial.party.done;
  goes : GoesOnSince (about_job g.of.job) (view l.initial.seat) (view l.seat) l.initial.party.frame l.party.frame;
  grows : Grows (view l.initial.seat) (view l.seat);
  stays : StaysSame l.initial.party l.party;
  told : (commands : List Command) (before : List Reply) → IsToldSoFar g.of.job commands before l.initial.party → IsToldSoFar g.of.job commands before l.party;
  reserved : IsReserved l.party.frame l.slots;
}

abbrev pub ghost-step_under : goal.ghost-step_under
ghost-step_under g a = g.of.given

use Rattle.pool_hall.specs.Seat.{view}
use Rattle.pool_threads.proofs.Adds.{notes_still}
use Rattle.pool_threads.proofs.party.start.Goals as goal

pub returns-then-is_empty-clause-notes : goal.returns-then-is_empty-clause-notes
returns-then-is_empty-clause-notes g c =
    notes_still g.job.plan c.args.party.now.frame.home c.args.party.now.frame.stripe (λ k. 0) (view c.args.seat.now)

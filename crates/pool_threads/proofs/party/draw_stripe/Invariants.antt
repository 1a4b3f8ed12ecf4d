use Rattle.pool_threads.specs.Working.{given_by}
use Rattle.pool_threads.proofs.party.draw_stripe.Given as goal

abbrev pub ghost-run_call : goal.ghost-run_call
ghost-run_call g a = record { job = g.job; given = given_by g.job a.party.now.live }

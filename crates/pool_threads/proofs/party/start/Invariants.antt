use Rattle.pool_threads.proofs.party.start.Given as goal

abbrev pub ghost-draw_stripe : goal.ghost-draw_stripe
ghost-draw_stripe g a = g.job

use Rattle.pool_threads.proofs.party.run_numbered.Given as goal

abbrev pub ghost-run_given : goal.ghost-run_given
ghost-run_given g a = g.job

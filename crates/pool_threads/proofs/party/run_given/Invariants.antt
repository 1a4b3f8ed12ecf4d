use Rattle.pool_threads.proofs.party.run_given.Given as goal

abbrev pub ghost-start : goal.ghost-start
ghost-start g a = g.job

abbrev pub ghost-perform : goal.ghost-perform
ghost-perform g a = g.job

use Rattle.pool_workers.proofs.threads.run_by.Given as goal

abbrev pub ghost-run_over : goal.ghost-run_over
ghost-run_over g a = g.maker

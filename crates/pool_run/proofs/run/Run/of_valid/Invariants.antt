use Rattle.pool_run.proofs.run.Run.of_valid.Given as goal

abbrev pub ghost-over : goal.ghost-over
ghost-over g a = g.maker

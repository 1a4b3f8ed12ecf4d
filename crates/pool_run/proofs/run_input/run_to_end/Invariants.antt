use Rattle.pool_run.proofs.run_input.run_to_end.Given as goal

abbrev pub ghost-run_over : goal.ghost-run_over
ghost-run_over g a = g.maker

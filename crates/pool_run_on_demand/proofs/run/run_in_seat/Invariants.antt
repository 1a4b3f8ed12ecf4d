use Rattle.pool_run_on_demand.proofs.run.run_in_seat.Given as goal

abbrev pub ghost-run_over : goal.ghost-run_over
ghost-run_over g a = g.maker

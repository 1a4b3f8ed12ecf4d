use Rattle.pool_run.proofs.run_input.run_by.Given as goal

abbrev pub ghost-of_valid : goal.ghost-of_valid
ghost-of_valid g a = g.maker

abbrev pub ghost-run_to_end : goal.ghost-run_to_end
ghost-run_to_end g a = g.maker

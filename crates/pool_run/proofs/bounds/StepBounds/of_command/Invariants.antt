use Rattle.pool_run.proofs.bounds.StepBounds.of_command.Given as goal

abbrev pub ghost-of_request : goal.ghost-of_request
ghost-of_request g a = g.z

abbrev pub ghost-of_return : goal.ghost-of_return
ghost-of_return g a = g.z

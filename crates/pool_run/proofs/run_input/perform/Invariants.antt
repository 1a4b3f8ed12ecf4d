use Rattle.pool_run.proofs.run_input.perform.Given as goal

abbrev pub ghost-follow : goal.ghost-follow
ghost-follow g a = g.of

abbrev pub ghost-finish : goal.ghost-finish
ghost-finish g a = g.of

use Rattle.pool_run.proofs.turn.step_call.Given as goal

abbrev pub ghost-step_under : goal.ghost-step_under
ghost-step_under g a = g.maker

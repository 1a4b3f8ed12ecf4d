use Rattle.pool_run.proofs.turn.begin_turn.Given as goal

abbrev pub ghost-step_call : goal.ghost-step_call
ghost-step_call g a = g.maker

use Rattle.pool_run.proofs.turn.turn_of.Given as goal

abbrev pub ghost-begin_turn : goal.ghost-begin_turn
ghost-begin_turn g a = g.maker

abbrev pub ghost-step_call : goal.ghost-step_call
ghost-step_call g a = g.maker

use Rattle.pool_run.proofs.turn.step_under.Given as goal

abbrev pub ghost-step_into : goal.ghost-step_into
ghost-step_into g a = g.maker

abbrev pub ghost-step_into-2 : goal.ghost-step_into-2
ghost-step_into-2 g a = g.maker

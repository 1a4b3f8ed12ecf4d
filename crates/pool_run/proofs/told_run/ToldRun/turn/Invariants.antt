use Rattle.pool_run.proofs.told_run.ToldRun.turn.Given as goal

abbrev pub ghost-turn : goal.ghost-turn
ghost-turn g a = g.before

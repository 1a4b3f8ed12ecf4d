use Rattle.pool_run.proofs.run.Run.turn.Given as goal

abbrev pub ghost-turn_of : goal.ghost-turn_of
ghost-turn_of g a = g.before.of.world.maker

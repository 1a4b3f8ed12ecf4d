use Rattle.pool_run.specs.Runs.{world_of}
use Rattle.pool_run_on_demand.proofs.run.run_over.Given as goal

abbrev pub ghost-make_parties : goal.ghost-make_parties
ghost-make_parties g a = world_of a.input.now g.maker

abbrev pub ghost-follow : goal.ghost-follow
ghost-follow g a = world_of a.input.now g.maker

abbrev pub ghost-finish : goal.ghost-finish
ghost-finish g a = world_of a.input.now g.maker

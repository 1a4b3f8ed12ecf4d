use Rattle.pool_run_shared.proofs.Growth.{growth_moves}
use Rattle.pool_run_shared.proofs.events.grow.Goals as goal

pub returns-clause-grows : goal.returns-clause-grows
returns-clause-grows g c = growth_moves c.args.pages c.args.state.now c.grow.new.self c.grow.result c.growth_reply.result c.requires c.grow.ensures.same c.grow.ensures.growth c.growth_reply.ensures

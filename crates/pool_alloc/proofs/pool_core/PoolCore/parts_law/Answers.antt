use Rattle.pool_alloc.proofs.PartFlows.{flows_on_part, flows_on_none}
use Rattle.pool_alloc.proofs.pool_core.PoolCore.parts_law.Goals as goal

pub returns-clause-part : goal.returns-clause-part
returns-clause-part g c = λ after place part conserves below is. flows_on_part c.args.self.now c.args.frame.now after place part conserves below is

pub returns-clause-none : goal.returns-clause-none
returns-clause-none g c = λ after t conserves is. flows_on_none c.args.self.now c.args.frame.now after t conserves is

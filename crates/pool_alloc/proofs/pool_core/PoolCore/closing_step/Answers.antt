use Rattle.pool_alloc.proofs.Closings.{can_close, closing_counts_on, closing_step, closing_fewer, closing_plan, closing_settings, nobody}
use Rattle.pool_alloc.proofs.StepNeeds.{can_step_at}
use Rattle.pool_alloc.proofs.pool_core.PoolCore.closing_step.Goals as goal

pub flush_on-requires-clause-can : goal.flush_on-requires-clause-can
flush_on-requires-clause-can g c = can_step_at g.of.maker c.args.self.now c.args.frame.now (can_close g.of.maker g.of.emptied c.args.self.now c.args.frame.now c.requires.1.1.0) (closing_counts_on g.of.maker g.of.emptied c.args.self.now c.args.frame.now c.requires.1.1.0)

pub flush_on-requires-clause-closing : goal.flush_on-requires-clause-closing
flush_on-requires-clause-closing g c = c.requires.1.1.0.flushing.0

pub returns-clause-closing : goal.returns-clause-closing
returns-clause-closing g c = closing_step g.of.maker g.of.emptied nobody nobody c.args.self.now c.args.frame.now _ c.requires.1.1.1 c.requires.1.1.0 (c.flush_on.ensures nobody)

pub returns-clause-fewer : goal.returns-clause-fewer
returns-clause-fewer g c = closing_fewer g.of.maker g.of.emptied nobody nobody c.args.self.now c.args.frame.now _ c.requires.1.1.1 c.requires.1.1.0 (c.flush_on.ensures nobody)

pub returns-clause-plan : goal.returns-clause-plan
returns-clause-plan g c = closing_plan g.of.maker g.of.emptied nobody nobody c.args.self.now c.args.frame.now _ c.requires.1.1.1 c.requires.1.1.0 (c.flush_on.ensures nobody)

pub returns-clause-settings : goal.returns-clause-settings
returns-clause-settings g c = closing_settings g.of.maker g.of.emptied nobody nobody c.args.self.now c.args.frame.now _ c.requires.1.1.1 c.requires.1.1.0 (c.flush_on.ensures nobody)

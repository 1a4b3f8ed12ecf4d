use Rattle.pool_run.specs.AtOnce.{given_op}
use Rattle.pool_run_on_demand.proofs.Grants.{stack_bytes}
use Rattle.pool_run_on_demand.proofs.act.act_on_lease.Goals as goal

pub returns : goal.returns
returns g c rule = stack_bytes (given_op c.args.op.now) rule c.args.memory c.args.lease.stack c.act_on_stack-reply.new.stack c.act_on_stack-reply.result c.len-len.ensures.plain c.act_on_stack-reply.ensures

use Rattle.pool_run.specs.AtOnce.{given_op}
use Rattle.pool_run.specs.PartyRules.{rule_of}
use Rattle.pool_run.proofs.BytesMoved.{bytes_back}
use Rattle.pool_run.proofs.at_once.act_on_taken.Goals as goal

pub returns : goal.returns
returns g c = bytes_back (given_op c.args.op.now) (rule_of c.args.limits) c.args.of c.args.memory c.args.live.now c.put.new.self c.act_on_grant-reply.result c.args.grant c.act_on_grant-reply.new.grant c.put.ensures c.act_on_grant-reply.ensures

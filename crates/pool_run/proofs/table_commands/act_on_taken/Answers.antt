use Rattle.pool_run.specs.AtOnce.{given_table_op}
use Rattle.pool_run.specs.PartyRules.{rule_of}
use Rattle.pool_run.specs.Turns.{MovesTable, table_leases}
use Rattle.pool_run.proofs.Named.{put_back}
use Rattle.pool_run.proofs.table_commands.act_on_taken.Goals as goal

pub returns-clause-moves : goal.returns-clause-moves
returns-clause-moves g c =
    put_back table_leases (MovesTable (given_table_op c.args.op.now) (rule_of c.args.limits) c.args.store.now c.act_on_grant-reply.new.store) c.args.of c.args.table c.args.live.now c.put.new.self c.act_on_grant-reply.result c.args.grant c.act_on_grant-reply.new.grant c.put.ensures c.act_on_grant-reply.ensures.moves

use Rattle.std.proofs.Common.{refl}
use Rattle.pool_run_on_demand.proofs.Imports.{given_table_op, rule_of, put_back}
use Rattle.pool_run_on_demand.specs.Seen.{TableLeaseMovesOnDemand, made_tables}
use Rattle.pool_run_on_demand.proofs.Parties.{live_with}
use Rattle.pool_run_on_demand.proofs.Live.{live_keeps}
use Rattle.pool_run_on_demand.proofs.tables.act_on_taken.Goals as goal

pub returns-clause-moves : goal.returns-clause-moves
returns-clause-moves g c =
    put_back made_tables (TableLeaseMovesOnDemand (given_table_op c.args.op.now) (rule_of c.args.limits) c.args.store.now c.act_on_grant-grant.new.store) c.args.of c.args.table c.args.live.now.items _ c.act_on_grant-grant.result.1 c.args.grant c.act_on_grant-grant.result.0 refl c.act_on_grant-grant.ensures.moves

pub returns-clause-held : goal.returns-clause-held
returns-clause-held g c = live_with g.tells c.args.live.now.items c.args.of c.act_on_grant-grant.result.0 c.act_on_grant-grant.ensures.held c.requires.1.1.1.1

pub returns-clause-memories : goal.returns-clause-memories
returns-clause-memories g c = live_keeps c.args.live.now.items c.args.of c.args.grant c.act_on_grant-grant.result.0 c.requires.1.1.0 c.act_on_grant-grant.ensures.memories

use Rattle.std.proofs.Common.{refl}
use Rattle.pool_run_on_demand.proofs.Imports.{given_op, rule_of}
use Rattle.pool_run_on_demand.proofs.Parties.{live_with}
use Rattle.pool_run_on_demand.proofs.Live.{live_spends}
use Rattle.pool_run_on_demand.proofs.act.act_on_taken.Goals as goal

pub returns-clause-moves : goal.returns-clause-moves
returns-clause-moves g c = (c.act_on_grant-grant.result.0, (c.act_on_grant-grant.ensures.moves, refl))

pub returns-clause-held : goal.returns-clause-held
returns-clause-held g c = live_with (g.M.PageMaker.told c.args.maker.now).tells c.args.live.now.items c.args.of c.act_on_grant-grant.result.0 c.act_on_grant-grant.ensures.held c.requires.held

pub returns-clause-spends : goal.returns-clause-spends
returns-clause-spends g c =
    let told = g.M.PageMaker.told in
    let call = c.act_on_grant-grant in
    live_spends c.args.live.now.items c.args.of (told c.args.maker.now).tells (given_op c.args.op.now) (rule_of c.args.limits) c.args.memory call.result.1 (told c.args.maker.now) (told call.new.maker) c.args.grant call.result.0 c.requires.place call.ensures.spends

use Rattle.std.proofs.Common.{None, sym, ap, ◌∙◌, subst, arith, length}
use Rattle.pool_run_on_demand.proofs.Imports.{length-set, given_op, rule_of}
use Rattle.pool_run_on_demand.specs.Seen.{AreLive}
use Rattle.pool_run_on_demand.proofs.Grants.{bytes_none, bytes_taken}
use Rattle.pool_run_on_demand.proofs.Parties.{taken_below, live_at, live_without}
use Rattle.pool_run_on_demand.proofs.Live.{taken_spends, none_spends}
use Rattle.pool_run_on_demand.proofs.act.act_on_demand.Goals as goal

pub act_on_taken-requires-clause-place : goal.act_on_taken-requires-clause-place
act_on_taken-requires-clause-place g c =
    let live = c.args.live.now.items in
    omega (arith, taken_below live c.args.of c.in-Some.grant (sym c.take_from.ensures.value ∙ c.in-Some.is), ap length c.take_from.ensures.rest, length-set live c.args.of None)

pub act_on_taken-requires-clause-grant : goal.act_on_taken-requires-clause-grant
act_on_taken-requires-clause-grant g c =
    live_at (g.M.PageMaker.told c.args.maker.now).tells c.args.live.now.items c.args.of c.in-Some.grant c.requires.held (sym c.take_from.ensures.value ∙ c.in-Some.is)

pub act_on_taken-requires-clause-held : goal.act_on_taken-requires-clause-held
act_on_taken-requires-clause-held g c =
    let tells = (g.M.PageMaker.told c.args.maker.now).tells in
    subst (AreLive tells) (sym c.take_from.ensures.rest) (live_without tells c.args.live.now.items c.args.of c.requires.held)

pub returns-in-None-clause-moves : goal.returns-in-None-clause-moves
returns-in-None-clause-moves g c =
    bytes_none (given_op c.args.op.now) (rule_of c.args.limits) c.args.memory (g.M.PageMaker.told c.args.maker.now).tells c.args.of c.args.live.now.items c.take_from.new.places.items (sym c.take_from.ensures.value ∙ c.in-None.is) c.take_from.ensures.rest

pub returns-in-None-clause-held : goal.returns-in-None-clause-held
returns-in-None-clause-held g c =
    let tells = (g.M.PageMaker.told c.args.maker.now).tells in
    subst (AreLive tells) (sym c.take_from.ensures.rest) (live_without tells c.args.live.now.items c.args.of c.requires.held)

pub returns-in-Some-clause-moves : goal.returns-in-Some-clause-moves
returns-in-Some-clause-moves g c =
    bytes_taken (given_op c.args.op.now) (rule_of c.args.limits) c.args.memory (g.M.PageMaker.told c.args.maker.now).tells c.args.of c.args.live.now.items c.take_from.new.places.items c.act_on_taken.new.live.items c.act_on_taken.result c.in-Some.grant (sym c.take_from.ensures.value ∙ c.in-Some.is) c.take_from.ensures.rest c.act_on_taken.ensures.moves

pub returns-in-None-clause-spends : goal.returns-in-None-clause-spends
returns-in-None-clause-spends g c =
    let maker = g.M.PageMaker.told c.args.maker.now in
    none_spends c.args.live.now.items c.args.of maker.tells (given_op c.args.op.now) (rule_of c.args.limits) c.args.memory _ maker c.take_from.new.places.items (sym c.take_from.ensures.value ∙ c.in-None.is) c.take_from.ensures.rest

pub returns-in-Some-clause-spends : goal.returns-in-Some-clause-spends
returns-in-Some-clause-spends g c =
    let told = g.M.PageMaker.told in
    let call = c.act_on_taken in
    taken_spends c.args.live.now.items c.args.of (told c.args.maker.now).tells (given_op c.args.op.now) (rule_of c.args.limits) c.args.memory call.result (told c.args.maker.now) (told call.new.maker) c.take_from.new.places.items call.new.live.items c.in-Some.grant (sym c.take_from.ensures.value ∙ c.in-Some.is) c.take_from.ensures.rest call.ensures.spends

use Rattle.std.proofs.Common.{◌≡◌, length, replicate, ap, ◌∙◌, subst}
use Rattle.pool_run_on_demand.proofs.Imports.{MakerTold, ModuleInfo, ModuleAsked, no_slot}
use Rattle.pool_run_on_demand.specs.OnDemand.{request_on_demand}
use Rattle.pool_run_on_demand.specs.Seen.{number_of, AnswersOnDemand}
use Rattle.pool_run_on_demand.specs.Left.{Laying, InstanceSpends, laying_of}
use Rattle.pool_run_on_demand.specs.declared.grant.OnDemandGrant.TheVariants.{Instance}
use Rattle.pool_run_on_demand.proofs.Parties.{granted_makes, live_with}
use Rattle.pool_run_on_demand.proofs.Requests.{memories_in_none, tables_in_none}
use Rattle.pool_run_on_demand.proofs.Paid.{grant_spends, refusal_spends}
use Rattle.pool_run_on_demand.proofs.request.request_on_demand.Goals as goal

pub returns-in-Ok-request-clause-makes : goal.returns-in-Ok-request-clause-makes
returns-in-Ok-request-clause-makes g c =
    let t = g.terms in
    let call = c.args.call.now in
    let request = request_on_demand t (number_of call) in
    let is = subst (AnswersOnDemand t request) c.in-Ok-request.is c.request.ensures.answer in
    let info : c.deref.result.now ≡ call.info = c.deref.ensures ∙ ap (λ (k : ModuleAsked). k.info) c.call.view_is in
    let memories = c.in-Ok.ensures.memories ∙ ap (λ (m : ModuleInfo). replicate (length m.memories) no_slot) info ∙ memories_in_none t c.args.tunables.now call c.requires.1.1.1.0 in
    let tables = c.in-Ok.ensures.tables ∙ ap (λ (m : ModuleInfo). replicate (length m.tables) no_slot) info ∙ tables_in_none t c.args.tunables.now call c.requires.1.1.1.0 in
    granted_makes t.tells t c.args.n request c.args.live.now.items c.in-Ok-request.grant c.in-Ok.memories c.in-Ok.tables is.0 is.1.0 memories tables

pub returns-in-Ok-request-clause-held : goal.returns-in-Ok-request-clause-held
returns-in-Ok-request-clause-held g c =
    let t = g.terms in
    let is = subst (AnswersOnDemand t (request_on_demand t (number_of c.args.call.now))) c.in-Ok-request.is c.request.ensures.answer in
    live_with t.tells c.args.live.now.items c.args.n (Instance c.in-Ok-request.grant) is.1.1 c.requires.1.1.1.1.1.1

pub returns-in-Ok-request-clause-spends : goal.returns-in-Ok-request-clause-spends
returns-in-Ok-request-clause-spends g c =
    let told = g.M.PageMaker.told in
    let before : MakerTold = told c.args.seat.now.maker in
    let after : MakerTold = told c.request.new.seat.maker in
    let y : Laying = laying_of g.terms before in
    let is = subst (InstanceSpends y before after) c.in-Ok-request.is c.request.ensures.spends in
    grant_spends y before after c.args.live.now.items c.args.n c.requires.1.1.1.1.1.0 (Instance c.in-Ok-request.grant) is.0 is.1

pub returns-in-Err-clause-spends : goal.returns-in-Err-clause-spends
returns-in-Err-clause-spends g c =
    let told = g.M.PageMaker.told in
    let before : MakerTold = told c.args.seat.now.maker in
    let after : MakerTold = told c.request.new.seat.maker in
    let y : Laying = laying_of g.terms before in
    refusal_spends y before after c.args.live.now.items c.in-Err.error (subst (InstanceSpends y before after) c.in-Err.is c.request.ensures.spends)

use Rattle.std.proofs.Common.{◌≡◌, ◌<◌, List, Option, Some, refl, sym, ap, ◌∙◌, subst, arith, option_map}
use Rattle.pool_run_on_demand.proofs.Imports.{arc_value, MemoryTunables, ModuleInfo, Image, limiter_told, default_design, default_refusal, ModuleAsked, Stage, GrantsInstance, if_leads, lent}
use Rattle.pool_types.specs.declared.module_types.MemoryKind.TheVariants.{LinearMemory}
use Rattle.pool_run_on_demand.specs.Left.{laying_of}
use Rattle.pool_run_on_demand.proofs.Requests.{answered_as}
use Rattle.pool_run_on_demand.proofs.request.allocate.Given.{Over}
use Rattle.pool_run_on_demand.proofs.request.allocate.Goals.{in-None, in-Some}
use Rattle.pool_run_on_demand.proofs.Paid.{instance_paid}
use Rattle.pool_run_on_demand.proofs.request.allocate.Goals as goal

-- the images that are handed on are those of the call
images_same : (g : Over) (c : goal.After-limiter-1 g) → option_map (λ i. i.now) c.match-call.images ≡ c.args.call.now.images
images_same g c =
    elim c.match-call.branch [
      | in-None w ↦ ap (option_map (λ i. i.now)) w.images-is ∙ sym (ap (option_map arc_value) w.in-None.is) ∙ ap (λ (k : ModuleAsked). k.images) c.call.view_is
      | in-Some w ↦ ap (option_map (λ i. i.now)) w.images-is ∙ ap Some w.deref.ensures ∙ sym (ap (option_map arc_value) w.in-Some.is) ∙ ap (λ (k : ModuleAsked). k.images) c.call.view_is
    ]

pub returns-clause-answer : goal.returns-clause-answer
returns-clause-answer g c =
    let told = g.M.PageMaker.told in
    let t = g.terms in
    let call : ModuleAsked = c.args.call.now in
    let result = c.allocate_module.result in
    let from : Stage (Option g.row.R.Denot) = record { maker = told c.args.seat.now.maker; limiter = Some c.args.limiter.now } in
    let to : Stage (Option g.row.R.Denot) = record { maker = told c.allocate_module.new.seat.maker; limiter = lent c.allocate_module.new.request.limiter } in
    let for = c.requires.1.1.1.0 in
    let of = c.requires.1.1.1.1.0 in
    let page : 0 < (told c.args.seat.now.maker).page = omega (arith, c.get-page.ensures.valid.at_least, c.page.ensures) in
    let info : c.deref-2.result.now ≡ call.info = c.deref-2.ensures ∙ ap (λ (k : ModuleAsked). k.info) c.call.view_is in
    let images : option_map (λ i. i.now) c.match-call.images ≡ call.images = images_same g c in
    let limited = limiter_told g.R.ResourceLimiter.told in
    let leads = if_leads g.R.ResourceLimiter.leads in
    let Grants : MemoryTunables → ModuleInfo → Option (List (Option Image)) → Type 0 = λ tunables m i. GrantsInstance limited leads (λ page x tunables minimum y. default_refusal page tunables minimum) (λ page x tunables minimum maximum. Some (default_design page tunables minimum maximum)) tunables m i result from to in
    let given : MemoryTunables = record { tunables = c.args.tunables.now; kind = LinearMemory } in
    let is : Grants t.settings.tunables call.info call.images = subst (λ (s : MemoryTunables). Grants s call.info call.images) (sym of.settings) (subst (λ (m : ModuleInfo). Grants given m call.images) info (subst (Grants given c.deref-2.result.now) images c.allocate_module.ensures.made.0)) in
    (answered_as t c.args.tunables.now call of (told c.args.seat.now.maker) for.pages.page page limited leads _ _ _ from to c.requires.1.1.1.1.1.0 for.pages.tells refl c.requires.1.1.1.1.1.1 result is).0

pub returns-clause-maker : goal.returns-clause-maker
returns-clause-maker g c =
    let told = g.M.PageMaker.told in
    let t = g.terms in
    let call : ModuleAsked = c.args.call.now in
    let result = c.allocate_module.result in
    let from : Stage (Option g.row.R.Denot) = record { maker = told c.args.seat.now.maker; limiter = Some c.args.limiter.now } in
    let to : Stage (Option g.row.R.Denot) = record { maker = told c.allocate_module.new.seat.maker; limiter = lent c.allocate_module.new.request.limiter } in
    let for = c.requires.1.1.1.0 in
    let of = c.requires.1.1.1.1.0 in
    let page : 0 < (told c.args.seat.now.maker).page = omega (arith, c.get-page.ensures.valid.at_least, c.page.ensures) in
    let info : c.deref-2.result.now ≡ call.info = c.deref-2.ensures ∙ ap (λ (k : ModuleAsked). k.info) c.call.view_is in
    let images : option_map (λ i. i.now) c.match-call.images ≡ call.images = images_same g c in
    let limited = limiter_told g.R.ResourceLimiter.told in
    let leads = if_leads g.R.ResourceLimiter.leads in
    let Grants : MemoryTunables → ModuleInfo → Option (List (Option Image)) → Type 0 = λ tunables m i. GrantsInstance limited leads (λ page x tunables minimum y. default_refusal page tunables minimum) (λ page x tunables minimum maximum. Some (default_design page tunables minimum maximum)) tunables m i result from to in
    let given : MemoryTunables = record { tunables = c.args.tunables.now; kind = LinearMemory } in
    let is : Grants t.settings.tunables call.info call.images = subst (λ (s : MemoryTunables). Grants s call.info call.images) (sym of.settings) (subst (λ (m : ModuleInfo). Grants given m call.images) info (subst (Grants given c.deref-2.result.now) images c.allocate_module.ensures.made.0)) in
    (answered_as t c.args.tunables.now call of (told c.args.seat.now.maker) for.pages.page page limited leads _ _ _ from to c.requires.1.1.1.1.1.0 for.pages.tells refl c.requires.1.1.1.1.1.1 result is).1

pub returns-clause-spends : goal.returns-clause-spends
returns-clause-spends g c =
    let told = g.M.PageMaker.told in
    let t = g.terms in
    let call : ModuleAsked = c.args.call.now in
    let result = c.allocate_module.result in
    let from : Stage (Option g.row.R.Denot) = record { maker = told c.args.seat.now.maker; limiter = Some c.args.limiter.now } in
    let to : Stage (Option g.row.R.Denot) = record { maker = told c.allocate_module.new.seat.maker; limiter = lent c.allocate_module.new.request.limiter } in
    let for = c.requires.1.1.1.0 in
    let of = c.requires.1.1.1.1.0 in
    let limited = limiter_told g.R.ResourceLimiter.told in
    let leads = if_leads g.R.ResourceLimiter.leads in
    let Grants : MemoryTunables → Type 0 = λ tunables. GrantsInstance limited leads (λ page x tunables minimum y. default_refusal page tunables minimum) (λ page x tunables minimum maximum. Some (default_design page tunables minimum maximum)) tunables c.deref-2.result.now (option_map (λ i. i.now) c.match-call.images) result from to in
    let is : Grants t.settings.tunables = subst Grants (sym of.settings) c.allocate_module.ensures.made.0 in
    instance_paid limited leads _ _ (laying_of t from.maker) (option_map (λ i. i.now) c.match-call.images) _ c.deref-2.result.now result from to (for.pages.page, refl) is

use Rattle.std.proofs.Common.{rules, ◌≡◌, ℕ, List, length, refl, sym, ap, ◌∙◌, subst, slice_index_or}
use Rattle.pool_run_on_demand.proofs.Imports.{commands_of, host_of, commands_in, NameModules, Command, Party, commands_read}
use Rattle.pool_run_on_demand.proofs.Folding.{calls_under, step_are, step_ready, step_stepped}
use Rattle.pool_run_on_demand.proofs.Grants.{same_allocator_for}
use Rattle.pool_run_on_demand.proofs.run.step.Goals as goal

pub turn_on_demand-requires : goal.turn_on_demand-requires
turn_on_demand-requires g c κs within =
    let i : ℕ = c.args.i in
    let parties : List Party = c.args.input.now.parties in
    let q : Party = c.index-given-i.result in
    let commands : List Command = q.commands in
    let here : q ≡ slice_index_or c.as_slice-given.result.now i q = search rules in
    let same : commands ≡ commands_of (commands_in parties) i = ap (λ (x : Party). x.commands) here ∙ commands_read (commands_in parties) parties c.as_slice-given.result.now i q refl c.as_slice-given.ensures c.requires.1.1.1.1.1 in
    let told = g.M.PageMaker.told in
    let p = c.index_mut-party.result.now in
    let are = c.requires.1.1.1.1.0 in
    let maker = same_allocator_for g.common.terms c.args.allocator.now g.common.maker (told c.args.seat.now.maker) c.requires.1.1.1.0 are.maker in (
      search rules,
      (
        search rules,
        (
          record { pages = record { tells = maker.pages.tells; page = maker.pages.page; paged = maker.pages.paged }; size = maker.size; zeroing = maker.zeroing },
          (
            calls_under (host_of p.limits p.store.failing p.heaps.failing) g.common c.args.input.now.tunables c.args.calls.now c.requires.1.1.0.asked,
            (
              subst (NameModules (length c.args.calls.now)) (sym same) (c.requires.1.1.0.named i c.requires.1.1.1.1.1),
              step_ready c.args.input.now g.common (told c.args.seat.now.maker) c.args.parties.now.items are i p commands c.requires.1.1.1.1.1 c.index_mut-party.ensures.value same,
            ),
          ),
        ),
      ),
    )

pub returns-clause-parties : goal.returns-clause-parties
returns-clause-parties g c =
    let i : ℕ = c.args.i in
    let parties : List Party = c.args.input.now.parties in
    let q : Party = c.index-given-i.result in
    let commands : List Command = q.commands in
    let here : q ≡ slice_index_or c.as_slice-given.result.now i q = search rules in
    let same : commands ≡ commands_of (commands_in parties) i = ap (λ (x : Party). x.commands) here ∙ commands_read (commands_in parties) parties c.as_slice-given.result.now i q refl c.as_slice-given.ensures c.requires.1.1.1.1.1 in
    let told = g.M.PageMaker.told in
    step_are c.args.input.now g.common (told c.args.seat.now.maker) c.args.parties.now.items c.requires.1.1.1.1.0 i c.index_mut-party.result.now commands c.requires.1.1.1.1.1 c.index_mut-party.ensures.value same (told c.turn_on_demand.new.seat.maker) c.turn_on_demand.new.party c.turn_on_demand.ensures.maker c.turn_on_demand.ensures.party

pub returns-clause-stepped : goal.returns-clause-stepped
returns-clause-stepped g c =
    let i : ℕ = c.args.i in
    let parties : List Party = c.args.input.now.parties in
    let q : Party = c.index-given-i.result in
    let commands : List Command = q.commands in
    let here : q ≡ slice_index_or c.as_slice-given.result.now i q = search rules in
    let same : commands ≡ commands_of (commands_in parties) i = ap (λ (x : Party). x.commands) here ∙ commands_read (commands_in parties) parties c.as_slice-given.result.now i q refl c.as_slice-given.ensures c.requires.1.1.1.1.1 in
    let told = g.M.PageMaker.told in
    step_stepped c.args.input.now g.common (told c.args.seat.now.maker) c.args.parties.now.items c.requires.1.1.1.1.0 i c.index_mut-party.result.now commands c.requires.1.1.1.1.1 c.index_mut-party.ensures.value same (told c.turn_on_demand.new.seat.maker) c.turn_on_demand.new.party c.turn_on_demand.ensures.told

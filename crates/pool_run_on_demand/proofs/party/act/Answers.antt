use Rattle.std.proofs.Common.{rules, ◌≡◌, List, length, refl, sym, ap, subst, arith}
use Rattle.pool_run_on_demand.proofs.Imports.{ModuleAsked, on_table, drops, purges, releases, given_act, given_op, given_table_op, rule_of, Host, NamesModule, Released}
use Rattle.pool_run_on_demand.specs.OnDemand.{ActsOnDemand}
use Rattle.pool_run_on_demand.specs.Left.{ActSpends}
use Rattle.pool_run_on_demand.specs.Seen.{grants_made, state_seen}
use Rattle.pool_run.specs.declared.act.Act.{Act}
use Rattle.pool_run_on_demand.proofs.Parties.{memory_acts, memory_spends, nothing_met, table_acts}
use Rattle.pool_run_on_demand.proofs.party.act.Goals as goal

pub ask_on_demand-requires : goal.ask_on_demand-requires
ask_on_demand-requires g c κs within =
    let calls : List ModuleAsked = c.args.calls.now in
    let Named : Act → Type 0 = λ a. NamesModule (length calls) (given_act a) in
    let host = c.requires.1.1.1.1.1.0 in
    (search rules, (search rules, (c.requires.1.1.0, (c.requires.1.1.1.0, (subst Named c.in-Request.is c.requires.1.1.1.1.0, (ap (λ (h : Host). h.rule) host, (ap (λ (h : Host). h.unmade) host, (c.requires.1.1.1.1.1.1.0, c.requires.1.1.1.1.1.1.1))))))))

pub returns-in-Request-clause-moves : goal.returns-in-Request-clause-moves
returns-in-Request-clause-moves g c =
    let t = g.terms in
    let p = c.args.party.now in
    let new = c.ask_on_demand.new.live.items in
    let Moved : Act → Type 0 = λ a. ActsOnDemand t c.args.n (state_seen t.tells p.live.items p.store p.heaps) (given_act a) c.ask_on_demand.result (state_seen t.tells new p.store c.ask_on_demand.new.heaps) in
    subst Moved (sym c.in-Request.is) (c.ask_on_demand.ensures.makes p.store.made)

pub returns-in-OnMemory-clause-moves : goal.returns-in-OnMemory-clause-moves
returns-in-OnMemory-clause-moves g c =
    let t = g.terms in
    let p = c.args.party.now in
    let new = c.act_on_demand.new.live.items in
    let tells : (g.M.PageMaker.told c.args.seat.now.maker).tells ≡ t.tells = sym c.requires.1.1.0.pages.tells in
    let Moved : Act → Type 0 = λ a. ActsOnDemand t c.args.n (state_seen t.tells p.live.items p.store p.heaps) (given_act a) c.act_on_demand.result (state_seen t.tells new p.store p.heaps) in
    subst Moved (sym c.in-OnMemory.is)
    (memory_acts t.tells t c.args.n p.live.items new c.act_on_demand.result c.in-OnMemory.of c.in-OnMemory.memory (given_op c.in-OnMemory.op) (rule_of p.limits) p.store p.heaps (ap (λ (h : Host). h.rule) c.requires.1.1.1.1.1.0) (rw tells at c.act_on_demand.ensures.moves))

pub returns-in-OnTable-clause-moves : goal.returns-in-OnTable-clause-moves
returns-in-OnTable-clause-moves g c =
    let t = g.terms in
    let p = c.args.party.now in
    let new = c.act_on_table_on_demand.new.live.items in
    let store = c.act_on_table_on_demand.new.store in
    let Moved : Act → Type 0 = λ a. ActsOnDemand t c.args.n (state_seen t.tells p.live.items p.store p.heaps) (given_act a) c.act_on_table_on_demand.result (state_seen t.tells new store p.heaps) in
    subst Moved (sym c.in-OnTable.is)
    (table_acts t.tells t c.args.n p.live.items new c.act_on_table_on_demand.result c.in-OnTable.of c.in-OnTable.table (given_table_op c.in-OnTable.op) p.limits p.store store p.heaps c.requires.1.1.1.1.1.0 c.act_on_table_on_demand.ensures.moves c.act_on_table_on_demand.ensures.unasked)

pub returns-in-Drop-clause-moves : goal.returns-in-Drop-clause-moves
returns-in-Drop-clause-moves g c =
    let t = g.terms in
    let p = c.args.party.now in
    let new = c.give_back_on_demand.new.live.items in
    let Moved : Act → Type 0 = λ a. ActsOnDemand t c.args.n (state_seen t.tells p.live.items p.store p.heaps) (given_act a) c.give_back_on_demand.result (state_seen t.tells new p.store p.heaps) in
    subst Moved (sym c.in-Drop.is) (grants_made t.tells new, c.give_back_on_demand.ensures.drops, refl)

pub returns-in-Purge-clause-moves : goal.returns-in-Purge-clause-moves
returns-in-Purge-clause-moves g c =
    let t = g.terms in
    let p = c.args.party.now in
    let Moved : Act → Type 0 = λ a. ActsOnDemand t c.args.n (state_seen t.tells p.live.items p.store p.heaps) (given_act a) c.purge_on_demand.result (state_seen t.tells p.live.items p.store p.heaps) in
    subst Moved (sym c.in-Purge.is) (c.purge_on_demand.ensures.reply, refl)

pub returns-in-Request-clause-spends : goal.returns-in-Request-clause-spends
returns-in-Request-clause-spends g c =
    let told = g.M.PageMaker.told in
    let new = c.ask_on_demand.new.live.items in
    let Spent : Act → Type 0 = λ a. ActSpends g.terms (told c.args.seat.now.maker) (told c.ask_on_demand.new.seat.maker) c.args.party.now.live.items (given_act a) c.ask_on_demand.result new in
    subst Spent (sym c.in-Request.is) c.ask_on_demand.ensures.spends

pub returns-in-OnMemory-clause-spends : goal.returns-in-OnMemory-clause-spends
returns-in-OnMemory-clause-spends g c =
    let t = g.terms in
    let told = g.M.PageMaker.told in
    let p = c.args.party.now in
    let new = c.act_on_demand.new.live.items in
    let tells : (told c.args.seat.now.maker).tells ≡ t.tells = sym c.requires.1.1.0.pages.tells in
    let Spent : Act → Type 0 = λ a. ActSpends t (told c.args.seat.now.maker) (told c.act_on_demand.new.maker) p.live.items (given_act a) c.act_on_demand.result new in
    subst Spent (sym c.in-OnMemory.is)
    (memory_spends t (told c.args.seat.now.maker) (told c.act_on_demand.new.maker) p.live.items new c.in-OnMemory.of c.in-OnMemory.memory (given_op c.in-OnMemory.op) (rule_of p.limits) c.act_on_demand.result (ap (λ (h : Host). h.rule) c.requires.1.1.1.1.1.0) (rw tells at c.act_on_demand.ensures.spends))

pub returns-in-OnTable-clause-spends : goal.returns-in-OnTable-clause-spends
returns-in-OnTable-clause-spends g c =
    let maker = g.M.PageMaker.told c.args.seat.now.maker in
    let live = c.args.party.now.live.items in
    let new = c.act_on_table_on_demand.new.live.items in
    let reply = c.act_on_table_on_demand.result in
    let Spent : Act → Type 0 = λ a. ActSpends g.terms maker maker live (given_act a) reply new in
    subst Spent (sym c.in-OnTable.is)
    (nothing_met g.terms maker maker live new (on_table c.in-OnTable.of c.in-OnTable.table (given_table_op c.in-OnTable.op)) reply refl refl (omega (arith, c.act_on_table_on_demand.ensures.memories.0)) c.act_on_table_on_demand.ensures.memories.1)

pub returns-in-Drop-clause-spends : goal.returns-in-Drop-clause-spends
returns-in-Drop-clause-spends g c =
    let told = g.M.PageMaker.told in
    let live = c.args.party.now.live.items in
    let new = c.give_back_on_demand.new.live.items in
    let before = told c.args.seat.now.maker in
    let after = told c.give_back_on_demand.new.seat.maker in
    let reply = c.give_back_on_demand.result in
    let Spent : Act → Type 0 = λ a. ActSpends g.terms before after live (given_act a) reply new in
    subst Spent (sym c.in-Drop.is)
    (nothing_met g.terms before after live new (drops c.in-Drop.of) reply (ap (λ s. told s.maker) c.give_back_on_demand.ensures.seat) refl c.give_back_on_demand.ensures.left c.give_back_on_demand.ensures.laid)

pub returns-in-Purge-clause-spends : goal.returns-in-Purge-clause-spends
returns-in-Purge-clause-spends g c =
    let told = g.M.PageMaker.told in
    let live = c.args.party.now.live.items in
    let before = told c.args.seat.now.maker in
    let after = told c.purge_on_demand.new.seat.maker in
    let reply = c.purge_on_demand.result in
    let Spent : Act → Type 0 = λ a. ActSpends g.terms before after live (given_act a) reply live in
    subst Spent (sym c.in-Purge.is) (nothing_met g.terms before after live live (purges c.in-Purge.module) reply (ap (λ s. told s.maker) c.purge_on_demand.ensures.seat) refl (omega arith) (λ y laid. laid))

pub returns-in-Release-clause-spends : goal.returns-in-Release-clause-spends
returns-in-Release-clause-spends g c =
    let maker = g.M.PageMaker.told c.args.seat.now.maker in
    let live = c.args.party.now.live.items in
    let Spent : Act → Type 0 = λ a. ActSpends g.terms maker maker live (given_act a) (Released 0) live in
    subst Spent (sym c.in-Release.is) (nothing_met g.terms maker maker live live releases (Released 0) refl refl (omega arith) (λ y laid. laid))

use Rattle.std.proofs.Common.{◌≡◌, ℕ, ◌<◌, List, length, Some, is_some, true, nat_lt, sym, ap, ◌∙◌, subst, arith, IfSome, slice_get, slice_index_or}
use Rattle.pool_run_on_demand.proofs.Imports.{nat_tests, slice_get-get_or, MakerTold, with_item, Act, act_of, Command}
use Rattle.pool_run_on_demand.specs.OnDemand.{ActsOnDemand}
use Rattle.pool_run_on_demand.specs.Left.{ActSpends}
use Rattle.pool_run_on_demand.specs.Seen.{state_seen}
use Rattle.pool_run_on_demand.proofs.Parties.{party_idle, party_next}
use Rattle.pool_run_on_demand.proofs.party.turn_on_demand.Goals as goal

pub returns-in-Some-clause-party : goal.returns-in-Some-clause-party
returns-in-Some-clause-party g c start met same is =
    let t = g.terms in
    let told = g.M.PageMaker.told in
    let p = c.args.party.now in
    let q = c.act-reply.new.party in
    let reply = c.act-reply.result in
    let commands : List Command = c.args.given.now.commands in
    let xs : List Command = c.as_slice.result.now in
    let n : ℕ = c.len-n.result in
    let command : Command = c.in-Some.command.now in
    let before : MakerTold = told c.args.seat.now.maker in
    let after : MakerTold = told c.act-reply.new.seat.maker in
    let yes : nat_lt n (length xs) ≡ true = sym c.get.ensures.lookup.0 ∙ ap is_some c.in-Some.is in
    let below : n < length xs = grind (arith, nat_tests, yes) in
    let here : command ≡ slice_index_or xs n command = subst (λ o. IfSome o (λ x. x.now ≡ slice_index_or xs n x.now)) c.in-Some.is c.get.ensures.lookup.1 in
    let next : n ≡ length p.told.items = c.len-n.ensures in
    let there : slice_get commands (length p.told.items) ≡ Some command = ap (λ (cs : List Command). slice_get cs (length p.told.items)) (sym c.as_slice.ensures) ∙ ap (slice_get xs) (sym next) ∙ slice_get-get_or xs n command below ∙ ap Some (sym here) in
    let Acts : ℕ → Act → Type 0 = λ k a. ActsOnDemand t k (state_seen t.tells p.live.items p.store p.heaps) a reply (state_seen t.tells q.live.items q.store q.heaps) in
    let Spent : Act → Type 0 = λ a. ActSpends t before after p.live.items a reply q.live.items in
    let moves = subst (λ (k : ℕ). Acts k (act_of command)) next (subst (Acts n) c.act_of-act_on.ensures c.act-reply.ensures.moves) in
    let spends = subst Spent c.act_of-act_on.ensures c.act-reply.ensures.spends in
    party_next t commands p _ command reply there (c.push.ensures ∙ ap (with_item reply) c.act-reply.ensures.told) start before after met same is moves spends c.act-reply.ensures.limits c.act-reply.ensures.failing c.act-reply.ensures.unmade c.act-reply.ensures.places c.act-reply.ensures.held

pub returns-in_default-clause-party : goal.returns-in_default-clause-party
returns-in_default-clause-party g c start met same is = party_idle g.terms c.args.given.now.commands start (g.M.PageMaker.told c.args.seat.now.maker) met c.args.party.now is

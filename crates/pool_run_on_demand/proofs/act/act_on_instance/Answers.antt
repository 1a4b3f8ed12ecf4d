use Rattle.std.proofs.Common.{All, refl, sym, subst, slice_get, slice_set}
use Rattle.pool_run_on_demand.proofs.Imports.{state_of, given_op, MovesNamed, rule_of, named_under}
use Rattle.pool_run_on_demand.specs.Seen.{IsHeld, LeaseMovesOnDemand, with_memory}
use Rattle.pool_run_on_demand.specs.Left.{LeasesSpend}
use Rattle.pool_run_on_demand.proofs.act.act_on_instance.Goals as goal

pub act_in_list-reply-requires : goal.act_in_list-reply-requires
act_in_list-reply-requires g c = record { held = subst (All (λ l. IsHeld (g.M.PageMaker.told c.args.maker.now).tells (state_of l.memory))) (sym c.into_vec-memories.ensures) c.requires.held.memories }

pub returns-clause-moves : goal.returns-clause-moves
returns-clause-moves g c =
    let k = c.args.memory in
    let instance = c.args.instance in
    let reply = c.act_in_list-reply.result in
    let new = c.act_in_list-reply.new.memories.items in
    let Move = LeaseMovesOnDemand (g.M.PageMaker.told c.args.maker.now).tells (given_op c.args.op.now) (rule_of c.args.limits) in
    let moved = subst (λ xs. MovesNamed Move (slice_get xs k) (λ l ls. slice_set ls k l) xs reply new) c.into_vec-memories.ensures c.act_in_list-reply.ensures.moves in
    let there = named_under Move (slice_get instance.memories k) (λ ms. record instance { memories = ms }) (λ l ls. slice_set ls k l) (with_memory k) (λ l ls. refl) instance.memories new reply moved in
    subst (λ ms. MovesNamed Move (slice_get instance.memories k) (with_memory k) instance reply (record instance { memories = ms })) (sym c.from_vec.ensures) there

pub returns-clause-held : goal.returns-clause-held
returns-clause-held g c = record {
  memories = subst (All (λ l. IsHeld (g.M.PageMaker.told c.args.maker.now).tells (state_of l.memory))) (sym c.from_vec.ensures) c.act_in_list-reply.ensures.held;
  tables = c.requires.held.tables;
}

pub returns-clause-spends : goal.returns-clause-spends
returns-clause-spends g c =
    let told = g.M.PageMaker.told in
    let tells = (told c.args.maker.now).tells in
    let op = given_op c.args.op.now in
    let rule = rule_of c.args.limits in
    let call = c.act_in_list-reply in
    let spent = subst (λ ls. LeasesSpend tells op rule (told c.args.maker.now) (told call.new.maker) c.args.memory ls call.new.memories.items call.result) c.into_vec-memories.ensures call.ensures.spends in
    subst (λ ls. LeasesSpend tells op rule (told c.args.maker.now) (told call.new.maker) c.args.memory c.args.instance.memories ls call.result) (sym c.from_vec.ensures) spent

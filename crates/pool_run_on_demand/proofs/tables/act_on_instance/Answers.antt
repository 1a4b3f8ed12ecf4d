use Rattle.std.proofs.Common.{All, refl, sym, ap, ◌∙◌, subst, slice_get, slice_set}
use Rattle.pool_run_on_demand.proofs.Imports.{HasType, given_table_op, MovesNamed, rule_of, named_under}
use Rattle.pool_run_on_demand.specs.Seen.{TableLeaseMovesOnDemand, with_table}
use Rattle.pool_run_on_demand.proofs.tables.act_on_instance.Goals as goal

pub act_in_list-reply-requires : goal.act_in_list-reply-requires
act_in_list-reply-requires g c = record { held = subst (All (λ l. HasType l.table)) (sym c.into_vec-tables.ensures) c.requires.1.1.tables }

pub returns-clause-moves : goal.returns-clause-moves
returns-clause-moves g c =
    let k = c.args.table in
    let instance = c.args.instance in
    let reply = c.act_in_list-reply.result in
    let new = c.act_in_list-reply.new.tables.items in
    let Move = TableLeaseMovesOnDemand (given_table_op c.args.op.now) (rule_of c.args.limits) c.args.store.now c.act_in_list-reply.new.store in
    let moved = subst (λ xs. MovesNamed Move (slice_get xs k) (λ l ls. slice_set ls k l) xs reply new) c.into_vec-tables.ensures c.act_in_list-reply.ensures.moves in
    let there = named_under Move (slice_get instance.tables k) (λ ts. record instance { tables = ts }) (λ l ls. slice_set ls k l) (with_table k) (λ l ls. refl) instance.tables new reply moved in
    subst (λ ts. MovesNamed Move (slice_get instance.tables k) (with_table k) instance reply (record instance { tables = ts })) (sym c.from_vec.ensures) there

pub returns-clause-unasked : goal.returns-clause-unasked
returns-clause-unasked g c none = c.act_in_list-reply.ensures.unasked (ap (λ ts. slice_get ts c.args.table) c.into_vec-tables.ensures ∙ none)

pub returns-clause-held : goal.returns-clause-held
returns-clause-held g c = record {
  memories = c.requires.1.1.memories;
  tables = subst (All (λ l. HasType l.table)) (sym c.from_vec.ensures) c.act_in_list-reply.ensures.held;
}

use Rattle.std.proofs.Common.{rules, refl, sym, ap, ◌∙◌, subst, slice_get}
use Rattle.pool_run_on_demand.proofs.Imports.{given_table_op, MovesNamed, rule_of, named_under}
use Rattle.pool_run_on_demand.specs.Seen.{IsHeldGrant, TableLeaseMovesOnDemand, tables_of_grant, with_table, with_table_in}
use Rattle.pool_run_on_demand.specs.declared.grant.OnDemandGrant.TheVariants.{Instance}
use Rattle.pool_run_on_demand.specs.Left.{KeepsMemories}
use Rattle.pool_run_on_demand.proofs.Live.{instance_keeps}
use Rattle.pool_run_on_demand.proofs.tables.act_on_grant.Goals as goal

pub act_on_instance-instance-requires : goal.act_on_instance-instance-requires
act_on_instance-instance-requires g c κs within = (search rules, (search rules, subst (IsHeldGrant g.tells) c.in-Instance.is c.requires.1.1))

pub returns-in-Instance-clause-moves : goal.returns-in-Instance-clause-moves
returns-in-Instance-clause-moves g c =
    let k = c.args.table in
    let call = c.act_on_instance-instance in
    let instance = c.in-Instance.instance in
    let Move = TableLeaseMovesOnDemand (given_table_op c.args.op.now) (rule_of c.args.limits) c.args.store.now call.new.store in
    subst (λ x. MovesNamed Move (slice_get (tables_of_grant x) k) (with_table_in k) x call.result.1 (Instance call.result.0)) (sym c.in-Instance.is)
    (named_under Move (slice_get instance.tables k) (λ i. Instance i) (with_table k) (with_table_in k) (λ l i. refl) instance call.result.0 call.result.1 call.ensures.moves)

pub returns-in-Instance-clause-unasked : goal.returns-in-Instance-clause-unasked
returns-in-Instance-clause-unasked g c none = c.act_on_instance-instance.ensures.unasked (ap (λ x. slice_get (tables_of_grant x) c.args.table) (sym c.in-Instance.is) ∙ none)

pub returns-in-Instance-clause-memories : goal.returns-in-Instance-clause-memories
returns-in-Instance-clause-memories g c =
    let call = c.act_on_instance-instance in
    subst (λ x. KeepsMemories x (Instance call.result.0)) (sym c.in-Instance.is) (instance_keeps c.in-Instance.instance call.result.0 call.ensures.memories)

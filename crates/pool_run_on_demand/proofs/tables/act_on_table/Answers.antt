use Rattle.std.proofs.Common.{sym, subst}
use Rattle.pool_run_on_demand.proofs.Imports.{GrowthRule, table_view, TableView, given_table_op, rule_of, Get, Reply, said}
use Rattle.pool_run.specs.declared.act.TableOp.TheVariants.{Grow}
use Rattle.pool_run_on_demand.specs.Seen.{ViewMovesOnDemand}
use Rattle.pool_run.specs.declared.act.TableOp.{TableOp}
use Rattle.pool_run_on_demand.proofs.TableMoves.{got_seen, length_seen, lengthened_seen}
use Rattle.pool_run_on_demand.proofs.tables.act_on_table.Goals as goal

pub returns-in-Get-clause-moves : goal.returns-in-Get-clause-moves
returns-in-Get-clause-moves g c =
    let rule : GrowthRule = rule_of c.args.limits in
    let t : TableView = table_view c.args.table.now in
    let Moved : TableOp → Reply → Type 0 = λ by reply. ViewMovesOnDemand (given_table_op by) rule c.args.store.now c.args.store.now t t reply in
    subst (λ (by : TableOp). Moved by c.element_reply.result) (sym c.in-Get.is) (subst (Moved (Get c.in-Get.at)) (sym c.element_reply.ensures) (got_seen c.in-Get.at rule c.args.store.now t c.element_at.result c.element_at.ensures))

pub returns-in-Set-clause-moves : goal.returns-in-Set-clause-moves
returns-in-Set-clause-moves g c =
    let rule : GrowthRule = rule_of c.args.limits in
    let Moved : TableOp → Type 0 = λ by. ViewMovesOnDemand (given_table_op by) rule c.args.store.now c.set.new.store (table_view c.args.table.now) (table_view c.set.new.table) c.set.result in
    subst Moved (sym c.in-Set.is) (c.set.ensures.moves rule)

pub returns-in-Grow-clause-moves : goal.returns-in-Grow-clause-moves
returns-in-Grow-clause-moves g c =
    let rule : GrowthRule = rule_of c.args.limits in
    let t : TableView = table_view c.args.table.now in
    let new : TableView = table_view c.grow.new.table in
    let Moved : TableOp → Reply → Type 0 = λ by reply. ViewMovesOnDemand (given_table_op by) rule c.args.store.now c.args.store.now t new reply in
    subst (λ (by : TableOp). Moved by c.growth_reply.result) (sym c.in-Grow.is) (subst (Moved (Grow c.in-Grow.by)) (sym c.growth_reply.ensures) (lengthened_seen rule c.in-Grow.by c.args.store.now t new c.grow.result c.grow.ensures.growth))

pub returns-in-Size-clause-moves : goal.returns-in-Size-clause-moves
returns-in-Size-clause-moves g c =
    let rule : GrowthRule = rule_of c.args.limits in
    let t : TableView = table_view c.args.table.now in
    let Moved : TableOp → Type 0 = λ by. ViewMovesOnDemand (given_table_op by) rule c.args.store.now c.args.store.now t t (said c.size.result) in
    subst Moved (sym c.in-Size.is) (length_seen rule c.args.store.now t c.size.result c.size.ensures.value)

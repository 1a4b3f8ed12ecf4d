use Rattle.std.proofs.Common.{sym, subst}
use Rattle.pool_run.proofs.Imports.{GrowthRule, IsChanged}
use Rattle.pool_run.specs.AtOnce.{given_table_op, element_reply, growth_reply, LengthensUnder}
use Rattle.pool_run.specs.Acts.{lengthens, gets, asks_length}
use Rattle.pool_run.specs.PartyRules.{rule_of}
use Rattle.pool_run.specs.Turns.{MovesTable}
use Rattle.pool_run.specs.declared.act.TableOp.{TableOp}
use Rattle.pool_run.specs.declared.act.TableOp.TheVariants.{Get, Grow}
use Rattle.pool_run.specs.declared.reply.Reply.{Reply}
use Rattle.pool_run.specs.declared.reply.Reply.TheVariants.{Size as said}
use Rattle.pool_run.proofs.LeaseChanges.{changed_as, looked_at}
use Rattle.pool_run.proofs.TableChanges.{got_moves, length_moves, lengthened_moves}
use Rattle.pool_run.proofs.table_commands.act_on_list.Goals as goal

pub returns-in-Get : goal.returns-in-Get
returns-in-Get g c =
    let rule : GrowthRule = rule_of c.args.limits in
    let Moved : TableOp → Reply → Type 0 = λ by reply. IsChanged (λ l n. MovesTable (given_table_op by) rule c.args.store.now c.args.store.now l n reply) c.args.table c.args.tables.now c.args.tables.now in
    subst (λ (by : TableOp). Moved by c.element_reply.result) (sym c.in-Get.is)
    (subst (Moved (Get c.in-Get.at)) (sym c.element_reply.ensures)
    (looked_at (λ l n. MovesTable (gets c.in-Get.at) rule c.args.store.now c.args.store.now l n (element_reply c.get-in-Get.result)) c.args.table c.args.tables.now c.get.result.now c.requires c.get.ensures (got_moves c.in-Get.at rule c.args.store.now c.get.result.now c.get-in-Get.result c.get-in-Get.ensures)))

pub returns-in-Set : goal.returns-in-Set
returns-in-Set g c =
    let rule : GrowthRule = rule_of c.args.limits in
    let Moved : TableOp → Type 0 = λ by. IsChanged (λ l n. MovesTable (given_table_op by) rule c.args.store.now c.set.new.store l n c.set.result) c.args.table c.args.tables.now c.set.new.tables in
    subst Moved (sym c.in-Set.is) (c.set.ensures rule)

pub returns-in-Grow : goal.returns-in-Grow
returns-in-Grow g c =
    let rule : GrowthRule = rule_of c.args.limits in
    let Moved : TableOp → Reply → Type 0 = λ by reply. IsChanged (λ l n. MovesTable (given_table_op by) rule c.args.store.now c.args.store.now l n reply) c.args.table c.args.tables.now c.grow.new.tables in
    subst (λ (by : TableOp). Moved by c.growth_reply.result) (sym c.in-Grow.is)
    (subst (Moved (Grow c.in-Grow.by)) (sym c.growth_reply.ensures)
    (changed_as (λ l n. LengthensUnder rule c.in-Grow.by l n c.grow.result) (λ l n. MovesTable (lengthens c.in-Grow.by) rule c.args.store.now c.args.store.now l n (growth_reply c.grow.result)) c.args.table c.args.tables.now c.grow.new.tables (λ l n. lengthened_moves rule c.in-Grow.by c.args.store.now l n c.grow.result) c.grow.ensures))

pub returns-in-Size : goal.returns-in-Size
returns-in-Size g c =
    let rule : GrowthRule = rule_of c.args.limits in
    let Moved : TableOp → Type 0 = λ by. IsChanged (λ l n. MovesTable (given_table_op by) rule c.args.store.now c.args.store.now l n (said c.size.result)) c.args.table c.args.tables.now c.args.tables.now in
    subst Moved (sym c.in-Size.is)
    (looked_at (λ l n. MovesTable asks_length rule c.args.store.now c.args.store.now l n (said c.size.result)) c.args.table c.args.tables.now c.get-in-Size.result.now c.requires c.get-in-Size.ensures (length_moves rule c.args.store.now c.get-in-Size.result.now c.size.result c.size.ensures))

use Rattle.std.proofs.Common.{replicate, sym, subst}
use Rattle.pool_run.proofs.Imports.{GrowthRule, Lease}
use Rattle.pool_run.specs.AtOnce.{given_op}
use Rattle.pool_run.specs.PartyRules.{rule_of}
use Rattle.pool_run.specs.Turns.{LeaseMoves}
use Rattle.pool_run.specs.declared.act.MemoryOp.{MemoryOp}
use Rattle.pool_run.specs.declared.act.MemoryOp.TheVariants.{Write, Fill, Grow}
use Rattle.pool_run.specs.declared.reply.Reply.{Reply}
use Rattle.pool_run.proofs.LeaseChanges.{write_moves, growth_moves}
use Rattle.pool_run.proofs.at_once.act_on_its_memory.Goals as goal

pub returns-in-Write : goal.returns-in-Write
returns-in-Write g c =
    let l : Lease = c.args.lease.now in
    let n : Lease = c.write.new.self in
    let Moved : MemoryOp → Reply → Type 0 = λ by reply. LeaseMoves (given_op by) (rule_of c.args.limits) l n reply in
    subst (λ (by : MemoryOp). Moved by c.write_reply.result) (sym c.in-Write.is)
    (subst (Moved (Write c.in-Write.at c.in-Write.bytes)) (sym c.write_reply.ensures) (write_moves c.in-Write.at c.in-Write.bytes.now l n c.write.result c.write.ensures))

pub returns-in-Fill : goal.returns-in-Fill
returns-in-Fill g c =
    let l : Lease = c.args.lease.now in
    let n : Lease = c.fill.new.self in
    let Moved : MemoryOp → Reply → Type 0 = λ by reply. LeaseMoves (given_op by) (rule_of c.args.limits) l n reply in
    subst (λ (by : MemoryOp). Moved by c.write_reply-in-Fill.result) (sym c.in-Fill.is)
    (subst (Moved (Fill c.in-Fill.at c.in-Fill.len c.in-Fill.byte)) (sym c.write_reply-in-Fill.ensures) (write_moves c.in-Fill.at (replicate c.in-Fill.len c.in-Fill.byte) l n c.fill.result c.fill.ensures))

pub returns-in-Grow : goal.returns-in-Grow
returns-in-Grow g c =
    let rule : GrowthRule = rule_of c.args.limits in
    let l : Lease = c.args.lease.now in
    let n : Lease = c.grow_its.new.lease in
    let Moved : MemoryOp → Reply → Type 0 = λ by reply. LeaseMoves (given_op by) rule l n reply in
    subst (λ (by : MemoryOp). Moved by c.growth_reply.result) (sym c.in-Grow.is)
    (subst (Moved (Grow c.in-Grow.pages)) (sym c.growth_reply.ensures) (growth_moves rule c.in-Grow.pages l n c.grow_its.result c.grow_its.ensures))

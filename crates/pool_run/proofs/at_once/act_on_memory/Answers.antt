use Rattle.std.proofs.Common.{◌≡◌, refl, replicate, sym, subst}
use Rattle.pool_run.proofs.Imports.{GrowthRule, IsWritten, IsChanged}
use Rattle.pool_run.specs.AtOnce.{given_op, GrowsUnder, write_reply, growth_reply}
use Rattle.pool_run.specs.PartyRules.{rule_of}
use Rattle.pool_run.specs.Private.{IsRead}
use Rattle.pool_run.specs.Turns.{private_memory, MemoryWrites, MemoryGrows, MovesLease, LeaseMoves}
use Rattle.pool_run.specs.declared.act.MemoryOp.{MemoryOp}
use Rattle.pool_run.specs.declared.act.MemoryOp.TheVariants.{Write, Fill, Grow}
use Rattle.pool_run.specs.declared.reply.Reply.{Reply}
use Rattle.pool_run.specs.declared.reply.Reply.TheVariants.{Size as said}
use Rattle.pool_run.proofs.LeaseChanges.{changed_as, looked_at, write_moves, growth_moves}
use Rattle.pool_run.proofs.at_once.act_on_memory.Goals as goal

pub returns-in-Write : goal.returns-in-Write
returns-in-Write g c =
    let Moved : MemoryOp → Reply → Type 0 = λ by reply. IsChanged (λ l n. LeaseMoves (given_op by) (rule_of c.args.limits) l n reply) c.args.memory c.args.memories.now c.write.new.self in
    subst (λ (by : MemoryOp). Moved by c.write_reply.result) (sym c.in-Write.is)
    (subst (Moved (Write c.in-Write.at c.in-Write.bytes)) (sym c.write_reply.ensures)
    (changed_as (λ l n. IsWritten c.in-Write.at c.in-Write.bytes.now l n c.write.result) (λ l n. MovesLease (MemoryWrites c.in-Write.at c.in-Write.bytes.now) l n (write_reply c.write.result)) c.args.memory c.args.memories.now c.write.new.self (λ l n is. write_moves c.in-Write.at c.in-Write.bytes.now l n c.write.result is) c.write.ensures))

pub returns-in-Fill : goal.returns-in-Fill
returns-in-Fill g c =
    let Moved : MemoryOp → Reply → Type 0 = λ by reply. IsChanged (λ l n. LeaseMoves (given_op by) (rule_of c.args.limits) l n reply) c.args.memory c.args.memories.now c.fill.new.self in
    subst (λ (by : MemoryOp). Moved by c.write_reply-in-Fill.result) (sym c.in-Fill.is)
    (subst (Moved (Fill c.in-Fill.at c.in-Fill.len c.in-Fill.byte)) (sym c.write_reply-in-Fill.ensures)
    (changed_as (λ l n. IsWritten c.in-Fill.at (replicate c.in-Fill.len c.in-Fill.byte) l n c.fill.result) (λ l n. MovesLease (MemoryWrites c.in-Fill.at (replicate c.in-Fill.len c.in-Fill.byte)) l n (write_reply c.fill.result)) c.args.memory c.args.memories.now c.fill.new.self (λ l n is. write_moves c.in-Fill.at (replicate c.in-Fill.len c.in-Fill.byte) l n c.fill.result is) c.fill.ensures))

pub returns-in-Grow : goal.returns-in-Grow
returns-in-Grow g c =
    let rule : GrowthRule = rule_of c.args.limits in
    let Moved : MemoryOp → Reply → Type 0 = λ by reply. IsChanged (λ l n. LeaseMoves (given_op by) rule l n reply) c.args.memory c.args.memories.now c.grow.new.memories in
    subst (λ (by : MemoryOp). Moved by c.growth_reply.result) (sym c.in-Grow.is)
    (subst (Moved (Grow c.in-Grow.pages)) (sym c.growth_reply.ensures)
    (changed_as (λ l n. GrowsUnder rule c.in-Grow.pages l n c.grow.result) (λ l n. MovesLease (MemoryGrows rule c.in-Grow.pages) l n (growth_reply c.grow.result)) c.args.memory c.args.memories.now c.grow.new.memories (λ l n is. growth_moves rule c.in-Grow.pages l n c.grow.result is) c.grow.ensures))

pub returns-in-Read : goal.returns-in-Read
returns-in-Read g c =
    let Moved : MemoryOp → Type 0 = λ by. IsChanged (λ l n. LeaseMoves (given_op by) (rule_of c.args.limits) l n c.read.result) c.args.memory c.args.memories.now c.args.memories.now in
    subst Moved (sym c.in-Read.is)
    (looked_at (λ l n. IsRead (private_memory l) c.in-Read.at c.in-Read.len c.read.result × (n ≡ l)) c.args.memory c.args.memories.now c.get.result.now c.requires c.get.ensures (c.read.ensures, refl))

pub returns-in-Size : goal.returns-in-Size
returns-in-Size g c =
    let Moved : MemoryOp → Type 0 = λ by. IsChanged (λ l n. LeaseMoves (given_op by) (rule_of c.args.limits) l n c.size.result) c.args.memory c.args.memories.now c.args.memories.now in
    subst Moved (sym c.in-Size.is)
    (looked_at (λ l n. (c.size.result ≡ said l.memory.linear.size) × (n ≡ l)) c.args.memory c.args.memories.now c.get-in-Size.result.now c.requires c.get-in-Size.ensures (c.size.ensures, refl))

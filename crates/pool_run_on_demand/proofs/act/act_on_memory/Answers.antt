use Rattle.std.proofs.Common.{◌≡◌, ℕ, ◌+◌, length, replicate, sym, ap, ◌∙◌, subst, refl}
use Rattle.pool_run_on_demand.proofs.Imports.{length-replicate, state_of, access_answer, given_op, rule_of, Write, Fill, Reply, size_told}
use Rattle.pool_run.specs.declared.act.MemoryOp.TheVariants.{Grow}
use Rattle.pool_run_on_demand.specs.OnDemand.{MovesOnDemand}
use Rattle.pool_run_on_demand.specs.Left.{MemorySpends}
use Rattle.pool_run_on_demand.specs.Seen.{seen_made}
use Rattle.pool_run.specs.declared.act.MemoryOp.{MemoryOp}
use Rattle.pool_run_on_demand.proofs.Growing.{grows_spends, look_spends, write_spends}
use Rattle.pool_run_on_demand.proofs.Moves.{read_made, writes_made, grows_made, growth_same}
use Rattle.pool_run_on_demand.proofs.act.act_on_memory.Goals as goal

pub returns-in-Write-clause-moves : goal.returns-in-Write-clause-moves
returns-in-Write-clause-moves g c =
    let tells = (g.M.PageMaker.told c.args.maker.now).tells in
    let Moved : MemoryOp → Reply → Type 0 = λ by reply. MovesOnDemand (given_op by) (rule_of c.args.limits) (seen_made tells (state_of c.args.memory.now)) (seen_made tells (state_of c.write.new.self)) reply in
    let done = writes_made tells c.in-Write.at c.in-Write.bytes.now (state_of c.args.memory.now) (state_of c.write.new.self) c.requires.held c.write.result c.write.ensures.answer c.write.ensures.written c.write.ensures.same in
    subst (λ (by : MemoryOp). Moved by c.write_reply.result) (sym c.in-Write.is) (subst (Moved (Write c.in-Write.at c.in-Write.bytes)) (sym c.write_reply.ensures) done.0)

pub returns-in-Write-clause-held : goal.returns-in-Write-clause-held
returns-in-Write-clause-held g c =
    let tells = (g.M.PageMaker.told c.args.maker.now).tells in
    (writes_made tells c.in-Write.at c.in-Write.bytes.now (state_of c.args.memory.now) (state_of c.write.new.self) c.requires.held c.write.result c.write.ensures.answer c.write.ensures.written c.write.ensures.same).1

pub returns-in-Fill-clause-moves : goal.returns-in-Fill-clause-moves
returns-in-Fill-clause-moves g c =
    let tells = (g.M.PageMaker.told c.args.maker.now).tells in
    let Moved : MemoryOp → Reply → Type 0 = λ by reply. MovesOnDemand (given_op by) (rule_of c.args.limits) (seen_made tells (state_of c.args.memory.now)) (seen_made tells (state_of c.fill.new.self)) reply in
    let size : ℕ = (state_of c.args.memory.now).linear.size in
    let answer : c.fill.result ≡ access_answer (c.in-Fill.at + length (replicate c.in-Fill.len c.in-Fill.byte)) size = c.fill.ensures.answer ∙ ap (λ (n : ℕ). access_answer (c.in-Fill.at + n) size) (sym (length-replicate c.in-Fill.len c.in-Fill.byte)) in
    let done = writes_made tells c.in-Fill.at (replicate c.in-Fill.len c.in-Fill.byte) (state_of c.args.memory.now) (state_of c.fill.new.self) c.requires.held c.fill.result answer c.fill.ensures.written c.fill.ensures.same in
    subst (λ (by : MemoryOp). Moved by c.write_reply-in-Fill.result) (sym c.in-Fill.is) (subst (Moved (Fill c.in-Fill.at c.in-Fill.len c.in-Fill.byte)) (sym c.write_reply-in-Fill.ensures) done.0)

pub returns-in-Fill-clause-held : goal.returns-in-Fill-clause-held
returns-in-Fill-clause-held g c =
    let tells = (g.M.PageMaker.told c.args.maker.now).tells in
    let size : ℕ = (state_of c.args.memory.now).linear.size in
    let answer : c.fill.result ≡ access_answer (c.in-Fill.at + length (replicate c.in-Fill.len c.in-Fill.byte)) size = c.fill.ensures.answer ∙ ap (λ (n : ℕ). access_answer (c.in-Fill.at + n) size) (sym (length-replicate c.in-Fill.len c.in-Fill.byte)) in
    (writes_made tells c.in-Fill.at (replicate c.in-Fill.len c.in-Fill.byte) (state_of c.args.memory.now) (state_of c.fill.new.self) c.requires.held c.fill.result answer c.fill.ensures.written c.fill.ensures.same).1

pub returns-in-Grow-clause-moves : goal.returns-in-Grow-clause-moves
returns-in-Grow-clause-moves g c =
    let told = g.M.PageMaker.told in
    let tells = (told c.args.maker.now).tells in
    let Moved : MemoryOp → Reply → Type 0 = λ by reply. MovesOnDemand (given_op by) (rule_of c.args.limits) (seen_made tells (state_of c.args.memory.now)) (seen_made tells (state_of c.grow.new.memory)) reply in
    let done = grows_made tells (rule_of c.args.limits) c.in-Grow.pages (state_of c.args.memory.now) (state_of c.grow.new.memory) (told c.args.maker.now) (told c.grow.new.maker) c.grow.result refl c.requires.held c.grow.ensures.growth in
    subst (λ (by : MemoryOp). Moved by c.growth_reply.result) (sym c.in-Grow.is) (subst (Moved (Grow c.in-Grow.pages)) (sym c.growth_reply.ensures) done.0)

pub returns-in-Grow-clause-held : goal.returns-in-Grow-clause-held
returns-in-Grow-clause-held g c =
    let told = g.M.PageMaker.told in
    (grows_made (told c.args.maker.now).tells (rule_of c.args.limits) c.in-Grow.pages (state_of c.args.memory.now) (state_of c.grow.new.memory) (told c.args.maker.now) (told c.grow.new.maker) c.grow.result refl c.requires.held c.grow.ensures.growth).1

pub returns-in-Grow-clause-maker : goal.returns-in-Grow-clause-maker
returns-in-Grow-clause-maker g c =
    let told = g.M.PageMaker.told in
    growth_same (rule_of c.args.limits) c.in-Grow.pages (state_of c.args.memory.now) (state_of c.grow.new.memory) (told c.args.maker.now) (told c.grow.new.maker) c.grow.result c.grow.ensures.growth

pub returns-in-Read-clause-moves : goal.returns-in-Read-clause-moves
returns-in-Read-clause-moves g c =
    let tells = (g.M.PageMaker.told c.args.maker.now).tells in
    let Moved : MemoryOp → Type 0 = λ by. MovesOnDemand (given_op by) (rule_of c.args.limits) (seen_made tells (state_of c.args.memory.now)) (seen_made tells (state_of c.args.memory.now)) c.read.result in
    subst Moved (sym c.in-Read.is) (read_made tells (state_of c.args.memory.now) c.in-Read.at c.in-Read.len c.read.result c.read.ensures, refl)

pub returns-in-Write-clause-spends : goal.returns-in-Write-clause-spends
returns-in-Write-clause-spends g c =
    let maker = g.M.PageMaker.told c.args.maker.now in
    let old = state_of c.args.memory.now in
    let new = state_of c.write.new.self in
    let Spent : MemoryOp → Type 0 = λ by. MemorySpends maker.tells (given_op by) (rule_of c.args.limits) maker maker old new c.write_reply.result in
    subst Spent (sym c.in-Write.is) (λ y same laid. write_spends y maker c.in-Write.at c.in-Write.bytes.now old new c.write.result c.write.ensures.written c.write.ensures.same laid)

pub returns-in-Fill-clause-spends : goal.returns-in-Fill-clause-spends
returns-in-Fill-clause-spends g c =
    let maker = g.M.PageMaker.told c.args.maker.now in
    let old = state_of c.args.memory.now in
    let new = state_of c.fill.new.self in
    let Spent : MemoryOp → Type 0 = λ by. MemorySpends maker.tells (given_op by) (rule_of c.args.limits) maker maker old new c.write_reply-in-Fill.result in
    subst Spent (sym c.in-Fill.is) (λ y same laid. write_spends y maker c.in-Fill.at (replicate c.in-Fill.len c.in-Fill.byte) old new c.fill.result c.fill.ensures.written c.fill.ensures.same laid)

pub returns-in-Grow-clause-spends : goal.returns-in-Grow-clause-spends
returns-in-Grow-clause-spends g c =
    let told = g.M.PageMaker.told in
    let before = told c.args.maker.now in
    let after = told c.grow.new.maker in
    let old = state_of c.args.memory.now in
    let new = state_of c.grow.new.memory in
    let Spent : MemoryOp → Reply → Type 0 = λ by reply. MemorySpends before.tells (given_op by) (rule_of c.args.limits) before after old new reply in
    subst (λ (by : MemoryOp). Spent by c.growth_reply.result) (sym c.in-Grow.is)
    (subst (Spent (Grow c.in-Grow.pages)) (sym c.growth_reply.ensures) (grows_spends before.tells (rule_of c.args.limits) c.in-Grow.pages old new before after c.grow.result c.requires.held c.grow.ensures.growth))

pub returns-in-Read-clause-spends : goal.returns-in-Read-clause-spends
returns-in-Read-clause-spends g c =
    let maker = g.M.PageMaker.told c.args.maker.now in
    let old = state_of c.args.memory.now in
    let Spent : MemoryOp → Type 0 = λ by. MemorySpends maker.tells (given_op by) (rule_of c.args.limits) maker maker old old c.read.result in
    subst Spent (sym c.in-Read.is) (λ y same laid. look_spends y maker old laid)

pub returns-in-Size-clause-spends : goal.returns-in-Size-clause-spends
returns-in-Size-clause-spends g c =
    let maker = g.M.PageMaker.told c.args.maker.now in
    let old = state_of c.args.memory.now in
    let Spent : MemoryOp → Type 0 = λ by. MemorySpends maker.tells (given_op by) (rule_of c.args.limits) maker maker old old (size_told c.byte_size.result) in
    subst Spent (sym c.in-Size.is) (λ y same laid. look_spends y maker old laid)

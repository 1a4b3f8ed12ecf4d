use Rattle.std.proofs.Common.{◌≡◌, ◌≤◌, ℕ, Option, Result, sym, ap, ◌∙◌, subst, IfOk, IfSome}
use Rattle.pool_memory.proofs.Imports.{start, minimum_byte_size}
use Rattle.pool_memory.specs.Linear.{Linear, linear_bytes}
use Rattle.pool_memory.specs.Memories.{MemoryState}
use Rattle.pool_memory.specs.Static.{linear_of}
use Rattle.pool_memory.specs.Making.{Granted, maximum_asked}
use Rattle.pool_memory.specs.declared.memory_error.MemoryError.{MemoryError}
use Rattle.pool_memory.proofs.Makings.{least_most}
use Rattle.pool_memory.proofs.Begun.{made_room, made_reads}
use Rattle.pool_memory.proofs.making.make_within.Goals as goal

pub new-requires-clause-maximum : goal.new-requires-clause-maximum
new-requires-clause-maximum g c =
    let ty = c.args.ty.now in
    let G : Result (ℕ × Option ℕ) MemoryError → Type 0 = λ r. IfOk r (Granted ty) in
    let granted : Granted ty c.in-Ok.limits = subst G c.in-Ok.is c.requires.granted in
    let A : ℕ → Type 0 = λ n. IfSome (maximum_asked ty) (λ most. n ≤ most) in
    let B : Option ℕ → Type 0 = λ o. IfSome o (λ most. c.in-Ok.limits.0 ≤ most) in
    subst B (sym granted.maximum) (subst A (sym granted.minimum) (least_most ty c.requires.limits))

pub with_memory-requires-clause-room : goal.with_memory-requires-clause-room
with_memory-requires-clause-room g c =
    let ty = c.args.ty.now in
    let G : Result (ℕ × Option ℕ) MemoryError → Type 0 = λ r. IfOk r (Granted ty) in
    let granted : Granted ty c.in-Ok.limits = subst G c.in-Ok.is c.requires.granted in
    made_room ty c.args.base_capacity c.in-Ok.limits c.args.slot c.in-Ok-new.memory c.requires.page granted (sym c.new.ensures ∙ c.in-Ok-new.is)

pub returns-in-Ok-new-clause-begun : goal.returns-in-Ok-new-clause-begun
returns-in-Ok-new-clause-begun g c image begun ends =
    let ty = c.args.ty.now in
    let G : Result (ℕ × Option ℕ) MemoryError → Type 0 = λ r. IfOk r (Granted ty) in
    let granted : Granted ty c.in-Ok.limits = subst G c.in-Ok.is c.requires.granted in
    let linear : c.with_memory.result.linear ≡ linear_of c.in-Ok-new.memory = ap (λ (m : MemoryState). m.linear) c.with_memory.ensures in
    let B : Linear → Type 0 = λ l. IfSome (linear_bytes l) (λ bytes. bytes ≡ start image (minimum_byte_size ty)) in
    subst B (sym linear) (made_reads ty c.args.base_capacity c.in-Ok.limits c.args.slot c.in-Ok-new.memory c.accessible-accessible.ensures.fits granted c.requires.slot (sym c.new.ensures ∙ c.in-Ok-new.is) image begun ends)

use Rattle.std.proofs.Common.{◌≤◌, ◌<◌, ◌+◌, replicate, sym, subst, arith}
use Rattle.pool_memory.proofs.Imports.{length-replicate, IsSlot}
use Rattle.pool_memory.specs.Mapped.{Mapped}
use Rattle.pool_memory.proofs.Mapped.{wrote_keeps}
use Rattle.pool_memory.proofs.mmap_memory.MmapMemoryRuntimeLinearMemory.fill.Goals as goal

pub invariant_of-self : goal.invariant_of-self
invariant_of-self g c =
    let i = c.self.inside in
    let m : Mapped = record { slot = i.slot; size = i.size; extra = i.extra_to_reserve_on_growth; as_made = i.as_made; known = i.known } in
    let F : Mapped → Type 0 = λ s. IsSlot s.slot in
    let N : Mapped → Type 0 = λ s. c.args.at + c.args.len ≤ s.size in
    let long = length-replicate c.args.len c.args.byte in
    let some : 0 < c.args.len = omega (arith, c.if-len-eq0.false) in
    let below : c.args.at + c.args.len ≤ m.size = subst N (sym c.self.view_is) c.requires in
    wrote_keeps i.layout m c.args.at (replicate c.args.len c.args.byte) c.fill.new.self c.self.invariant (subst F (sym c.self.view_is) c.fits.ensures.slot) (omega (arith, long, some)) (omega (arith, long, below)) c.fill.ensures.written c.fill.ensures.ready

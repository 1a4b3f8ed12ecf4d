use Rattle.std.proofs.Common.{ℕ, ◌+◌, ◌≤◌, List, replicate, sym, subst, arith, IfSome}
use Rattle.pool_memory.proofs.Imports.{length-replicate, Slot, IsSlot, IsReady}
use Rattle.pool_memory.specs.Static.{Static, IsStatic}
use Rattle.pool_memory.proofs.Statics.{written_is_static}
use Rattle.pool_memory.proofs.static_memory.StaticMemoryRuntimeLinearMemory.fill.Goals as goal

pub invariant_of-self : goal.invariant_of-self
invariant_of-self g c =
    let i = c.self.inside in
    let m : Static = record { slot = i.slot; size = i.size; capacity = i.capacity } in
    let bytes : List ℕ = replicate c.args.len c.args.byte in
    let F : Static → Type 0 = λ s. IsSlot s.slot in
    let N : Static → Type 0 = λ s. c.args.at + c.args.len ≤ s.size in
    let P : Slot → Type 0 = λ s. IsStatic (record { slot = s; size = i.size; capacity = i.capacity }) in
    let R : Slot → Type 0 = λ s. IfSome s.region.contents (IsReady s) in
    let inside : c.args.at + c.args.len ≤ i.size = subst N (sym c.self.view_is) c.requires in
    subst P (sym c.fill.ensures.written) (written_is_static m c.args.at bytes (subst F (sym c.self.view_is) c.fits.ensures) c.self.invariant (omega (arith, inside, length-replicate c.args.len c.args.byte)) (subst R c.fill.ensures.written c.fill.ensures.ready))

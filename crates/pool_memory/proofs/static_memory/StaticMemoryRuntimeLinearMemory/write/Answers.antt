use Rattle.std.proofs.Common.{◌+◌, ◌≤◌, length, sym, subst, IfSome}
use Rattle.pool_images.specs.Slots.{Slot, IsSlot, IsReady}
use Rattle.pool_memory.specs.Static.{Static, IsStatic}
use Rattle.pool_memory.proofs.Statics.{written_is_static}
use Rattle.pool_memory.proofs.static_memory.StaticMemoryRuntimeLinearMemory.write.Goals as goal

pub invariant_of-self : goal.invariant_of-self
invariant_of-self g c =
    let i = c.self.inside in
    let m : Static = record { slot = i.slot; size = i.size; capacity = i.capacity } in
    let F : Static → Type 0 = λ s. IsSlot s.slot in
    let N : Static → Type 0 = λ s. c.args.at + length c.args.bytes.now ≤ s.size in
    let P : Slot → Type 0 = λ s. IsStatic (record { slot = s; size = i.size; capacity = i.capacity }) in
    let R : Slot → Type 0 = λ s. IfSome s.region.contents (IsReady s) in
    subst P (sym c.write.ensures.written) (written_is_static m c.args.at c.args.bytes.now (subst F (sym c.self.view_is) c.fits.ensures) c.self.invariant (subst N (sym c.self.view_is) c.requires) (subst R c.write.ensures.written c.write.ensures.ready))

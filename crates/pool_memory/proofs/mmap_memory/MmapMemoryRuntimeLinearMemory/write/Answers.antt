use Rattle.std.proofs.Common.{◌≤◌, ◌+◌, length, sym, ◌∙◌, subst}
use Rattle.pool_images.specs.Slots.{IsSlot}
use Rattle.pool_memory.specs.Mapped.{Mapped}
use Rattle.pool_memory.proofs.Mapped.{wrote_keeps, not_empty}
use Rattle.pool_memory.proofs.mmap_memory.MmapMemoryRuntimeLinearMemory.write.Goals as goal

pub invariant_of-self : goal.invariant_of-self
invariant_of-self g c =
    let i = c.self.inside in
    let m : Mapped = record { slot = i.slot; size = i.size; extra = i.extra_to_reserve_on_growth; as_made = i.as_made; known = i.known } in
    let F : Mapped → Type 0 = λ s. IsSlot s.slot in
    let N : Mapped → Type 0 = λ s. c.args.at + length c.args.bytes.now ≤ s.size in
    wrote_keeps i.layout m c.args.at c.args.bytes.now c.write.new.self c.self.invariant (subst F (sym c.self.view_is) c.fits.ensures.slot) (not_empty (length c.args.bytes.now) (sym c.is_empty.ensures ∙ c.if-is_empty.false)) (subst N (sym c.self.view_is) c.requires) c.write.ensures.written c.write.ensures.ready

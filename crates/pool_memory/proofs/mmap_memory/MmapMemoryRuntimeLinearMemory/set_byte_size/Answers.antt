use Rattle.std.proofs.Common.{◌≤◌, refl, sym, subst}
use Rattle.pool_images.specs.Slots.{IsSlot}
use Rattle.pool_memory.specs.Linear.{ready}
use Rattle.pool_memory.specs.Mapped.{Mapped, mapped_linear}
use Rattle.pool_memory.proofs.Mapped.{sized_mapped, kept_layout}
use Rattle.pool_memory.proofs.mmap_memory.MmapMemoryRuntimeLinearMemory.set_byte_size.Goals as goal

pub invariant_of-self : goal.invariant_of-self
invariant_of-self g c =
    let i = c.self.inside in
    let m : Mapped = record { slot = i.slot; size = i.size; extra = i.extra_to_reserve_on_growth; as_made = i.as_made; known = i.known } in
    let F : Mapped → Type 0 = λ s. IsSlot s.slot in
    let M : Mapped → Type 0 = λ s. s.size ≤ c.args.len in
    let N : Mapped → Type 0 = λ s. c.args.len ≤ ready (mapped_linear s) in
    let n : Mapped = record m { size = c.args.len } in
    kept_layout i.layout m n c.self.invariant refl (sized_mapped m c.args.len (subst F (sym c.self.view_is) c.fits.ensures.slot) c.self.invariant.is (subst M (sym c.self.view_is) c.requires.more) (subst N (sym c.self.view_is) c.requires.ready))

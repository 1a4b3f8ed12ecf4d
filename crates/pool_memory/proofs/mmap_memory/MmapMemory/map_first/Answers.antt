use Rattle.std.proofs.Common.{◌≡◌, ◌≤◌, ◌+◌, true, false, length, sym, subst}
use Rattle.pool_memory.proofs.Imports.{arc_value, Image}
use Rattle.pool_memory.specs.Mapped.{Mapped, mapped_linear}
use Rattle.pool_memory.specs.Starting.{HasStarted}
use Rattle.pool_memory.proofs.Started.{begun_keeps, begun_started}
use Rattle.pool_memory.proofs.mmap_memory.MmapMemory.map_first.Goals as goal

pub invariant_of-self : goal.invariant_of-self
invariant_of-self g c =
    let i = c.self.inside in
    let m : Mapped = record { slot = i.slot; size = i.size; extra = i.extra_to_reserve_on_growth; as_made = i.as_made; known = i.known } in
    let image : Image = arc_value c.args.image.now in
    let A : Mapped → Type 0 = λ s. s.as_made ≡ true in
    let N : Mapped → Type 0 = λ s. image.offset + length image.bytes ≤ s.size in
    begun_keeps i.layout m c.instantiate-begun.new.self image _ c.self.invariant (subst A (sym c.self.view_is) c.requires.as_made) c.accessible-accessible.ensures.fits c.in-Ok.ensures.begun c.in-Ok.ensures.sizes (subst N (sym c.self.view_is) c.requires.fits.inside)

pub returns-in-Ok-clause-started : goal.returns-in-Ok-clause-started
returns-in-Ok-clause-started g c _ =
    let i = c.self.inside in
    let m : Mapped = record { slot = i.slot; size = i.size; extra = i.extra_to_reserve_on_growth; as_made = i.as_made; known = i.known } in
    let image : Image = arc_value c.args.image.now in
    let A : Mapped → Type 0 = λ s. s.as_made ≡ true in
    let N : Mapped → Type 0 = λ s. image.offset + length image.bytes ≤ s.size in
    let H : Mapped → Type 0 = λ s. HasStarted image (mapped_linear s) (mapped_linear (record m { slot = c.instantiate-begun.new.self; as_made = false })) in
    subst H c.self.view_is (begun_started m c.instantiate-begun.new.self image _ c.self.invariant.is (subst A (sym c.self.view_is) c.requires.as_made) c.accessible-accessible.ensures.fits c.in-Ok.ensures.begun c.in-Ok.ensures.sizes c.in-Ok.ensures.image (subst N (sym c.self.view_is) c.requires.fits.inside))

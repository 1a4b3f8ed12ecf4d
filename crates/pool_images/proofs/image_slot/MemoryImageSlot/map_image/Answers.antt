use Rattle.std.proofs.Common.{◌≡◌, ◌+◌, ap, arith}
use Rattle.pool_types.specs.Count.{Count}
use Rattle.pool_images.specs.Slots.{Slot}
use Rattle.pool_images.proofs.Making.{none_mapped}
use Rattle.pool_images.proofs.Fitting.{keeps_mapped}
use Rattle.pool_images.proofs.image_slot.MemoryImageSlot.map_image.Goals as goal

pub map_image-requires-clause-one_image : goal.map_image-requires-clause-one_image
map_image-requires-clause-one_image g c =
    let i = c.self.inside in
    let s : Slot = record { region = i.region; base = i.base; accessible = i.accessible; static_size = i.static_size; image = i.image; dirty = i.dirty; colour = i.colour } in
    let from : c.unchecked_add-from.result.bytes ≡ i.base.bytes + c.new_unchecked-start.result.bytes = ap (λ (n : Count). n.bytes) c.unchecked_add-from.ensures in
    let start : c.new_unchecked-start.result.bytes ≡ c.offset.result = ap (λ (n : Count). n.bytes) c.new_unchecked-start.ensures in
    let fits = c.self.invariant.fits in
    let inside = rw (← c.self.view_is) at c.requires.fits.inside in
    rw c.data-2.ensures (none_mapped s c.unchecked_add-from.result.bytes c.args.image.now.bytes fits (rw (← c.self.view_is) at c.requires.clean.ready) (rw (← c.self.view_is) at c.requires.none)
    (omega (arith, from, start, c.offset.ensures.value, inside, fits.sizes.inside, fits.sizes.within)))

pub invariant_of-self : goal.invariant_of-self
invariant_of-self g c =
    let i = c.self.inside in
    let s : Slot = record { region = i.region; base = i.base; accessible = i.accessible; static_size = i.static_size; image = i.image; dirty = i.dirty; colour = i.colour } in
    let start : c.new_unchecked-start.result.bytes ≡ c.offset.result = ap (λ (n : Count). n.bytes) c.new_unchecked-start.ensures in
    let fits = c.self.invariant.fits in
    let inside = rw (← c.self.view_is) at c.requires.fits.inside in
    keeps_mapped i.size s c.unchecked_add-from.result c.map_image.new.self c.map_image.result c.new_unchecked-start.result.bytes c.args.image.now.bytes
    c.self.invariant c.unchecked_add-from.ensures (omega (arith, start, c.offset.ensures.value, inside, fits.sizes.within))
    (rw c.data-2.ensures at c.map_image.ensures.ok) (rw c.data-2.ensures at c.map_image.ensures.fault) c.map_image.ensures.shaped

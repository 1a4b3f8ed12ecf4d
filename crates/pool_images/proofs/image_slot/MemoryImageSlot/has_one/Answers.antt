use Rattle.std.proofs.Common.{◌≡◌, Option, Some, ap, subst, ◌∙◌, arith, IfSome}
use Rattle.pool_images.specs.Images.{Image}
use Rattle.pool_images.specs.declared.image_slot.ImageName.{ImageName}
use Rattle.pool_images.specs.Slots.{Slot, IsPlaced, name_of}
use Rattle.pool_images.proofs.image_slot.MemoryImageSlot.has_one.Goals as goal
use Rattle.pool_images.proofs.Pieces.{image_told}

pub returns-then-is_named-clause-told : goal.returns-then-is_named-clause-told
returns-then-is_named-clause-told g c =
    let s : Slot = c.args.self.now in
    let i : Image = c.args.image.now in
    let named : s.image ≡ Some (name_of i) = c.is_named.ensures.0 c.if-is_named.true ∙ ap (λ (n : ImageName). Some n) c.name_of-name.ensures.value in
    let P : Option ImageName → Type 0 = λ o. IfSome o (IsPlaced s.region.page s.accessible.bytes) in
    let placed : IsPlaced s.region.page s.accessible.bytes (name_of i) = subst P named c.fits.ensures.sizes.image in
    image_told s i c.holds.result s.region.contents named (omega (arith, placed.inside, c.fits.ensures.sizes.within)) c.fits.ensures c.fits.ensures.told c.requires.clean.holds
    (rw (c.offset.ensures.value, c.as_slice.ensures.value, c.data.ensures) at c.holds.ensures)

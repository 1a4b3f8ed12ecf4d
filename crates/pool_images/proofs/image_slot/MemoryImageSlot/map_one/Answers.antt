use Rattle.std.proofs.Common.{◌≡◌, length, Some, true, sym, ap, subst, ◌∙◌}
use Rattle.pool_types.specs.Count.{Count}
use Rattle.pool_images.specs.Images.{Image}
use Rattle.pool_images.specs.declared.image_slot.ImageName.{ImageName}
use Rattle.pool_images.specs.Slots.{Slot, IsBegun, name_of}
use Rattle.pool_images.proofs.Begun.{AreWhole, mapped_begun, mapped_is}
use Rattle.pool_images.proofs.image_slot.MemoryImageSlot.map_one.Goals as goal

pub returns-clause-ok : goal.returns-clause-ok
returns-clause-ok g c =
    let s : Slot = c.args.self.now in
    let image : Image = c.args.image.now in
    let name : c.name_of-name.result ≡ name_of image = c.name_of-name.ensures.value in
    let start : c.new_unchecked-from.result.bytes ≡ image.offset = ap (λ (n : Count). n.bytes) c.new_unchecked-from.ensures ∙ ap (λ (n : ImageName). n.offset) name in
    let len : c.new_unchecked-len.result.bytes ≡ length image.bytes = ap (λ (n : Count). n.bytes) c.new_unchecked-len.ensures ∙ ap (λ (n : ImageName). n.len) name in
    ap (λ (t : Slot). record t { image = Some c.name_of-name.result }) c.self.view_is
    ∙ ap (λ (n : ImageName). record c.recolour.new.self { image = Some n }) name
    ∙ mapped_is s c.map_image.new.self c.recolour.new.self image c.new_unchecked-from.result c.new_unchecked-len.result c.in_ok-map_image.ensures.ok c.in_ok-recolour.ensures.ok start len

pub returns-clause-begins : goal.returns-clause-begins
returns-clause-begins g c =
    let s : Slot = c.args.self.now in
    let image : Image = c.args.image.now in
    let P : Slot → Type 0 = λ t. IsBegun (Some image) (record t { dirty = true }) in
    let name : c.name_of-name.result ≡ name_of image = c.name_of-name.ensures.value in
    let start : c.new_unchecked-from.result.bytes ≡ image.offset = ap (λ (n : Count). n.bytes) c.new_unchecked-from.ensures ∙ ap (λ (n : ImageName). n.offset) name in
    let len : c.new_unchecked-len.result.bytes ≡ length image.bytes = ap (λ (n : Count). n.bytes) c.new_unchecked-len.ensures ∙ ap (λ (n : ImageName). n.len) name in
    let new = ap (λ (t : Slot). record t { image = Some c.name_of-name.result }) c.self.view_is
    ∙ ap (λ (n : ImageName). record c.recolour.new.self { image = Some n }) name
    ∙ mapped_is s c.map_image.new.self c.recolour.new.self image c.new_unchecked-from.result c.new_unchecked-len.result c.in_ok-map_image.ensures.ok c.in_ok-recolour.ensures.ok start len in
    let pages : AreWhole s image = record {
      offset = rw c.requires.fits.same_page at c.name_of-name.ensures.offset;
      bytes = rw c.requires.fits.same_page at c.name_of-name.ensures.len;
    } in
    subst P (sym new) (mapped_begun s image c.requires.none c.fits.ensures pages c.requires.fits.inside c.requires.inside_static c.requires.clean)

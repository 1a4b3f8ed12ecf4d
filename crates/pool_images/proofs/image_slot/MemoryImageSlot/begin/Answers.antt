use Rattle.std.proofs.Common.{◌+◌, ◌≤◌, Option, Bor, length, true, sym, subst, option_map}
use Rattle.pool_images.specs.Images.{Image}
use Rattle.pool_images.specs.Slots.{Slot, IsBegun}
use Rattle.pool_images.proofs.Begun.{begun, if_mapped}
use Rattle.pool_images.proofs.image_slot.MemoryImageSlot.begin.Goals as goal

pub returns-clause-begun : goal.returns-clause-begun
returns-clause-begun g c =
    let s : Slot = c.args.self.now in
    let value : Bor Image → Image = λ i. i.now in
    let image : Option Image = option_map value c.args._image in
    let P : Slot → Type 0 = λ t. IsBegun image t in
    let inside = if_mapped value (λ i. i.offset + length i.bytes ≤ s.static_size) c.args._image c.requires.inside in
    subst P (sym {b = record s { dirty = true }} c.mark.ensures) (begun s image c.fits.ensures c.requires.clean inside c.requires.has)

use Rattle.std.proofs.Common.{◌≡◌, None, sym, ap, subst, ◌∙◌}
use Rattle.pool_types.specs.Count.{Count}
use Rattle.pool_images.specs.Slots.{Slot, IsClean}
use Rattle.pool_images.proofs.Unmapped.{clean_without, unmapped_is}
use Rattle.pool_images.proofs.image_slot.MemoryImageSlot.unmap.Goals as goal

pub returns-clause-ok : goal.returns-clause-ok
returns-clause-ok g c =
    let s : Slot = c.args.self.now in
    let start : c.new_unchecked-start.result.bytes ≡ c.args.name.offset = ap (λ (n : Count). n.bytes) c.new_unchecked-start.ensures in
    let len : c.new_unchecked-len.result.bytes ≡ c.args.name.len = ap (λ (n : Count). n.bytes) c.new_unchecked-len.ensures in
    ap (λ (t : Slot). record t { image = None }) c.self-2.view_is
    ∙ unmapped_is s c.remap_zeros.new.self c.recolour.new.self c.args.name c.new_unchecked-start.result c.new_unchecked-len.result c.in_ok-remap_zeros.ensures.ok c.in_ok-recolour.ensures.ok start len

pub returns-clause-clean : goal.returns-clause-clean
returns-clause-clean g c =
    let s : Slot = c.args.self.now in
    let P : Slot → Type 0 = λ t. IsClean t in
    let start : c.new_unchecked-start.result.bytes ≡ c.args.name.offset = ap (λ (n : Count). n.bytes) c.new_unchecked-start.ensures in
    let len : c.new_unchecked-len.result.bytes ≡ c.args.name.len = ap (λ (n : Count). n.bytes) c.new_unchecked-len.ensures in
    let new = ap (λ (t : Slot). record t { image = None }) c.self-2.view_is
    ∙ unmapped_is s c.remap_zeros.new.self c.recolour.new.self c.args.name c.new_unchecked-start.result c.new_unchecked-len.result c.in_ok-remap_zeros.ensures.ok c.in_ok-recolour.ensures.ok start len in
    subst P (sym new) (clean_without s c.args.name c.requires.image c.requires.fits c.requires.clean)

use Rattle.std.proofs.Common.{◌≡◌, sym, ap, subst, arith}
use Rattle.pool_images.proofs.Imports.{Count, Told}
use Rattle.pool_images.specs.Slots.{IsFresh}
use Rattle.pool_images.proofs.Making.{fresh_keeps, fresh_clean}
use Rattle.pool_images.proofs.image_slot.MemoryImageSlot.create.Goals as goal

pub invariant_of-result : goal.invariant_of-result
invariant_of-result g c =
    let t : Told = c.new-region.result in
    let P : Told → Type 0 = λ t. IsFresh c.args.base c.args.accessible c.args.static_size c.args.colour t in
    let bytes : c.len.result.bytes ≡ t.len = ap (λ (n : Count). n.bytes) c.len.ensures.value in
    rw (c.rounded_up_unchecked-size.ensures, c.page.ensures)
    (fresh_keeps t c.args.base c.args.accessible c.args.static_size c.args.colour (subst P (sym c.new-region.ensures) c.requires)
    (rw c.len.ensures.value at c.byte_count-len.ensures.page) c.byte_count-base.ensures.aligned c.byte_count-accessible.ensures.aligned
    (omega (arith, c.byte_count-len.ensures.value, c.byte_count-len.type_inv)) c.len.ensures.shaped)

pub returns-clause-clean : goal.returns-clause-clean
returns-clause-clean g c =
    let t : Told = c.new-region.result in
    let P : Told → Type 0 = λ t. IsFresh c.args.base c.args.accessible c.args.static_size c.args.colour t in
    fresh_clean t c.args.base c.args.accessible c.args.static_size c.args.colour (subst P (sym c.new-region.ensures) c.requires) c.len.ensures.shaped

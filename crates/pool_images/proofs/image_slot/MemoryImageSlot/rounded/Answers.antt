use Rattle.std.proofs.Common.{◌≡◌, ap, ◌∙◌, arith}
use Rattle.pool_images.specs.Slots.{Slot}
use Rattle.pool_images.proofs.Sizes.{rounded_up_more, rounded_fits}
use Rattle.pool_images.proofs.image_slot.MemoryImageSlot.rounded.Goals as goal

pub rounded_up_unchecked-requires : goal.rounded_up_unchecked-requires
rounded_up_unchecked-requires g c =
    let s : Slot = c.args.self.now in
    let page : c.page.result ≡ s.region.page = c.page.ensures ∙ ap (λ (t : Slot). t.region.page) c.self.view_is in
    rw page (rounded_fits s c.args.bytes c.fits.ensures c.requires)

pub returns-clause-within : goal.returns-clause-within
returns-clause-within g c =
    let s : Slot = c.args.self.now in
    rounded_up_more s.region.page c.args.bytes s.static_size (omega (arith, c.fits.ensures.sizes.page_size.at_least)) c.requires

use Rattle.std.proofs.Common.{◌≡◌, ◌-◌, sym, ap, subst, ◌∙◌}
use Rattle.pool_types.specs.Count.{Count}
use Rattle.pool_images.specs.Slots.{Slot, OnlyExposed}
use Rattle.pool_images.proofs.Kept.{kept_ok, kept_err}
use Rattle.pool_images.proofs.image_slot.MemoryImageSlot.raise_to.Goals as goal

pub returns-in_err-exposed-clause-kept : goal.returns-in_err-exposed-clause-kept
returns-in_err-exposed-clause-kept g c =
    let s : Slot = c.args.self.now in
    let had : c.self.inside.accessible.bytes ≡ s.accessible.bytes = ap (λ (t : Slot). t.accessible.bytes) c.self.view_is in
    let len : c.saturating_sub.result.bytes ≡ c.args.size.bytes - c.self.inside.accessible.bytes = ap (λ (n : Count). n.bytes) c.saturating_sub.ensures in
    kept_err s c.expose-exposed.new.self c.self.inside.accessible.bytes c.saturating_sub.result.bytes c.args.size.bytes c.fits.ensures c.fits-2.ensures had len c.in_err-exposed.ensures.fault

pub returns-clause-kept : goal.returns-clause-kept
returns-clause-kept g c =
    let s : Slot = c.args.self.now in
    let P : Slot → Type 0 = λ t. OnlyExposed s t in
    let had : c.self.inside.accessible.bytes ≡ s.accessible.bytes = ap (λ (t : Slot). t.accessible.bytes) c.self.view_is in
    let len : c.saturating_sub.result.bytes ≡ c.args.size.bytes - c.self.inside.accessible.bytes = ap (λ (n : Count). n.bytes) c.saturating_sub.ensures in
    let new = ap (λ (t : Slot). record t { accessible = c.args.size }) (c.self-2.view_is ∙ c.in_ok-exposed.ensures.ok) in
    subst P (sym new) (kept_ok s c.args.size c.self.inside.accessible.bytes c.saturating_sub.result.bytes c.fits.ensures had len c.requires.page c.requires.whole c.requires.more c.requires.within)

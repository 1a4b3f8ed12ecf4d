use Rattle.std.proofs.Common.{◌≡◌, ◌+◌, ◌-◌, sym, ap, subst, ◌∙◌, arith}
use Rattle.pool_types.specs.Count.{Count}
use Rattle.pool_images.specs.Slots.{Slot, IsClean}
use Rattle.pool_images.proofs.Ready.{hidden_clean}
use Rattle.pool_images.proofs.image_slot.MemoryImageSlot.hide_from.Goals as goal

pub returns-clause-clean : goal.returns-clause-clean
returns-clause-clean g c =
    let s : Slot = c.args.self.now in
    let P : Slot → Type 0 = λ t. IsClean t in
    let had : c.self.inside.accessible ≡ s.accessible = ap (λ (t : Slot). t.accessible) c.self.view_is in
    let bytes : c.self.inside.accessible.bytes ≡ s.accessible.bytes = ap (λ (n : Count). n.bytes) had in
    let len : c.saturating_sub.result.bytes ≡ c.self.inside.accessible.bytes - c.args.size.bytes = ap (λ (n : Count). n.bytes) c.saturating_sub.ensures in
    let new = ap (λ (t : Slot). record t { accessible = c.args.size }) (c.self-2.view_is ∙ c.in_ok-hide.ensures.ok) in
    subst P (sym new) (hidden_clean s c.args.size (s.base.bytes + c.args.size.bytes) c.saturating_sub.result.bytes c.requires.fits c.requires.clean (omega arith) (omega arith) c.requires.page c.requires.whole c.requires.less)

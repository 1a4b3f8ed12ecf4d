use Rattle.std.proofs.Common.{◌≡◌, ℕ, Option, Bool, ap, subst, ◌∙◌, IfSome, OnOk, is_ok, option_map}
use Rattle.pool_images.proofs.Imports.{arc_value, rounded_up}
use Rattle.pool_images.specs.Images.{Image}
use Rattle.pool_images.specs.Orders.{Follows, replacing}
use Rattle.pool_images.specs.Slots.{Slot, replaced, HasImage, hides}
use Rattle.pool_images.proofs.image_slot.MemoryImageSlot.instantiate.Goals as goal

pub returns-clause-replaced : goal.returns-clause-replaced
returns-clause-replaced g c =
    let s : Slot = c.args.self.now in
    let page : c.page.result ≡ s.region.page = c.page.ensures ∙ ap (λ (t : Slot). t.region.page) c.self.view_is in
    let hide : c.hides-hides.result ≡ hides c.args.ty.now c.args.tunables.now s.region.page = c.hides-hides.ensures ∙ ap (λ (n : ℕ). hides c.args.ty.now c.args.tunables.now n) page in
    let P : Option Image → Bool → Type 0 = λ image h. OnOk c.instantiate_image.result (IfSome s.region.contents (λ d. (HasImage s image d → ⊥) → c.instantiate_image.new.self ≡ replaced (rounded_up s.region.page c.args.initial) h image s)) in
    let first = subst (λ (image : Option Image). P image c.hides-hides.result) c.image_of.ensures c.instantiate_image.ensures.replaced in
    subst (λ (h : Bool). P (option_map (λ i. arc_value i.now) c.args.image) h) hide first

pub returns-clause-replace_order : goal.returns-clause-replace_order
returns-clause-replace_order g c =
    let s : Slot = c.args.self.now in
    let page : c.page.result ≡ s.region.page = c.page.ensures ∙ ap (λ (t : Slot). t.region.page) c.self.view_is in
    let hide : c.hides-hides.result ≡ hides c.args.ty.now c.args.tunables.now s.region.page = c.hides-hides.ensures ∙ ap (λ (n : ℕ). hides c.args.ty.now c.args.tunables.now n) page in
    let P : Option Image → Bool → Type 0 = λ image h. IfSome s.region.contents (λ d. (HasImage s image d → ⊥) → Follows (replacing (rounded_up s.region.page c.args.initial) h image s) (is_ok c.instantiate_image.result) s.region c.instantiate_image.new.self.region) in
    let first = subst (λ (image : Option Image). P image c.hides-hides.result) c.image_of.ensures c.instantiate_image.ensures.replace_order in
    subst (λ (h : Bool). P (option_map (λ i. arc_value i.now) c.args.image) h) hide first

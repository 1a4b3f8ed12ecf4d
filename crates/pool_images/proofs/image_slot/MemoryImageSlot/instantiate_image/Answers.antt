use Rattle.std.proofs.Common.{◌≡◌, ℕ, Bor, Option, ap, subst, inl, inr, option_map, OnOk, is_ok}
use Rattle.pool_types.specs.Count.{Count, rounded_up}
use Rattle.pool_images.specs.Images.{Image}
use Rattle.pool_images.specs.Orders.{Follows, resizing, replacing}
use Rattle.pool_images.specs.Slots.{Slot, HasImage, reused, replaced}
use Rattle.pool_images.proofs.Instantiated.{given, given_told, refuted, refuted_ok, found, found_ok, on_left, on_right, image_reused, image_replaced, sized_reused}
use Rattle.pool_images.proofs.Sizes.{sized_of}
use Rattle.pool_images.proofs.image_slot.MemoryImageSlot.instantiate_image.Goals as goal

pub returns-then-has-clause-begun : goal.returns-then-has-clause-begun
returns-then-has-clause-begun g c = c.reuse.ensures.begun

pub returns-then-has-clause-sizes : goal.returns-then-has-clause-sizes
returns-then-has-clause-sizes g c =
    let s : Slot = c.args.self.now in
    let size : c.rounded-size.result.bytes ≡ rounded_up s.region.page c.args.initial = ap (λ (n : Count). n.bytes) c.rounded-size.ensures.value in
    let P : ℕ → Type 0 = λ n. OnOk c.reuse.result (c.reuse.new.self ≡ reused n c.args.hides s) in
    sized_reused c.reuse.result c.args.initial c.args.hides s c.reuse.new.self (subst P size c.reuse.ensures.ok)

pub returns-then-has-clause-image : goal.returns-then-has-clause-image
returns-then-has-clause-image g c =
    image_reused c.reuse.result c.rounded-size.result.bytes c.args.hides c.args.self.now c.reuse.new.self _ (c.has.ensures.named c.if-has.true) c.reuse.ensures.ok

pub returns-then-has-clause-reused : goal.returns-then-has-clause-reused
returns-then-has-clause-reused g c =
    let s : Slot = c.args.self.now in
    let value : Bor Image → Image = λ i. i.now in
    let image : Option Image = option_map value c.args.image in
    let size : c.rounded-size.result.bytes ≡ rounded_up s.region.page c.args.initial = ap (λ (n : Count). n.bytes) c.rounded-size.ensures.value in
    let P : ℕ → Type 0 = λ n. OnOk c.reuse.result (c.reuse.new.self ≡ reused n c.args.hides s) in
    given c.reuse.result (c.reuse.new.self ≡ reused (rounded_up s.region.page c.args.initial) c.args.hides s) s.region.contents (HasImage s image) (subst P size c.reuse.ensures.ok)

pub returns-then-has-clause-replaced : goal.returns-then-has-clause-replaced
returns-then-has-clause-replaced g c =
    let s : Slot = c.args.self.now in
    let value : Bor Image → Image = λ i. i.now in
    let image : Option Image = option_map value c.args.image in
    found_ok c.reuse.result (c.reuse.new.self ≡ replaced (rounded_up s.region.page c.args.initial) c.args.hides image s) c.has.result s.region.contents (HasImage s image) c.if-has.true c.has.ensures.told

pub returns-then-has-clause-either : goal.returns-then-has-clause-either
returns-then-has-clause-either g c =
    let s : Slot = c.args.self.now in
    let value : Bor Image → Image = λ i. i.now in
    let n : ℕ = rounded_up s.region.page c.args.initial in
    let size : c.rounded-size.result.bytes ≡ n = ap (λ (n : Count). n.bytes) c.rounded-size.ensures.value in
    let P : ℕ → Type 0 = λ n. OnOk c.reuse.result (c.reuse.new.self ≡ reused n c.args.hides s) in
    on_left c.reuse.result (c.reuse.new.self ≡ reused n c.args.hides s) (c.reuse.new.self ≡ replaced n c.args.hides (option_map value c.args.image) s) (subst P size c.reuse.ensures.ok)

pub returns-then-has-clause-fault : goal.returns-then-has-clause-fault
returns-then-has-clause-fault g c = c.reuse.ensures.fault

pub returns-then-has-clause-reuse_order : goal.returns-then-has-clause-reuse_order
returns-then-has-clause-reuse_order g c =
    let s : Slot = c.args.self.now in
    let value : Bor Image → Image = λ i. i.now in
    let n : ℕ = rounded_up s.region.page c.args.initial in
    let size : c.rounded-size.result.bytes ≡ n = ap (λ (n : Count). n.bytes) c.rounded-size.ensures.value in
    let P : ℕ → Type 0 = λ n. Follows (resizing n c.args.hides s) (is_ok c.reuse.result) s.region c.reuse.new.self.region in
    given_told (P n) s.region.contents (HasImage s (option_map value c.args.image)) (subst P size c.reuse.ensures.order)

pub returns-then-has-clause-replace_order : goal.returns-then-has-clause-replace_order
returns-then-has-clause-replace_order g c =
    let s : Slot = c.args.self.now in
    let value : Bor Image → Image = λ i. i.now in
    let image : Option Image = option_map value c.args.image in
    found (Follows (replacing (rounded_up s.region.page c.args.initial) c.args.hides image s) (is_ok c.reuse.result) s.region c.reuse.new.self.region) c.has.result s.region.contents (HasImage s image) c.if-has.true c.has.ensures.told

pub returns-then-has-clause-either_order : goal.returns-then-has-clause-either_order
returns-then-has-clause-either_order g c =
    let s : Slot = c.args.self.now in
    let size : c.rounded-size.result.bytes ≡ rounded_up s.region.page c.args.initial = ap (λ (n : Count). n.bytes) c.rounded-size.ensures.value in
    let P : ℕ → Type 0 = λ n. Follows (resizing n c.args.hides s) (is_ok c.reuse.result) s.region c.reuse.new.self.region in
    inl (subst P size c.reuse.ensures.order)

pub returns-else-has-clause-begun : goal.returns-else-has-clause-begun
returns-else-has-clause-begun g c = c.replace.ensures.begun

pub returns-else-has-clause-sizes : goal.returns-else-has-clause-sizes
returns-else-has-clause-sizes g c =
    let s : Slot = c.args.self.now in
    let value : Bor Image → Image = λ i. i.now in
    let size : c.rounded-size.result.bytes ≡ rounded_up s.region.page c.args.initial = ap (λ (n : Count). n.bytes) c.rounded-size.ensures.value in
    sized_of c.args.initial c.rounded-size.result.bytes c.args.hides (option_map value c.args.image) s c.replace.new.self c.replace.result size c.replace.ensures.ok

pub returns-else-has-clause-image : goal.returns-else-has-clause-image
returns-else-has-clause-image g c =
    let value : Bor Image → Image = λ i. i.now in
    image_replaced c.replace.result c.rounded-size.result.bytes c.args.hides (option_map value c.args.image) c.args.self.now c.replace.new.self c.replace.ensures.ok

pub returns-else-has-clause-reused : goal.returns-else-has-clause-reused
returns-else-has-clause-reused g c =
    let s : Slot = c.args.self.now in
    let value : Bor Image → Image = λ i. i.now in
    refuted_ok c.replace.result (c.replace.new.self ≡ reused (rounded_up s.region.page c.args.initial) c.args.hides s) c.has.result s.region.contents (HasImage s (option_map value c.args.image)) c.if-has.false c.has.ensures.told

pub returns-else-has-clause-replaced : goal.returns-else-has-clause-replaced
returns-else-has-clause-replaced g c =
    let s : Slot = c.args.self.now in
    let value : Bor Image → Image = λ i. i.now in
    let image : Option Image = option_map value c.args.image in
    let size : c.rounded-size.result.bytes ≡ rounded_up s.region.page c.args.initial = ap (λ (n : Count). n.bytes) c.rounded-size.ensures.value in
    let P : ℕ → Type 0 = λ n. OnOk c.replace.result (c.replace.new.self ≡ replaced n c.args.hides image s) in
    given c.replace.result (c.replace.new.self ≡ replaced (rounded_up s.region.page c.args.initial) c.args.hides image s) s.region.contents (λ d. HasImage s image d → ⊥) (subst P size c.replace.ensures.ok)

pub returns-else-has-clause-either : goal.returns-else-has-clause-either
returns-else-has-clause-either g c =
    let s : Slot = c.args.self.now in
    let value : Bor Image → Image = λ i. i.now in
    let image : Option Image = option_map value c.args.image in
    let n : ℕ = rounded_up s.region.page c.args.initial in
    let size : c.rounded-size.result.bytes ≡ n = ap (λ (n : Count). n.bytes) c.rounded-size.ensures.value in
    let P : ℕ → Type 0 = λ n. OnOk c.replace.result (c.replace.new.self ≡ replaced n c.args.hides image s) in
    on_right c.replace.result (c.replace.new.self ≡ reused n c.args.hides s) (c.replace.new.self ≡ replaced n c.args.hides image s) (subst P size c.replace.ensures.ok)

pub returns-else-has-clause-fault : goal.returns-else-has-clause-fault
returns-else-has-clause-fault g c = c.replace.ensures.fault

pub returns-else-has-clause-reuse_order : goal.returns-else-has-clause-reuse_order
returns-else-has-clause-reuse_order g c =
    let s : Slot = c.args.self.now in
    let value : Bor Image → Image = λ i. i.now in
    refuted (Follows (resizing (rounded_up s.region.page c.args.initial) c.args.hides s) (is_ok c.replace.result) s.region c.replace.new.self.region) c.has.result s.region.contents (HasImage s (option_map value c.args.image)) c.if-has.false c.has.ensures.told

pub returns-else-has-clause-replace_order : goal.returns-else-has-clause-replace_order
returns-else-has-clause-replace_order g c =
    let s : Slot = c.args.self.now in
    let value : Bor Image → Image = λ i. i.now in
    let image : Option Image = option_map value c.args.image in
    let n : ℕ = rounded_up s.region.page c.args.initial in
    let size : c.rounded-size.result.bytes ≡ n = ap (λ (n : Count). n.bytes) c.rounded-size.ensures.value in
    let P : ℕ → Type 0 = λ n. Follows (replacing n c.args.hides image s) (is_ok c.replace.result) s.region c.replace.new.self.region in
    given_told (P n) s.region.contents (λ d. HasImage s image d → ⊥) (subst P size c.replace.ensures.order)

pub returns-else-has-clause-either_order : goal.returns-else-has-clause-either_order
returns-else-has-clause-either_order g c =
    let s : Slot = c.args.self.now in
    let value : Bor Image → Image = λ i. i.now in
    let size : c.rounded-size.result.bytes ≡ rounded_up s.region.page c.args.initial = ap (λ (n : Count). n.bytes) c.rounded-size.ensures.value in
    let P : ℕ → Type 0 = λ n. Follows (replacing n c.args.hides (option_map value c.args.image) s) (is_ok c.replace.result) s.region c.replace.new.self.region in
    inr (subst P size c.replace.ensures.order)

use Rattle.std.proofs.Common.{Bool, ap, sym, subst, true, false, Bor, option_map}
use Rattle.pool_pages.specs.Told.{Told}
use Rattle.pool_images.specs.Images.{Image}
use Rattle.pool_images.specs.Orders.{Follows, replacing}
use Rattle.pool_images.specs.Slots.{Slot, IsLeft}
use Rattle.pool_images.proofs.Ordering.{left_replaced, not_ok, on_err, replaced_in_order, unsized_in_order}
use Rattle.pool_images.proofs.image_slot.MemoryImageSlot.replace.Goals as goal

pub returns-in_err-map-clause-order : goal.returns-in_err-map-clause-order
returns-in_err-map-clause-order g c =
    let value : Bor Image → Image = λ i. i.now in
    let F : Bool → Type 0 = λ ok. Follows (replacing c.args.size.bytes c.args.hides (option_map value c.args.image) c.args.self.now) ok c.args.self.now.region c.map.new.self.region in
    subst F (sym (not_ok c.from_residual-in_err-map.result c.from_residual-in_err-map.ensures.0))
    (replaced_in_order c.args.size.bytes c.args.hides (option_map value c.args.image) false c.args.self.now c.remove_image.new.self c.resize.new.self c.map.new.self.region c.in_ok-remove_image.ensures.ok c.in_ok-resize.ensures.ok c.in_ok-remove_image.ensures.order c.in_ok-resize.ensures.order c.in_err-map.ensures.order)

pub returns-clause-order : goal.returns-clause-order
returns-clause-order g c =
    let s : Slot = c.args.self.now in
    let value : Bor Image → Image = λ i. i.now in
    let F : Told → Type 0 = λ t. Follows (replacing c.args.size.bytes c.args.hides (option_map value c.args.image) s) true s.region t in
    subst F (sym (ap (λ (t : Slot). t.region) c.mark.ensures))
    (replaced_in_order c.args.size.bytes c.args.hides (option_map value c.args.image) true s c.remove_image.new.self c.resize.new.self c.map.new.self.region c.in_ok-remove_image.ensures.ok c.in_ok-resize.ensures.ok c.in_ok-remove_image.ensures.order c.in_ok-resize.ensures.order c.in_ok-map.ensures.order)

pub returns-in_err-resize-clause-order : goal.returns-in_err-resize-clause-order
returns-in_err-resize-clause-order g c =
    let value : Bor Image → Image = λ i. i.now in
    let F : Bool → Type 0 = λ ok. Follows (replacing c.args.size.bytes c.args.hides (option_map value c.args.image) c.args.self.now) ok c.args.self.now.region c.resize.new.self.region in
    subst F (sym (not_ok c.from_residual-in_err-resize.result c.from_residual-in_err-resize.ensures.0))
    (unsized_in_order c.args.size.bytes c.args.hides (option_map value c.args.image) c.args.self.now c.remove_image.new.self c.resize.new.self.region c.in_ok-remove_image.ensures.ok c.in_ok-remove_image.ensures.order c.in_err-resize.ensures.order)

pub returns-in_err-map-clause-fault : goal.returns-in_err-map-clause-fault
returns-in_err-map-clause-fault g c =
    on_err c.from_residual-in_err-map.result (IsLeft c.args.self.now c.map.new.self)
    (left_replaced c.args.size.bytes c.args.hides c.args.self.now c.remove_image.new.self c.resize.new.self c.map.new.self c.in_ok-remove_image.ensures.ok c.in_ok-resize.ensures.ok c.in_err-map.ensures.fault)

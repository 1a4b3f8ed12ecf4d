use Rattle.std.proofs.Common.{◌≡◌, ℕ, ◌/◌, sym, ◌∙◌, subst}
use Rattle.pool_images.specs.Resets.{IsSpan, marks_of, span_marks}
use Rattle.pool_images.specs.Slots.{Slot}
use Rattle.pool_images.proofs.Spans.{slot_span, slot_marks}
use Rattle.pool_images.proofs.image_slot.MemoryImageSlot.span.Goals as goal

pub returns-clause-span : goal.returns-clause-span
returns-clause-span g c =
    let i = c.self.inside in
    let s : Slot = record { region = i.region; base = i.base; accessible = i.accessible; static_size = i.static_size; image = i.image; dirty = i.dirty; colour = i.colour } in
    let page : c.get-page.result ≡ i.region.page = c.get-page.ensures.value ∙ c.page.ensures in
    let P : ℕ → ℕ → ℕ → Slot → Type 0 = λ p b a t. IsSpan (record { page = p; base = b; first = b / p; pages = a / p }) t.region in
    let first : P i.region.page i.base.bytes i.accessible.bytes s = slot_span s c.self.invariant.fits c.len-len.ensures.marks in
    let second = subst (λ p. P p i.base.bytes i.accessible.bytes s) (sym page) first in
    let third = subst (λ b. P c.get-page.result b i.accessible.bytes s) (sym c.byte_count-base.ensures.value) second in
    let fourth = subst (λ a. P c.get-page.result c.byte_count-base.result a s) (sym c.byte_count.ensures.value) third in
    subst (λ t. P c.get-page.result c.byte_count-base.result c.byte_count.result t) c.self.view_is fourth

pub returns-clause-marks : goal.returns-clause-marks
returns-clause-marks g c =
    let i = c.self.inside in
    let s : Slot = record { region = i.region; base = i.base; accessible = i.accessible; static_size = i.static_size; image = i.image; dirty = i.dirty; colour = i.colour } in
    let page : c.get-page.result ≡ i.region.page = c.get-page.ensures.value ∙ c.page.ensures in
    let P : ℕ → ℕ → ℕ → Slot → Type 0 = λ p b a t. span_marks (record { page = p; base = b; first = b / p; pages = a / p }) t.region ≡ marks_of t in
    let first : P i.region.page i.base.bytes i.accessible.bytes s = slot_marks s c.self.invariant.fits in
    let second = subst (λ p. P p i.base.bytes i.accessible.bytes s) (sym page) first in
    let third = subst (λ b. P c.get-page.result b i.accessible.bytes s) (sym c.byte_count-base.ensures.value) second in
    let fourth = subst (λ a. P c.get-page.result c.byte_count-base.result a s) (sym c.byte_count.ensures.value) third in
    subst (λ t. P c.get-page.result c.byte_count-base.result c.byte_count.result t) c.self.view_is fourth

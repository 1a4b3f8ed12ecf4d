use Rattle.std.proofs.Common.{◌≡◌, ℕ, ◌/◌, ◌%◌, ◌≤◌, sym, ◌∙◌, subst}
use Rattle.pool_images.specs.Slots.{Slot}
use Rattle.pool_slots.specs.PlainSlots.{IsUsedSpan}
use Rattle.pool_slots.specs.SlotQueues.{plain_slot}
use Rattle.pool_slots.proofs.MarkedTables.{used_span}
use Rattle.pool_slots.proofs.plain_slot.PlainSlot.used_pages.Goals as goal

pub returns : goal.returns
returns g c =
    let i = c.self.inside in
    let s : Slot = plain_slot i.base.bytes i.region in
    let used : ℕ = c.args.used.bytes in
    let within : used ≤ s.static_size = rw (← c.self.view_is) at c.requires.within in
    let same : c.args.used.page ≡ i.region.page = rw (← c.self.view_is) at c.requires.used_page in
    let W : ℕ → Type 0 = λ p. used % p ≡ 0 in
    let whole : used % i.region.page ≡ 0 = subst W same c.byte_count.ensures.aligned in
    let page : c.get-page.result ≡ i.region.page = c.get-page.ensures.value ∙ c.page.ensures in
    let P : ℕ → ℕ → ℕ → Slot → Type 0 = λ p b a t. IsUsedSpan used t (record { page = p; base = b; first = b / p; pages = a / p }) in
    let first : P i.region.page i.base.bytes used s = used_span used s c.self.invariant c.len-len.ensures.marks within whole in
    let second = subst (λ (p : ℕ). P p i.base.bytes used s) (sym page) first in
    let third = subst (λ (b : ℕ). P c.get-page.result b used s) (sym c.byte_count-base.ensures.value) second in
    let fourth = subst (λ (a : ℕ). P c.get-page.result c.byte_count-base.result a s) (sym c.byte_count.ensures.value) third in
    subst (λ (t : Slot). P c.get-page.result c.byte_count-base.result c.byte_count.result t) c.self.view_is fourth

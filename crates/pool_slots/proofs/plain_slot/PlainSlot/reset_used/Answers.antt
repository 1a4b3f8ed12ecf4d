use Rattle.std.proofs.Common.{◌≡◌, ℕ, ◌%◌, min, replicate, None, ◌∙◌, subst}
use Rattle.pool_images.specs.Slots.{Slot}
use Rattle.pool_slots.specs.PlainSlots.{plain_written, bottom_reset, above_bottom}
use Rattle.pool_slots.proofs.MarkedTables.{plain_reset_is, so_reset}
use Rattle.pool_slots.proofs.plain_slot.PlainSlot.reset_used.Goals as goal

pub returns : goal.returns
returns g c =
    let s : Slot = c.args.self.now in
    let keep : ℕ = c.args.keep_resident.bytes in
    let used : ℕ = c.args.used.bytes in
    let kept : c.min-kept.result ≡ min keep used = c.min-kept.ensures ∙ (λ i. min (c.byte_count-keep.ensures.value i) (c.byte_count-used.ensures.value i)) in
    let is : c.fill.new.self ≡ bottom_reset keep used s = c.fill.ensures ∙ (λ i. plain_written 0 (replicate (kept i) 0) s) in
    let left : c.push_rest.new.ranges ≡ above_bottom keep used = c.push_rest.ensures ∙ (λ i. above_bottom (c.byte_count-keep.ensures.value i) (c.byte_count-used.ensures.value i)) in
    let K : ℕ → Type 0 = λ p. keep % p ≡ 0 in
    let U : ℕ → Type 0 = λ p. used % p ≡ 0 in
    so_reset None keep used s c.fill.new.self c.min-kept.result c.push_rest.new.ranges is kept left
    (plain_reset_is keep used s c.len-plain.ensures.plain (subst U c.requires.used_page c.byte_count-used.ensures.aligned) c.requires.within c.requires.unused (subst K c.requires.page c.byte_count-keep.ensures.aligned))

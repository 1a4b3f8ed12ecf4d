use Rattle.std.proofs.Common.{◌≡◌, ℕ, ◌-◌, ◌%◌, [], ◌∷◌, ◌++◌, min, replicate, ◌∙◌, subst}
use Rattle.pool_images.specs.Slots.{Slot}
use Rattle.pool_slots.specs.PlainSlots.{plain_written, top_kept, top_reset, below_top}
use Rattle.pool_slots.proofs.PlainSlots.{top_done}
use Rattle.pool_slots.proofs.plain_slot.PlainSlot.reset_below_top.Goals as goal

pub returns-clause-parts : goal.returns-clause-parts
returns-clause-parts g c =
    let s : Slot = c.args.self.now in
    let keep : ℕ = c.args.keep_resident.bytes in
    let size = c.len-size.ensures.value in
    let kept : c.min-kept.result ≡ top_kept keep s = c.min-kept.ensures ∙ (λ i. min (c.byte_count.ensures.value i) (size i)) in
    let is : c.fill.new.self ≡ top_reset keep s = c.fill.ensures ∙ (λ i. plain_written (size i - kept i) (replicate (kept i) 0) s) in
    let left : c.push.new.self ≡ below_top keep s = c.push.ensures ∙ (λ i. c.requires.empty i ++ record { start = 0; len = size i - kept i } ∷ []) in
    let W : ℕ → Type 0 = λ p. keep % p ≡ 0 in
    (top_done keep s c.fill.new.self c.push.new.self c.len-size.ensures.plain (subst W c.requires.page c.byte_count.ensures.aligned) is left).0

pub returns-clause-clean_after : goal.returns-clause-clean_after
returns-clause-clean_after g c =
    let s : Slot = c.args.self.now in
    let keep : ℕ = c.args.keep_resident.bytes in
    let size = c.len-size.ensures.value in
    let kept : c.min-kept.result ≡ top_kept keep s = c.min-kept.ensures ∙ (λ i. min (c.byte_count.ensures.value i) (size i)) in
    let is : c.fill.new.self ≡ top_reset keep s = c.fill.ensures ∙ (λ i. plain_written (size i - kept i) (replicate (kept i) 0) s) in
    let left : c.push.new.self ≡ below_top keep s = c.push.ensures ∙ (λ i. c.requires.empty i ++ record { start = 0; len = size i - kept i } ∷ []) in
    let W : ℕ → Type 0 = λ p. keep % p ≡ 0 in
    (top_done keep s c.fill.new.self c.push.new.self c.len-size.ensures.plain (subst W c.requires.page c.byte_count.ensures.aligned) is left).1

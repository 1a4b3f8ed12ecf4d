use Rattle.std.proofs.Common.{◌≡◌, ℕ, ◌%◌, List, min, sym, ap, subst, ◌∙◌, All}
use Rattle.pool_images.specs.declared.ranges.ByteRange.{ByteRange}
use Rattle.pool_images.specs.Slots.{Slot, IsClean, IsPart, size_of, cleared, reset_ranges, decommitted_all}
use Rattle.pool_images.proofs.Resets.{reset_clean, kept_clean, reset_parts}
use Rattle.pool_images.proofs.image_slot.MemoryImageSlot.reset_by_hand.Goals as goal

pub returns-clause-parts : goal.returns-clause-parts
returns-clause-parts g c =
    let v : Slot = c.args.self.now in
    let n : ℕ = c.args.keep_resident.bytes in
    let all : c.byte_count-accessible.result ≡ v.accessible.bytes = c.byte_count-accessible.ensures.value ∙ ap (λ (t : Slot). t.accessible.bytes) c.self.view_is in
    let keep : c.byte_count-keep.result ≡ n = c.byte_count-keep.ensures.value in
    let made : c.push_range.new.ranges ≡ reset_ranges n v.accessible.bytes = c.push_range.ensures ∙ ap (λ k. reset_ranges k c.byte_count-accessible.result) keep ∙ ap (λ k. reset_ranges n k) all in
    let kept : c.min-kept.result ≡ min n v.accessible.bytes = c.min-kept.ensures ∙ ap (λ k. min k c.byte_count-accessible.result) keep ∙ ap (λ k. min n k) all in
    let new : c.clear.new.self ≡ cleared (min n v.accessible.bytes) v = c.clear.ensures.value ∙ ap (λ k. cleared k v) kept in
    let keep_whole : n % v.region.page ≡ 0 = rw c.requires.page at c.byte_count-keep.ensures.aligned in
    let P : List ByteRange → Slot → Type 0 = λ l t. All (IsPart t.region.page (size_of t)) l in
    let parts : P (reset_ranges n v.accessible.bytes) (cleared (min n v.accessible.bytes) v) = reset_parts v.region.page (size_of v) n v.accessible.bytes keep_whole c.fits.ensures.sizes.accessible_whole c.fits.ensures.sizes.within in
    subst (λ l. P l c.clear.new.self) (sym made) (subst (λ t. P (reset_ranges n v.accessible.bytes) t) (sym new) parts)

pub returns-clause-clean_after : goal.returns-clause-clean_after
returns-clause-clean_after g c =
    let v : Slot = c.args.self.now in
    let n : ℕ = c.args.keep_resident.bytes in
    let all : c.byte_count-accessible.result ≡ v.accessible.bytes = c.byte_count-accessible.ensures.value ∙ ap (λ (t : Slot). t.accessible.bytes) c.self.view_is in
    let keep : c.byte_count-keep.result ≡ n = c.byte_count-keep.ensures.value in
    let made : c.push_range.new.ranges ≡ reset_ranges n v.accessible.bytes = c.push_range.ensures ∙ ap (λ k. reset_ranges k c.byte_count-accessible.result) keep ∙ ap (λ k. reset_ranges n k) all in
    let kept : c.min-kept.result ≡ min n v.accessible.bytes = c.min-kept.ensures ∙ ap (λ k. min k c.byte_count-accessible.result) keep ∙ ap (λ k. min n k) all in
    let new : c.clear.new.self ≡ cleared (min n v.accessible.bytes) v = c.clear.ensures.value ∙ ap (λ k. cleared k v) kept in
    let P : List ByteRange → Slot → Type 0 = λ l t. IsClean (decommitted_all l t) in
    let clean : P (reset_ranges n v.accessible.bytes) (cleared (min n v.accessible.bytes) v) = reset_clean v n c.requires.restores c.fits.ensures c.requires.ready in
    subst (λ l. P l c.clear.new.self) (sym made) (subst (λ t. P (reset_ranges n v.accessible.bytes) t) (sym new) clean)

pub returns-clause-clean : goal.returns-clause-clean
returns-clause-clean g c from =
    let v : Slot = c.args.self.now in
    let n : ℕ = c.args.keep_resident.bytes in
    let all : c.byte_count-accessible.result ≡ v.accessible.bytes = c.byte_count-accessible.ensures.value ∙ ap (λ (t : Slot). t.accessible.bytes) c.self.view_is in
    let keep : c.byte_count-keep.result ≡ n = c.byte_count-keep.ensures.value in
    let made : c.push_range.new.ranges ≡ reset_ranges n v.accessible.bytes = c.push_range.ensures ∙ ap (λ k. reset_ranges k c.byte_count-accessible.result) keep ∙ ap (λ k. reset_ranges n k) all in
    let kept : c.min-kept.result ≡ min n v.accessible.bytes = c.min-kept.ensures ∙ ap (λ k. min k c.byte_count-accessible.result) keep ∙ ap (λ k. min n k) all in
    let new : c.clear.new.self ≡ cleared (min n v.accessible.bytes) v = c.clear.ensures.value ∙ ap (λ k. cleared k v) kept in
    let P : Slot → Type 0 = λ t. IsClean t in
    subst P (sym new) (kept_clean v n from (reset_clean v n c.requires.restores c.fits.ensures c.requires.ready))

-- How much a reset keeps, and in how many ranges it leaves the rest, at most.
use Rattle.std.proofs.Common.{◌≡◌, ℕ, ◌-◌, ◌*◌, ◌/◌, ◌^◌, ◌<◌, ◌≤◌, Bool, true, false, List, [], ◌∷◌, ◌++◌, length, take, drop, refl, subst, arith, nat_lt, if◌then◌else◌, Option, Some, None, mul-le-mul_right}
use Rattle.std.proofs.Math.Nat.{div-mul-le_self}
use Rattle.std.proofs.lemmas.List.{length-append, length-take}
use Rattle.pool_images.proofs.Imports.{ltb-false, DecommitBehavior, Zero, RestoreOriginalMapping}
use Rattle.pool_pages.specs.Told.{Told, TellsMarks}
use Rattle.pool_images.specs.declared.image_slot.dirty_pages.PageSpan.{PageSpan}
use Rattle.pool_images.specs.declared.ranges.ByteRange.{ByteRange}
use Rattle.pool_images.specs.Resets.{IsSpan, span_marks, marks_of, marked_pages, pages_by_hand, pages_left, runs_of, reaching, at_most_eight, kept_by, left_by}
use Rattle.pool_images.specs.Slots.{Slot, IsSlot}
use Rattle.pool_images.proofs.MarkedPages.{RiseIn, pages_rise, take_rises}
use Rattle.pool_images.proofs.MarkedResets.{few_rise, rise, sum}
use Rattle.pool_images.proofs.Resets.{kept_at_most}
use Rattle.pool_images.proofs.Spans.{span_long}

-- it keeps no more bytes than it may
pub kept_most : (marks : Option (List Bool)) (b : DecommitBehavior) (keep : ℕ) (s : Slot) → kept_by marks b keep s ≤ keep
kept_most None b keep s = kept_at_most b keep s.accessible.bytes
kept_most (Some marks) Zero keep s = omega arith
kept_most (Some marks) RestoreOriginalMapping keep s =
    let few : length (pages_by_hand s.region.page keep marks) ≤ keep / s.region.page = omega (arith, length-take (keep / s.region.page) (marked_pages marks)) in
    let bytes : length (pages_by_hand s.region.page keep marks) * s.region.page ≤ keep / s.region.page * s.region.page = mul-le-mul_right s.region.page few in
    omega (arith, bytes, div-mul-le_self keep s.region.page)

-- of a span, what is set by hand lies in the region
pub hand_small : (s : PageSpan) (t : Told) (most n : ℕ) → IsSpan s t → n ≡ length (take most (marked_pages (span_marks s t))) → n * s.page < 2 ^ 64
hand_small s t most n span is =
    let rises : RiseIn 0 s.pages (marked_pages (span_marks s t)) = subst (λ (k : ℕ). RiseIn 0 k (marked_pages (span_marks s t))) (span_long s t span) (pages_rise (span_marks s t)) in
    let few : length (take most (marked_pages (span_marks s t))) ≤ s.pages - 0 = few_rise 0 s.pages (take most (marked_pages (span_marks s t))) (take_rises most 0 s.pages (marked_pages (span_marks s t)) rises) in
    let bytes : n * s.page ≤ s.pages * s.page = mul-le-mul_right s.page (omega (arith, few, is)) in
    omega (arith, bytes, span.bytes, span.bounded)

-- and no more than could be reached
pub kept_within : (s : Slot) (keep : ℕ) → IsSlot s → TellsMarks s.region → kept_by (Some (marks_of s)) RestoreOriginalMapping keep s ≤ s.accessible.bytes
kept_within s keep fits marked =
    let few : length (pages_by_hand s.region.page keep (marks_of s)) ≤ s.accessible.bytes / s.region.page - 0 =
    few_rise 0 (s.accessible.bytes / s.region.page) (pages_by_hand s.region.page keep (marks_of s)) (take_rises (keep / s.region.page) 0 (s.accessible.bytes / s.region.page) (marked_pages (marks_of s)) (rise s keep fits marked)) in
    let bytes : length (pages_by_hand s.region.page keep (marks_of s)) * s.region.page ≤ s.accessible.bytes / s.region.page * s.region.page = mul-le-mul_right s.region.page (omega (arith, few)) in
    omega (arith, bytes, sum s keep fits marked)

one_reaching : (end : ℕ) (rs : List ByteRange) → length (reaching end rs) ≤ 1
one_reaching end [] = omega arith
one_reaching end (r ∷ rs) = omega arith

few_eight : (end : ℕ) (rs : List ByteRange) → length (at_most_eight end rs) ≤ 8
few_eight end rs = either (nat_lt 8 (length rs)) refl where
  either : (more : Bool) → nat_lt 8 (length rs) ≡ more → length (if more then take 7 rs ++ reaching end (drop 7 rs) else rs) ≤ 8
  either true is = omega (arith, length-append (take 7 rs) (reaching end (drop 7 rs)), length-take 7 rs, one_reaching end (drop 7 rs))
  either false is = omega (arith, ltb-false 8 (length rs) is)

one_if : (some : Bool) (r : ByteRange) → length (if some then r ∷ [] else []) ≤ 8
one_if true r = omega arith
one_if false r = omega arith

-- it leaves few ranges
pub few_left : (marks : Option (List Bool)) (b : DecommitBehavior) (keep : ℕ) (s : Slot) → length (left_by marks b keep s) ≤ 8
few_left None Zero keep s = omega arith
few_left None RestoreOriginalMapping keep s = one_if (nat_lt keep s.accessible.bytes) (record { start = keep; len = s.accessible.bytes - keep })
few_left (Some marks) Zero keep s = omega arith
few_left (Some marks) RestoreOriginalMapping keep s = few_eight s.accessible.bytes (runs_of s.region.page (pages_left s.region.page keep marks))

-- A slot that is clean once ranges are decommitted has no other page that is to be.
use Rattle.std.proofs.Common.{◌≡◌, ℕ, ◌+◌, ◌-◌, ◌*◌, ◌/◌, ◌%◌, ◌<◌, ◌≤◌, List, [], ◌∷◌, length, sym, ap, ◌∙◌, subst, inl, inr, arith, slice_range, Option, None, Some, IfSome, All, option_map, ◌⊎◌}
use Rattle.pool_slots.proofs.Imports.{cases_lt, All-head, All-tail, mul-mod_left, told_both, Contents, IsShaped, IsIn, Page, page_at, page_bytes, page_origin, decommitted, IsPages, whole, add_whole, page_below, decommit_law, range_range, ByteRange, Slot, IsSlot, IsSound, IsClean, IsPart, size_of, decommitted_all, page_lt, next, fits_next}
use Rattle.pool_slots.specs.SlotQueues.{IsInSome}

-- parts of two ranges that are equal are equal
same_part : (xs ys : List ℕ) (base n at len : ℕ) → base ≤ at → at + len ≤ base + n → slice_range xs base (base + n) ≡ slice_range ys base (base + n) → slice_range xs at (at + len) ≡ slice_range ys at (at + len)
same_part xs ys base n at len from to same =
    let i : ℕ = at - base in
    let place : base + i ≡ at = omega arith in
    let end : base + (i + len) ≡ at + len = omega arith in
    let inside : i + len ≤ base + n - base = omega arith in
    let E : ℕ → ℕ → Type 0 = λ p q. slice_range xs p q ≡ slice_range ys p q in
    subst (E at) end (subst (λ p. E p (base + (i + len))) place (sym (range_range xs base (base + n) i (i + len) inside) ∙ ap (λ (l : List ℕ). slice_range l i (i + len)) same ∙ range_range ys base (base + n) i (i + len) inside))

slot_whole : (s : Slot) → IsSlot s → (s.base.bytes + size_of s) % s.region.page ≡ 0
slot_whole s fits = add_whole s.base.bytes (size_of s) s.region.page fits.sizes.base_whole (mul-mod_left ((s.static_size + s.region.page - 1) / s.region.page) s.region.page)

from_mapped : (f : Contents → Contents) (Q : Contents → Type 0) (o : Option Contents) → IfSome (option_map f o) Q → IfSome o (λ c. Q (f c))
from_mapped f Q None h = h
from_mapped f Q (Some c) h = h

-- a page of the slot is one of the region
page_there : (s : Slot) (k : ℕ) (c : Contents) → IsSlot s → IsSound s.region.page s.region.len s.base.bytes (size_of s) c → IsIn s.base.bytes (size_of s) s.region.page k → k < length c.accessible
page_there s k c fits sound is =
    let all : s.region.page * (s.region.len / s.region.page) ≡ s.region.len = whole s.region.len s.region.page sound.shaped.whole in
    let below : k * s.region.page < s.region.len / s.region.page * s.region.page = omega (arith, is.below, fits.sizes.inside, all) in
    rw sound.shaped.accessible (page_lt k (s.region.len / s.region.page) s.region.page below)

-- a page outside a range that is decommitted stays
page_stays : (s : Slot) (r : ByteRange) (k : ℕ) (c : Contents) → IsSlot s → IsPart s.region.page (size_of s) r → IsSound s.region.page s.region.len s.base.bytes (size_of s) c → IsIn s.base.bytes (size_of s) s.region.page k → (IsIn (s.base.bytes + r.start) r.len s.region.page k → ⊥) → page_at k (decommitted (s.base.bytes + r.start) r.len c) ≡ page_at k c
page_stays s r k c fits part sound is out =
    let page : c.page ≡ s.region.page = sound.shaped.same_page in
    let start : (s.base.bytes + r.start) % s.region.page ≡ 0 = add_whole s.base.bytes r.start s.region.page fits.sizes.base_whole part.start in
    let S : ℕ → Type 0 = λ p. IsShaped p s.region.len c in
    let O : ℕ → Type 0 = λ p. IsIn (s.base.bytes + r.start) r.len p k → ⊥ in
    let pages : IsPages s.region.len (s.base.bytes + r.start) r.len c = record {
      positive = rw page (omega (arith, fits.sizes.page_size.at_least));
      shaped = subst S (sym page) sound.shaped;
      whole_start = rw page start;
      whole_len = rw page part.len;
      inside = omega (arith, part.inside, fits.sizes.inside);
    } in
    let change = decommit_law s.region.len (s.base.bytes + r.start) r.len c pages in
    change.others k (page_there s k c fits sound is) (subst O (sym page) out)

-- what isn't in the first range is as it is once that is decommitted
first_covered : (s : Slot) (r : ByteRange) (rs : List ByteRange) (c : Contents) → IsSlot s → IsPart s.region.page (size_of s) r → IsSound s.region.page s.region.len s.base.bytes (size_of s) c → ((k : ℕ) → IsIn s.base.bytes (size_of s) s.region.page k → (page_bytes k (decommitted (s.base.bytes + r.start) r.len c) ≡ page_origin k (decommitted (s.base.bytes + r.start) r.len c)) ⊎ IsInSome s.base.bytes s.region.page k rs) → (k : ℕ) → IsIn s.base.bytes (size_of s) s.region.page k → (page_bytes k c ≡ page_origin k c) ⊎ IsInSome s.base.bytes s.region.page k (r ∷ rs)
first_covered s r rs c fits part sound rest k is =
    let from : ℕ = s.base.bytes + r.start in
    let outside : (IsIn from r.len s.region.page k → ⊥) → (page_bytes k c ≡ page_origin k c) ⊎ IsInSome s.base.bytes s.region.page k (r ∷ rs) =
    λ out.
    let stays : page_at k (decommitted from r.len c) ≡ page_at k c = page_stays s r k c fits part sound is out in
    elim (rest k is) [
      | inl e ↦ inl (sym (ap (λ (p : Page). p.bytes) stays) ∙ e ∙ ap (λ (p : Page). p.origin) stays)
      | inr there ↦ inr (inr there)
    ] in
    elim (cases_lt (k * s.region.page) from) [
      | inl under ↦ outside (λ i. omega (arith, i.from, under))
      | inr over ↦
          elim (cases_lt (k * s.region.page) (from + r.len)) [
            | inl below ↦ inr (inl (record { from = over; below = below }))
            | inr past ↦ outside (λ i. omega (arith, i.below, past))
          ]
    ]

pub covered_of : (rs : List ByteRange) (s : Slot) → IsSlot s → All (IsPart s.region.page (size_of s)) rs → IsClean (decommitted_all rs s) → IfSome s.region.contents (λ c. (k : ℕ) → IsIn s.base.bytes (size_of s) s.region.page k → (page_bytes k c ≡ page_origin k c) ⊎ IsInSome s.base.bytes s.region.page k rs)
covered_of [] s fits parts clean =
    let size : ℕ = size_of s in
    let S : Contents → Type 0 = IsSound s.region.page s.region.len s.base.bytes size in
    let H : Contents → Type 0 = λ c. slice_range c.bytes (s.base.bytes + 0) (s.base.bytes + size) ≡ slice_range c.origin (s.base.bytes + 0) (s.base.bytes + size) in
    let C : Contents → Type 0 = λ c. (k : ℕ) → IsIn s.base.bytes size s.region.page k → (page_bytes k c ≡ page_origin k c) ⊎ IsInSome s.base.bytes s.region.page k [] in
    told_both S H C s.region.contents
    (λ c sound holds k is.
    let page : c.page ≡ s.region.page = sound.shaped.same_page in
    let to : k * s.region.page + s.region.page ≤ s.base.bytes + size = page_below k (s.base.bytes + size) s.region.page (slot_whole s fits) is.below in
    let zero_more : s.base.bytes + 0 ≡ s.base.bytes = omega arith in
    let all : slice_range c.bytes s.base.bytes (s.base.bytes + size) ≡ slice_range c.origin s.base.bytes (s.base.bytes + size) = rw zero_more at holds in
    let E : ℕ → Type 0 = λ p. slice_range c.bytes (k * p) (k * p + p) ≡ slice_range c.origin (k * p) (k * p + p) in
    inl (subst E (sym page) (same_part c.bytes c.origin s.base.bytes size (k * s.region.page) s.region.page is.from to all)))
    fits.told clean.holds
covered_of (r ∷ rs) s fits parts clean =
    let P : ByteRange → Type 0 = IsPart s.region.page (size_of s) in
    let first : P r = All-head P r rs parts in
    let S : Contents → Type 0 = IsSound s.region.page s.region.len s.base.bytes (size_of s) in
    let Q : Contents → Type 0 = λ c. (k : ℕ) → IsIn s.base.bytes (size_of s) s.region.page k → (page_bytes k c ≡ page_origin k c) ⊎ IsInSome s.base.bytes s.region.page k rs in
    let C : Contents → Type 0 = λ c. (k : ℕ) → IsIn s.base.bytes (size_of s) s.region.page k → (page_bytes k c ≡ page_origin k c) ⊎ IsInSome s.base.bytes s.region.page k (r ∷ rs) in
    let rest : IfSome (option_map (decommitted (s.base.bytes + r.start) r.len) s.region.contents) Q = covered_of rs (next r s) (fits_next r s fits first) (All-tail P r rs parts) clean in
    told_both S (λ c. Q (decommitted (s.base.bytes + r.start) r.len c)) C s.region.contents (λ c sound there. first_covered s r rs c fits first sound there)
    fits.told (from_mapped (decommitted (s.base.bytes + r.start) r.len) Q s.region.contents rest)

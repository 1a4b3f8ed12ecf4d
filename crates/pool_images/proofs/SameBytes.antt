-- What different resets of a slot leave in it, once their decommits are done.
use Rattle.std.proofs.Common.{◌≡◌, ℕ, ◌+◌, ◌-◌, ◌*◌, ◌/◌, ◌<◌, ◌≤◌, ◌⊎◌, ◌&&◌, Bool, true, false, List, [], ◌∷◌, ◌++◌, length, get_or, min, refl, sym, ap, ◌∙◌, subst, arith, inl, inr, slice_range, Option, Some, None, IfSome, option_map, nat_lt, if◌then◌else◌, add-mul, mul-le-mul_right}
use Rattle.pool_images.proofs.Imports.{cases_lt, ltb-true, ltb-false, Contents, put, put_back, length-range, get_or-put_below, get_or-put_above, same_at, same_range, same_lists, DecommitBehavior, Zero, RestoreOriginalMapping, page_of}
use Rattle.pool_pages.specs.Told.{TellsMarks}
use Rattle.pool_images.specs.declared.ranges.ByteRange.{ByteRange}
use Rattle.pool_images.specs.ResetLaws.{bytes_of, ResetsLeaveTheSame}
use Rattle.pool_images.specs.Resets.{marks_of, marked_pages, pages_by_hand, pages_left, runs_of, at_most_eight, left_by, reset_by}
use Rattle.pool_images.specs.Slots.{Slot, IsSlot, IsSound, cleared, reset_ranges, size_of, decommitted_all}
use Rattle.pool_images.proofs.Backs.{length-back}
use Rattle.pool_images.proofs.MarkedResets.{each_page, told_done, left_parts, rise, sum}
use Rattle.pool_images.proofs.PageRanges.{Covers, Parts}
use Rattle.pool_images.proofs.PutBacks.{backs, Below, backs_long, backs_keep, backs_cover, Backed, backed_first, lone_pages, ranges_backed}
use Rattle.pool_images.proofs.MarkedPages.{RiseIn, take_rises}

-- The ranges end within a length from where they are counted.
abbrev EndIn : ℕ → List ByteRange → Type 0
EndIn end [] = Unit {0}
EndIn end (r ∷ rs) = (r.start + r.len ≤ end) × EndIn end rs

end_below : (base end n : ℕ) (rs : List ByteRange) → base + end ≤ n → EndIn end rs → Below base rs n
end_below base end n [] fits ends = tt
end_below base end n (r ∷ rs) fits ends = (omega (arith, fits, ends.0), end_below base end n rs fits ends.1)

end_parts : (page end : ℕ) (rs : List ByteRange) → Parts page end rs → EndIn end rs
end_parts page end [] parts = tt
end_parts page end (r ∷ rs) parts = (parts.0.inside, end_parts page end rs parts.1)

end_both : (end : ℕ) (rs ss : List ByteRange) → EndIn end rs → EndIn end ss → EndIn end (rs ++ ss)
end_both end [] ss first second = second
end_both end (r ∷ rs) ss first second = (first.0, end_both end rs ss first.1 second)

-- bytes outside the ranges stay
outside : (base end : ℕ) (rs : List ByteRange) (origin bytes : List ℕ) (j x : ℕ) → length bytes ≡ length origin → base + end ≤ length origin → EndIn end rs → (j < base) ⊎ (base + end ≤ j) → get_or (backs base rs origin bytes) j x ≡ get_or bytes j x
outside base end [] origin bytes j x same fits ends out = refl
outside base end (r ∷ rs) origin bytes j x same fits ends out =
    let long : length (slice_range origin (base + r.start) (base + r.start + r.len)) ≡ base + r.start + r.len - (base + r.start) = length-range origin (base + r.start) (base + r.start + r.len) (omega (arith, fits, ends.0)) in
    let here : get_or (put (base + r.start) (slice_range origin (base + r.start) (base + r.start + r.len)) bytes) j x ≡ get_or bytes j x = elim out [
      | inl before ↦ get_or-put_below (base + r.start) (slice_range origin (base + r.start) (base + r.start + r.len)) bytes j x (omega (arith, same, fits, ends.0)) (omega (arith, before))
      | inr behind ↦ get_or-put_above (base + r.start) (slice_range origin (base + r.start) (base + r.start + r.len)) bytes j x (omega (arith, same, fits, ends.0)) (omega (arith, long, behind, ends.0))
    ] in
    outside base end rs origin (put (base + r.start) (slice_range origin (base + r.start) (base + r.start + r.len)) bytes) j x
    (length-back (base + r.start) r.len bytes origin same (omega (arith, fits, ends.0))) fits ends.1 out ∙ here

-- Each byte from a base on, up to an end, is what it goes back to, or is covered.
abbrev Reaches : ℕ → ℕ → List ByteRange → List ℕ → List ℕ → Type 0
Reaches base end rs origin bytes = (j : ℕ) → j < end → ((x : ℕ) → get_or bytes (base + j) x ≡ get_or origin (base + j) x) ⊎ Covers rs j (j + 1)

-- such bytes are what they go back to
inside : (base end : ℕ) (rs : List ByteRange) (origin bytes : List ℕ) (j x : ℕ) → length bytes ≡ length origin → base + end ≤ length origin → EndIn end rs → Reaches base end rs origin bytes → j < end → get_or (backs base rs origin bytes) (base + j) x ≡ get_or origin (base + j) x
inside base end rs origin bytes j x same fits ends reaches below =
    let under : Below base rs (length origin) = end_below base end (length origin) rs fits ends in
    let next : base + (j + 1) ≡ base + j + 1 = omega arith in
    elim (reaches j below) [
      | inl holds ↦
          let one : slice_range bytes (base + j) (base + (j + 1)) ≡ slice_range origin (base + j) (base + (j + 1)) =
          same_range bytes origin (base + j) (base + (j + 1)) (omega (arith, same, fits, below)) (omega (arith, fits, below))
          (λ k d from to.
          let is : base + j ≡ k = omega (arith, from, to) in
          subst (λ n. get_or bytes n d ≡ get_or origin n d) is (holds d)) in
          same_at (backs base rs origin bytes) origin (base + j) (base + (j + 1)) (base + j) x
          (backs_keep base rs origin bytes (base + j) (base + (j + 1)) same under (omega (arith, fits, below)) one) (omega arith) (omega arith)
      | inr covered ↦
          same_at (backs base rs origin bytes) origin (base + j) (base + (j + 1)) (base + j) x
          (backs_cover base rs origin bytes j (j + 1) same under (omega (arith, fits, below)) covered) (omega arith) (omega arith)
    ]

-- two lists of ranges that reach all bytes leave the same
alike : (base end : ℕ) (rs ss : List ByteRange) (origin bytes : List ℕ) → length bytes ≡ length origin → base + end ≤ length origin → EndIn end rs → EndIn end ss → Reaches base end rs origin bytes → Reaches base end ss origin bytes → backs base rs origin bytes ≡ backs base ss origin bytes
alike base end rs ss origin bytes same fits ends others first second =
    let long = backs_long base rs origin bytes same (end_below base end (length origin) rs fits ends) in
    let long' = backs_long base ss origin bytes same (end_below base end (length origin) ss fits others) in
    same_lists (backs base rs origin bytes) (backs base ss origin bytes) (long ∙ sym long') (λ j x below. at j x (cases_lt j base) (cases_lt j (base + end))) where
      at : (j x : ℕ) → (j < base) ⊎ (base ≤ j) → (j < base + end) ⊎ (base + end ≤ j) → get_or (backs base rs origin bytes) j x ≡ get_or (backs base ss origin bytes) j x
      at j x (inl before) upper = outside base end rs origin bytes j x same fits ends (inl before) ∙ sym (outside base end ss origin bytes j x same fits others (inl before))
      at j x (inr from) (inr behind) = outside base end rs origin bytes j x same fits ends (inr behind) ∙ sym (outside base end ss origin bytes j x same fits others (inr behind))
      at j x (inr from) (inl below) =
          let place : base + (j - base) ≡ j = omega (arith, from) in
          subst (λ n. get_or (backs base rs origin bytes) n x ≡ get_or (backs base ss origin bytes) n x) place
          (inside base end rs origin bytes (j - base) x same fits ends first (omega (arith, from, below)) ∙ sym (inside base end ss origin bytes (j - base) x same fits others second (omega (arith, from, below))))

-- what the region holds then, where it tells it
told_alike : (page len base size end : ℕ) (rs ss : List ByteRange) (o u v : Option Contents) → base + end ≤ len → IfSome o (IsSound page len base size) → EndIn end rs → EndIn end ss → IfSome o (λ c. Reaches base end rs c.origin c.bytes) → IfSome o (λ c. Reaches base end ss c.origin c.bytes) → Backed base rs o u → Backed base ss o v → option_map (λ c. c.bytes) u ≡ option_map (λ c. c.bytes) v
told_alike page len base size end rs ss None None None fits sound ends others first second one two = refl
told_alike page len base size end rs ss None (Some d) v fits sound ends others first second one two = absurd one
told_alike page len base size end rs ss None None (Some e) fits sound ends others first second one two = absurd two
told_alike page len base size end rs ss (Some c) None v fits sound ends others first second one two = absurd one
told_alike page len base size end rs ss (Some c) (Some d) None fits sound ends others first second one two = absurd two
told_alike page len base size end rs ss (Some c) (Some d) (Some e) fits sound ends others first second one two =
    let same : length c.bytes ≡ length c.origin = sound.shaped.bytes ∙ sym sound.shaped.origin in
    ap (λ (l : List ℕ). Some l) (one.bytes ∙ alike base end rs ss c.origin c.bytes same (omega (arith, fits, sound.shaped.origin)) ends others first second ∙ sym two.bytes)

-- the plain reset, with so many bytes kept: its ranges, the one that is set by hand first
abbrev plain_ranges : ℕ → ℕ → List ByteRange
plain_ranges keep accessible = record { start = 0; len = min keep accessible } ∷ reset_ranges keep accessible

plain_ends : (keep accessible : ℕ) → EndIn accessible (plain_ranges keep accessible)
plain_ends keep accessible = (omega arith, either (nat_lt keep accessible) refl) where
  either : (b : Bool) → nat_lt keep accessible ≡ b → EndIn accessible (if b then record { start = keep; len = accessible - keep } ∷ [] else [])
  either true is = (omega (arith, ltb-true keep accessible is), tt)
  either false is = tt

plain_reaches : (keep accessible base : ℕ) (origin bytes : List ℕ) → Reaches base accessible (plain_ranges keep accessible) origin bytes
plain_reaches keep accessible base origin bytes j below = inr (elim (cases_lt j (min keep accessible)) [
  | inl front ↦ inl (omega arith, omega (arith, front))
  | inr back ↦ inr (either (nat_lt keep accessible) refl back)
]) where
  either : (b : Bool) → nat_lt keep accessible ≡ b → min keep accessible ≤ j → Covers (if b then record { start = keep; len = accessible - keep } ∷ [] else []) j (j + 1)
  either true is back =
      let less : keep < accessible = ltb-true keep accessible is in
      inl (omega (arith, back, less), omega (arith, below, less))
  either false is back = absurd (omega (arith, ltb-false keep accessible is, back, below))

plain_told : (keep : ℕ) (s : Slot) → Backed s.base.bytes (plain_ranges keep s.accessible.bytes) s.region.contents (decommitted_all (reset_ranges keep s.accessible.bytes) (cleared (min keep s.accessible.bytes) s)).region.contents
plain_told keep s =
    let none : s.base.bytes ≡ s.base.bytes + 0 = omega arith in
    let u : Option Contents = (decommitted_all (reset_ranges keep s.accessible.bytes) (cleared (min keep s.accessible.bytes) s)).region.contents in
    let P : ℕ → Type 0 = λ i. Backed s.base.bytes (reset_ranges keep s.accessible.bytes) (option_map (put_back i (min keep s.accessible.bytes)) s.region.contents) (decommitted_all (reset_ranges keep s.accessible.bytes) (cleared (min keep s.accessible.bytes) s)).region.contents in
    let rest : P s.base.bytes = (ranges_backed (reset_ranges keep s.accessible.bytes) (cleared (min keep s.accessible.bytes) s)).contents in
    backed_first s.base.bytes (record { start = 0; len = min keep s.accessible.bytes }) (reset_ranges keep s.accessible.bytes) s.region.contents (decommitted_all (reset_ranges keep s.accessible.bytes) (cleared (min keep s.accessible.bytes) s)).region.contents (subst P none rest)

covers_within : (rs : List ByteRange) (a b i j : ℕ) → a ≤ i → j ≤ b → Covers rs a b → Covers rs i j
covers_within [] a b i j from to covered = covered
covers_within (r ∷ rs) a b i j from to (inl here) = inl (omega (arith, from, here.0), omega (arith, to, here.1))
covers_within (r ∷ rs) a b i j from to (inr there) = inr (covers_within rs a b i j from to there)

lone_ends : (page lo end n : ℕ) (ks : List ℕ) → end * page ≤ n → RiseIn lo end ks → EndIn n (lone_pages page ks)
lone_ends page lo end n [] fits rise = tt
lone_ends page lo end n (k ∷ ks) fits rise =
    let next : (k + 1) * page ≡ k * page + page = omega (arith, add-mul k 1 page) in
    let less : (k + 1) * page ≤ end * page = mul-le-mul_right page (omega (arith, rise.1)) in
    (omega (arith, fits, next, less), lone_ends page (k + 1) end n ks fits rise.2)

module _ (s : Slot) (keep : ℕ) (fits : IsSlot s) (marked : TellsMarks s.region) where
  abbrev marks_ranges : List ByteRange
  marks_ranges = lone_pages s.region.page (pages_by_hand s.region.page keep (marks_of s)) ++ at_most_eight s.accessible.bytes (runs_of s.region.page (pages_left s.region.page keep (marks_of s)))

  marks_ends : EndIn s.accessible.bytes marks_ranges
  marks_ends =
      end_both s.accessible.bytes (lone_pages s.region.page (pages_by_hand s.region.page keep (marks_of s))) (at_most_eight s.accessible.bytes (runs_of s.region.page (pages_left s.region.page keep (marks_of s))))
      (lone_ends s.region.page 0 (s.accessible.bytes / s.region.page) s.accessible.bytes (pages_by_hand s.region.page keep (marks_of s)) (omega (arith, sum s keep fits marked)) (take_rises (keep / s.region.page) 0 (s.accessible.bytes / s.region.page) (marked_pages (marks_of s)) (rise s keep fits marked)))
      (end_parts s.region.page s.accessible.bytes (at_most_eight s.accessible.bytes (runs_of s.region.page (pages_left s.region.page keep (marks_of s)))) (left_parts s keep fits marked))

  marks_reach : (c : Contents) → IsSound s.region.page s.region.len s.base.bytes (size_of s) c → c.dirty ≡ s.region.marks → Reaches s.base.bytes s.accessible.bytes marks_ranges c.origin c.bytes
  marks_reach c sound same j below =
      let some : 0 < s.region.page = omega (arith, fits.sizes.page_size.at_least) in
      let place = page_of j s.region.page some in
      elim (each_page s keep fits marked c sound same (j / s.region.page) (omega (arith, place.0, below))) [
        | inl holds ↦ inl (λ x. same_at c.bytes c.origin (s.base.bytes + j / s.region.page * s.region.page) (s.base.bytes + (j / s.region.page * s.region.page + s.region.page)) (s.base.bytes + j) x holds (omega (arith, place.0)) (omega (arith, place.1)))
        | inr covered ↦ inr (covers_within marks_ranges (j / s.region.page * s.region.page) (j / s.region.page * s.region.page + s.region.page) j (j + 1) place.0 (omega (arith, place.1)) covered)
      ]

  marks_told : (o : Option Contents) → IfSome o (IsSound s.region.page s.region.len s.base.bytes (size_of s)) → IfSome o (λ c. c.dirty ≡ s.region.marks) → IfSome o (λ c. Reaches s.base.bytes s.accessible.bytes marks_ranges c.origin c.bytes)
  marks_told None sound same = sound
  marks_told (Some c) sound same = marks_reach c sound same

  plain_all : (n : ℕ) (o : Option Contents) → IfSome o (IsSound s.region.page s.region.len s.base.bytes (size_of s)) → IfSome o (λ c. Reaches s.base.bytes s.accessible.bytes (plain_ranges n s.accessible.bytes) c.origin c.bytes)
  plain_all n None sound = sound
  plain_all n (Some c) sound = plain_reaches n s.accessible.bytes s.base.bytes c.origin c.bytes

  room : s.base.bytes + s.accessible.bytes ≤ s.region.len
  room = omega (arith, fits.sizes.inside, fits.sizes.within)

  pub by : (b : DecommitBehavior) (v : Bool) → bytes_of (decommitted_all (left_by (if v then Some (marks_of s) else None) b keep s) (reset_by (if v then Some (marks_of s) else None) b keep s)) ≡ bytes_of (decommitted_all (left_by None b 0 s) (reset_by None b 0 s))
  by Zero true = refl
  by Zero false = refl
  by RestoreOriginalMapping true =
      told_alike s.region.page s.region.len s.base.bytes (size_of s) s.accessible.bytes marks_ranges (plain_ranges 0 s.accessible.bytes) s.region.contents _ _ room fits.told marks_ends (plain_ends 0 s.accessible.bytes)
      (marks_told s.region.contents fits.told marked.same) (plain_all 0 s.region.contents fits.told) (told_done s keep fits marked).contents (plain_told 0 s)
  by RestoreOriginalMapping false =
      told_alike s.region.page s.region.len s.base.bytes (size_of s) s.accessible.bytes (plain_ranges keep s.accessible.bytes) (plain_ranges 0 s.accessible.bytes) s.region.contents _ _ room fits.told (plain_ends keep s.accessible.bytes) (plain_ends 0 s.accessible.bytes)
      (plain_all keep s.region.contents fits.told) (plain_all 0 s.region.contents fits.told) (plain_told keep s) (plain_told 0 s)

pub resets_same : ResetsLeaveTheSame
resets_same offered keep s fits marked = by s keep fits marked s.region.behaviour (offered && nat_lt s.region.page s.accessible.bytes)

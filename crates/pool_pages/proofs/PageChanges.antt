-- Each call on pages changes exactly the pages of its range.
use Rattle.std.proofs.Common.{◌≡◌, ℕ, ◌+◌, ◌-◌, ◌*◌, ◌/◌, ◌<◌, ◌≤◌, ◌⊎◌, Bool, true, false, List, length, min, get_or, take, drop, replicate, refl, sym, ap, ◌∙◌, arith, inl, inr, slice_range}
use Rattle.pool_pages.proofs.Imports.{mul-le-mul_right, mul-le-mul_left, div-mul-le_self, lt-mul-div-succ, length-replicate, take-replicate, drop-replicate, same_lists, cases_lt, page_below}
use Rattle.pool_pages.specs.Contents.{Contents, Page, page_bytes, page_origin, page_at, IsIn, IsShaped, put, put_all, touched, touched_marked}
use Rattle.pool_pages.specs.Dense.{zeroed}
use Rattle.pool_pages.specs.Told.{mapping}
use Rattle.pool_types.specs.declared.decommit_behavior.DecommitBehavior.{DecommitBehavior}
use Rattle.pool_types.specs.declared.decommit_behavior.DecommitBehavior.TheVariants.{Zero, RestoreOriginalMapping}
use Rattle.pool_pages.specs.PageLaws.{IsPages, ChangesExactly, image_part, IsTouched, ExposeChangesItsPages, HideChangesItsPages, MapChangesItsPages, CopyChangesItsPages, EraseChangesItsPages, RemapChangesItsPages, RecolourChangesItsPages, DecommitChangesItsPages, WriteChangesItsPages, RestoreChangesItsPages, MarksAlike, CallsMarkAlike}
use Rattle.pool_pages.proofs.PageNumbers.{page_before, page_from, page_above, page_inside, touched_some, touched_above, touched_fit}
use Rattle.pool_pages.proofs.Puts.{length-put, length-range, get_or-range, get_or-put_below, get_or-put_in, get_or-put_above, put_range, range_range}
use Rattle.pool_pages.proofs.Shapes.{get_or-put_all_in, get_or-put_all_out, untouched, pages_fit, column_inside, column_outside}

-- a range of zeros
zeros_range : (n a c : ℕ) → a + c ≤ n → slice_range (replicate {A = ℕ} n 0) a (a + c) ≡ replicate c 0
zeros_range n a c fits =
    let count : a + c - a ≡ c = omega arith in
    ap (λ m. take m (drop a (replicate {A = ℕ} n 0))) count
    ∙ ap (λ xs. take c xs) (drop-replicate a n 0)
    ∙ take-replicate c (n - a) 0 (omega arith)

abbrev page : Bool → List ℕ → List ℕ → Bool → ℕ → Page
page accessible bytes origin dirty colour = record { accessible = accessible; bytes = bytes; origin = origin; dirty = dirty; colour = colour }

same_page : (a d : Bool) (b c o p : List ℕ) (e f : Bool) (x y : ℕ) → a ≡ d → b ≡ c → o ≡ p → e ≡ f → x ≡ y → page a b o e x ≡ page d c p f y
same_page a d b c o p e f x y access bytes origin dirty colour =
    ap (λ z. page z b o e x) access
    ∙ ap (λ z. page d z o e x) bytes
    ∙ ap (λ z. page d c z e x) origin
    ∙ ap (λ z. page d c p z x) dirty
    ∙ ap (λ z. page d c p f z) colour

-- A range of whole pages, and the marks of its pages.
module _ (n start len : ℕ) (c : Contents) (is : IsPages n start len c) where
  in_from : (k : ℕ) → IsIn start len c.page k → start / c.page ≤ k
  in_from k is_in =
      elim (cases_lt k (start / c.page)) [
        | inl below ↦ absurd (omega (arith, page_before c.page start k below, is_in.from, is.positive))
        | inr from ↦ from
      ]

  in_below : (k : ℕ) → IsIn start len c.page k → k < start / c.page + len / c.page
  in_below k is_in =
      elim (cases_lt k (start / c.page + len / c.page)) [
        | inl below ↦ below
        | inr from ↦ absurd (omega (arith, page_above c.page start len k is.whole_start is.whole_len from, is_in.below))
      ]

  out_of : (k : ℕ) → (IsIn start len c.page k → ⊥) → (k < start / c.page) ⊎ (start / c.page + len / c.page ≤ k)
  out_of k out =
      elim (cases_lt k (start / c.page)) [
        | inl below ↦ inl below
        | inr from ↦ elim (cases_lt k (start / c.page + len / c.page)) [
          | inl within ↦ absurd (out (record { from = page_from c.page start k is.whole_start from; below = omega (arith, is.positive, page_inside c.page start len k is.whole_start is.whole_len within) }))
          | inr past ↦ inr past
        ]
      ]

  fit : start / c.page + len / c.page ≤ n / c.page
  fit = pages_fit n start len c is.positive is.shaped is.whole_start is.whole_len is.inside

  mark_in : {X : Type 0} (v d : X) (xs : List X) → length xs ≡ n / c.page → (k : ℕ) → IsIn start len c.page k → get_or (put_all (start / c.page) (len / c.page) v xs) k d ≡ v
  mark_in v d xs long k is_in = get_or-put_all_in (start / c.page) (len / c.page) v xs k d (omega (arith, fit)) (in_from k is_in) (in_below k is_in)

  mark_out : {X : Type 0} (v d : X) (xs : List X) → length xs ≡ n / c.page → (k : ℕ) → (IsIn start len c.page k → ⊥) → get_or (put_all (start / c.page) (len / c.page) v xs) k d ≡ get_or xs k d
  mark_out v d xs long k out = get_or-put_all_out (start / c.page) (len / c.page) v xs k d (omega (arith, fit)) (out_of k out)

  bytes_in : (ys xs : List ℕ) → length ys ≡ len → length xs ≡ n → (k : ℕ) → IsIn start len c.page k → slice_range (put start ys xs) (k * c.page) (k * c.page + c.page) ≡ image_part start ys c.page k
  bytes_in ys xs some long k is_in =
      let end : k * c.page + c.page - start ≡ k * c.page - start + c.page = omega (arith, is_in.from) in
      column_inside n start len c is.positive is.shaped is.whole_start is.whole_len is.inside ys xs some long k (in_from k is_in) (in_below k is_in)
      ∙ ap (λ b. slice_range ys (k * c.page - start) b) end

  bytes_out : (ys xs : List ℕ) → length ys ≡ len → length xs ≡ n → (k : ℕ) → k < length c.accessible → (IsIn start len c.page k → ⊥) → slice_range (put start ys xs) (k * c.page) (k * c.page + c.page) ≡ slice_range xs (k * c.page) (k * c.page + c.page)
  bytes_out ys xs some long k below out =
      column_outside n start len c is.positive is.shaped is.whole_start is.whole_len is.inside ys xs some long k (omega (arith, is.shaped.accessible)) (out_of k out)

  -- the access of the pages alone
  access_law : (v : Bool) → ChangesExactly start len (λ k p. record p { accessible = v }) c (record c { accessible = put_all (start / c.page) (len / c.page) v c.accessible })
  access_law v = record {
    within = λ k is_in. ap (λ z. page z (page_bytes k c) (page_origin k c) (get_or c.dirty k true) (get_or c.colour k 0)) (mark_in v false c.accessible is.shaped.accessible k is_in);
    others = λ k below out. ap (λ z. page z (page_bytes k c) (page_origin k c) (get_or c.dirty k true) (get_or c.colour k 0)) (mark_out v false c.accessible is.shaped.accessible k out);
  }

  -- one list in the bytes and in what they go back to
  replaced_law : (v : Bool) (ys : List ℕ) → length ys ≡ len → ChangesExactly start len (λ k p. record { accessible = v; bytes = image_part start ys c.page k; origin = image_part start ys c.page k; dirty = false; colour = 0 }) c (record c { bytes = put start ys c.bytes; origin = put start ys c.origin; accessible = put_all (start / c.page) (len / c.page) v c.accessible; dirty = put_all (start / c.page) (len / c.page) false c.dirty; colour = put_all (start / c.page) (len / c.page) 0 c.colour })
  replaced_law v ys some = record {
    within = λ k is_in. same_page _ _ _ _ _ _ _ _ _ _
        (mark_in v false c.accessible is.shaped.accessible k is_in)
        (bytes_in ys c.bytes some is.shaped.bytes k is_in)
        (bytes_in ys c.origin some is.shaped.origin k is_in)
        (mark_in false true c.dirty is.shaped.dirty k is_in)
        (mark_in 0 0 c.colour is.shaped.colour k is_in);
    others = λ k below out. same_page _ _ _ _ _ _ _ _ _ _
        (mark_out v false c.accessible is.shaped.accessible k out)
        (bytes_out ys c.bytes some is.shaped.bytes k below out)
        (bytes_out ys c.origin some is.shaped.origin k below out)
        (mark_out false true c.dirty is.shaped.dirty k out)
        (mark_out 0 0 c.colour is.shaped.colour k out);
  }

pub expose_law : ExposeChangesItsPages
expose_law n start len c is = access_law n start len c is true

pub hide_law : HideChangesItsPages
hide_law n start len c is = access_law n start len c is false

pub map_law : MapChangesItsPages
map_law n start image c is = replaced_law n start (length image) c is true image refl

pub copy_law : CopyChangesItsPages
copy_law n start image c is = record {
  within = λ k is_in. same_page _ _ _ _ _ _ _ _ _ _
      (mark_in n start (length image) c is true false c.accessible is.shaped.accessible k is_in)
      (bytes_in n start (length image) c is image c.bytes refl is.shaped.bytes k is_in)
      refl
      (mark_in n start (length image) c is true true c.dirty is.shaped.dirty k is_in)
      (mark_in n start (length image) c is 0 0 c.colour is.shaped.colour k is_in);
  others = λ k below out. same_page _ _ _ _ _ _ _ _ _ _
      (mark_out n start (length image) c is true false c.accessible is.shaped.accessible k out)
      (bytes_out n start (length image) c is image c.bytes refl is.shaped.bytes k below out)
      refl
      (mark_out n start (length image) c is true true c.dirty is.shaped.dirty k out)
      (mark_out n start (length image) c is 0 0 c.colour is.shaped.colour k out);
}

-- zeros in the bytes and in what they go back to
zeroed_law : (n start len : ℕ) (c : Contents) → IsPages n start len c → (v : Bool) → ChangesExactly start len (λ k p. record { accessible = v; bytes = replicate c.page 0; origin = replicate c.page 0; dirty = false; colour = 0 }) c (zeroed v start len c)
zeroed_law n start len c is v =
    let law : ChangesExactly start len (λ k p. record { accessible = v; bytes = image_part start (replicate len 0) c.page k; origin = image_part start (replicate len 0) c.page k; dirty = false; colour = 0 }) c (zeroed v start len c) =
    replaced_law n start len c is v (replicate len 0) (length-replicate {A = ℕ} len 0) in
    record {
      within = λ k is_in.
          let end : k * c.page + c.page ≤ start + len = page_inside c.page start len k is.whole_start is.whole_len (in_below n start len c is k is_in) in
          law.within k is_in
          ∙ ap (λ ys. page v ys ys false 0) (zeros_range len (k * c.page - start) c.page (omega (arith, is_in.from)));
      others = law.others;
    }

pub erase_law : EraseChangesItsPages
erase_law n start len c is = zeroed_law n start len c is false

pub remap_law : RemapChangesItsPages
remap_law n start len c is = zeroed_law n start len c is true

pub recolour_law : RecolourChangesItsPages
recolour_law n start len colour c is = record {
  within = λ k is_in. ap (λ z. page (get_or c.accessible k false) (page_bytes k c) (page_origin k c) (get_or c.dirty k true) z) (mark_in n start len c is colour 0 c.colour is.shaped.colour k is_in);
  others = λ k below out. ap (λ z. page (get_or c.accessible k false) (page_bytes k c) (page_origin k c) (get_or c.dirty k true) z) (mark_out n start len c is colour 0 c.colour is.shaped.colour k out);
}

pub decommit_law : DecommitChangesItsPages
decommit_law n start len c is =
    let ys : List ℕ = slice_range c.origin start (start + len) in
    let some : length (slice_range c.origin start (start + len)) ≡ len = omega (arith, is.inside, is.shaped.origin, length-range c.origin start (start + len) (omega (arith, is.inside, is.shaped.origin))) in
    record {
      within = λ k is_in. same_page _ _ _ _ _ _ _ _ _ _
          refl
          (bytes_in n start len c is (slice_range c.origin start (start + len)) c.bytes some is.shaped.bytes k is_in
          ∙ sym (bytes_in n start len c is (slice_range c.origin start (start + len)) c.origin some is.shaped.origin k is_in)
          ∙ ap (λ xs. slice_range xs (k * c.page) (k * c.page + c.page)) (put_range c.origin start (start + len) (omega arith) (omega (arith, is.inside, is.shaped.origin))))
          refl
          (mark_in n start len c is false true c.dirty is.shaped.dirty k is_in)
          refl;
      others = λ k below out. same_page _ _ _ _ _ _ _ _ _ _
          refl
          (bytes_out n start len c is (slice_range c.origin start (start + len)) c.bytes some is.shaped.bytes k below out)
          refl
          (mark_out n start len c is false true c.dirty is.shaped.dirty k out)
          refl;
    }

-- Bytes that are written.
module _ (n start : ℕ) (new : List ℕ) (c : Contents) (positive : 0 < c.page) (shaped : IsShaped c.page n c) (fits : start + length new ≤ n) where
  touched_from : (k : ℕ) → IsTouched start (length new) c.page k → start / c.page ≤ k
  touched_from k is =
      elim (cases_lt k (start / c.page)) [
        | inl below ↦ absurd (omega (arith, page_before c.page start k below, is.above))
        | inr from ↦ from
      ]

  touched_below : (k : ℕ) → IsTouched start (length new) c.page k → k < start / c.page + touched c.page start (length new)
  touched_below k is =
      elim (cases_lt k (start / c.page + touched c.page start (length new))) [
        | inl below ↦ below
        | inr from ↦ absurd (omega (arith, touched_above c.page start (length new) k positive is.some from, is.below))
      ]

  room : start / c.page + touched c.page start (length new) ≤ length c.dirty
  room = omega (arith, touched_fit c.page start (length new) n positive shaped.whole fits, shaped.dirty)

  -- a touched page, with what falls on it
  page_put : (k : ℕ) → IsTouched start (length new) c.page k → slice_range (put start new c.bytes) (k * c.page) (k * c.page + c.page) ≡ put (start - k * c.page) (slice_range new (k * c.page - start) (min (length new) (k * c.page + c.page - start))) (page_bytes k c)
  page_put k is =
      let marked : k < n / c.page = omega (arith, touched_below k is, room, shaped.dirty) in
      let end : k * c.page + c.page ≤ length c.bytes = omega (arith, shaped.bytes, page_before c.page n k marked) in
      let whole_fits : start + length new ≤ length c.bytes = omega (arith, shaped.bytes) in
      let long : length (put start new c.bytes) ≡ length c.bytes = length-put start new c.bytes whole_fits in
      let old : length (page_bytes k c) ≡ c.page = omega (arith, length-range c.bytes (k * c.page) (k * c.page + c.page) end) in
      let i : ℕ = k * c.page - start in
      let part : length (slice_range new (k * c.page - start) (min (length new) (k * c.page + c.page - start))) ≡ min (length new) (k * c.page + c.page - start) - (k * c.page - start) = length-range new (k * c.page - start) (min (length new) (k * c.page + c.page - start)) (omega arith) in
      let inner : start - k * c.page + length (slice_range new (k * c.page - start) (min (length new) (k * c.page + c.page - start))) ≤ length (page_bytes k c) = omega (arith, is.below, is.above) in
      let from : start - k * c.page ≤ length (page_bytes k c) = omega (arith, is.above) in
      let left : length (slice_range (put start new c.bytes) (k * c.page) (k * c.page + c.page)) ≡ c.page = omega (arith, length-range (put start new c.bytes) (k * c.page) (k * c.page + c.page) (omega arith)) in
      same_lists (slice_range (put start new c.bytes) (k * c.page) (k * c.page + c.page)) (put (start - k * c.page) (slice_range new (k * c.page - start) (min (length new) (k * c.page + c.page - start))) (page_bytes k c))
      (left ∙ sym (length-put (start - k * c.page) (slice_range new (k * c.page - start) (min (length new) (k * c.page + c.page - start))) (page_bytes k c) inner ∙ old))
      (λ j d under.
      let below : j < c.page = omega arith in
      get_or-range (put start new c.bytes) (k * c.page) (k * c.page + c.page) j d (omega arith)
      ∙ elim (cases_lt (k * c.page + j) start) [
        | inl before ↦
            get_or-put_below start new c.bytes (k * c.page + j) d (omega arith) before
            ∙ sym (get_or-range c.bytes (k * c.page) (k * c.page + c.page) j d (omega arith))
            ∙ sym (get_or-put_below (start - k * c.page) (slice_range new (k * c.page - start) (min (length new) (k * c.page + c.page - start))) (page_bytes k c) j d from (omega arith))
        | inr past ↦ elim (cases_lt (k * c.page + j) (start + length new)) [
          | inl inside ↦
              let place : k * c.page + j - start ≡ k * c.page - start + (j - (start - k * c.page)) = omega arith in
              get_or-put_in start new c.bytes (k * c.page + j) d (omega arith) past inside
              ∙ ap (λ m. get_or new m d) place
              ∙ sym (get_or-range new (k * c.page - start) (min (length new) (k * c.page + c.page - start)) (j - (start - k * c.page)) d (omega arith))
              ∙ sym (get_or-put_in (start - k * c.page) (slice_range new (k * c.page - start) (min (length new) (k * c.page + c.page - start))) (page_bytes k c) j d from (omega arith) (omega arith))
          | inr above ↦
              get_or-put_above start new c.bytes (k * c.page + j) d (omega arith) above
              ∙ sym (get_or-range c.bytes (k * c.page) (k * c.page + c.page) j d (omega arith))
              ∙ sym (get_or-put_above (start - k * c.page) (slice_range new (k * c.page - start) (min (length new) (k * c.page + c.page - start))) (page_bytes k c) j d from (omega arith))
        ]
      ])

  untouched_out : (k : ℕ) → (IsTouched start (length new) c.page k → ⊥) → (k < start / c.page) ⊎ (start / c.page + touched c.page start (length new) ≤ k)
  untouched_out k out =
      elim (cases_lt k (start / c.page)) [
        | inl below ↦ inl below
        | inr from ↦ elim (cases_lt k (start / c.page + touched c.page start (length new))) [
          | inr past ↦ inr past
          | inl within ↦ elim (cases_lt 0 (length new)) [
            | inr none ↦
                let nothing : length new ≡ 0 = omega arith in
                let no : touched c.page start (length new) ≡ 0 = rw nothing refl in
                absurd (omega arith)
            | inl some ↦
                let last : k ≤ (start + length new - 1) / c.page = omega (arith, touched_some c.page start (length new) positive some) in
                absurd (out (record {
                  some = some;
                  below = omega (arith, mul-le-mul_right c.page last, div-mul-le_self (start + length new - 1) c.page);
                  above = omega (arith, mul-le-mul_left c.page from, lt-mul-div-succ start positive);
                }))
          ]
        ]
      ]

pub write_law : WriteChangesItsPages
write_law n start new c positive shaped fits = record {
  within = λ k is. same_page _ _ _ _ _ _ _ _ _ _
      refl (page_put n start new c positive shaped fits k is) refl
      (get_or-put_all_in (start / c.page) (touched c.page start (length new)) true c.dirty k true (room n start new c positive shaped fits) (touched_from n start new c positive shaped fits k is) (touched_below n start new c positive shaped fits k is))
      refl;
  others = λ k below out. same_page _ _ _ _ _ _ _ _ _ _
      refl
      (untouched n start new c positive shaped fits k (omega (arith, shaped.accessible)) (untouched_out n start new c positive shaped fits k out))
      refl
      (get_or-put_all_out (start / c.page) (touched c.page start (length new)) true c.dirty k true (room n start new c positive shaped fits) (untouched_out n start new c positive shaped fits k out))
      refl;
}

-- what a page goes back to of a range, cut out of the range or out of the page
same_part : (n start len : ℕ) (c : Contents) → 0 < c.page → IsShaped c.page n c → start + len ≤ n → (k : ℕ) → IsTouched start len c.page k → slice_range (slice_range c.origin start (start + len)) (k * c.page - start) (min len (k * c.page + c.page - start)) ≡ slice_range (page_origin k c) (start - k * c.page) (min c.page (start + len - k * c.page))
same_part n start len c positive shaped fits k is =
    let all : length c.origin ≡ n = shaped.origin in
    let end : k * c.page + c.page ≤ n = page_below k n c.page shaped.whole (omega (arith, is.below)) in
    let first : start + (k * c.page - start) ≡ k * c.page + (start - k * c.page) = omega arith in
    let last : start + min len (k * c.page + c.page - start) ≡ k * c.page + min c.page (start + len - k * c.page) = omega (arith, is.some, is.below, is.above) in
    range_range c.origin start (start + len) (k * c.page - start) (min len (k * c.page + c.page - start)) (omega arith)
    ∙ ap (λ i. slice_range c.origin i (start + min len (k * c.page + c.page - start))) first
    ∙ ap (λ j. slice_range c.origin (k * c.page + (start - k * c.page)) j) last
    ∙ sym (range_range c.origin (k * c.page) (k * c.page + c.page) (start - k * c.page) (min c.page (start + len - k * c.page)) (omega arith))

pub restore_law : RestoreChangesItsPages
restore_law n start len c positive shaped fits =
    let ys : List ℕ = slice_range c.origin start (start + len) in
    let long : length (slice_range c.origin start (start + len)) ≡ len = omega (arith, shaped.origin, length-range c.origin start (start + len) (omega (arith, shaped.origin))) in
    let law = write_law n start (slice_range c.origin start (start + len)) c positive shaped (omega arith) in
    record {
      within = λ k is.
          let touches : IsTouched start (length (slice_range c.origin start (start + len))) c.page k = record { some = omega (arith, is.some); below = omega (arith, is.below); above = is.above } in
          let part : slice_range (slice_range c.origin start (start + len)) (k * c.page - start) (min (length (slice_range c.origin start (start + len))) (k * c.page + c.page - start)) ≡ slice_range (page_origin k c) (start - k * c.page) (min c.page (start + len - k * c.page)) =
          ap (λ m. slice_range (slice_range c.origin start (start + len)) (k * c.page - start) (min m (k * c.page + c.page - start))) long
          ∙ same_part n start len c positive shaped fits k is in
          law.within k touches
          ∙ ap (λ zs. record (page_at k c) { bytes = put (start - k * c.page) zs (page_bytes k c); dirty = true }) part;
      others = λ k below out. law.others k below (λ is. out (record { some = omega (arith, is.some); below = omega (arith, is.below); above = is.above }));
    }

mapped_alike : (behaviour : DecommitBehavior) (start : ℕ) (image : List ℕ) → MarksAlike (mapping behaviour start image)
mapped_alike RestoreOriginalMapping start image c = refl
mapped_alike Zero start image c = refl

pub marks_law : CallsMarkAlike
marks_law = record {
  expose = λ start len c. refl;
  hide = λ start len c. refl;
  map_image = mapped_alike;
  remap_zeros = λ start len c. refl;
  erase = λ start len c. refl;
  recolour = λ start len colour c. refl;
  decommit = λ start len c. refl;
  write = λ start new c. refl;
  restore = λ start len c fits.
      let long : length (slice_range c.origin start (start + len)) ≡ len = omega (arith, length-range c.origin start (start + len) fits) in
      ap (λ (n : ℕ). touched_marked start n c.page c.dirty) long;
}

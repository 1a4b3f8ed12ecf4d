-- What each call leaves of a region is the columns of a region again.
use Rattle.std.proofs.Common.{◌≡◌, ℕ, ◌+◌, ◌-◌, ◌*◌, ◌/◌, ◌%◌, ◌<◌, ◌≤◌, ◌⊎◌, Bool, true, false, List, [], length, get_or, replicate, refl, sym, ap, ◌∙◌, arith, inl, inr, slice_range}
use Rattle.pool_pages.proofs.Imports.{length-replicate, get_or-replicate, nil_from_length, cases_lt, cases_eq}
use Rattle.pool_pages.specs.Contents.{Contents, put, put_all, touched, decommitted, written, page_bytes, page_origin, IsShaped}
use Rattle.pool_pages.proofs.PageNumbers.{page_before, page_from, page_above, page_inside, marks_fit, touched_fit, touched_above}
use Rattle.pool_pages.proofs.Puts.{length-put, get_or-put_below, get_or-put_in, get_or-put_above, length-range, range-put_below, range-put_above, range-put_in, put_empty, put_range}

module _ {X : Type 0} where
  pub length-put_all : (i n : ℕ) (x : X) (xs : List X) → i + n ≤ length xs → length (put_all i n x xs) ≡ length xs
  length-put_all i n x xs fits = length-put i (replicate n x) xs (omega (arith, length-replicate n x))

  pub get_or-put_all_in : (i n : ℕ) (x : X) (xs : List X) (k : ℕ) (d : X) → i + n ≤ length xs → i ≤ k → k < i + n → get_or (put_all i n x xs) k d ≡ x
  get_or-put_all_in i n x xs k d fits from below =
      get_or-put_in i (replicate n x) xs k d (omega arith) from (omega (arith, length-replicate n x))
      ∙ get_or-replicate n (k - i) x d (omega arith)

  pub get_or-put_all_out : (i n : ℕ) (x : X) (xs : List X) (k : ℕ) (d : X) → i + n ≤ length xs → (k < i) ⊎ (i + n ≤ k) → get_or (put_all i n x xs) k d ≡ get_or xs k d
  get_or-put_all_out i n x xs k d fits out =
      elim out [
        | inl below ↦ get_or-put_below i (replicate n x) xs k d (omega arith) below
        | inr above ↦ get_or-put_above i (replicate n x) xs k d (omega arith) (omega (arith, length-replicate n x))
      ]

-- A range of pages is unchanged by a list put where none of it lies.
pub range_outside : (i : ℕ) (ys xs : List ℕ) (a b : ℕ) → i + length ys ≤ length xs → b ≤ length xs → (b ≤ i) ⊎ (i + length ys ≤ a) → slice_range (put i ys xs) a b ≡ slice_range xs a b
range_outside i ys xs a b fits inside out =
    elim out [
      | inl below ↦ range-put_below i ys xs a b fits below
      | inr above ↦ range-put_above i ys xs a b fits inside above
    ]

-- Pages that aren't dirty hold their origin after marks from f on were set, if those of the marks do that are clean
-- now, and the others stay.
pub clean_after : (pages f n : ℕ) (v : Bool) (dirty : List Bool) (bytes origin new_bytes new_origin : ℕ → List ℕ) → length dirty ≡ pages → f + n ≤ pages → ((k : ℕ) → k < pages → get_or dirty k true ≡ false → bytes k ≡ origin k) → ((k : ℕ) → f ≤ k → k < f + n → v ≡ false → new_bytes k ≡ new_origin k) → ((k : ℕ) → k < pages → (k < f) ⊎ (f + n ≤ k) → (new_bytes k ≡ bytes k) × (new_origin k ≡ origin k)) → (k : ℕ) → k < pages → get_or (put_all f n v dirty) k true ≡ false → new_bytes k ≡ new_origin k
clean_after pages f n v dirty bytes origin new_bytes new_origin long fits old inside outside k below clean =
    let room : f + n ≤ length dirty = omega arith in
    let out : (k < f) ⊎ (f + n ≤ k) → new_bytes k ≡ new_origin k =
    λ o. let same = outside k below o in
    same.0 ∙ old k below (sym (get_or-put_all_out f n v dirty k true room o) ∙ clean) ∙ sym same.1 in
    elim (cases_lt k f) [
      | inl first ↦ out (inl first)
      | inr from ↦ elim (cases_lt k (f + n)) [
        | inl within ↦ inside k from within (sym (get_or-put_all_in f n v dirty k true room from within) ∙ clean)
        | inr past ↦ out (inr past)
      ]
    ]

-- a page outside a range of whole pages lies below it or past it
pub page_outside : (page start n k : ℕ) → start % page ≡ 0 → n % page ≡ 0 → (k < start / page) ⊎ (start / page + n / page ≤ k) → (k * page + page ≤ start) ⊎ (start + n ≤ k * page)
page_outside page start n k whole_start whole_n out =
    elim out [
      | inl below ↦ inl (page_before page start k below)
      | inr above ↦ inr (page_above page start n k whole_start whole_n above)
    ]

-- a page that bytes don't touch stays where they are put
pub untouched : (len start : ℕ) (ys : List ℕ) (c : Contents) → 0 < c.page → IsShaped c.page len c → start + length ys ≤ len → (k : ℕ) → k < len / c.page → (k < start / c.page) ⊎ (start / c.page + touched c.page start (length ys) ≤ k) → slice_range (put start ys c.bytes) (k * c.page) (k * c.page + c.page) ≡ page_bytes k c
untouched len start ys c positive shaped fits k below out =
    elim (cases_eq (length ys) 0) [
      | inl none ↦
          let nothing : ys ≡ [] = nil_from_length ys none in
          ap (λ zs. slice_range (put start zs c.bytes) (k * c.page) (k * c.page + c.page)) nothing
          ∙ ap (λ xs. slice_range xs (k * c.page) (k * c.page + c.page)) (put_empty start c.bytes)
      | inr some ↦
          range_outside start ys c.bytes (k * c.page) (k * c.page + c.page) (omega (arith, shaped.bytes)) (omega (arith, shaped.bytes, page_before c.page len k below))
          (elim out [
            | inl before ↦ inl (page_before c.page start k before)
            | inr past ↦ inr (touched_above c.page start (length ys) k positive (omega arith) past)
          ])
    ]

module _ (len start n : ℕ) (c : Contents) (positive : 0 < c.page) (shaped : IsShaped c.page len c) (whole_start : start % c.page ≡ 0) (whole_n : n % c.page ≡ 0) (fits : start + n ≤ len) where
  abbrev pub first : ℕ
  first = start / c.page

  abbrev pub count : ℕ
  count = n / c.page

  pub pages_fit : first + count ≤ len / c.page
  pages_fit = marks_fit c.page start n len positive whole_start whole_n shaped.whole fits

  -- marks of the range set, in a column that is as long as the region
  marks_long : {X : Type 0} (v : X) (xs : List X) → length xs ≡ len / c.page → length (put_all first count v xs) ≡ len / c.page
  marks_long v xs long = length-put_all first count v xs (omega (arith, pages_fit, long)) ∙ long

  -- a page outside the range stays where a list is put into the range
  pub column_outside : (ys xs : List ℕ) → length ys ≡ n → length xs ≡ len → (k : ℕ) → k < len / c.page → (k < first) ⊎ (first + count ≤ k) → slice_range (put start ys xs) (k * c.page) (k * c.page + c.page) ≡ slice_range xs (k * c.page) (k * c.page + c.page)
  column_outside ys xs long whole_column k below out =
      range_outside start ys xs (k * c.page) (k * c.page + c.page) (omega arith) (omega (arith, page_before c.page len k below))
      (elim (page_outside c.page start n k whole_start whole_n out) [ inl before ↦ inl before | inr past ↦ inr (omega arith) ])

  -- a page of the range where a list is put into the range
  pub column_inside : (ys xs : List ℕ) → length ys ≡ n → length xs ≡ len → (k : ℕ) → first ≤ k → k < first + count → slice_range (put start ys xs) (k * c.page) (k * c.page + c.page) ≡ slice_range ys (k * c.page - start) (k * c.page + c.page - start)
  column_inside ys xs long whole_column k from below =
      range-put_in start ys xs (k * c.page) (k * c.page + c.page) (omega arith)
      (page_from c.page start k whole_start from)
      (omega (arith, page_inside c.page start n k whole_start whole_n below))

  pub access_shaped : (v : Bool) → IsShaped c.page len (record c { accessible = put_all first count v c.accessible })
  access_shaped v = record {
    same_page = refl;
    whole = shaped.whole;
    bytes = shaped.bytes;
    origin = shaped.origin;
    accessible = marks_long v c.accessible shaped.accessible;
    dirty = shaped.dirty;
    colour = shaped.colour;
    clean = shaped.clean;
  }

  pub colour_shaped : (x : ℕ) → IsShaped c.page len (record c { colour = put_all first count x c.colour })
  colour_shaped x = record {
    same_page = refl;
    whole = shaped.whole;
    bytes = shaped.bytes;
    origin = shaped.origin;
    accessible = shaped.accessible;
    dirty = shaped.dirty;
    colour = marks_long x c.colour shaped.colour;
    clean = shaped.clean;
  }

  -- the same list is put into the bytes and into what they go back to
  pub replaced_shaped : (ys : List ℕ) (v : Bool) → length ys ≡ n → IsShaped c.page len (record c { bytes = put start ys c.bytes; origin = put start ys c.origin; accessible = put_all first count v c.accessible; dirty = put_all first count false c.dirty; colour = put_all first count 0 c.colour })
  replaced_shaped ys v long = record {
    same_page = refl;
    whole = shaped.whole;
    bytes = length-put start ys c.bytes (omega (arith, shaped.bytes)) ∙ shaped.bytes;
    origin = length-put start ys c.origin (omega (arith, shaped.origin)) ∙ shaped.origin;
    accessible = marks_long v c.accessible shaped.accessible;
    dirty = marks_long false c.dirty shaped.dirty;
    colour = marks_long 0 c.colour shaped.colour;
    clean = clean_after (len / c.page) first count false c.dirty (λ k. page_bytes k c) (λ k. page_origin k c)
        (λ k. slice_range (put start ys c.bytes) (k * c.page) (k * c.page + c.page))
        (λ k. slice_range (put start ys c.origin) (k * c.page) (k * c.page + c.page))
        shaped.dirty pages_fit shaped.clean
        (λ k from within no. column_inside ys c.bytes long shaped.bytes k from within ∙ sym (column_inside ys c.origin long shaped.origin k from within))
        (λ k below out. (column_outside ys c.bytes long shaped.bytes k below out, column_outside ys c.origin long shaped.origin k below out));
  }

  -- a list is put into the bytes, and the pages are dirty
  pub copied_shaped : (ys : List ℕ) (v : Bool) → length ys ≡ n → IsShaped c.page len (record c { bytes = put start ys c.bytes; accessible = put_all first count v c.accessible; dirty = put_all first count true c.dirty; colour = put_all first count 0 c.colour })
  copied_shaped ys v long = record {
    same_page = refl;
    whole = shaped.whole;
    bytes = length-put start ys c.bytes (omega (arith, shaped.bytes)) ∙ shaped.bytes;
    origin = shaped.origin;
    accessible = marks_long v c.accessible shaped.accessible;
    dirty = marks_long true c.dirty shaped.dirty;
    colour = marks_long 0 c.colour shaped.colour;
    clean = clean_after (len / c.page) first count true c.dirty (λ k. page_bytes k c) (λ k. page_origin k c)
        (λ k. slice_range (put start ys c.bytes) (k * c.page) (k * c.page + c.page))
        (λ k. page_origin k c)
        shaped.dirty pages_fit shaped.clean
        (λ k from within no. cc)
        (λ k below out. (column_outside ys c.bytes long shaped.bytes k below out, refl));
  }

  pub decommitted_shaped : IsShaped c.page len (decommitted start n c)
  decommitted_shaped =
      let ys : List ℕ = slice_range c.origin start (start + n) in
      let long : length (slice_range c.origin start (start + n)) ≡ n = omega (arith, length-range c.origin start (start + n) (omega (arith, shaped.origin))) in
      record {
        same_page = refl;
        whole = shaped.whole;
        bytes = length-put start (slice_range c.origin start (start + n)) c.bytes (omega (arith, shaped.bytes)) ∙ shaped.bytes;
        origin = shaped.origin;
        accessible = shaped.accessible;
        dirty = marks_long false c.dirty shaped.dirty;
        colour = shaped.colour;
        clean = clean_after (len / c.page) first count false c.dirty (λ k. page_bytes k c) (λ k. page_origin k c)
            (λ k. slice_range (put start (slice_range c.origin start (start + n)) c.bytes) (k * c.page) (k * c.page + c.page))
            (λ k. page_origin k c)
            shaped.dirty pages_fit shaped.clean
            (λ k from within no.
            column_inside (slice_range c.origin start (start + n)) c.bytes long shaped.bytes k from within
            ∙ sym (column_inside (slice_range c.origin start (start + n)) c.origin long shaped.origin k from within)
            ∙ ap (λ xs. slice_range xs (k * c.page) (k * c.page + c.page)) (put_range c.origin start (start + n) (omega arith) (omega (arith, shaped.origin))))
            (λ k below out. (column_outside (slice_range c.origin start (start + n)) c.bytes long shaped.bytes k below out, refl));
      }

-- bytes that are no whole pages are put, and the pages that they touch are dirty
pub written_shaped : (len start : ℕ) (ys : List ℕ) (c : Contents) → 0 < c.page → IsShaped c.page len c → start + length ys ≤ len → IsShaped c.page len (written start ys c)
written_shaped len start ys c positive shaped fits =
    let room : start / c.page + touched c.page start (length ys) ≤ len / c.page = touched_fit c.page start (length ys) len positive shaped.whole fits in
    record {
      same_page = refl;
      whole = shaped.whole;
      bytes = length-put start ys c.bytes (omega (arith, shaped.bytes)) ∙ shaped.bytes;
      origin = shaped.origin;
      accessible = shaped.accessible;
      dirty = length-put_all (start / c.page) (touched c.page start (length ys)) true c.dirty (omega (arith, shaped.dirty)) ∙ shaped.dirty;
      colour = shaped.colour;
      clean = clean_after (len / c.page) (start / c.page) (touched c.page start (length ys)) true c.dirty (λ k. page_bytes k c) (λ k. page_origin k c)
          (λ k. slice_range (put start ys c.bytes) (k * c.page) (k * c.page + c.page))
          (λ k. page_origin k c)
          shaped.dirty room shaped.clean
          (λ k from within no. cc)
          (λ k below out. (untouched len start ys c positive shaped fits k below out, refl));
    }

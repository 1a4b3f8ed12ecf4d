-- What the calls on dense pages make of their columns: pages whose columns have these values are those of a region
-- again, and are what the call is to leave.
use Rattle.std.proofs.Common.{◌≡◌, ℕ, ◌+◌, ◌-◌, ◌*◌, ◌/◌, ◌%◌, ◌<◌, ◌≤◌, Bool, true, false, List, ◌++◌, length, drop, replicate, refl, sym, ap, subst, ◌∙◌, arith, slice_range}
use Rattle.pool_pages.proofs.Imports.{zero-div, zero-mod, length-replicate, length-append, drop-replicate, IsPageSize, whole}
use Rattle.pool_pages.specs.Contents.{Contents, put, put_all, touched, decommitted, written, IsShaped}
use Rattle.pool_pages.specs.Dense.{dense}
use Rattle.pool_pages.specs.MakerTold.{fresh}
use Rattle.pool_pages.proofs.PageNumbers.{marks_fit}
use Rattle.pool_pages.proofs.Puts.{length-put, length-range}
use Rattle.pool_pages.proofs.Shapes.{access_shaped, colour_shaped, replaced_shaped, copied_shaped, decommitted_shaped, written_shaped}

-- columns that are equal one by one
pub same_columns : (page : ℕ) (b c o p : List ℕ) (a e d f : List Bool) (x y : List ℕ) → b ≡ c → o ≡ p → a ≡ e → d ≡ f → x ≡ y → dense page b o a d x ≡ dense page c p e f y
same_columns page b c o p a e d f x y bytes origin accessible dirty colour =
    ap (λ z. dense page z o a d x) bytes
    ∙ ap (λ z. dense page c z a d x) origin
    ∙ ap (λ z. dense page c p z d x) accessible
    ∙ ap (λ z. dense page c p e z x) dirty
    ∙ ap (λ z. dense page c p e f z) colour

-- The columns as they were, what they are a region of, and the page as the code reads it.
module _ (page q : ℕ) (bytes origin : List ℕ) (accessible dirty : List Bool) (colour : List ℕ) (v : Contents) (same : q ≡ page) (is : dense page bytes origin accessible dirty colour ≡ v) (ok : IsShaped page (length bytes) (dense page bytes origin accessible dirty colour)) (size : IsPageSize page) where
  abbrev old : Contents
  old = dense page bytes origin accessible dirty colour

  pub positive : 0 < page
  positive = omega (arith, size.at_least)

  -- columns of a region again
  abbrev again : (bytes' origin' : List ℕ) (accessible' dirty' : List Bool) (colour' : List ℕ) (c : Contents) → dense page bytes' origin' accessible' dirty' colour' ≡ c → length bytes' ≡ length bytes → IsShaped page (length bytes) c → IsShaped page (length bytes') (dense page bytes' origin' accessible' dirty' colour')
  again bytes' origin' accessible' dirty' colour' c eq long shaped =
      subst (λ n. IsShaped page n (dense page bytes' origin' accessible' dirty' colour')) (sym long) (subst (λ x. IsShaped page (length bytes) x) (sym eq) shaped)

  pub written_again : (start n count : ℕ) (ys bytes' : List ℕ) (dirty' : List Bool) → length ys ≡ n → start + n ≤ length v.bytes → count ≡ touched q start n → bytes' ≡ put start ys bytes → dirty' ≡ put_all (start / q) count true dirty → IsShaped page (length bytes') (dense page bytes' origin accessible dirty' colour)
  written_again start n count ys bytes' dirty' long inside touches bytes_is dirty_is =
      let fits : start + length ys ≤ length bytes = omega (arith, ap (λ x. length x.bytes) is) in
      let marks : dirty' ≡ put_all (start / page) (touched page start (length ys)) true dirty =
      dirty_is
      ∙ ap (λ m. put_all (start / q) m true dirty) touches
      ∙ ap (λ p. put_all (start / p) (touched p start n) true dirty) same
      ∙ ap (λ m. put_all (start / page) (touched page start m) true dirty) (sym long) in
      again bytes' origin accessible dirty' colour (written start ys old)
      (same_columns page bytes' (put start ys bytes) origin origin accessible accessible dirty' (put_all (start / page) (touched page start (length ys)) true dirty) colour colour
      bytes_is refl refl marks refl)
      (ap length bytes_is ∙ length-put start ys bytes fits)
      (written_shaped (length bytes) start ys old positive ok fits)

  module _ (start n : ℕ) (whole_start : start % v.page ≡ 0) (whole_n : n % v.page ≡ 0) (inside : start + n ≤ length v.bytes) where
    abbrev in_start : start % page ≡ 0
    in_start = ap (λ x. start % x.page) is ∙ whole_start

    abbrev in_n : n % page ≡ 0
    in_n = ap (λ x. n % x.page) is ∙ whole_n

    pub fits_in : start + n ≤ length bytes
    fits_in = omega (arith, ap (λ x. length x.bytes) is)

    -- each column of marks has those of the range
    pub range_fits : (start / q + n / q ≤ length accessible) × (start / q + n / q ≤ length dirty) × (start / q + n / q ≤ length colour)
    range_fits =
        let first : start / q ≡ start / page = ap (λ p. start / p) same in
        let count : n / q ≡ n / page = ap (λ p. n / p) same in
        let fits : start / page + n / page ≤ length bytes / page = marks_fit page start n (length bytes) positive in_start in_n ok.whole fits_in in
        (omega (arith, ok.accessible), omega (arith, ok.dirty), omega (arith, ok.colour))

    abbrev at_page : {X : Type 0} (b : X) (xs xs' : List X) → xs' ≡ put_all (start / q) (n / q) b xs → xs' ≡ put_all (start / page) (n / page) b xs
    at_page b xs xs' e = e ∙ ap (λ p. put_all (start / p) (n / p) b xs) same

    pub access_again : (b : Bool) (accessible' : List Bool) → accessible' ≡ put_all (start / q) (n / q) b accessible → IsShaped page (length bytes) (dense page bytes origin accessible' dirty colour)
    access_again b accessible' e =
        again bytes origin accessible' dirty colour (record old { accessible = put_all (start / page) (n / page) b accessible })
        (same_columns page bytes bytes origin origin accessible' (put_all (start / page) (n / page) b accessible) dirty dirty colour colour
        refl refl (at_page b accessible accessible' e) refl refl)
        refl
        (access_shaped (length bytes) start n old positive ok in_start in_n fits_in b)

    pub colour_again : (x : ℕ) (colour' : List ℕ) → colour' ≡ put_all (start / q) (n / q) x colour → IsShaped page (length bytes) (dense page bytes origin accessible dirty colour')
    colour_again x colour' e =
        again bytes origin accessible dirty colour' (record old { colour = put_all (start / page) (n / page) x colour })
        (same_columns page bytes bytes origin origin accessible accessible dirty dirty colour' (put_all (start / page) (n / page) x colour)
        refl refl refl refl (at_page x colour colour' e))
        refl
        (colour_shaped (length bytes) start n old positive ok in_start in_n fits_in x)

    pub copied_again : (ys bytes' : List ℕ) (accessible' dirty' : List Bool) (colour' : List ℕ) → length ys ≡ n → bytes' ≡ put start ys bytes → accessible' ≡ put_all (start / q) (n / q) true accessible → dirty' ≡ put_all (start / q) (n / q) true dirty → colour' ≡ put_all (start / q) (n / q) 0 colour → IsShaped page (length bytes') (dense page bytes' origin accessible' dirty' colour')
    copied_again ys bytes' accessible' dirty' colour' long bytes_is accessible_is dirty_is colour_is =
        again bytes' origin accessible' dirty' colour'
        (record old { bytes = put start ys bytes; accessible = put_all (start / page) (n / page) true accessible; dirty = put_all (start / page) (n / page) true dirty; colour = put_all (start / page) (n / page) 0 colour })
        (same_columns page bytes' (put start ys bytes) origin origin accessible' (put_all (start / page) (n / page) true accessible) dirty' (put_all (start / page) (n / page) true dirty) colour' (put_all (start / page) (n / page) 0 colour)
        bytes_is refl (at_page true accessible accessible' accessible_is) (at_page true dirty dirty' dirty_is) (at_page 0 colour colour' colour_is))
        (ap length bytes_is ∙ length-put start ys bytes (omega (arith, fits_in)))
        (copied_shaped (length bytes) start n old positive ok in_start in_n fits_in ys true long)

    -- the same list in the bytes and in what they go back to
    pub replaced_again : (ys bytes' origin' : List ℕ) (b : Bool) (accessible' dirty' : List Bool) (colour' : List ℕ) → length ys ≡ n → bytes' ≡ put start ys bytes → origin' ≡ put start ys origin → accessible' ≡ put_all (start / q) (n / q) b accessible → dirty' ≡ put_all (start / q) (n / q) false dirty → colour' ≡ put_all (start / q) (n / q) 0 colour → IsShaped page (length bytes') (dense page bytes' origin' accessible' dirty' colour')
    replaced_again ys bytes' origin' b accessible' dirty' colour' long bytes_is origin_is accessible_is dirty_is colour_is =
        again bytes' origin' accessible' dirty' colour'
        (record old { bytes = put start ys bytes; origin = put start ys origin; accessible = put_all (start / page) (n / page) b accessible; dirty = put_all (start / page) (n / page) false dirty; colour = put_all (start / page) (n / page) 0 colour })
        (same_columns page bytes' (put start ys bytes) origin' (put start ys origin) accessible' (put_all (start / page) (n / page) b accessible) dirty' (put_all (start / page) (n / page) false dirty) colour' (put_all (start / page) (n / page) 0 colour)
        bytes_is origin_is (at_page b accessible accessible' accessible_is) (at_page false dirty dirty' dirty_is) (at_page 0 colour colour' colour_is))
        (ap length bytes_is ∙ length-put start ys bytes (omega (arith, fits_in)))
        (replaced_shaped (length bytes) start n old positive ok in_start in_n fits_in ys b long)

    -- pages set one after the other to their part of the column that they go back to
    pub run_is : (bytes' : List ℕ) → bytes' ≡ put (start / q * q) (slice_range origin (start / q * q) ((start / q + n / q) * q)) bytes → bytes' ≡ put start (slice_range origin start (start + n)) bytes
    run_is bytes' e =
        let from : start / page * page ≡ start = omega (arith, whole start page in_start) in
        let end : (start / page + n / page) * page ≡ start + n = omega (arith, whole start page in_start, whole n page in_n) in
        e
        ∙ ap (λ p. put (start / p * p) (slice_range origin (start / p * p) ((start / p + n / p) * p)) bytes) same
        ∙ ap (λ i. put i (slice_range origin i ((start / page + n / page) * page)) bytes) from
        ∙ ap (λ j. put start (slice_range origin start j) bytes) end

    pub decommitted_again : (bytes' : List ℕ) (dirty' : List Bool) → bytes' ≡ put (start / q * q) (slice_range origin (start / q * q) ((start / q + n / q) * q)) bytes → dirty' ≡ put_all (start / q) (n / q) false dirty → IsShaped page (length bytes') (dense page bytes' origin accessible dirty' colour)
    decommitted_again bytes' dirty' bytes_is dirty_is =
        let set : bytes' ≡ put start (slice_range origin start (start + n)) bytes = run_is bytes' bytes_is in
        let count : length (slice_range origin start (start + n)) ≡ n = omega (arith, fits_in, ok.origin, length-range origin start (start + n) (omega (arith, fits_in, ok.origin))) in
        again bytes' origin accessible dirty' colour (decommitted start n old)
        (same_columns page bytes' (put start (slice_range origin start (start + n)) bytes) origin origin accessible accessible dirty' (put_all (start / page) (n / page) false dirty) colour colour
        set refl refl (at_page false dirty dirty' dirty_is) refl)
        (ap length set ∙ length-put start (slice_range origin start (start + n)) bytes (omega (arith, fits_in)))
        (decommitted_shaped (length bytes) start n old positive ok in_start in_n fits_in)

-- a list stays as long as it is where another is put into it
pub put_long : (i : ℕ) (ys xs zs : List ℕ) → zs ≡ put i ys xs → i + length ys ≤ length xs → length zs ≡ length xs
put_long i ys xs zs is fits = ap length is ∙ length-put i ys xs fits

pub put_all_long : (i n x : ℕ) (xs zs : List ℕ) → zs ≡ put_all i n x xs → i + n ≤ length xs → length zs ≡ length xs
put_all_long i n x xs zs is fits = ap length is ∙ length-put i (replicate n x) xs (omega (arith, length-replicate n x))

-- the marks of the pages that can be reached, among those of all
pub fresh_marks : (m n : ℕ) (xs : List Bool) → m ≤ n → xs ≡ put_all 0 m true (replicate n false) → xs ≡ replicate m true ++ replicate (n - m) false
fresh_marks m n xs fits is =
    let count : length (replicate {A = Bool} m true) ≡ m = length-replicate m true in
    let place : 0 + length (replicate {A = Bool} m true) ≡ m = omega arith in
    is
    ∙ ap (λ k. replicate m true ++ drop k (replicate n false)) place
    ∙ ap (λ ys. replicate m true ++ ys) (drop-replicate m n false)

-- pages as made: they hold zeros, which is what they go back to
pub fresh_is : (page accessible len : ℕ) (bytes origin : List ℕ) (marks dirty : List Bool) (colour : List ℕ) → accessible / page ≤ len / page → bytes ≡ replicate len 0 → origin ≡ replicate len 0 → marks ≡ put_all 0 (accessible / page) true (replicate (len / page) false) → dirty ≡ replicate (len / page) false → colour ≡ replicate (len / page) 0 → dense page bytes origin marks dirty colour ≡ fresh page accessible len
fresh_is page accessible len bytes origin marks dirty colour fits bytes_is origin_is marks_are dirty_is colour_is =
    same_columns page bytes (replicate len 0) origin (replicate len 0) marks (replicate (accessible / page) true ++ replicate (len / page - accessible / page) false) dirty (replicate (len / page) false) colour (replicate (len / page) 0)
    bytes_is origin_is (fresh_marks (accessible / page) (len / page) marks fits marks_are) dirty_is colour_is

pub fresh_shaped : (page accessible len : ℕ) → accessible / page ≤ len / page → len % page ≡ 0 → IsShaped page len (fresh page accessible len)
fresh_shaped page accessible len fits is_whole = record {
  same_page = refl;
  whole = is_whole;
  bytes = length-replicate {A = ℕ} len 0;
  origin = length-replicate {A = ℕ} len 0;
  accessible = omega (arith, length-append (replicate {A = Bool} (accessible / page) true) (replicate (len / page - accessible / page) false), length-replicate {A = Bool} (accessible / page) true, length-replicate {A = Bool} (len / page - accessible / page) false);
  dirty = length-replicate {A = Bool} (len / page) false;
  colour = length-replicate {A = ℕ} (len / page) 0;
  clean = λ k below clean. refl;
}

fresh_fits : (page accessible len : ℕ) → 0 < page → accessible % page ≡ 0 → len % page ≡ 0 → accessible ≤ len → accessible / page ≤ len / page
fresh_fits page accessible len positive whole_accessible whole_len order =
    omega (arith, zero-div page, marks_fit page 0 accessible len positive (zero-mod page) whole_accessible whole_len (omega arith))

-- the same, as the code makes them: q is the page as it reads it
pub fresh_made : (page q accessible len : ℕ) (bytes origin : List ℕ) (marks falses dirty : List Bool) (colour : List ℕ) → q ≡ page → 0 < page → accessible % page ≡ 0 → len % page ≡ 0 → accessible ≤ len → bytes ≡ replicate len 0 → origin ≡ replicate len 0 → falses ≡ replicate (len / q) false → marks ≡ put_all 0 (accessible / q) true falses → dirty ≡ replicate (len / q) false → colour ≡ replicate (len / q) 0 → dense page bytes origin marks dirty colour ≡ fresh page accessible len
fresh_made page q accessible len bytes origin marks falses dirty colour same positive whole_accessible whole_len order bytes_is origin_is falses_are marks_are dirty_is colour_is =
    fresh_is page accessible len bytes origin marks dirty colour (fresh_fits page accessible len positive whole_accessible whole_len order) bytes_is origin_is
    (marks_are ∙ ap (λ xs. put_all 0 (accessible / q) true xs) falses_are ∙ ap (λ p. put_all 0 (accessible / p) true (replicate (len / p) false)) same)
    (dirty_is ∙ ap (λ p. replicate (len / p) false) same)
    (colour_is ∙ ap (λ p. replicate (len / p) 0) same)

-- and they are the columns of a region
pub fresh_again : (page q accessible len : ℕ) (bytes origin : List ℕ) (marks falses dirty : List Bool) (colour : List ℕ) → q ≡ page → 0 < page → accessible % page ≡ 0 → len % page ≡ 0 → accessible ≤ len → bytes ≡ replicate len 0 → origin ≡ replicate len 0 → falses ≡ replicate (len / q) false → marks ≡ put_all 0 (accessible / q) true falses → dirty ≡ replicate (len / q) false → colour ≡ replicate (len / q) 0 → IsShaped page (length bytes) (dense page bytes origin marks dirty colour)
fresh_again page q accessible len bytes origin marks falses dirty colour same positive whole_accessible whole_len order bytes_is origin_is falses_are marks_are dirty_is colour_is =
    let long : length bytes ≡ len = ap length bytes_is ∙ length-replicate {A = ℕ} len 0 in
    subst (λ n. IsShaped page n (dense page bytes origin marks dirty colour)) (sym long)
    (subst (λ x. IsShaped page len x)
    (sym (fresh_made page q accessible len bytes origin marks falses dirty colour same positive whole_accessible whole_len order bytes_is origin_is falses_are marks_are dirty_is colour_is))
    (fresh_shaped page accessible len (fresh_fits page accessible len positive whole_accessible whole_len order) whole_len))

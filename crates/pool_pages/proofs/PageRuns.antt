-- Pages set one after the other to their part of a column.
use Rattle.std.proofs.Common.{◌≡◌, ℕ, ◌+◌, ◌-◌, ◌*◌, ◌<◌, ◌≤◌, Bool, true, false, List, [], ◌∷◌, ◌++◌, length, get_or, set, take, drop, replicate, suc, sym, ap, ◌∙◌, arith, inl, inr, slice_range}
use Rattle.pool_pages.proofs.Imports.{mul-le-mul_right, length-replicate, length-append, get_or_append_left, get_or-append_right, replicate_more, set_split, same_lists, cases_lt}
use Rattle.pool_pages.specs.Contents.{put, put_all}
use Rattle.pool_pages.proofs.Puts.{length-put, length-range, get_or-range, range-put_above, get_or-put_above, put-put, put_range, put_empty}

module _ {X : Type 0} where
  -- two ranges side by side are one
  pub range_join : (xs : List X) (a b c : ℕ) → a ≤ b → b ≤ c → c ≤ length xs → slice_range xs a b ++ slice_range xs b c ≡ slice_range xs a c
  range_join xs a b c first second fits =
      let left : length (slice_range xs a b) ≡ b - a = length-range xs a b (omega arith) in
      let right : length (slice_range xs b c) ≡ c - b = length-range xs b c fits in
      let both : length (slice_range xs a b ++ slice_range xs b c) ≡ c - a = omega (arith, length-append (slice_range xs a b) (slice_range xs b c)) in
      same_lists (slice_range xs a b ++ slice_range xs b c) (slice_range xs a c) (both ∙ sym (length-range xs a c fits))
      (λ k d below. elim (cases_lt k (b - a)) [
        | inl within ↦
            get_or_append_left (slice_range xs a b) (slice_range xs b c) d k (omega arith)
            ∙ get_or-range xs a b k d within
            ∙ sym (get_or-range xs a c k d (omega arith))
        | inr past ↦
            let place : b + (k - (b - a)) ≡ a + k = omega arith in
            get_or-append_right (slice_range xs a b) (slice_range xs b c) (b - a) k d left past
            ∙ get_or-range xs b c (k - (b - a)) d (omega arith)
            ∙ ap (λ n. get_or xs n d) place
            ∙ sym (get_or-range xs a c k d (omega arith))
      ])

  -- an empty range put
  pub put_nothing : (i : ℕ) (ys xs : List X) → put i (slice_range ys i i) xs ≡ xs
  put_nothing i ys xs =
      let none : i - i ≡ 0 = omega arith in
      ap (λ n. put i (take n (drop i ys)) xs) none ∙ put_empty i xs

  -- what a range holds already, put there
  pub put_same : (i c : ℕ) (ys xs : List X) → i + c ≤ length xs → slice_range xs i (i + c) ≡ slice_range ys i (i + c) → xs ≡ put i (slice_range ys i (i + c)) xs
  put_same i c ys xs fits same =
      sym (ap (λ zs. put i zs xs) (sym same) ∙ put_range xs i (i + c) (omega arith) fits)

  -- one range more
  pub put_more : (a b c : ℕ) (ys xs : List X) → a ≤ b → b ≤ c → c ≤ length xs → length ys ≡ length xs → put b (slice_range ys b c) (put a (slice_range ys a b) xs) ≡ put a (slice_range ys a c) xs
  put_more a b c ys xs first second fits long =
      let left : length (slice_range ys a b) ≡ b - a = length-range ys a b (omega arith) in
      let right : length (slice_range ys b c) ≡ c - b = length-range ys b c (omega arith) in
      let place : b ≡ a + length (slice_range ys a b) = omega arith in
      ap (λ n. put n (slice_range ys b c) (put a (slice_range ys a b) xs)) place
      ∙ put-put a (slice_range ys a b) (slice_range ys b c) xs (omega arith) (omega arith)
      ∙ ap (λ zs. put a zs xs) (range_join ys a b c first second (omega arith))

  -- one mark more
  pub mark_more : (first k : ℕ) (v : X) (xs : List X) → first ≤ k → k < length xs → set (put_all first (k - first) v xs) k v ≡ put_all first (k + 1 - first) v xs
  mark_more first k v xs from below =
      let some : length (replicate (k - first) v) ≡ k - first = length-replicate (k - first) v in
      let long : length (put_all first (k - first) v xs) ≡ length xs = length-put first (replicate (k - first) v) xs (omega arith) in
      let place : k ≡ first + length (replicate (k - first) v) = omega arith in
      let next : suc k ≡ k + 1 = omega arith in
      let count : k - first + 1 ≡ k + 1 - first = omega arith in
      set_split (put_all first (k - first) v xs) k v (omega arith)
      ∙ ap (λ n. take k (put_all first (k - first) v xs) ++ v ∷ drop n (put_all first (k - first) v xs)) next
      ∙ ap (λ n. put n (v ∷ []) (put_all first (k - first) v xs)) place
      ∙ put-put first (replicate (k - first) v) (v ∷ []) xs (omega arith) (omega arith)
      ∙ ap (λ ys. put first ys xs) (replicate_more (k - first) v ∙ ap (λ n. replicate n v) count)

  -- no mark
  pub no_mark : (first : ℕ) (v : X) (xs : List X) → put_all first (first - first) v xs ≡ xs
  no_mark first v xs =
      let none : first - first ≡ 0 = omega arith in
      ap (λ n. put_all first n v xs) none ∙ put_empty first xs

-- the next page, and its mark, are as before
pub next_page : (page a b : ℕ) (ys xs : List ℕ) → a ≤ b → b + page ≤ length xs → length ys ≡ length xs → slice_range (put a (slice_range ys a b) xs) b (b + page) ≡ slice_range xs b (b + page)
next_page page a b ys xs order fits long =
    let some : length (slice_range ys a b) ≡ b - a = length-range ys a b (omega arith) in
    range-put_above a (slice_range ys a b) xs b (b + page) (omega arith) fits (omega arith)

pub next_mark : {X : Type 0} (first k : ℕ) (v : X) (xs : List X) (d : X) → first ≤ k → k < length xs → get_or (put_all first (k - first) v xs) k d ≡ get_or xs k d
next_mark first k v xs d from below =
    get_or-put_above first (replicate (k - first) v) xs k d (omega arith) (omega (arith, length-replicate (k - first) v))

-- Pages from first on were set to their part of a column ys, up to page k: xs is what bs became.
pub run_long : (page first k : ℕ) (ys bs xs : List ℕ) → first ≤ k → k * page ≤ length bs → length ys ≡ length bs → xs ≡ put (first * page) (slice_range ys (first * page) (k * page)) bs → length xs ≡ length bs
run_long page first k ys bs xs from fits long is =
    let some : length (slice_range ys (first * page) (k * page)) ≡ k * page - first * page = length-range ys (first * page) (k * page) (omega arith) in
    ap length is ∙ length-put (first * page) (slice_range ys (first * page) (k * page)) bs (omega (arith, mul-le-mul_right page from))

-- page k holds its part of the column, if it did before and its mark isn't set
pub run_clean : (page first k : ℕ) (ys bs xs : List ℕ) (ds es : List Bool) → first ≤ k → k * page + page ≤ length bs → k < length ds → length ys ≡ length bs → xs ≡ put (first * page) (slice_range ys (first * page) (k * page)) bs → es ≡ put_all first (k - first) false ds → (get_or ds k true ≡ false → slice_range bs (k * page) (k * page + page) ≡ slice_range ys (k * page) (k * page + page)) → get_or es k true ≡ false → slice_range xs (k * page) (k * page + page) ≡ slice_range ys (k * page) (k * page + page)
run_clean page first k ys bs xs ds es from fits below long is marks clean mark =
    let same : get_or ds k true ≡ false = sym (next_mark first k false ds true from below) ∙ ap (λ fs. get_or fs k true) (sym marks) ∙ mark in
    ap (λ zs. slice_range zs (k * page) (k * page + page)) is
    ∙ next_page page (first * page) (k * page) ys bs (mul-le-mul_right page from) fits long
    ∙ clean same

-- page k set too
pub run_more : (page first k : ℕ) (ys bs xs new : List ℕ) → first ≤ k → k * page + page ≤ length bs → length ys ≡ length bs → xs ≡ put (first * page) (slice_range ys (first * page) (k * page)) bs → new ≡ put (k * page) (slice_range ys (k * page) (k * page + page)) xs → new ≡ put (first * page) (slice_range ys (first * page) ((k + 1) * page)) bs
run_more page first k ys bs xs new from fits long is set =
    let end : k * page + page ≡ (k + 1) * page = omega arith in
    set
    ∙ ap (λ zs. put (k * page) (slice_range ys (k * page) (k * page + page)) zs) is
    ∙ put_more (first * page) (k * page) (k * page + page) ys bs (mul-le-mul_right page from) (omega arith) fits long
    ∙ ap (λ n. put (first * page) (slice_range ys (first * page) n) bs) end

-- the next page of a run lies inside
pub run_end : (page end k n : ℕ) → end * page ≤ n → k < end → k * page + page ≤ n
run_end page end k n fits below =
    let more : k + 1 ≤ end = omega arith in
    omega (arith, mul-le-mul_right page more)

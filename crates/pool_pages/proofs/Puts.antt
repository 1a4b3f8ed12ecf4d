-- Lists with others put into them, and ranges of lists: elements, lengths, and what a range shows of a change.
use Rattle.std.proofs.Common.{◌≡◌, ℕ, ◌+◌, ◌-◌, ◌*◌, ◌/◌, ◌%◌, ◌<◌, ◌≤◌, List, [], ◌++◌, length, get_or, take, drop, refl, sym, ap, ◌∙◌, arith, inl, inr, slice_range}
use Rattle.pool_pages.proofs.Imports.{length-take, length-drop, length-append, length-take-le, take-append-drop, get_or_append_left, get_or-append_right, get_or-take, get_or-drop, same_lists, take_all, cases_lt, page_of, page_within}
use Rattle.pool_pages.specs.Contents.{put}

module _ {X : Type 0} where
  pub length-put : (i : ℕ) (ys xs : List X) → i + length ys ≤ length xs → length (put i ys xs) ≡ length xs
  length-put i ys xs fits =
      omega (arith, length-append (take i xs) (ys ++ drop (i + length ys) xs), length-append ys (drop (i + length ys) xs), length-drop (i + length ys) xs, length-take-le i xs (omega arith))

  pub get_or-put_below : (i : ℕ) (ys xs : List X) (k : ℕ) (d : X) → i ≤ length xs → k < i → get_or (put i ys xs) k d ≡ get_or xs k d
  get_or-put_below i ys xs k d fits below =
      get_or_append_left (take i xs) (ys ++ drop (i + length ys) xs) d k (omega (arith, length-take-le i xs fits))
      ∙ get_or-take i xs k d below

  pub get_or-put_in : (i : ℕ) (ys xs : List X) (k : ℕ) (d : X) → i ≤ length xs → i ≤ k → k < i + length ys → get_or (put i ys xs) k d ≡ get_or ys (k - i) d
  get_or-put_in i ys xs k d fits from below =
      get_or-append_right (take i xs) (ys ++ drop (i + length ys) xs) i k d (length-take-le i xs fits) from
      ∙ get_or_append_left ys (drop (i + length ys) xs) d (k - i) (omega arith)

  pub get_or-put_above : (i : ℕ) (ys xs : List X) (k : ℕ) (d : X) → i ≤ length xs → i + length ys ≤ k → get_or (put i ys xs) k d ≡ get_or xs k d
  get_or-put_above i ys xs k d fits from =
      let place : i + length ys + (k - i - length ys) ≡ k = omega arith in
      get_or-append_right (take i xs) (ys ++ drop (i + length ys) xs) i k d (length-take-le i xs fits) (omega arith)
      ∙ get_or-append_right ys (drop (i + length ys) xs) (length ys) (k - i) d refl (omega arith)
      ∙ get_or-drop (i + length ys) xs (k - i - length ys) d
      ∙ ap (λ n. get_or xs n d) place

  pub length-range : (xs : List X) (a b : ℕ) → b ≤ length xs → length (slice_range xs a b) ≡ b - a
  length-range xs a b fits = omega (arith, length-take (b - a) (drop a xs), length-drop a xs)

  pub get_or-range : (xs : List X) (a b k : ℕ) (d : X) → k < b - a → get_or (slice_range xs a b) k d ≡ get_or xs (a + k) d
  get_or-range xs a b k d below = get_or-take (b - a) (drop a xs) k d below ∙ get_or-drop a xs k d

  -- a range of a range
  pub range_range : (xs : List X) (a b i j : ℕ) → j ≤ b - a → slice_range (slice_range xs a b) i j ≡ slice_range xs (a + i) (a + j)
  range_range xs a b i j inside =
      let left = length-take (j - i) (drop i (slice_range xs a b)) in
      let right = length-take (a + j - (a + i)) (drop (a + i) xs) in
      same_lists (slice_range (slice_range xs a b) i j) (slice_range xs (a + i) (a + j))
      (omega (arith, left, length-drop i (slice_range xs a b), length-take (b - a) (drop a xs), length-drop a xs, right, length-drop (a + i) xs))
      (λ k d below.
      let place : a + (i + k) ≡ a + i + k = omega arith in
      get_or-range (slice_range xs a b) i j k d (omega (arith, below, left))
      ∙ get_or-range xs a b (i + k) d (omega (arith, below, left))
      ∙ ap (λ n. get_or xs n d) place
      ∙ sym (get_or-range xs (a + i) (a + j) k d (omega (arith, below, left))))

  -- two lists with the same elements from a to b have the same range there
  pub same_range : (xs ys : List X) (a b : ℕ) → b ≤ length xs → b ≤ length ys → ((k : ℕ) (d : X) → a ≤ k → k < b → get_or xs k d ≡ get_or ys k d) → slice_range xs a b ≡ slice_range ys a b
  same_range xs ys a b left right same =
      same_lists (slice_range xs a b) (slice_range ys a b) (length-range xs a b left ∙ sym (length-range ys a b right))
      (λ k d below. let inside : k < b - a = omega (arith, length-range xs a b left) in
      get_or-range xs a b k d inside ∙ same (a + k) d (omega arith) (omega arith) ∙ sym (get_or-range ys a b k d inside))

  -- the elements of lists that agree from a to b
  pub same_at : (xs ys : List X) (a b k : ℕ) (d : X) → slice_range xs a b ≡ slice_range ys a b → a ≤ k → k < b → get_or xs k d ≡ get_or ys k d
  same_at xs ys a b k d same from below =
      let place : a + (k - a) ≡ k = omega arith in
      let inside : k - a < b - a = omega arith in
      ap (λ n. get_or xs n d) (sym place)
      ∙ sym (get_or-range xs a b (k - a) d inside)
      ∙ ap (λ l. get_or l (k - a) d) same
      ∙ get_or-range ys a b (k - a) d inside
      ∙ ap (λ n. get_or ys n d) place

  pub range-put_below : (i : ℕ) (ys xs : List X) (a b : ℕ) → i + length ys ≤ length xs → b ≤ i → slice_range (put i ys xs) a b ≡ slice_range xs a b
  range-put_below i ys xs a b fits below =
      same_range (put i ys xs) xs a b (omega (arith, length-put i ys xs fits)) (omega arith)
      (λ k d from under. get_or-put_below i ys xs k d (omega arith) (omega arith))

  pub range-put_above : (i : ℕ) (ys xs : List X) (a b : ℕ) → i + length ys ≤ length xs → b ≤ length xs → i + length ys ≤ a → slice_range (put i ys xs) a b ≡ slice_range xs a b
  range-put_above i ys xs a b fits inside above =
      same_range (put i ys xs) xs a b (omega (arith, length-put i ys xs fits)) inside
      (λ k d from under. get_or-put_above i ys xs k d (omega arith) (omega arith))

  -- a range of what was put
  pub range-put_in : (i : ℕ) (ys xs : List X) (a b : ℕ) → i + length ys ≤ length xs → i ≤ a → b ≤ i + length ys → slice_range (put i ys xs) a b ≡ slice_range ys (a - i) (b - i)
  range-put_in i ys xs a b fits from below =
      let long : b ≤ length (put i ys xs) = omega (arith, length-put i ys xs fits) in
      let short : b - i ≤ length ys = omega arith in
      same_lists (slice_range (put i ys xs) a b) (slice_range ys (a - i) (b - i))
      (omega (arith, length-range (put i ys xs) a b long, length-range ys (a - i) (b - i) short))
      (λ k d under. let inside : k < b - a = omega (arith, length-range (put i ys xs) a b long) in
      let place : a + k - i ≡ a - i + k = omega arith in
      get_or-range (put i ys xs) a b k d inside
      ∙ get_or-put_in i ys xs (a + k) d (omega arith) (omega arith) (omega arith)
      ∙ ap (λ n. get_or ys n d) place
      ∙ sym (get_or-range ys (a - i) (b - i) k d (omega arith)))

  pub range-put : (i : ℕ) (ys xs : List X) → i + length ys ≤ length xs → slice_range (put i ys xs) i (i + length ys) ≡ ys
  range-put i ys xs fits =
      let start : i - i ≡ 0 = omega arith in
      let end : i + length ys - i ≡ length ys = omega arith in
      let count : length ys - 0 ≡ length ys = omega arith in
      range-put_in i ys xs i (i + length ys) fits (omega arith) (omega arith)
      ∙ ap (λ n. slice_range ys n (i + length ys - i)) start
      ∙ ap (λ n. slice_range ys 0 n) end
      ∙ ap (λ n. take n ys) count
      ∙ take_all (length ys) ys (omega arith)

  -- what lies there already, put there again
  pub put_range : (xs : List X) (a b : ℕ) → a ≤ b → b ≤ length xs → put a (slice_range xs a b) xs ≡ xs
  put_range xs a b order fits =
      let fact : a + length (slice_range xs a b) ≡ b = omega (arith, length-range xs a b fits) in
      let fits_too : a + length (slice_range xs a b) ≤ length xs = omega arith in
      same_lists (put a (slice_range xs a b) xs) xs (length-put a (slice_range xs a b) xs fits_too)
      (λ k d below. elim (cases_lt k a) [
        | inl under ↦ get_or-put_below a (slice_range xs a b) xs k d (omega arith) under
        | inr from ↦ elim (cases_lt k b) [
          | inl inside ↦
              let place : a + (k - a) ≡ k = omega arith in
              get_or-put_in a (slice_range xs a b) xs k d (omega arith) from (omega arith)
              ∙ get_or-range xs a b (k - a) d (omega arith)
              ∙ ap (λ n. get_or xs n d) place
          | inr above ↦ get_or-put_above a (slice_range xs a b) xs k d (omega arith) (omega arith)
        ]
      ])

  -- one list put right behind another
  pub put-put : (i : ℕ) (ys zs xs : List X) → i + length ys ≤ length xs → i + length ys + length zs ≤ length xs → put (i + length ys) zs (put i ys xs) ≡ put i (ys ++ zs) xs
  put-put i ys zs xs fits both =
      let long : length (put i ys xs) ≡ length xs = length-put i ys xs fits in
      let joined : length (ys ++ zs) ≡ length ys + length zs = length-append ys zs in
      let second : i + length ys + length zs ≤ length (put i ys xs) = omega arith in
      let whole : i + length (ys ++ zs) ≤ length xs = omega arith in
      same_lists (put (i + length ys) zs (put i ys xs)) (put i (ys ++ zs) xs)
      (length-put (i + length ys) zs (put i ys xs) second ∙ long ∙ sym (length-put i (ys ++ zs) xs whole))
      (λ k d below. elim (cases_lt k (i + length ys)) [
        | inl under ↦
            get_or-put_below (i + length ys) zs (put i ys xs) k d (omega arith) under
            ∙ elim (cases_lt k i) [
              | inl first ↦ get_or-put_below i ys xs k d (omega arith) first ∙ sym (get_or-put_below i (ys ++ zs) xs k d (omega arith) first)
              | inr from ↦
                  get_or-put_in i ys xs k d (omega arith) from under
                  ∙ sym (get_or_append_left ys zs d (k - i) (omega arith))
                  ∙ sym (get_or-put_in i (ys ++ zs) xs k d (omega arith) from (omega arith))
            ]
        | inr from ↦ elim (cases_lt k (i + length ys + length zs)) [
          | inl inside ↦
              let place : k - (i + length ys) ≡ k - i - length ys = omega arith in
              get_or-put_in (i + length ys) zs (put i ys xs) k d (omega arith) from inside
              ∙ ap (λ n. get_or zs n d) place
              ∙ sym (get_or-append_right ys zs (length ys) (k - i) d refl (omega arith))
              ∙ sym (get_or-put_in i (ys ++ zs) xs k d (omega arith) (omega arith) (omega arith))
          | inr above ↦
              get_or-put_above (i + length ys) zs (put i ys xs) k d (omega arith) above
              ∙ get_or-put_above i ys xs k d (omega arith) (omega arith)
              ∙ sym (get_or-put_above i (ys ++ zs) xs k d (omega arith) (omega arith))
        ]
      ])

  pub put_empty : (i : ℕ) (xs : List X) → put i [] xs ≡ xs
  put_empty i xs =
      let place : i + 0 ≡ i = omega arith in
      ap (λ n. take i xs ++ drop n xs) place ∙ take-append-drop i xs

  -- the same put into two lists that agree from a to b
  pub range-put_both : (i : ℕ) (ys xs zs : List X) (a b : ℕ) → i + length ys ≤ length xs → length zs ≡ length xs → b ≤ length xs → slice_range xs a b ≡ slice_range zs a b → slice_range (put i ys xs) a b ≡ slice_range (put i ys zs) a b
  range-put_both i ys xs zs a b fits long inside same =
      let fits_too : i + length ys ≤ length zs = omega arith in
      same_range (put i ys xs) (put i ys zs) a b (omega (arith, length-put i ys xs fits)) (omega (arith, length-put i ys zs fits_too))
      (λ k d from below. elim (cases_lt k i) [
        | inl under ↦ get_or-put_below i ys xs k d (omega arith) under ∙ same_at xs zs a b k d same from below ∙ sym (get_or-put_below i ys zs k d (omega arith) under)
        | inr over ↦ elim (cases_lt k (i + length ys)) [
          | inl within ↦ get_or-put_in i ys xs k d (omega arith) over within ∙ sym (get_or-put_in i ys zs k d (omega arith) over within)
          | inr above ↦ get_or-put_above i ys xs k d (omega arith) above ∙ same_at xs zs a b k d same from below ∙ sym (get_or-put_above i ys zs k d (omega arith) above)
        ]
      ])

  -- lists that agree from a to b and from b to e agree from a to e
  pub range_joined : (xs ys : List X) (a b e : ℕ) → e ≤ length xs → e ≤ length ys → slice_range xs a b ≡ slice_range ys a b → slice_range xs b e ≡ slice_range ys b e → slice_range xs a e ≡ slice_range ys a e
  range_joined xs ys a b e left right first second =
      same_range xs ys a e left right
      (λ k d from below. elim (cases_lt k b) [
        | inl under ↦ same_at xs ys a b k d first from under
        | inr over ↦ same_at xs ys b e k d second over below
      ])

  -- lists that agree from a to b agree on a range inside
  pub range_within : (xs ys : List X) (a b i j : ℕ) → b ≤ length xs → b ≤ length ys → a ≤ i → j ≤ b → slice_range xs a b ≡ slice_range ys a b → slice_range xs i j ≡ slice_range ys i j
  range_within xs ys a b i j left right from to same =
      same_range xs ys i j (omega arith) (omega arith)
      (λ k d start end. same_at xs ys a b k d same (omega arith) (omega arith))

  -- lists that agree on each page are one
  pub same_by_pages : (xs ys : List X) (page : ℕ) → 0 < page → length xs % page ≡ 0 → length xs ≡ length ys → ((k : ℕ) → k < length xs / page → slice_range xs (k * page) (k * page + page) ≡ slice_range ys (k * page) (k * page + page)) → xs ≡ ys
  same_by_pages xs ys page some is long same =
      same_lists xs ys long
      (λ i d below.
      let place = page_of i page some in
      let under : i / page < length xs / page = page_within i (length xs) page some is below in
      same_at xs ys (i / page * page) (i / page * page + page) i d (same (i / page) under) place.0 place.1)

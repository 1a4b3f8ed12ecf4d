-- The marks of pages, and which pages bytes lie in.
use Rattle.std.proofs.Common.{◌≡◌, ℕ, ◌+◌, ◌-◌, ◌*◌, ◌/◌, ◌%◌, ◌<◌, ◌≤◌, Bool, true, false, List, length, get_or, replicate, sym, ap, ◌∙◌, inl, inr, arith, slice_range}
use Rattle.pool_images.proofs.Imports.{cases_lt, length-replicate, get_or-replicate, same_lists, le_of_mul-le-mul_right, mul-le-mul_right, Contents, CanReach, put, put_all, exposed, hidden, whole, add_whole, get_or-put_below, get_or-put_in, get_or-put_above, get_or-range, length-range, length-put}

pub page_le : (q k page : ℕ) → 0 < page → q * page ≤ k * page → q ≤ k
page_le q k page some le = le_of_mul-le-mul_right le some

pub page_lt : (k q page : ℕ) → k * page < q * page → k < q
page_lt k q page below = elim (cases_lt k q) [
  | inl lt ↦ lt
  | inr over ↦ let least : q * page ≤ k * page = mul-le-mul_right page over in absurd (omega arith)
]

module _ {X : Type 0} where
  pub marked_in : (xs : List X) (i n k : ℕ) (x d : X) → i ≤ length xs → i ≤ k → k < i + n → get_or (put_all i n x xs) k d ≡ x
  marked_in xs i n k x d fits from below =
      let long : length (replicate n x) ≡ n = length-replicate n x in
      get_or-put_in i (replicate n x) xs k d fits from (omega arith) ∙ get_or-replicate n (k - i) x d (omega arith)

  pub marked_below : (xs : List X) (i n k : ℕ) (x d : X) → i ≤ length xs → k < i → get_or (put_all i n x xs) k d ≡ get_or xs k d
  marked_below xs i n k x d fits below = get_or-put_below i (replicate n x) xs k d fits below

  pub marked_above : (xs : List X) (i n k : ℕ) (x d : X) → i ≤ length xs → i + n ≤ k → get_or (put_all i n x xs) k d ≡ get_or xs k d
  marked_above xs i n k x d fits above =
      let long : length (replicate n x) ≡ n = length-replicate n x in
      get_or-put_above i (replicate n x) xs k d fits (omega arith)

-- a mark that is set stays set where others are set
pub marked_stays : (xs : List Bool) (i n k : ℕ) → i ≤ length xs → get_or xs k false ≡ true → get_or (put_all i n true xs) k false ≡ true
marked_stays xs i n k fits set = elim (cases_lt k i) [
  | inl below ↦ marked_below xs i n k true false fits below ∙ set
  | inr from ↦ elim (cases_lt k (i + n)) [
    | inl inside ↦ marked_in xs i n k true false fits from inside
    | inr above ↦ marked_above xs i n k true false fits above ∙ set
  ]
]

-- Set marks from page i on, over n pages: what could be reached still can.
pub reach_marked : (start len i n : ℕ) (c : Contents) → i ≤ length c.accessible → CanReach start len c → CanReach start len (record c { accessible = put_all i n true c.accessible })
reach_marked start len i n c fits reach k from below = marked_stays c.accessible i n k fits (reach k from below)

-- what was exposed can be reached
pub reach_exposed : (start had more : ℕ) (c : Contents) → 0 < c.page → start % c.page ≡ 0 → had % c.page ≡ 0 → more % c.page ≡ 0 → (start + had) / c.page ≤ length c.accessible → CanReach start had c → CanReach start (had + more) (exposed (start + had) more c)
reach_exposed start had more c some start_whole had_whole more_whole fits reach k from below =
    let both : (start + had) % c.page ≡ 0 = add_whole start had c.page start_whole had_whole in
    let first : c.page * ((start + had) / c.page) ≡ start + had = whole (start + had) c.page both in
    let second : c.page * (more / c.page) ≡ more = whole more c.page more_whole in
    elim (cases_lt (k * c.page) (start + had)) [
      | inl old ↦ marked_stays c.accessible ((start + had) / c.page) (more / c.page) k fits (reach k from old)
      | inr new ↦
          let low : (start + had) / c.page ≤ k = page_le ((start + had) / c.page) k c.page some (omega (arith, first)) in
          let high : k < (start + had) / c.page + more / c.page = page_lt k ((start + had) / c.page + more / c.page) c.page (omega (arith, first, second)) in
          marked_in c.accessible ((start + had) / c.page) (more / c.page) k true false fits low high
    ]

-- what lies below the hidden pages can be reached still
pub reach_hidden : (start keep less : ℕ) (c : Contents) → 0 < c.page → start % c.page ≡ 0 → keep % c.page ≡ 0 → (start + keep) / c.page ≤ length c.accessible → CanReach start (keep + less) c → CanReach start keep (hidden (start + keep) less c)
reach_hidden start keep less c some start_whole keep_whole fits reach k from below =
    let both : (start + keep) % c.page ≡ 0 = add_whole start keep c.page start_whole keep_whole in
    let first : c.page * ((start + keep) / c.page) ≡ start + keep = whole (start + keep) c.page both in
    let under : k < (start + keep) / c.page = page_lt k ((start + keep) / c.page) c.page (omega (arith, first)) in
    marked_below c.accessible ((start + keep) / c.page) (less / c.page) k false false fits under ∙ reach k from (omega arith)

-- ranges of zeros
pub range-zeros : (n a b : ℕ) → b ≤ n → slice_range (replicate {A = ℕ} n 0) a b ≡ replicate (b - a) 0
range-zeros n a b inside =
    let zeros : List ℕ = replicate n 0 in
    let fewer : List ℕ = replicate (b - a) 0 in
    let long : b ≤ length zeros = omega (arith, length-replicate {A = ℕ} n 0) in
    let size : length (slice_range zeros a b) ≡ b - a = length-range zeros a b long in
    same_lists (slice_range zeros a b) fewer (size ∙ sym (length-replicate {A = ℕ} (b - a) 0))
    (λ k d below. let under : k < b - a = omega arith in
    get_or-range zeros a b k d under ∙ get_or-replicate {A = ℕ} n (a + k) 0 d (omega arith) ∙ sym (get_or-replicate {A = ℕ} (b - a) k 0 d under))

-- zeros put over what is not zero give zeros
pub put-zeros : (i n m : ℕ) (ys : List ℕ) → length ys ≡ n → i + n ≤ m → put_all i n 0 (put i ys (replicate m 0)) ≡ replicate m 0
put-zeros i n m ys long fits =
    let zeros : length (replicate {A = ℕ} n 0) ≡ n = length-replicate n 0 in
    let all : length (replicate {A = ℕ} m 0) ≡ m = length-replicate m 0 in
    let inner : length (put i ys (replicate m 0)) ≡ m = length-put i ys (replicate m 0) (omega arith) ∙ all in
    let outer : length (put_all i n 0 (put i ys (replicate m 0))) ≡ m = length-put i (replicate n 0) (put i ys (replicate m 0)) (omega arith) ∙ inner in
    same_lists (put_all i n 0 (put i ys (replicate m 0))) (replicate m 0) (outer ∙ sym all)
    (λ k d below. elim (cases_lt k i) [
      | inl under ↦ marked_below (put i ys (replicate m 0)) i n k 0 d (omega arith) under ∙ get_or-put_below i ys (replicate m 0) k d (omega arith) under
      | inr from ↦ elim (cases_lt k (i + n)) [
        | inl inside ↦ marked_in (put i ys (replicate m 0)) i n k 0 d (omega arith) from inside ∙ sym (get_or-replicate m k 0 d (omega arith))
        | inr above ↦ marked_above (put i ys (replicate m 0)) i n k 0 d (omega arith) above ∙ get_or-put_above i ys (replicate m 0) k d (omega arith) (omega arith)
      ]
    ])

-- a range that begins before what was put, and ends behind it
pub range-put_within : (i : ℕ) (ys xs : List ℕ) (base n : ℕ) → base + n ≤ length xs → i + length ys ≤ n → slice_range (put (base + i) ys xs) base (base + n) ≡ put i ys (slice_range xs base (base + n))
range-put_within i ys xs base n inside fits =
    let part : length (slice_range xs base (base + n)) ≡ base + n - base = length-range xs base (base + n) inside in
    let wide : length (put (base + i) ys xs) ≡ length xs = length-put (base + i) ys xs (omega arith) in
    let left : length (slice_range (put (base + i) ys xs) base (base + n)) ≡ base + n - base = length-range (put (base + i) ys xs) base (base + n) (omega arith) in
    let right : length (put i ys (slice_range xs base (base + n))) ≡ length (slice_range xs base (base + n)) = length-put i ys (slice_range xs base (base + n)) (omega arith) in
    same_lists (slice_range (put (base + i) ys xs) base (base + n)) (put i ys (slice_range xs base (base + n))) (omega arith)
    (λ k d below.
    let under : k < base + n - base = omega arith in
    get_or-range (put (base + i) ys xs) base (base + n) k d under
    ∙ elim (cases_lt k i) [
      | inl first ↦
          get_or-put_below (base + i) ys xs (base + k) d (omega arith) (omega arith)
          ∙ sym (get_or-range xs base (base + n) k d under)
          ∙ sym (get_or-put_below i ys (slice_range xs base (base + n)) k d (omega arith) first)
      | inr from ↦ elim (cases_lt k (i + length ys)) [
        | inl mid ↦
            let place : base + k - (base + i) ≡ k - i = omega arith in
            get_or-put_in (base + i) ys xs (base + k) d (omega arith) (omega arith) (omega arith)
            ∙ ap (λ j. get_or ys j d) place
            ∙ sym (get_or-put_in i ys (slice_range xs base (base + n)) k d (omega arith) from mid)
        | inr above ↦
            get_or-put_above (base + i) ys xs (base + k) d (omega arith) (omega arith)
            ∙ sym (get_or-range xs base (base + n) k d under)
            ∙ sym (get_or-put_above i ys (slice_range xs base (base + n)) k d (omega arith) above)
      ]
    ])

pub range-put_around : (i : ℕ) (ys : List ℕ) (m base n : ℕ) → base + i + length ys ≤ m → i + length ys ≤ n → base + n ≤ m → slice_range (put (base + i) ys (replicate m 0)) base (base + n) ≡ put i ys (replicate n 0)
range-put_around i ys m base n fits within inside =
    let all : length (replicate {A = ℕ} m 0) ≡ m = length-replicate m 0 in
    let size : base + n - base ≡ n = omega arith in
    range-put_within i ys (replicate m 0) base n (omega arith) within
    ∙ ap (λ (l : List ℕ). put i ys l) (range-zeros m base (base + n) inside ∙ ap (λ (k : ℕ). replicate {A = ℕ} k 0) size)

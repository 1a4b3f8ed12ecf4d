-- Columns of which a prefix is kept, past which they are zeros.
use Rattle.std.proofs.Common.{◌≡◌, ℕ, ◌+◌, ◌-◌, ◌<◌, ◌≤◌, List, [], ◌∷◌, ◌++◌, length, get_or, take, drop, replicate, min, max, refl, sym, ap, ◌∙◌, arith, inl, inr, ◌⊎◌, slice_range}
use Rattle.pool_pages.proofs.Imports.{length-append, length-replicate, length-take, length-drop, take_all, take-append-le, take-append-drop, get_or_append_left, get_or-append_right, get_or-take, get_or-drop, get_or-replicate, get_or_past, get_or_default, same_lists, cases_lt}
use Rattle.pool_pages.specs.Contents.{put, put_all}
use Rattle.pool_pages.specs.Dense.{with_zeros, IsPrefix}
use Rattle.pool_pages.proofs.Puts.{length-put, get_or-put_below, get_or-put_in, get_or-put_above, length-range, get_or-range, put-put}

pub length-with_zeros : (n : ℕ) (p : List ℕ) → length p ≤ n → length (with_zeros n p) ≡ n
length-with_zeros n p fits = omega (arith, length-append p (replicate {A = ℕ} (n - length p) 0), length-replicate {A = ℕ} (n - length p) 0)

-- the same, as an attribute can name it
pub column_length : (n : ℕ) (p : List ℕ) (room : ℕ) → IsPrefix n p room → length (with_zeros n p) ≡ n
column_length n p room is = length-with_zeros n p is.inside

pub get_or-with_zeros : (n : ℕ) (p : List ℕ) (k d : ℕ) → length p ≤ n → k < n → get_or (with_zeros n p) k d ≡ get_or p k 0
get_or-with_zeros n p k d fits below =
    elim (cases_lt k (length p)) [
      | inl kept ↦ get_or_append_left p (replicate {A = ℕ} (n - length p) 0) d k kept ∙ get_or_default p k d 0 kept
      | inr past ↦
          get_or-append_right p (replicate {A = ℕ} (n - length p) 0) (length p) k d refl past
          ∙ get_or-replicate {A = ℕ} (n - length p) (k - length p) 0 d (omega arith)
          ∙ sym (get_or_past p k 0 past)
    ]

-- a column that equals another with a list put into it, by its elements
pub zeros-put : (n i : ℕ) (p q ys : List ℕ) → length p ≤ n → length q ≤ n → i + length ys ≤ n → ((k : ℕ) → k < i → get_or p k 0 ≡ get_or q k 0) → ((k : ℕ) → i ≤ k → k < i + length ys → get_or p k 0 ≡ get_or ys (k - i) 0) → ((k : ℕ) → i + length ys ≤ k → get_or p k 0 ≡ get_or q k 0) → with_zeros n p ≡ put i ys (with_zeros n q)
zeros-put n i p q ys left right fits below inside above =
    let long : length (with_zeros n q) ≡ n = length-with_zeros n q right in
    let room : i + length ys ≤ length (with_zeros n q) = omega arith in
    let start : i ≤ length (with_zeros n q) = omega arith in
    let whole : length (with_zeros n p) ≡ n = length-with_zeros n p left in
    same_lists (with_zeros n p) (put i ys (with_zeros n q))
    (whole ∙ sym (length-put i ys (with_zeros n q) room ∙ long))
    (λ k d under.
    let in_column : k < n = omega arith in
    get_or-with_zeros n p k d left in_column
    ∙ elim (cases_lt k i) [
      | inl first ↦ below k first ∙ sym (get_or-with_zeros n q k d right in_column) ∙ sym (get_or-put_below i ys (with_zeros n q) k d start first)
      | inr from ↦ elim (cases_lt k (i + length ys)) [
        | inl within ↦ inside k from within ∙ get_or_default ys (k - i) 0 d (omega arith) ∙ sym (get_or-put_in i ys (with_zeros n q) k d start from within)
        | inr past ↦ above k past ∙ sym (get_or-with_zeros n q k d right in_column) ∙ sym (get_or-put_above i ys (with_zeros n q) k d start past)
      ]
    ])

-- the prefix with zeros has the prefix's elements, and zeros
pub get_or-zeros : (n : ℕ) (p : List ℕ) (k : ℕ) → get_or (with_zeros n p) k 0 ≡ get_or p k 0
get_or-zeros n p k =
    let zeros : length (replicate {A = ℕ} (n - length p) 0) ≡ n - length p = length-replicate {A = ℕ} (n - length p) 0 in
    elim (cases_lt k (length p)) [
      | inl kept ↦ get_or_append_left p (replicate {A = ℕ} (n - length p) 0) 0 k kept
      | inr past ↦
          get_or-append_right p (replicate {A = ℕ} (n - length p) 0) (length p) k 0 refl past
          ∙ elim (cases_lt (k - length p) (n - length p)) [
            | inl within ↦ get_or-replicate {A = ℕ} (n - length p) (k - length p) 0 0 within
            | inr above ↦ get_or_past (replicate {A = ℕ} (n - length p) 0) (k - length p) 0 (omega arith)
          ]
          ∙ sym (get_or_past p k 0 past)
    ]

-- a list put into the prefix, which is made long enough by zeros
pub put_in_prefix : (n i m : ℕ) (p ys : List ℕ) → length p ≤ n → i + length ys ≤ m → m ≤ n → with_zeros n (put i ys (with_zeros m p)) ≡ put i ys (with_zeros n p)
put_in_prefix n i m p ys fits inner room =
    let long : length (with_zeros m p) ≡ max (length p) m = omega (arith, length-append p (replicate {A = ℕ} (m - length p) 0), length-replicate {A = ℕ} (m - length p) 0) in
    let start : i ≤ length (with_zeros m p) = omega arith in
    zeros-put n i (put i ys (with_zeros m p)) p ys (omega (arith, length-put i ys (with_zeros m p) (omega arith))) fits (omega arith)
    (λ k first. get_or-put_below i ys (with_zeros m p) k 0 start first ∙ get_or-zeros m p k)
    (λ k from within. get_or-put_in i ys (with_zeros m p) k 0 start from within)
    (λ k past. get_or-put_above i ys (with_zeros m p) k 0 start past ∙ get_or-zeros m p k)

pub put_prefix_long : (n i m : ℕ) (p ys : List ℕ) → length p ≤ n → i + length ys ≤ m → m ≤ n → length (put i ys (with_zeros m p)) ≤ n
put_prefix_long n i m p ys fits inner room =
    let long : length (with_zeros m p) ≡ max (length p) m = omega (arith, length-append p (replicate {A = ℕ} (m - length p) 0), length-replicate {A = ℕ} (m - length p) 0) in
    omega (arith, length-put i ys (with_zeros m p) (omega arith))

-- a list of which the front is put into the prefix, and the rest stands behind it
pub put_and_append : (n i k : ℕ) (p ys : List ℕ) → length p ≤ n → i + length ys ≤ n → k ≡ min (length (with_zeros i p) - i) (length ys) → with_zeros n (put i (take k ys) (with_zeros i p) ++ drop k ys) ≡ put i ys (with_zeros n p)
put_and_append n i k p ys fits room is =
    let long : length (with_zeros i p) ≡ max (length p) i = omega (arith, length-append p (replicate {A = ℕ} (i - length p) 0), length-replicate {A = ℕ} (i - length p) 0) in
    let start : i ≤ length (with_zeros i p) = omega arith in
    let some : k ≤ length ys = omega arith in
    let front : length (take k ys) ≡ k = omega (arith, length-take k ys) in
    let rest : length (drop k ys) ≡ length ys - k = length-drop k ys in
    let edge : k ≡ length ys ⊎ length (with_zeros i p) ≡ i + k = elim (cases_lt k (length ys)) [ inl less ↦ inr (omega arith) | inr all ↦ inl (omega arith) ] in
    let whole : length (put i (take k ys) (with_zeros i p)) ≡ length (with_zeros i p) = length-put i (take k ys) (with_zeros i p) (omega arith) in
    let short : length (put i (take k ys) (with_zeros i p) ++ drop k ys) ≤ n = elim edge [ inl all ↦ omega (arith, length-append (put i (take k ys) (with_zeros i p)) (drop k ys)) | inr full ↦ omega (arith, length-append (put i (take k ys) (with_zeros i p)) (drop k ys)) ] in
    zeros-put n i (put i (take k ys) (with_zeros i p) ++ drop k ys) p ys short fits room
    (λ j first.
    get_or_append_left (put i (take k ys) (with_zeros i p)) (drop k ys) 0 j (omega arith)
    ∙ get_or-put_below i (take k ys) (with_zeros i p) j 0 start first
    ∙ get_or-zeros i p j)
    (λ j from within. elim (cases_lt j (i + k)) [
      | inl inner ↦
          get_or_append_left (put i (take k ys) (with_zeros i p)) (drop k ys) 0 j (omega arith)
          ∙ get_or-put_in i (take k ys) (with_zeros i p) j 0 start from (omega arith)
          ∙ get_or-take k ys (j - i) 0 (omega arith)
      | inr past ↦
          let full : length (with_zeros i p) ≡ i + k = elim edge [ inl all ↦ absurd (omega arith) | inr full ↦ full ] in
          let place : k + (j - length (put i (take k ys) (with_zeros i p))) ≡ j - i = omega arith in
          get_or-append_right (put i (take k ys) (with_zeros i p)) (drop k ys) (length (put i (take k ys) (with_zeros i p))) j 0 refl (omega arith)
          ∙ get_or-drop k ys (j - length (put i (take k ys) (with_zeros i p))) 0
          ∙ ap (λ m. get_or ys m 0) place
    ])
    (λ j past. elim (cases_lt j (length (with_zeros i p))) [
      | inl kept ↦
          get_or_append_left (put i (take k ys) (with_zeros i p)) (drop k ys) 0 j (omega arith)
          ∙ get_or-put_above i (take k ys) (with_zeros i p) j 0 start (omega arith)
          ∙ get_or-zeros i p j
      | inr above ↦
          let out : length (drop k ys) ≤ j - length (put i (take k ys) (with_zeros i p)) = elim edge [ inl all ↦ omega arith | inr full ↦ omega arith ] in
          get_or-append_right (put i (take k ys) (with_zeros i p)) (drop k ys) (length (put i (take k ys) (with_zeros i p))) j 0 refl (omega arith)
          ∙ get_or_past (drop k ys) (j - length (put i (take k ys) (with_zeros i p))) 0 out
          ∙ sym (get_or_past p j 0 (omega arith))
    ])

-- the same of one value
pub fill_in_prefix : (n i c x : ℕ) (p : List ℕ) → length p ≤ n → i + c ≤ n → with_zeros n (put_all i c x (with_zeros (i + c) p)) ≡ put_all i c x (with_zeros n p)
fill_in_prefix n i c x p fits room = put_in_prefix n i (i + c) p (replicate c x) fits (omega (arith, length-replicate c x)) room

pub fill_prefix_long : (n i c x : ℕ) (p : List ℕ) → length p ≤ n → i + c ≤ n → length (put_all i c x (with_zeros (i + c) p)) ≤ n
fill_prefix_long n i c x p fits room = put_prefix_long n i (i + c) p (replicate c x) fits (omega (arith, length-replicate c x)) room

-- zeros put where the column is zeros already
pub clear_past : (n i c : ℕ) (p : List ℕ) → length p ≤ n → i + c ≤ n → length p ≤ i → with_zeros n p ≡ put_all i c 0 (with_zeros n p)
clear_past n i c p fits room past =
    let count : length (replicate {A = ℕ} c 0) ≡ c = length-replicate {A = ℕ} c 0 in
    zeros-put n i p p (replicate {A = ℕ} c 0) fits fits (omega arith)
    (λ k first. refl)
    (λ k from within. get_or_past p k 0 (omega arith) ∙ sym (get_or-replicate {A = ℕ} c (k - i) 0 0 (omega arith)))
    (λ k above. refl)

-- zeros put up to the end of the prefix or past it
pub clear_end : (n i c : ℕ) (p : List ℕ) → length p ≤ n → i + c ≤ n → length p ≤ i + c → with_zeros n (take i p) ≡ put_all i c 0 (with_zeros n p)
clear_end n i c p fits room past =
    let count : length (replicate {A = ℕ} c 0) ≡ c = length-replicate {A = ℕ} c 0 in
    let short : length (take i p) ≤ i = omega (arith, length-take i p) in
    let shorter : length (take i p) ≤ n = omega (arith, length-take i p) in
    zeros-put n i (take i p) p (replicate {A = ℕ} c 0) shorter fits (omega arith)
    (λ k first. get_or-take i p k 0 first)
    (λ k from within. get_or_past (take i p) k 0 (omega arith) ∙ sym (get_or-replicate {A = ℕ} c (k - i) 0 0 (omega arith)))
    (λ k above. get_or_past (take i p) k 0 (omega arith) ∙ sym (get_or_past p k 0 (omega arith)))

-- zeros put inside the prefix
pub clear_inside : (n i c : ℕ) (p : List ℕ) → length p ≤ n → i + c ≤ length p → with_zeros n (put_all i c 0 p) ≡ put_all i c 0 (with_zeros n p)
clear_inside n i c p fits room =
    let count : length (replicate {A = ℕ} c 0) ≡ c = length-replicate {A = ℕ} c 0 in
    let inner : i + length (replicate {A = ℕ} c 0) ≤ length p = omega arith in
    let start : i ≤ length p = omega arith in
    zeros-put n i (put_all i c 0 p) p (replicate {A = ℕ} c 0) (omega (arith, length-put i (replicate {A = ℕ} c 0) p inner)) fits (omega arith)
    (λ k first. get_or-put_below i (replicate {A = ℕ} c 0) p k 0 start first)
    (λ k from within. get_or-put_in i (replicate {A = ℕ} c 0) p k 0 start from within)
    (λ k past. get_or-put_above i (replicate {A = ℕ} c 0) p k 0 start past)

-- a part of the column: what the prefix has of it, and zeros
pub range-with_zeros : (n i c a b : ℕ) (p : List ℕ) → length p ≤ n → i + c ≤ n → a ≡ min i (length p) → b ≡ min (i + c) (length p) → with_zeros c (slice_range p a b) ≡ slice_range (with_zeros n p) i (i + c)
range-with_zeros n i c a b p fits room first last =
    let long : length (with_zeros n p) ≡ n = length-with_zeros n p fits in
    let kept : length (slice_range p a b) ≡ b - a = length-range p a b (omega arith) in
    let both : length (with_zeros c (slice_range p a b)) ≡ c = length-with_zeros c (slice_range p a b) (omega arith) in
    let other : length (slice_range (with_zeros n p) i (i + c)) ≡ c = omega (arith, length-range (with_zeros n p) i (i + c) (omega arith)) in
    same_lists (with_zeros c (slice_range p a b)) (slice_range (with_zeros n p) i (i + c)) (both ∙ sym other)
    (λ k d under.
    let inside : k < c = omega arith in
    get_or-with_zeros c (slice_range p a b) k d (omega arith) inside
    ∙ elim (cases_lt k (b - a)) [
      | inl within ↦
          let place : a + k ≡ i + k = omega arith in
          get_or-range p a b k 0 within ∙ ap (λ j. get_or p j 0) place
      | inr past ↦
          get_or_past (slice_range p a b) k 0 (omega arith)
          ∙ sym (get_or_past p (i + k) 0 (omega arith))
    ]
    ∙ sym (get_or-with_zeros n p (i + k) d fits (omega arith))
    ∙ sym (get_or-range (with_zeros n p) i (i + c) k d (omega arith)))

-- the front of a range put, and zeros behind it
pub put-zeros : (i c : ℕ) (ys xs : List ℕ) → length ys ≤ c → i + c ≤ length xs → put_all (i + length ys) (c - length ys) 0 (put i ys xs) ≡ put i (with_zeros c ys) xs
put-zeros i c ys xs fits room =
    let zeros : length (replicate {A = ℕ} (c - length ys) 0) ≡ c - length ys = length-replicate {A = ℕ} (c - length ys) 0 in
    put-put i ys (replicate {A = ℕ} (c - length ys) 0) xs (omega arith) (omega arith)

behind_front : (xs ys : List ℕ) → drop (length xs) (xs ++ ys) ≡ ys
behind_front [] ys = refl
behind_front (x ∷ xs) ys = behind_front xs ys

-- what is behind the front of a list, against zeros
pub zeros_behind : (kept bytes tail : List ℕ) → length kept ≤ length bytes → kept ≡ take (length kept) bytes → tail ≡ drop (length kept) bytes → (replicate (length tail) 0 ≡ tail → with_zeros (length bytes) kept ≡ bytes) × (with_zeros (length bytes) kept ≡ bytes → replicate (length tail) 0 ≡ tail)
zeros_behind kept bytes tail fits front back =
    let count : length tail ≡ length bytes - length kept = omega (arith, ap length back, length-drop (length kept) bytes) in
    let joined : kept ++ tail ≡ bytes = ap (λ xs. xs ++ tail) front ∙ ap (λ xs. take (length kept) bytes ++ xs) back ∙ take-append-drop (length kept) bytes in (
      (λ zeros. ap (λ n. kept ++ replicate n 0) (sym count) ∙ ap (λ xs. kept ++ xs) zeros ∙ joined),
      (λ whole.
          ap (λ n. replicate n 0) count
          ∙ sym (behind_front kept (replicate (length bytes - length kept) 0))
          ∙ ap (λ xs. drop (length kept) xs) whole
          ∙ sym back),
    )

-- a list that is another with zeros begins as that one
pub begins_kept : (kept bytes : List ℕ) → with_zeros (length bytes) kept ≡ bytes → kept ≡ take (length kept) bytes
begins_kept kept bytes whole =
    sym (take-append-le (length kept) kept (replicate {A = ℕ} (length bytes - length kept) 0) (omega arith) ∙ take_all (length kept) kept (omega arith))
    ∙ ap (λ xs. take (length kept) xs) whole

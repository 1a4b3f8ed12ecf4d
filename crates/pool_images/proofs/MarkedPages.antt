-- The numbers of marked pages, from one on.
use Rattle.std.proofs.Common.{◌≡◌, ℕ, zero, suc, ◌+◌, ◌-◌, ◌<◌, ◌≤◌, ◌⊎◌, Bool, true, false, List, [], ◌∷◌, ◌++◌, length, get_or, take, drop, cond, refl, sym, ap, ◌∙◌, subst, arith, inl, inr}
use Rattle.std.specs.List.{filter, range_with_len}
use Rattle.pool_images.proofs.Imports.{cases_eq}
use Rattle.pool_images.specs.Resets.{marked_from, marked_pages}

-- from behind the last page on there is none
pub none_from : (marks : List Bool) (k : ℕ) → length marks ≤ k → marked_from k marks ≡ []
none_from marks k past =
    let none : length marks - k ≡ 0 = omega (arith, past) in
    ap (λ n. filter (λ j. get_or marks j false) (range_with_len k n)) none

pub all_from : (marks : List Bool) → marked_from 0 marks ≡ marked_pages marks
all_from marks =
    let all : length marks - 0 ≡ length marks = omega arith in
    ap (λ n. filter (λ j. get_or marks j false) (range_with_len 0 n)) all

one_from : (marks : List Bool) (k : ℕ) → k < length marks → marked_from k marks ≡ cond (get_or marks k false) (k ∷ marked_from (k + 1) marks) (marked_from (k + 1) marks)
one_from marks k below =
    let more : length marks - k ≡ suc (length marks - (k + 1)) = omega (arith, below) in
    ap (λ n. filter (λ j. get_or marks j false) (range_with_len k n)) more

-- a page that is marked is the first
pub marked_first : (marks : List Bool) (k : ℕ) → k < length marks → get_or marks k false ≡ true → marked_from k marks ≡ k ∷ marked_from (k + 1) marks
marked_first marks k below is =
    one_from marks k below ∙ ap (λ b. cond b (k ∷ marked_from (k + 1) marks) (marked_from (k + 1) marks)) is

-- a page that isn't is left out
pub unmarked_first : (marks : List Bool) (k : ℕ) → k < length marks → get_or marks k false ≡ false → marked_from k marks ≡ marked_from (k + 1) marks
unmarked_first marks k below is =
    one_from marks k below ∙ ap (λ b. cond b (k ∷ marked_from (k + 1) marks) (marked_from (k + 1) marks)) is

skipped_by : (marks : List Bool) (n a : ℕ) → a + n ≤ length marks → ((k : ℕ) → a ≤ k → k < a + n → get_or marks k false ≡ false) → marked_from a marks ≡ marked_from (a + n) marks
skipped_by marks zero a fits none =
    let same : a ≡ a + 0 = omega arith in
    ap (λ k. marked_from k marks) same
skipped_by marks (suc n) a fits none =
    let same : a + 1 + n ≡ a + suc n = omega arith in
    unmarked_first marks a (omega (arith, fits)) (none a (omega arith) (omega arith))
    ∙ skipped_by marks n (a + 1) (omega (arith, fits)) (λ k from below. none k (omega (arith, from)) (omega (arith, below)))
    ∙ ap (λ k. marked_from k marks) same

-- pages that aren't marked are left out
pub skipped : (marks : List Bool) (a b : ℕ) → a ≤ b → b ≤ length marks → ((k : ℕ) → a ≤ k → k < b → get_or marks k false ≡ false) → marked_from a marks ≡ marked_from b marks
skipped marks a b up fits none =
    let same : a + (b - a) ≡ b = omega (arith, up) in
    skipped_by marks (b - a) a (omega (arith, same, fits)) (λ k from below. none k from (omega (arith, same, below)))
    ∙ ap (λ k. marked_from k marks) same

filter_within : (p q : ℕ → Bool) (n k : ℕ) → ((j : ℕ) → k ≤ j → j < k + n → p j ≡ q j) → filter p (range_with_len k n) ≡ filter q (range_with_len k n)
filter_within p q zero k agree = refl
filter_within p q (suc n) k agree =
    let rest : filter p (range_with_len (k + 1) n) ≡ filter q (range_with_len (k + 1) n) = filter_within p q n (k + 1) (λ j from below. agree j (omega (arith, from)) (omega (arith, below))) in
    ap (λ l. cond (p k) (k ∷ l) l) rest
    ∙ ap (λ b. cond b (k ∷ filter q (range_with_len (k + 1) n)) (filter q (range_with_len (k + 1) n))) (agree k (omega arith) (omega arith))

-- marks that agree from a page on mark the same pages from there on
pub same_from : (ms ns : List Bool) (k : ℕ) → length ms ≡ length ns → ((j : ℕ) → k ≤ j → j < length ns → get_or ms j false ≡ get_or ns j false) → marked_from k ms ≡ marked_from k ns
same_from ms ns k long agree =
    ap (λ n. filter (λ j. get_or ms j false) (range_with_len k (n - k))) long
    ∙ filter_within (λ j. get_or ms j false) (λ j. get_or ns j false) (length ns - k) k (λ j from below. agree j from (omega (arith, from, below)))

taken_suc : (n : ℕ) (xs : List ℕ) (y : ℕ) (ys : List ℕ) → drop n xs ≡ y ∷ ys → (take (suc n) xs ≡ take n xs ++ y ∷ []) × (drop (suc n) xs ≡ ys) × (n < length xs)
taken_suc zero (x ∷ xs) y ys is = (ap (λ l. take 1 l) is, ap (λ l. drop 1 l) is, omega arith)
taken_suc (suc n) (x ∷ xs) y ys is =
    let rest = taken_suc n xs y ys is in
    (ap (λ l. x ∷ l) rest.0, rest.1, omega (arith, rest.2))
taken_suc zero [] y ys is = absurd cc
taken_suc (suc n) [] y ys is = absurd cc

-- one number more of a list
pub taken_more : (n : ℕ) (xs : List ℕ) (y : ℕ) (ys : List ℕ) → drop n xs ≡ y ∷ ys → (take (n + 1) xs ≡ take n xs ++ y ∷ []) × (drop (n + 1) xs ≡ ys) × (n < length xs)
taken_more n xs y ys is =
    let next : suc n ≡ n + 1 = omega arith in
    subst (λ m. (take m xs ≡ take n xs ++ y ∷ []) × (drop m xs ≡ ys) × (n < length xs)) next (taken_suc n xs y ys is)

-- A number is in the list.
abbrev pub Has : ℕ → List ℕ → Type 0
Has k [] = ⊥
Has k (x ∷ xs) = (k ≡ x) ⊎ Has k xs

has_filtered : (p : ℕ → Bool) (n lo k : ℕ) → p k ≡ true → lo ≤ k → k < lo + n → Has k (filter p (range_with_len lo n))
has_filtered p zero lo k is from below = absurd (omega (arith, from, below))
has_filtered p (suc n) lo k is from below = elim (cases_eq lo k) [
  | inl here ↦
      let P : Bool → Type 0 = λ b. Has k (cond b (lo ∷ filter p (range_with_len (lo + 1) n)) (filter p (range_with_len (lo + 1) n))) in
      subst P (sym (ap p here ∙ is)) (inl (sym here))
  | inr other ↦
      let rest : Has k (filter p (range_with_len (lo + 1) n)) = has_filtered p n (lo + 1) k is (omega (arith, from, other)) (omega (arith, below)) in
      has_either (p lo) lo k (filter p (range_with_len (lo + 1) n)) rest
] where
  has_either : (b : Bool) (lo k : ℕ) (l : List ℕ) → Has k l → Has k (cond b (lo ∷ l) l)
  has_either true lo k l has = inr has
  has_either false lo k l has = has

-- a marked page is among the marked pages
pub has_marked : (marks : List Bool) (k : ℕ) → k < length marks → get_or marks k false ≡ true → Has k (marked_pages marks)
has_marked marks k below is = has_filtered (λ j. get_or marks j false) (length marks) 0 k is (omega arith) (omega (arith, below))

-- what a list has is in its front or behind it
pub has_part : (n k : ℕ) (xs : List ℕ) → Has k xs → Has k (take n xs) ⊎ Has k (drop n xs)
has_part zero k xs has = inr has
has_part (suc n) k [] has = absurd has
has_part (suc n) k (x ∷ xs) (inl is) = inl (inl is)
has_part (suc n) k (x ∷ xs) (inr has) = elim (has_part n k xs has) [
  | inl front ↦ inl (inr front)
  | inr back ↦ inr back
]

-- Each number of the list is one of a run, and they rise.
abbrev pub RiseIn : ℕ → ℕ → List ℕ → Type 0
RiseIn lo end [] = Unit {0}
RiseIn lo end (k ∷ ks) = (lo ≤ k) × (k < end) × RiseIn (k + 1) end ks

rise_weaker : (lo from end : ℕ) (ks : List ℕ) → lo ≤ from → RiseIn from end ks → RiseIn lo end ks
rise_weaker lo from end [] less rise = rise
rise_weaker lo from end (k ∷ ks) less rise = (omega (arith, less, rise.0), rise.1, rise.2)

filter_rises : (p : ℕ → Bool) (n lo end : ℕ) → lo + n ≤ end → RiseIn lo end (filter p (range_with_len lo n))
filter_rises p zero lo end fits = tt
filter_rises p (suc n) lo end fits = rises_either (p lo) lo end (filter p (range_with_len (lo + 1) n)) (omega (arith, fits)) (filter_rises p n (lo + 1) end (omega (arith, fits))) where
  rises_either : (b : Bool) (lo end : ℕ) (l : List ℕ) → lo < end → RiseIn (lo + 1) end l → RiseIn lo end (cond b (lo ∷ l) l)
  rises_either true lo end l below rise = (omega arith, below, rise)
  rises_either false lo end l below rise = rise_weaker lo (lo + 1) end l (omega arith) rise

-- marked pages rise, below the number of pages
pub marked_rise : (k : ℕ) (marks : List Bool) → k ≤ length marks → RiseIn k (length marks) (marked_from k marks)
marked_rise k marks fits = filter_rises (λ j. get_or marks j false) (length marks - k) k (length marks) (omega (arith, fits))

pub pages_rise : (marks : List Bool) → RiseIn 0 (length marks) (marked_pages marks)
pages_rise marks = filter_rises (λ j. get_or marks j false) (length marks) 0 (length marks) (omega arith)

-- so do the first of them, and those behind
pub take_rises : (n lo end : ℕ) (ks : List ℕ) → RiseIn lo end ks → RiseIn lo end (take n ks)
take_rises zero lo end ks rise = tt
take_rises (suc n) lo end [] rise = rise
take_rises (suc n) lo end (k ∷ ks) rise = (rise.0, rise.1, take_rises n (k + 1) end ks rise.2)

pub drop_rises : (n lo end : ℕ) (ks : List ℕ) → RiseIn lo end ks → RiseIn lo end (drop n ks)
drop_rises zero lo end ks rise = rise
drop_rises (suc n) lo end [] rise = rise
drop_rises (suc n) lo end (k ∷ ks) rise = rise_weaker lo (k + 1) end (drop n ks) (omega (arith, rise.0)) (drop_rises n (k + 1) end ks rise.2)

-- Workers in a list, each with its place as its number.
use Rattle.std.proofs.Common.{◌≡◌, ℕ, ◌+◌, ◌-◌, ◌<◌, ◌++◌, List, [], ◌∷◌, length, refl, sym, ap, subst, ◌∙◌, arith, inl, inr, slice_index_or, All}
use Rattle.std.proofs.lemmas.Bool.{cases_lt}
use Rattle.std.proofs.lemmas.List.{get_or_append_left, length-append}
use Rattle.std.proofs.lemmas.List.Elements.{All-push}
use Rattle.pool_hall.specs.Step.{left_with}
use Rattle.pool_hall.specs.declared.view.View.{View}

last_of : {X : Type 0} (xs : List X) (x d : X) → slice_index_or (xs ++ x ∷ []) (length xs) d ≡ x
last_of [] x d = refl
last_of (y ∷ ys) x d = last_of ys x d

-- One more, whose number is its place.
pub numbered_more : {X : Type 0} (number : X → ℕ) (xs : List X) (x : X) → ((i : ℕ) (d : X) → i < length xs → number (slice_index_or xs i d) ≡ i) → number x ≡ length xs → (i : ℕ) (d : X) → i < length (xs ++ x ∷ []) → number (slice_index_or (xs ++ x ∷ []) i d) ≡ i
numbered_more number xs x numbers is i d below =
    elim (cases_lt i (length xs)) [
      | inl earlier ↦ ap number (get_or_append_left xs (x ∷ []) d i earlier) ∙ numbers i d earlier
      | inr last ↦
          let here : length xs ≡ i = omega (arith, last, below, length-append xs (x ∷ [])) in
          subst (λ (n : ℕ). number (slice_index_or (xs ++ x ∷ []) n d) ≡ n) here (ap number (last_of xs x d) ∙ is)
    ]

-- So it is of a list that has one more, whatever is so of each.
pub record HasMore {X : Type 0} (P : X → Type 0) (number : X → ℕ) (n : ℕ) (ys : List X) : Type 0 where
  pub each : All P ys
  pub numbers : (i : ℕ) (d : X) → i < length ys → number (slice_index_or ys i d) ≡ i
  pub done : length ys ≡ n + 1

pub has_more : {X : Type 0} (P : X → Type 0) (number : X → ℕ) (n : ℕ) (xs ys : List X) (x : X) → ys ≡ xs ++ x ∷ [] → All P xs → P x → ((i : ℕ) (d : X) → i < length xs → number (slice_index_or xs i d) ≡ i) → number x ≡ n → length xs ≡ n → HasMore P number n ys
has_more P number n xs ys x is each one numbers place done =
    subst (HasMore P number n) (sym is)
    (record { each = All-push P xs x each one; numbers = numbered_more number xs x numbers (place ∙ sym done); done = omega (arith, length-append xs (x ∷ []), done) })

-- Portions are given away one after the other.
pub left_more : {T : Type 0} (m n k : ℕ) (v : View T) → k ≡ n + m → left_with m (left_with n v) ≡ left_with k v
left_more m n k v is =
    let same : v.portions - n - m ≡ v.portions - k = omega (arith, is) in
    ap (λ (p : ℕ). record v { portions = p }) same

pub left_none : {T : Type 0} (v : View T) → v ≡ left_with 0 v
left_none v =
    let same : v.portions ≡ v.portions - 0 = omega arith in
    ap (λ (p : ℕ). record v { portions = p }) same

-- The workers' seats are joined one after the other: how the lists of workers and of replies go on.
use Rattle.std.proofs.Common.{◌≡◌, ℕ, zero, suc, ◌+◌, ◌<◌, ◌≤◌, ◌++◌, List, [], ◌∷◌, length, refl, sym, ap, subst, ◌∙◌, arith, All, slice_index_or}
use Rattle.std.proofs.lemmas.List.{length-append}
use Rattle.std.proofs.lemmas.List.Elements.{All-head, All-tail}

module _ {X Y : Type 0} (P : X → Type 0) (number : X → ℕ) (x : X) (left rest : List X) (had new : List Y) (y : Y) (next : left ≡ x ∷ rest) (pushed : new ≡ had ++ y ∷ []) where
  -- The next one is one of them,
  pub next_is : All P left → P x
  next_is all = All-head P x rest (subst (All P) next all)

  pub rest_are : All P left → All P rest
  rest_are all = All-tail P x rest (subst (All P) next all)

  -- and its number is that of those before it.
  pub next_number : ((i : ℕ) (d : X) → i < length left → number (slice_index_or left i d) ≡ length had + i) → number x ≡ length had
  next_number numbers =
      let all : (i : ℕ) (d : X) → i < length (x ∷ rest) → number (slice_index_or (x ∷ rest) i d) ≡ length had + i = subst (λ (xs : List X). (i : ℕ) (d : X) → i < length xs → number (slice_index_or xs i d) ≡ length had + i) next numbers in
      omega (arith, all 0 x (omega arith))

  pub new_long : length new ≡ length had + 1
  new_long = omega (arith, ap (λ (ys : List Y). length ys) pushed, length-append had (y ∷ []))

  pub rest_numbers : ((i : ℕ) (d : X) → i < length left → number (slice_index_or left i d) ≡ length had + i) → (i : ℕ) (d : X) → i < length rest → number (slice_index_or rest i d) ≡ length new + i
  rest_numbers numbers i d below =
      let all : (i : ℕ) (d : X) → i < length (x ∷ rest) → number (slice_index_or (x ∷ rest) i d) ≡ length had + i = subst (λ (xs : List X). (i : ℕ) (d : X) → i < length xs → number (slice_index_or xs i d) ≡ length had + i) next numbers in
      omega (arith, all (suc i) d (omega (arith, below)), new_long)

  pub rest_left : (n : ℕ) → length had + length left ≡ n → length new + length rest ≡ n
  rest_left n is = omega (arith, is, new_long, ap (λ (xs : List X). length xs) next)

  pub room_left : (n room : ℕ) → length had + length left ≡ n → n ≤ room → length had < room
  room_left n room is enough = omega (arith, is, enough, ap (λ (xs : List X). length xs) next)

-- A number is in a list that rises where it stands behind those that are below it.
use Rattle.std.proofs.Common.{◌≡◌, ℕ, ◌<◌, ◌≤◌, ◌==◌, List, true, false, length, get_or, inl, inr, sym, ◌∙◌, arith}
use Rattle.pool_table.proofs.Imports.{cases_lt, nat_tests, All-from_get_or, list_any_none, list_any_at, list_any, IsNonDecreasing}
use Rattle.pool_table.specs.FailingNumbers.{HasBelow}

-- those behind are above it
none_is : (xs : List ℕ) (count number : ℕ) → HasBelow count number xs → ((k : ℕ) → count ≤ k → k < length xs → number < get_or xs k 0) → list_any (λ n. n == number) xs ≡ false
none_is xs count number has above =
    list_any_none (λ n. n == number) xs
    (All-from_get_or (λ x. (x == number) ≡ false) xs 0 (λ k inside.
    elim (cases_lt k count) [
      | inl under ↦ grind (arith, nat_tests, has.before k under)
      | inr over ↦ grind (arith, nat_tests, above k over inside)
    ]))

pub is_behind : (xs : List ℕ) (count number : ℕ) → IsNonDecreasing xs → HasBelow count number xs → count < length xs → (get_or xs count 0 == number) ≡ list_any (λ n. n == number) xs
is_behind xs count number rises has there =
    elim (cases_lt number (get_or xs count 0)) [
      | inl above ↦
          let apart : (get_or xs count 0 == number) ≡ false = grind (arith, nat_tests, above) in
          apart ∙ sym (none_is xs count number has (λ k from below. omega (arith, rises count k 0 from below, above)))
      | inr under ↦
          let same : get_or xs count 0 ≡ number = omega (arith, under, has.from count (omega arith) there) in
          let is : (get_or xs count 0 == number) ≡ true = grind (arith, nat_tests, same) in
          is ∙ sym (list_any_at (λ n. n == number) xs count 0 there is)
    ]

pub none_behind : (xs : List ℕ) (count number : ℕ) → HasBelow count number xs → length xs ≤ count → list_any (λ n. n == number) xs ≡ false
none_behind xs count number has past = none_is xs count number has (λ k from below. absurd (omega (arith, from, below, past)))

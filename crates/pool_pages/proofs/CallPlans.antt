-- What a sorted list of numbers has, by its places.
use Rattle.std.proofs.Common.{◌≡◌, ℕ, suc, ◌<◌, ◌≤◌, Bool, true, false, ◌||◌, ◌==◌, List, [], ◌∷◌, length, get_or, refl, ap, ◌∙◌, arith, inl, inr, zero}
use Rattle.pool_pages.proofs.Imports.{list_any, ne_eqb, nat_tests, cases_lt, get_or_default}
use Rattle.std.specs.List.Sorted.{IsNonDecreasing}
use Rattle.pool_pages.specs.FailingTold.{HasNone}

-- none of the places has it
pub none_listed : (n : ℕ) (xs : List ℕ) → ((k d : ℕ) → k < length xs → (get_or xs k d == n) ≡ false) → list_any (λ m. m == n) xs ≡ false
none_listed n [] none = refl
none_listed n (x ∷ xs) none =
    ap (λ b. b || list_any (λ m. m == n) xs) (none 0 x (omega arith))
    ∙ none_listed n xs (λ k d below. none (suc k) d (omega arith))

or_true : (b : Bool) → (b || true) ≡ true
or_true true = refl
or_true false = refl

same_number : (n : ℕ) → (n == n) ≡ true
same_number n = grind (arith, nat_tests)

-- it has what stands at a place
pub listed_there : (xs : List ℕ) (i d : ℕ) → i < length xs → list_any (λ m. m == get_or xs i d) xs ≡ true
listed_there [] i d below = absurd (omega (arith, below))
listed_there (x ∷ xs) zero d below = ap (λ b. b || list_any (λ m. m == x) xs) (same_number x)
listed_there (x ∷ xs) (suc i) d below = ap (λ b. (x == get_or xs i d) || b) (listed_there xs i d (omega (arith, below))) ∙ or_true (x == get_or xs i d)

-- where the places below one are below `from`, and the one is the first that isn't
pub none_between : (xs : List ℕ) (from i : ℕ) → IsNonDecreasing xs → i < length xs → ((k d : ℕ) → k < i → get_or xs k d < from) → HasNone from (get_or xs i 0) xs
none_between xs from i order there below n above under = none_listed n xs (λ k d inside.
    elim (cases_lt k i) [
      | inl before ↦ ne_eqb (get_or xs k d) n (λ same. absurd (omega (arith, same, below k d before)))
      | inr behind ↦ ne_eqb (get_or xs k d) n (λ same. absurd (omega (arith, same, order i k d behind inside, get_or_default xs i d 0 there)))
    ])

-- where each place is below `from`
pub none_from : (xs : List ℕ) (from n : ℕ) → ((k d : ℕ) → k < length xs → get_or xs k d < from) → from ≤ n → list_any (λ m. m == n) xs ≡ false
none_from xs from n below above = none_listed n xs (λ k d inside. ne_eqb (get_or xs k d) n (λ same. absurd (omega (arith, same, below k d inside))))

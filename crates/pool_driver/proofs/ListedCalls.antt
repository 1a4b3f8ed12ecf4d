-- How many calls a plan lists of those that were made are no more than the different calls that it lists in all.
use Rattle.std.proofs.Common.{◌≡◌, ℕ, zero, suc, ◌+◌, ◌≤◌, ◌⊎◌, inl, inr, ◌==◌, ◌||◌, if◌then◌else◌, Bool, true, false, List, [], ◌∷◌, not, refl, ap, subst, arith}
use Rattle.std.proofs.lemmas.Bool.{eqb-true, false≢true}
use Rattle.std.specs.List.{list_any}
use Rattle.pool_hall.specs.Sum.{one_if}
use Rattle.pool_pages.specs.Told.{listed_among}
use Rattle.pool_pages.proofs.ListedCalls.{none_fails}
use Rattle.pool_driver.specs.ListedCalls.{calls_listed}

-- An entry is the number of one call at most.
entry_next : (x n p q : ℕ) (b c : Bool) → (b ≡ true → x ≡ suc n) → (p ≡ q) ⊎ ((x ≤ n) × (p ≤ suc q)) → ((if b || c then suc p else p) ≡ (if c then suc q else q)) ⊎ ((x ≤ suc n) × ((if b || c then suc p else p) ≤ suc (if c then suc q else q)))
entry_next x n p q true true is (inl same) = inl (ap suc same)
entry_next x n p q true true is (inr more) = absurd (omega (arith, is refl, more.0))
entry_next x n p q true false is (inl same) = inr (omega (arith, is refl), omega (arith, same))
entry_next x n p q true false is (inr more) = absurd (omega (arith, is refl, more.0))
entry_next x n p q false true is (inl same) = inl (ap suc same)
entry_next x n p q false true is (inr more) = inr (omega (arith, more.0), omega (arith, more.1))
entry_next x n p q false false is (inl same) = inl same
entry_next x n p q false false is (inr more) = inr (omega (arith, more.0), more.1)

entry_lists : (x : ℕ) (xs : List ℕ) (n : ℕ) → (listed_among (x ∷ xs) n ≡ listed_among xs n) ⊎ ((x ≤ n) × (listed_among (x ∷ xs) n ≤ suc (listed_among xs n)))
entry_lists x xs zero = inl refl
entry_lists x xs (suc n) = entry_next x n (listed_among (x ∷ xs) n) (listed_among xs n) (x == suc n) (list_any (λ m. m == suc n) xs) (eqb-true x (suc n)) (entry_lists x xs n)

-- One that is listed again lists none more.
again_next : (x n p q : ℕ) (b c : Bool) → (b ≡ true → c ≡ true) → p ≡ q → (if b || c then suc p else p) ≡ (if c then suc q else q)
again_next x n p q true true is same = ap suc same
again_next x n p q true false is same = absurd (false≢true (is refl))
again_next x n p q false true is same = ap suc same
again_next x n p q false false is same = same

again_lists : (x : ℕ) (xs : List ℕ) (n : ℕ) → list_any (λ m. m == x) xs ≡ true → listed_among (x ∷ xs) n ≡ listed_among xs n
again_lists x xs zero again = refl
again_lists x xs (suc n) again =
    again_next x n (listed_among (x ∷ xs) n) (listed_among xs n) (x == suc n) (list_any (λ m. m == suc n) xs)
    (λ here. subst (λ (k : ℕ). list_any (λ m. m == k) xs ≡ true) (eqb-true x (suc n) here) again) (again_lists x xs n again)

-- So a plan lists no more of the calls that were made than it lists in all.
entry_most : (x n : ℕ) (xs : List ℕ) (b : Bool) → list_any (λ m. m == x) xs ≡ b → listed_among xs n ≤ calls_listed xs → listed_among (x ∷ xs) n ≤ one_if (not b) + calls_listed xs
entry_most x n xs true again most = omega (arith, again_lists x xs n again, most)
entry_most x n xs false again most =
    elim (entry_lists x xs n) [
      | inl same ↦ omega (arith, same, most)
      | inr more ↦ omega (arith, more.1, most)
    ]

pub listed_most : (plan : List ℕ) (n : ℕ) → listed_among plan n ≤ calls_listed plan
listed_most [] n = omega (arith, none_fails n)
listed_most (x ∷ xs) n = entry_most x n xs (list_any (λ m. m == x) xs) refl (listed_most xs n)

-- The parts of a test.
use Rattle.std.proofs.Common.{◌≡◌, ℕ, zero, suc, List, [], ◌∷◌, Some, Bool, true, subst}
use Rattle.pool_run.proofs.Imports.{list_all, slice_get, first_true, second_true}

-- what holds of all holds of one
pub of_all : {X : Type 0} (test : X → Bool) (xs : List X) (i : ℕ) (x : X) → list_all test xs ≡ true → slice_get xs i ≡ Some x → test x ≡ true
of_all test [] i x all is = absurd cc
of_all {X = X} test (y ∷ ys) zero x all is =
    let P : X → Type 0 = λ z. test z ≡ true in
    let same : y ≡ x = cc in
    subst P same (first_true (test y) (list_all test ys) all)
of_all test (y ∷ ys) (suc i) x all is = of_all test ys i x (second_true (test y) (list_all test ys) all) is

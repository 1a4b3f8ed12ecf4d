-- What is told where something is there.
use Rattle.std.proofs.Common.{◌≡◌, get_or, replicate, inl, inr, ℕ, zero, suc, ◌<◌, List, [], ◌∷◌, length, arith, IfSome, slice_get}
use Rattle.pool_alloc.proofs.Imports.{cases_lt, length-replicate, get_or-replicate, get_or_past}

-- each element of a list of one thing is that thing, also past the end
pub replicated : {X : Type 0} (n k : ℕ) (x : X) → get_or (replicate {A = X} n x) k x ≡ x
replicated {X} n k x =
    elim (cases_lt k n) [
      | inl inside ↦ get_or-replicate {A = X} n k x x inside
      | inr past ↦ get_or_past (replicate {A = X} n x) k x (omega (arith, length-replicate {A = X} n x))
    ]

-- what is told of an element that is there
pub told_there : {X : Type 0} (Q : Type 0) (xs : List X) (k : ℕ) → k < length xs → IfSome (slice_get xs k) (λ x. Q) → Q
told_there Q [] k below h = absurd (omega arith)
told_there Q (x ∷ xs) zero below h = h
told_there Q (x ∷ xs) (suc k) below h = told_there Q xs k (omega arith) h

-- Sums over lists.
use Rattle.std.specs.Prelude.{◌≡◌, ◌≢◌, ℕ, ◌+◌, ◌==◌, Bool, true, false, List, [], ◌∷◌, ◌++◌, slice_set}
use mathlib.Core.Option.{some}
use lib.ListN.{get_elem?}

-- 1 where the test holds
abbrev pub one_if : Bool → ℕ
one_if true = 1
one_if false = 0

-- the sum of f over the list: 0 of none, and otherwise f of the first plus the sum over the rest
abbrev pub total : {X : Type 0} → (X → ℕ) → List X → ℕ
total f [] = 0
total f (x ∷ xs) = f x + total f xs

-- how often a number stands in the list
abbrev pub often : ℕ → List ℕ → ℕ
often n ns = total (λ m. one_if (n == m)) ns

module _ {X : Type 0} (f : X → ℕ) where
  -- where one element changes, the sum changes by the difference
  abbrev pub ChangesWithOne : Type 0
  ChangesWithOne = (l : List X) (i : ℕ) (v w : X) → get_elem? l i ≡ some v → total f (slice_set l i w) + f v ≡ total f l + f w

  -- a new element adds its own number
  abbrev pub GrowsWithOne : Type 0
  GrowsWithOne = (l : List X) (v : X) → total f (l ++ v ∷ []) ≡ total f l + f v

  -- where one element takes over the numbers of another, which keeps what the pair does not need, the sum stays
  abbrev pub StaysAtTakeover : Type 0
  StaysAtTakeover = (l : List X) (i j : ℕ) (v w both spent : X) → get_elem? l i ≡ some v → j ≢ i → get_elem? l j ≡ some w → f both + f spent ≡ f v + f w → total f (slice_set (slice_set l i both) j spent) ≡ total f l

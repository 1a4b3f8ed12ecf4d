-- The numbers of calls that fail, sorted.
use Rattle.std.specs.Prelude.{◌≡◌, ℕ, ◌<◌, ◌≤◌, ◌==◌, List, length, slice_index_or}
use Rattle.std.specs.List.{list_any}

-- the lists have the same numbers
abbrev pub HasSame : List ℕ → List ℕ → Type 0
HasSame xs ys = (n : ℕ) → list_any (λ m. m == n) xs ≡ list_any (λ m. m == n) ys

-- the first so many of them are below this number, and the others aren't
pub record HasBelow (count number : ℕ) (xs : List ℕ) : Type 0 where
  pub within : count ≤ length xs
  pub before : (k : ℕ) → k < count → slice_index_or xs k 0 < number
  pub from : (k : ℕ) → count ≤ k → k < length xs → number ≤ slice_index_or xs k 0

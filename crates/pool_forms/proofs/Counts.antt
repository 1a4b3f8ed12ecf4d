-- Counts of replies over all parties.
use Rattle.std.proofs.Common.{◌≡◌, ℕ, ◌+◌, ◌^◌, ◌<◌, ◌≤◌, List, [], ◌∷◌, length, take, Bool, sum_by, slice_index_or, sym, ap, arith}
use Rattle.std.proofs.lemmas.List.Sums.{count_by-le-length, sum_by-cons, sum_by-take-le, sum_by_more}
use Rattle.std.specs.List.{count_by}

-- counts in lists are together no more than what the lists have
counts_few : {X : Type 0} (p : X → Bool) (xs : List (List X)) → sum_by (count_by p) xs ≤ sum_by length xs
counts_few p [] = omega arith
counts_few {X} p (x ∷ xs) = omega (arith, sum_by-cons (count_by p) x xs, sum_by-cons (length {A = X}) x xs, count_by-le-length p x, counts_few p xs)

-- the count so far, with that of one list more
pub count_fits : {X : Type 0} (p : X → Bool) (xs : List (List X)) (i count n : ℕ) (x : List X)
    → count ≡ sum_by (count_by p) (take i xs) → i < length xs → x ≡ slice_index_or xs i x → n ≡ count_by p x → sum_by length xs < 2 ^ 64 → count + n < 2 ^ 64
count_fits p xs i count n x so_far below is more few =
    let next : sum_by (count_by p) (take (i + 1) xs) ≡ sum_by (count_by p) (take i xs) + count_by p (slice_index_or xs i x) = sum_by_more (count_by p) xs i x below in
    let same : count_by p (slice_index_or xs i x) ≡ count_by p x = ap (count_by p) (sym is) in
    omega (arith, next, same, so_far, more, few, sum_by-take-le (count_by p) xs (i + 1), counts_few p xs)

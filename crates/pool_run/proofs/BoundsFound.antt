-- The sizes of a pool, as they are found allocator by allocator.
use Rattle.std.proofs.Common.{◌≡◌, ℕ, ◌+◌, ◌*◌, List, [], ◌∷◌, ◌++◌, refl, sym, ap, ◌∙◌, arith, max, sum_by, ◌<◌, length, get_or, take}
use Rattle.pool_run.proofs.Imports.{sum_by-cons, take_more, Allocator}
use Rattle.pool_alloc.specs.StepBounds.{all_shards, most_shards}

pub most_append : (some more : List Allocator) → most_shards (some ++ more) ≡ max (most_shards some) (most_shards more)
most_append [] more = omega arith
most_append (a ∷ some) more = omega (arith, most_append some more)

pub all_append : (some more : List Allocator) → all_shards (some ++ more) ≡ all_shards some + all_shards more
all_append [] more = omega arith
all_append (a ∷ some) more = omega (arith, all_append some more)

-- the same sum of numbers that are the same
pub sum_same : (f g : Allocator → ℕ) (all : List Allocator) → ((a : Allocator) → f a ≡ g a) → sum_by f all ≡ sum_by g all
sum_same f g [] same = refl
sum_same f g (a ∷ all) same = omega (arith, sum_by-cons f a all, sum_by-cons g a all, same a, sum_same f g all same)

-- One allocator more.
pub most_more : (all : List Allocator) (i : ℕ) (d : Allocator) (least : ℕ) → i < length all → max least (most_shards (take (i + 1) all)) ≡ max (max least (most_shards (take i all))) (get_or all i d).shards
most_more all i d least below =
    let next : most_shards (take (i + 1) all) ≡ max (most_shards (take i all)) (most_shards (get_or all i d ∷ [])) = ap most_shards (take_more all i d below) ∙ most_append (take i all) (get_or all i d ∷ []) in
    omega (arith, next)

pub all_more : (all : List Allocator) (i : ℕ) (d : Allocator) → i < length all → all_shards (take (i + 1) all) ≡ all_shards (take i all) + (get_or all i d).shards
all_more all i d below = ap all_shards (take_more all i d below) ∙ all_append (take i all) (get_or all i d ∷ []) ∙ omega arith

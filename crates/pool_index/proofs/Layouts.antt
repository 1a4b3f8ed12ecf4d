-- The shards of a layout have all slots and all warm slots.
use Rattle.std.proofs.Common.{◌≡◌, ℕ, ◌+◌, ◌*◌, ◌/◌, ◌%◌, ◌<◌, ◌≤◌, min, arith, ◌∙◌, zero, suc, subst, add-one, sum_by, map, nat_lt, if◌then◌else◌}
use Rattle.pool_index.proofs.Imports.{range_with_len, nat_tests, div_ceil_times, sum_by-map-range_with_len_more}
use Rattle.pool_index.specs.Layout.{capacity_of, budget_of, shard_at, shard_count, slots_per_shard, layout}

-- the slots of the first n shards
first_slots : (capacity warm slots n : ℕ) → sum_by (λ (p : ℕ × ℕ). p.0) (map (shard_at capacity warm slots) (range_with_len 0 n)) ≡ min capacity (n * slots)
first_slots capacity warm slots zero = omega arith
first_slots capacity warm slots (suc n) =
    let more : sum_by (λ (p : ℕ × ℕ). p.0) (map (shard_at capacity warm slots) (range_with_len 0 (n + 1))) ≡ sum_by (λ (p : ℕ × ℕ). p.0) (map (shard_at capacity warm slots) (range_with_len 0 n)) + capacity_of capacity slots n = sum_by-map-range_with_len_more (λ (p : ℕ × ℕ). p.0) (shard_at capacity warm slots) 0 n n (omega arith) in
    let before : sum_by (λ (p : ℕ × ℕ). p.0) (map (shard_at capacity warm slots) (range_with_len 0 n)) ≡ min capacity (n * slots) = first_slots capacity warm slots n in
    let here : sum_by (λ (p : ℕ × ℕ). p.0) (map (shard_at capacity warm slots) (range_with_len 0 (n + 1))) ≡ min capacity ((n + 1) * slots) = omega arith in
    subst (λ m. sum_by (λ (p : ℕ × ℕ). p.0) (map (shard_at capacity warm slots) (range_with_len 0 m)) ≡ min capacity (m * slots)) (add-one n) here

one_more_below : (k r : ℕ) → min k r + (if nat_lt k r then 1 else 0) ≡ min (k + 1) r
one_more_below k r = grind (arith, nat_tests)

-- the warm slots of the first n shards
first_budgets : (capacity warm slots n : ℕ) → sum_by (λ (p : ℕ × ℕ). p.1) (map (shard_at capacity warm slots) (range_with_len 0 n)) ≡ n * (warm / shard_count capacity slots) + min n (warm % shard_count capacity slots)
first_budgets capacity warm slots zero = omega arith
first_budgets capacity warm slots (suc n) =
    let c : ℕ = shard_count capacity slots in
    let more : sum_by (λ (p : ℕ × ℕ). p.1) (map (shard_at capacity warm slots) (range_with_len 0 (n + 1))) ≡ sum_by (λ (p : ℕ × ℕ). p.1) (map (shard_at capacity warm slots) (range_with_len 0 n)) + budget_of warm c n = sum_by-map-range_with_len_more (λ (p : ℕ × ℕ). p.1) (shard_at capacity warm slots) 0 n n (omega arith) in
    let before : sum_by (λ (p : ℕ × ℕ). p.1) (map (shard_at capacity warm slots) (range_with_len 0 n)) ≡ n * (warm / c) + min n (warm % c) = first_budgets capacity warm slots n in
    let one : min n (warm % c) + (if nat_lt n (warm % c) then 1 else 0) ≡ min (n + 1) (warm % c) = one_more_below n (warm % c) in
    let here : sum_by (λ (p : ℕ × ℕ). p.1) (map (shard_at capacity warm slots) (range_with_len 0 (n + 1))) ≡ (n + 1) * (warm / c) + min (n + 1) (warm % c) = omega arith in
    subst (λ m. sum_by (λ (p : ℕ × ℕ). p.1) (map (shard_at capacity warm slots) (range_with_len 0 m)) ≡ m * (warm / c) + min m (warm % c)) (add-one n) here

-- as many shards hold all slots
enough : (capacity slots : ℕ) → 0 < slots → capacity ≤ shard_count capacity slots * slots
enough capacity slots some = grind (arith, div_ceil_times capacity slots some)

all_slots : (capacity warm slots : ℕ) → 0 < slots → sum_by (λ (p : ℕ × ℕ). p.0) (map (shard_at capacity warm slots) (range_with_len 0 (shard_count capacity slots))) ≡ capacity
all_slots capacity warm slots some = omega (arith, first_slots capacity warm slots (shard_count capacity slots), enough capacity slots some)

shared_out : (warm c : ℕ) → 0 < c → c * (warm / c) + min c (warm % c) ≡ warm
shared_out warm c some = omega arith

all_budgets : (capacity warm slots : ℕ) → sum_by (λ (p : ℕ × ℕ). p.1) (map (shard_at capacity warm slots) (range_with_len 0 (shard_count capacity slots))) ≡ warm
all_budgets capacity warm slots = first_budgets capacity warm slots (shard_count capacity slots) ∙ shared_out warm (shard_count capacity slots) (omega arith)

pub layout_slots : (capacity warm requested : ℕ) → sum_by (λ (p : ℕ × ℕ). p.0) (layout capacity warm requested).shards ≡ capacity
layout_slots capacity warm requested = all_slots capacity warm (slots_per_shard capacity requested) (omega arith)

pub layout_budgets : (capacity warm requested : ℕ) → sum_by (λ (p : ℕ × ℕ). p.1) (layout capacity warm requested).shards ≡ warm
layout_budgets capacity warm requested = all_budgets capacity warm (slots_per_shard capacity requested)

-- The parts of a pool are made one behind the other, each at the place that the plan has for it.
use Rattle.std.proofs.Common.{◌≡◌, ◌≢◌, ℕ, zero, suc, ◌+◌, ◌-◌, ◌*◌, ◌/◌, ◌%◌, ◌^◌, ◌<◌, ◌≤◌, List, [], ◌∷◌, ◌++◌, length, take, get_or, refl, sym, ap, ◌∙◌, subst, add-one, append-nil, append_assoc, inl, inr, arith, map, min, replicate, Option, None, is_some, count_by}
use Rattle.pool_slots.proofs.Imports.{AllByRecursion, range_with_len, le-ltb, length-replicate, All-nil, map-range_with_len_more, take-suc, each_at, MemoryInModule, WarmSlot}
use Rattle.pool_slots.specs.ListUnits.{IsShardOf}
use Rattle.pool_slots.specs.Plans.{slots_at}
use Rattle.pool_slots.specs.PartsMade.{shard_made, shard_part, shard_parts, queue_made, heaps_part, heaps_parts, HasNumbers, HaveNumbers}
use Rattle.pool_slots.specs.declared.plan.Allocator.{Allocator}
use Rattle.pool_slots.specs.declared.part.PoolPart.{PoolPart}

one_behind : {X : Type 0} (f : ℕ → X) (xs : List X) (k : ℕ) → xs ++ map f (range_with_len 0 (k + 1)) ≡ (xs ++ map f (range_with_len 0 k)) ++ f k ∷ []
one_behind f xs k = ap (λ l. xs ++ l) (map-range_with_len_more f 0 k k (omega arith)) ∙ sym (append_assoc xs (map f (range_with_len 0 k)) (f k ∷ []))

pub shard_behind : {P H : Type 0} (warm : ℕ) (a : Allocator) (xs : List (PoolPart P H)) (k : ℕ) → xs ++ map (shard_part warm a) (range_with_len 0 (k + 1)) ≡ (xs ++ map (shard_part warm a) (range_with_len 0 k)) ++ shard_part warm a k ∷ []
shard_behind warm a xs k = one_behind (shard_part warm a) xs k

pub queue_behind : {P H : Type 0} (room : ℕ) (xs : List (PoolPart P H)) (k : ℕ) → xs ++ map (queue_made room) (range_with_len 0 (k + 1)) ≡ (xs ++ map (queue_made room) (range_with_len 0 k)) ++ queue_made room k ∷ []
queue_behind room xs k = one_behind (queue_made room) xs k

pub no_list : {P H : Type 0} (total : ℕ) (xs : List (PoolPart P H)) → total ≡ 0 → xs ≡ xs ++ heaps_parts total
no_list total xs none = sym (append-nil xs) ∙ ap (λ n. xs ++ heaps_parts n) (sym none)

pub list_behind : {P H : Type 0} (total : ℕ) (xs : List (PoolPart P H)) → total ≢ 0 → xs ++ heaps_part total ∷ [] ≡ xs ++ heaps_parts total
list_behind zero xs some = absurd (some refl)
list_behind (suc n) xs some = refl

parts_behind : {P H : Type 0} (warm : ℕ) (a : Allocator) (as' : List Allocator) → shard_parts {P = P} {H = H} warm (as' ++ a ∷ []) ≡ shard_parts warm as' ++ map (shard_part warm a) (range_with_len 0 a.shards)
parts_behind warm a [] = append-nil (map (shard_part warm a) (range_with_len 0 a.shards))
parts_behind warm a (b ∷ bs) =
    ap (λ l. map (shard_part warm b) (range_with_len 0 b.shards) ++ l) (parts_behind warm a bs) ∙ sym (append_assoc (map (shard_part warm b) (range_with_len 0 b.shards)) (shard_parts warm bs) (map (shard_part warm a) (range_with_len 0 a.shards)))

-- one allocator more
pub allocator_behind : {P H : Type 0} (warm : ℕ) (all : List Allocator) (a : Allocator) (xs : List (PoolPart P H)) (i : ℕ) → i < length all → ((d : Allocator) → a ≡ get_or all i d) → xs ++ shard_parts warm (take (i + 1) all) ≡ (xs ++ shard_parts warm (take i all)) ++ map (shard_part warm a) (range_with_len 0 a.shards)
allocator_behind warm all a xs i inside is =
    let next : take (i + 1) all ≡ take i all ++ a ∷ [] = ap (λ n. take n all) (add-one i) ∙ take-suc all i a inside ∙ ap (λ (x : Allocator). take i all ++ x ∷ []) (sym (is a)) in
    ap (λ (l : List Allocator). xs ++ shard_parts warm l) next ∙ ap (λ l. xs ++ l) (parts_behind warm a (take i all)) ∙ sym (append_assoc xs (shard_parts warm (take i all)) (map (shard_part warm a) (range_with_len 0 a.shards)))

pub numbers_at : (all : List Allocator) (a : Allocator) (i : ℕ) → i < length all → ((d : Allocator) → a ≡ get_or all i d) → AllByRecursion HaveNumbers all → HaveNumbers a
numbers_at all a i inside is each = subst HaveNumbers (sym (is a)) (each_at HaveNumbers all i a inside each)

unused : {A : Type 0} (n k : ℕ) → get_or (replicate {A = Option A} n None) k None ≡ None
unused zero k = refl
unused (suc n) zero = refl
unused (suc n) (suc k) = unused n k

none_used : (A : Type 0) (n : ℕ) → count_by is_some (replicate {A = Option A} n None) ≡ 0
none_used A zero = refl
none_used A (suc n) = none_used A n

-- a shard as it is made is one of its allocator
pub made_shard_of : (warm : ℕ) (a : Allocator) (j : ℕ) → HasNumbers a j → IsShardOf a j (shard_made warm a j)
made_shard_of warm a j numbers =
    let n : ℕ = slots_at a j in
    record {
      sound = record {
        partition = λ k. rw (unused {A = Option MemoryInModule} n k, le-ltb k 0 (omega arith)) refl;
        total = omega (arith, none_used (Option MemoryInModule) n);
        cold_at_most = omega arith;
        entries = length-replicate n None;
        bytes = All-nil (λ (e : WarmSlot). e.bytes ≤ 2 ^ 32);
        numbers = numbers.fit;
        small = numbers.few;
        counts = (omega arith, omega arith, omega arith);
      };
      kind = refl;
      first = refl;
      step = refl;
      capacity = refl;
    }

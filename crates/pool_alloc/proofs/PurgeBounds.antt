-- Where a purge goes on, it may pick there, and fewer steps are left.
use Rattle.std.proofs.Common.{◌≡◌, ℕ, zero, suc, ◌+◌, ◌*◌, ◌-◌, ◌<◌, ◌≤◌, Bool, true, false, List, [], ◌∷◌, length, refl, sym, ap, ◌∙◌, arith, Option, Some, None, get_or, ◌⊎◌, inl, inr, IfSome, drop, if◌then◌else◌, nat_lt, sum_by}
use Rattle.pool_alloc.proofs.Imports.{ltb-true, ltb-false, and_parts, sum_by-cons, each_at, Allocator, Plan}
use Rattle.pool_alloc.specs.BetweenSteps.{IsPoolPlan, IsPurging, IsFirstPick, IsPicking}
use Rattle.pool_alloc.specs.Purges.{has_turns, behind_stripe, behind_memory, behind_turn, purged_stripe}
use Rattle.pool_alloc.specs.StepBounds.{PoolSizes, sizes_of, turns_bound, purge_bound, memories_left, turns_left}
use Rattle.pool_alloc.specs.StepReads.{no_allocator}
use Rattle.pool_alloc.specs.declared.pool_core.Settings.{Settings}
use Rattle.pool_alloc.specs.declared.purge.PurgeCursor.{PurgeCursor}
use Rattle.pool_alloc.proofs.BeforeTheTurn.{one_more}
use Rattle.pool_alloc.proofs.PlanPlaces.{stripe_is}
use Rattle.pool_alloc.proofs.SharedByRows.{same_times}

-- a sum over the elements from a place on
pub drop_sum : {X : Type 0} (g : X → ℕ) (xs : List X) (k : ℕ) (d : X) → k < length xs → sum_by g (drop k xs) ≡ g (get_or xs k d) + sum_by g (drop (k + 1) xs)
drop_sum g [] k d below = absurd (omega arith)
drop_sum g (x ∷ xs) zero d below = sum_by-cons g x xs
drop_sum g (x ∷ xs) (suc k) d below = drop_sum g xs k d (omega (arith, below)) ∙ ap (λ (n : ℕ). g (get_or xs k d) + sum_by g (drop n (x ∷ xs))) {x = suc (k + 1)} {y = suc k + 1} (omega arith)

some_if : {X : Type 0} (Q : X → Type 0) (b : Bool) (x y : Option X) → (b ≡ true → IfSome x Q) → (b ≡ false → IfSome y Q) → IfSome (if b then x else y) Q
some_if Q true x y yes' no' = yes' refl
some_if Q false x y yes' no' = no' refl

-- what is left of a purge that picks next, where it has turns
abbrev pub picks_of : PoolSizes → PurgeCursor → ℕ → ℕ
picks_of z p tried = ((purged_stripe z.plan p).capacity - p.turn) * (z.shards + 4) + (z.shards - tried) + memories_left z p

first_turn : (z : PoolSizes) (p : PurgeCursor) → p.turn ≡ 0 → picks_of z p 0 ≤ turns_bound z (purged_stripe z.plan p) + memories_left z p
first_turn z p none = omega (arith, same_times ((purged_stripe z.plan p).capacity - p.turn) (purged_stripe z.plan p).capacity (z.shards + 4) (omega (arith, none)))

times_sum : (m a b : ℕ) → m * (a + b) ≡ m * a + m * b
times_sum zero a b = omega arith
times_sum (suc m) a b = omega (arith, one_more (suc m) m (a + b) (omega arith), one_more (suc m) m a (omega arith), one_more (suc m) m b (omega arith), times_sum m a b)

module _ (s : Settings) (plan : Plan) (places : ℕ) (is : IsPoolPlan plan places) (some : 0 < plan.totals.memory) where
  abbrev pub z : PoolSizes
  z = sizes_of s plan

  abbrev pub GoesOn : ℕ → PurgeCursor → Type 0
  GoesOn left n = IsPicking s plan n 0 × (picks_of z n 0 ≤ left)

  begins_in : (n : PurgeCursor) → n.stripe < length plan.memories → n.memory < s.max_memories_per_module → n.turn ≡ 0 → IsPicking s plan n 0
  begins_in n stripe memory turn =
      let filled : 0 < (purged_stripe plan n).capacity = each_at (λ (a : Allocator). 0 < a.capacity) plan.memories n.stripe no_allocator stripe (is.filled some) in
      record { purging = record { stripe = stripe; memory = memory; turn = omega (arith, filled, turn); some = some }; tried = (stripe_is plan places n.stripe is stripe).some }

  stripe_goes : (p : PurgeCursor) → IsPurging s plan p → s.max_memories_per_module ≤ p.memory + 1 → IfSome (behind_stripe plan p) (GoesOn (memories_left z p))
  stripe_goes p at last =
      let m : ℕ = s.max_memories_per_module in
      some_if (GoesOn (memories_left z p)) (nat_lt (p.stripe + 1) (length plan.memories)) _ None
      (λ more.
      let inside : p.stripe + 1 < length plan.memories = ltb-true _ _ more in
      let n : PurgeCursor = record p { stripe = p.stripe + 1; memory = 0; turn = 0 } in
      let b : ℕ = turns_bound z (purged_stripe plan n) in
      let rest : ℕ = sum_by (turns_bound z) (drop (p.stripe + 1 + 1) plan.memories) in
      let sum : sum_by (turns_bound z) (drop (p.stripe + 1) plan.memories) ≡ b + rest = drop_sum (turns_bound z) plan.memories (p.stripe + 1) no_allocator inside in
      let all : m * sum_by (turns_bound z) (drop (p.stripe + 1) plan.memories) ≡ m * b + m * rest = ap (λ (k : ℕ). m * k) sum ∙ times_sum m b rest in (
        begins_in n inside (omega (arith, at.memory)) refl,
        omega (arith, first_turn z n refl, one_more m (m - (0 + 1)) b (omega (arith, at.memory)), all),
      ))
      (λ last. tt)

  pub memory_goes : (p : PurgeCursor) → IsPurging s plan p → IfSome (behind_memory s.max_memories_per_module plan p) (GoesOn (memories_left z p))
  memory_goes p at =
      let m : ℕ = s.max_memories_per_module in
      some_if (GoesOn (memories_left z p)) (nat_lt (p.memory + 1) m) _ (behind_stripe plan p)
      (λ more.
      let inside : p.memory + 1 < m = ltb-true _ _ more in
      let n : PurgeCursor = record p { memory = p.memory + 1; turn = 0 } in (
        begins_in n at.stripe inside refl,
        omega (arith, first_turn z n refl, one_more (m - (p.memory + 1)) (m - (p.memory + 1 + 1)) (turns_bound z (purged_stripe plan p)) (omega (arith, inside))),
      ))
      (λ last. stripe_goes p at (ltb-false _ _ last))

  pub turn_goes : (p : PurgeCursor) → IsPurging s plan p → IfSome (behind_turn s.max_memories_per_module plan p) (GoesOn (turns_left z p))
  turn_goes p at =
      some_if (GoesOn (turns_left z p)) (nat_lt (p.turn + 1) (purged_stripe plan p).capacity) _ (behind_memory s.max_memories_per_module plan p)
      (λ more.
      let n : PurgeCursor = record p { turn = p.turn + 1 } in (
        record { purging = record { stripe = at.stripe; memory = at.memory; turn = ltb-true _ _ more; some = some }; tried = (stripe_is plan places p.stripe is at.stripe).some },
        omega arith,
      ))
      (λ last. weaker (behind_memory s.max_memories_per_module plan p) (memory_goes p at))
    where
      weaker : (o : Option PurgeCursor) → IfSome o (GoesOn (memories_left z p)) → IfSome o (GoesOn (turns_left z p))
      weaker None goes = goes
      weaker (Some n) goes = (goes.0, omega (arith, goes.1))

  -- Where it has turns it can pick at first, and so it can later.
  pub picking_of : (p : PurgeCursor) (tried : ℕ) → has_turns s.max_memories_per_module plan ≡ true → IsFirstPick p tried ⊎ IsPicking s plan p tried → IsPicking s plan p tried
  picking_of p tried has at = elim at [
    | inl first ↦
        let memories : 0 < s.max_memories_per_module = ltb-true _ _ (and_parts (nat_lt 0 plan.totals.memory) (nat_lt 0 s.max_memories_per_module) has).1 in
        let begins = begins_in p (omega (arith, first.stripe, is.stripes)) (omega (arith, first.memory, memories)) first.turn in
        record { purging = begins.purging; tried = omega (arith, first.first, begins.tried) }
    | inr picking ↦ picking
  ]

-- It begins with no more than its bound.
pub purge_begins : (s : Settings) (plan : Plan) (p : PurgeCursor) → 0 < length plan.memories → p.stripe ≡ 0 → p.memory ≡ 0 → p.turn ≡ 0 → 0 < s.max_memories_per_module → picks_of (sizes_of s plan) p 0 ≤ purge_bound (sizes_of s plan)
purge_begins s plan p stripes stripe memory turn more =
    let z : PoolSizes = sizes_of s plan in
    let m : ℕ = s.max_memories_per_module in
    let b : ℕ = turns_bound z (purged_stripe plan p) in
    let rest : ℕ = sum_by (turns_bound z) (drop (p.stripe + 1) plan.memories) in
    let sum : sum_by (turns_bound z) (drop p.stripe plan.memories) ≡ b + rest = drop_sum (turns_bound z) plan.memories p.stripe no_allocator (omega (arith, stripe, stripes)) in
    let whole : sum_by (turns_bound z) (drop p.stripe plan.memories) ≡ sum_by (turns_bound z) plan.memories = ap (λ (k : ℕ). sum_by (turns_bound z) (drop k plan.memories)) stripe in
    let all : m * sum_by (turns_bound z) plan.memories ≡ m * b + m * rest = ap (λ (k : ℕ). m * k) (sym whole ∙ sum) ∙ times_sum m b rest in
    let first : (m - (p.memory + 1)) * b + b ≡ m * b = sym (one_more m (m - (p.memory + 1)) b (omega (arith, memory, more))) in
    omega (arith, first_turn z p turn, first, all)

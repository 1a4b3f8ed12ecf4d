-- The slots of a stripe are those whose numbers leave its number.
use Rattle.std.proofs.Common.{◌≡◌, ℕ, ◌+◌, ◌-◌, ◌*◌, ◌/◌, ◌%◌, ◌<◌, ◌≤◌, true, List, [], ◌∷◌, length, refl, subst, inl, inr, arith, sum_by, if◌then◌else◌}
use Rattle.std.proofs.lemmas.Grind.{div_ceil_times}
use Rattle.std.proofs.lemmas.Nat.{div-add-mod'}
use Rattle.std.proofs.Math.Nat.{mod-lt, mul-le-mul_right}
use Rattle.std.specs.Int.{div_ceil}
use Rattle.pool_slots.specs.Plans.{have_number, number_in}
use Rattle.pool_slots.proofs.Planning.{numbered}
use Rattle.pool_alloc.specs.BetweenSteps.{IsPoolPlan}
use Rattle.pool_alloc.specs.StepReads.{no_allocator}
use Rattle.pool_alloc.proofs.PlanPlaces.{stripe_holds}
use Rattle.pool_run.proofs.Imports.{cases_eq, cases_lt, sum_by-cons, two_of_sum, memory_kind, Allocator, has_number, memory_slots, stripe_allocator, Plan}
use Rattle.pool_run.specs.Worlds.{HasStripes}

-- 1 for an allocator with a slot of this number
abbrev has_one : ℕ → Allocator → ℕ
has_one k a = if has_number a k then 1 else 0

have_sum : (as' : List Allocator) (k : ℕ) → have_number as' k ≡ sum_by (has_one k) as'
have_sum [] k = refl
have_sum (a ∷ as') k = omega (arith, have_sum as' k, sum_by-cons (has_one k) a as')

is_one : (a : Allocator) (k : ℕ) → has_number a k ≡ true → has_one k a ≡ 1
is_one a k has = rw has refl

-- a share that is rounded up has each place before what it shares
pub below_share : (n k j : ℕ) → 0 < k → j * k < n → j < div_ceil n k
below_share n k j some before =
    elim (cases_lt j (div_ceil n k)) [
      | inl inside ↦ inside
      | inr past ↦
          let all : div_ceil n k * k ≤ j * k = mul-le-mul_right k past in
          absurd (omega (arith, before, all, (div_ceil_times n k some).0))
    ]

module _ (slots stripes : ℕ) (plan : Plan) (places : ℕ) (has : HasStripes slots stripes plan) (is : IsPoolPlan plan places) where
  -- A slot of the stripe's allocator has the stripe's number.
  pub of_stripe : (s k : ℕ) → s < stripes → has_number (stripe_allocator plan s) k ≡ true → k % stripes ≡ s
  of_stripe s k inside number =
      let a : Allocator = stripe_allocator plan s in
      let below : s < length plan.memories = omega (arith, inside, has.count) in
      let holds = stripe_holds plan places s is below in
      let its = numbered a k memory_kind (memory_slots plan) holds number in
      let j : ℕ = ((k - a.first) / a.step) / a.slots_per_shard in
      let l : ℕ = ((k - a.first) / a.step) % a.slots_per_shard in
      let in_plan : number_in a (j * a.slots_per_shard + l) < memory_slots plan = holds.below (j * a.slots_per_shard + l) (omega (arith, its.inside)) in
      let in_pool : k < memory_slots plan = omega (arith, in_plan, its.number) in
      let t : ℕ = k % stripes in
      let split : k / stripes * stripes + t ≡ k = div-add-mod' k stripes in
      let in_stripes : t < stripes = mod-lt k has.some in
      let share : k / stripes < div_ceil (slots - t) stripes = below_share (slots - t) stripes (k / stripes) has.some (omega (arith, split, in_pool, has.total)) in
      let there : t + k / stripes * stripes ≡ k = omega (arith, split) in
      let other : has_number (stripe_allocator plan t) k ≡ true = subst (λ (n : ℕ). has_number (stripe_allocator plan t) n ≡ true) there (has.each t (k / stripes) in_stripes share) in
      elim (cases_eq t s) [
        | inl same ↦ same
        | inr apart ↦
            absurd (omega (
              arith,
              (is.planned.slots memory_kind).one k in_pool,
              have_sum plan.memories k,
              is_one (stripe_allocator plan t) k other,
              is_one a k number,
              two_of_sum (has_one k) plan.memories t s no_allocator (omega (arith, in_stripes, has.count)) below apart,
            ))
      ]

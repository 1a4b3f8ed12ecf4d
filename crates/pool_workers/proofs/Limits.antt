-- Where each shard of a kind, or of a stripe, was noted as topped, a seat with all portions took as many slots that were never used as there are.
use Rattle.std.proofs.Common.{◌≡◌, ◌⊎◌, ℕ, zero, suc, ◌+◌, ◌-◌, ◌*◌, ◌/◌, ◌%◌, ◌<◌, ◌≤◌, ◌==◌, Bool, true, false, List, [], ◌∷◌, length, if◌then◌else◌, min, refl, sym, ap, subst, ◌∙◌, inl, inr, arith, slice_index}
use Rattle.std.proofs.Math.Nat.{mod-lt}
use Rattle.std.proofs.lemmas.Bool.{cases_lt, eqb-true}
use Rattle.std.proofs.lemmas.Nat.{div-add-mod', mod-mul-add}
use Rattle.pool_hall.specs.Sum.{often, total}
use Rattle.pool_hall.specs.Tally.{counted, number, rise, rise_at}
use Rattle.pool_hall.specs.declared.unit_name.SlotKind.{SlotKind}
use Rattle.pool_hall.specs.declared.unit_name.SlotKind.TheVariants.{Memory as memory_kind, Table as table_kind, Stack as stack_kind, Heap as heap_kind}
use Rattle.pool_hall.specs.declared.view.CountRise.{CountRise}
use Rattle.pool_hall.specs.declared.view.View.{View}
use Rattle.pool_index.specs.Part.{cold_picks}
use Rattle.pool_slots.specs.Plans.{shard_role, role_at, shard_tried, slots_at}
use Rattle.pool_slots.specs.SlotQueues.{same_kind}
use Rattle.pool_slots.specs.declared.plan.Allocator.{Allocator}
use Rattle.pool_slots.specs.declared.plan.Plan.{Plan}
use Rattle.pool_alloc.specs.BetweenSteps.{IsPoolPlan}
use Rattle.pool_alloc.specs.StepReads.{allocator_of}
use Rattle.pool_alloc.proofs.PlanPlaces.{allocator_held, allocator_role, shard_inside}
use Rattle.pool_driver.specs.Ending.{HasNoted}
use Rattle.pool_driver.specs.Placed.{About}
use Rattle.pool_driver.specs.Spending.{cold_in, cold_rise, is_shard_of}

-- each place of so many is reached from a home by steps around
around : (home i n : ℕ) → i < n → (j : ℕ) × (j < n) × ((home + j) % n ≡ i)
around home i n inside =
    let r : ℕ = home % n in
    let some : 0 < n = omega (arith, inside) in
    let less : r < n = mod-lt home some in
    let split : home / n * n + r ≡ home = div-add-mod' home n in
    elim (cases_lt i r) [
      | inl before ↦
          let there : home + (i + n - r) ≡ (home / n + 1) * n + i = omega (arith, split, less, before) in
          (i + n - r, omega (arith, less, before, inside), ap (λ (m : ℕ). m % n) there ∙ mod-mul-add (home / n + 1) n i inside)
      | inr after ↦
          let there : home + (i - r) ≡ home / n * n + i = omega (arith, split, after) in
          (i - r, omega (arith, inside), ap (λ (m : ℕ). m % n) there ∙ mod-mul-add (home / n) n i inside)
    ]

-- so many slots of the first shards, with those of the next
more_slots : (c s n : ℕ) → min c (n * s) + min s (c - n * s) ≡ min c (suc n * s)
more_slots c s n = omega arith

kind_same : (k : SlotKind) → same_kind k k ≡ true
kind_same memory_kind = refl
kind_same table_kind = refl
kind_same stack_kind = refl
kind_same heap_kind = refl

module _ (plan : Plan) (kind : SlotKind) (a : Allocator) where
  -- what one rise is of the cold picks of the first shards
  abbrev rise_upto : ℕ → CountRise → ℕ
  rise_upto zero e = 0
  rise_upto (suc n) e = rise_upto n e + rise_at (a.first_place + n) cold_picks e

  -- and all of them
  abbrev cold_upto : ℕ → List CountRise → ℕ
  cold_upto zero es = 0
  cold_upto (suc n) es = cold_upto n es + total (rise_at (a.first_place + n) cold_picks) es

  cold_none : (n : ℕ) → cold_upto n [] ≡ 0
  cold_none zero = refl
  cold_none (suc n) = omega (arith, cold_none n)

  cold_more : (n : ℕ) (e : CountRise) (es : List CountRise) → cold_upto n (e ∷ es) ≡ rise_upto n e + cold_upto n es
  cold_more zero e es = refl
  cold_more (suc n) e es = omega (arith, cold_more n e es)

  -- it is of one shard at most
  pub record IsOfOne (n : ℕ) (e : CountRise) : Type 0 where
    pub shard : ℕ
    pub below : shard < n
    pub there : a.first_place + shard ≡ e.place
    pub amount : rise_upto n e ≡ rise (slice_index e.before cold_picks) (slice_index e.after cold_picks)

  next_place : (n : ℕ) (e : CountRise) (b : Bool) (place amount : ℕ) → (place == e.place) ≡ b → place ≡ a.first_place + n → amount ≡ rise (slice_index e.before cold_picks) (slice_index e.after cold_picks) → (rise_upto n e ≡ 0) ⊎ IsOfOne n e → rise_upto (suc n) e ≡ rise_upto n e + (if b then amount else 0) → (rise_upto (suc n) e ≡ 0) ⊎ IsOfOne (suc n) e
  next_place n e true place amount here is much (inl none) more = inr (record { shard = n; below = omega arith; there = sym is ∙ eqb-true place e.place here; amount = omega (arith, more, none, much) })
  next_place n e true place amount here is much (inr one) more = absurd (omega (arith, one.below, one.there, is, eqb-true place e.place here))
  next_place n e false place amount here is much (inl none) more = inl (omega (arith, more, none))
  next_place n e false place amount here is much (inr one) more = inr (record { shard = one.shard; below = omega (arith, one.below); there = one.there; amount = omega (arith, more, one.amount) })

  of_one : (n : ℕ) (e : CountRise) → (rise_upto n e ≡ 0) ⊎ IsOfOne n e
  of_one zero e = inl refl
  of_one (suc n) e = next_place n e ((a.first_place + n) == e.place) (a.first_place + n) (rise (slice_index e.before cold_picks) (slice_index e.after cold_picks)) refl refl refl (of_one n e) refl

  module _ (is : a.kind ≡ kind) (roles : (j : ℕ) → j < a.shards → role_at plan (a.first_place + j) ≡ shard_role a j) where
    -- which is one of the kind
    rise_within : (e : CountRise) → rise_upto a.shards e ≤ cold_rise plan kind e
    rise_within e =
        elim (of_one a.shards e) [
          | inl none ↦ omega (arith, none)
          | inr one ↦
              let role : role_at plan e.place ≡ shard_role a one.shard = subst (λ (p : ℕ). role_at plan p ≡ shard_role a one.shard) one.there (roles one.shard one.below) in
              let of_kind : is_shard_of kind (role_at plan e.place) ≡ true = ap (is_shard_of kind) role ∙ ap (same_kind kind) is ∙ kind_same kind in
              let same : cold_rise plan kind e ≡ rise (slice_index e.before cold_picks) (slice_index e.after cold_picks) = ap (λ (b : Bool). if b then rise (slice_index e.before cold_picks) (slice_index e.after cold_picks) else 0) of_kind in
              omega (arith, one.amount, same)
        ]

    cold_within : (es : List CountRise) → cold_upto a.shards es ≤ total (cold_rise plan kind) es
    cold_within [] = omega (arith, cold_none a.shards)
    cold_within (e ∷ es) = omega (arith, cold_more a.shards e es, rise_within e, cold_within es)

  module _ {T : Type 0} (about : About) (places : ℕ) (v : View T) (same : about.plan ≡ plan) (noted : HasNoted about places v) (inside : (j : ℕ) → j < a.shards → a.first_place + j < places) (roles : (j : ℕ) → j < a.shards → role_at plan (a.first_place + j) ≡ shard_role a j) (topped : (j : ℕ) → j < a.shards → 0 < often (a.first_place + j) v.topped) where
    slots_upto : (n : ℕ) → n ≤ a.shards → min a.capacity (n * a.slots_per_shard) ≤ cold_upto n v.rises
    slots_upto zero below = omega arith
    slots_upto (suc n) below =
        let role : role_at about.plan (a.first_place + n) ≡ shard_role a n = subst (λ (p : Plan). role_at p (a.first_place + n) ≡ shard_role a n) (sym same) (roles n (omega (arith, below))) in
        let here : slots_at a n ≤ number (counted (a.first_place + n) cold_picks) v = noted.shards (a.first_place + n) n a (inside n (omega (arith, below))) role (topped n (omega (arith, below))) in
        omega (arith, slots_upto n (omega (arith, below)), here, more_slots a.capacity a.slots_per_shard n)

-- So it is of the slots of a kind, or of a stripe, where some refusal for room noted that.
pub all_cold : {T : Type 0} (about : About) (places : ℕ) (v : View T) (kind : SlotKind) (stripe home : ℕ) → IsPoolPlan about.plan places → stripe < length about.plan.memories → HasNoted about places v → ((j : ℕ) → j < (allocator_of about.plan kind stripe).shards → 0 < often (shard_tried (allocator_of about.plan kind stripe) home j) v.topped) → (allocator_of about.plan kind stripe).capacity ≤ cold_in about.plan kind v
all_cold about places v kind stripe home plan inside noted topped =
    let a : Allocator = allocator_of about.plan kind stripe in
    let held = allocator_held about.plan places kind stripe plan inside in
    let roles : (j : ℕ) → j < a.shards → role_at about.plan (a.first_place + j) ≡ shard_role a j = λ j below. allocator_role about.plan places kind stripe j plan inside below in
    let within : (j : ℕ) → j < a.shards → a.first_place + j < places = λ j below. shard_inside about.plan places (a.first_place + j) plan (record { allocator = a; index = j; role = roles j below }) in
    let each : (j : ℕ) → j < a.shards → 0 < often (a.first_place + j) v.topped =
    λ j below. (let at = around home j a.shards below in subst (λ (i : ℕ). 0 < often (a.first_place + i) v.topped) at.2 (topped at.0 at.1)) in
    omega (arith, slots_upto about.plan kind a about places v refl noted within roles each a.shards (omega arith), cold_within about.plan kind a held.kind_is roles v.rises, held.covered)

-- The slots that a frame frees: each has its place in its shard, and is used there when its turn comes.
use Rattle.std.proofs.Common.{◌≡◌, ℕ, ◌+◌, ◌<◌, ◌≤◌, Bool, true, false, List, [], ◌∷◌, length, refl, subst, arith, inl, inr, ap, ◌∙◌, All, if◌then◌else◌, ◌==◌, min}
use Rattle.pool_alloc.proofs.Imports.{shard_units, total, AllByRecursion, eqb-true, cases_lt, cases_Bool, MakerTold, Plan, SlotName, home_of, All-head, All-tail, All-weaker}
use Rattle.pool_alloc.specs.BetweenSteps.{IsCore, FitsCore, IsFreedOf}
use Rattle.pool_alloc.specs.Freeing.{AreUsedInTurn}
use Rattle.pool_alloc.specs.Places.{Thing, right_to, slot_count, freed_count, frame_count}
use Rattle.pool_alloc.specs.StepReads.{shard_at, after_frees, freed_of, first_shard}
use Rattle.pool_alloc.specs.declared.frame.Frame.{Frame}
use Rattle.pool_alloc.specs.declared.frame.FreedSlot.{FreedSlot}
use Rattle.pool_alloc.specs.declared.pool_core.PoolCore.{PoolCore}
use Rattle.pool_alloc.proofs.PlanPlaces.{IsShardPlace, home_place}
use Rattle.pool_alloc.proofs.PoolParts.{HasPlace, place_of, sound_shard}
use Rattle.pool_alloc.proofs.ShardsAfterFrees.{AreOut, frees_less, used_in_turn}
use Rattle.pool_alloc.proofs.SlotsOfFrames.{held_is_out, held_once}
use Rattle.pool_alloc.proofs.QueueCounts.{freed_first, freed_parted}
use Rattle.pool_alloc.proofs.SlotCounts.{right_named}
use Rattle.pool_alloc.proofs.UsedSlots.{used_away}

each_if : {X : Type 0} (P : X → Type 0) (b : Bool) (x : X) (xs : List X) → (b ≡ true → P x) → AllByRecursion P xs → AllByRecursion P (if b then x ∷ xs else xs)
each_if P true x xs here rest = (here refl, rest)
each_if P false x xs here rest = rest

-- What is so of the home of each slot is so of the first shard of which slots are freed.
pub first_of : (Q : ℕ → Type 0) (plan : Plan) (xs : List FreedSlot) → 0 < length xs → All (λ x. Q (home_of plan x.name).place) xs → Q (first_shard plan xs)
first_of Q plan [] some each = absurd (omega arith)
first_of Q plan (x ∷ []) some each = All-head (λ (y : FreedSlot). Q (home_of plan y.name).place) x [] each
first_of Q plan (x ∷ y ∷ rest) some each =
    let Goal : FreedSlot → Type 0 = λ z. Q (home_of plan z.name).place in
    let j : ℕ = (home_of plan x.name).place in
    let k : ℕ = first_shard plan (y ∷ rest) in
    elim (cases_lt k j) [
      | inl less ↦
          let least : k ≡ min j k = omega arith in
          subst Q least (first_of Q plan (y ∷ rest) (omega arith) (All-tail Goal x (y ∷ rest) each))
      | inr other ↦
          let least : j ≡ min j k = omega arith in
          subst Q least (All-head Goal x (y ∷ rest) each)
    ]

-- a slot that is freed of a shard is at home there
freed_there : (name : SlotName) (plan : Plan) (j : ℕ) (xs : List FreedSlot) → 0 < freed_count (right_to name) (freed_of plan j xs) → (home_of plan name).place ≡ j
freed_there name plan j [] some = absurd (omega arith)
freed_there name plan j (x ∷ xs) some =
    elim (cases_Bool ((home_of plan x.name).place == j)) [
      | inl here ↦
          let now : freed_of plan j (x ∷ xs) ≡ x ∷ freed_of plan j xs = rw here refl in
          let all : freed_count (right_to name) (freed_of plan j (x ∷ xs)) ≡ slot_count (right_to name) x.name + freed_count (right_to name) (freed_of plan j xs) = ap (freed_count (right_to name)) now ∙ freed_first (right_to name) x (freed_of plan j xs) in
          elim (cases_lt 0 (slot_count (right_to name) x.name)) [
            | inl its ↦ ap (λ (n : SlotName). (home_of plan n).place) (right_named name x.name its) ∙ eqb-true _ _ here
            | inr none ↦ freed_there name plan j xs (omega (arith, some, all, none))
          ]
      | inr other ↦
          let now : freed_of plan j (x ∷ xs) ≡ freed_of plan j xs = rw other refl in
          freed_there name plan j xs (subst (λ (ys : List FreedSlot). 0 < freed_count (right_to name) ys) now some)
    ]

module _ {P H : Type 0} where
  -- Slots of a shard that are freed have their places there.
  pub freed_places : (maker : MakerTold) (j : ℕ) (c : PoolCore P H) (xs : List FreedSlot) → IsCore maker c → All (IsFreedOf c.plan) xs → AllByRecursion (λ x. HasPlace c.plan (shard_at j c) x.name) (freed_of c.plan j xs)
  freed_places maker j c [] core each = tt
  freed_places maker j c (x ∷ xs) core each =
      let F : FreedSlot → Type 0 = IsFreedOf c.plan in
      let Goal : ℕ → Type 0 = λ i. HasPlace c.plan (shard_at i c) x.name in
      each_if (λ (y : FreedSlot). HasPlace c.plan (shard_at j c) y.name) ((home_of c.plan x.name).place == j) x (freed_of c.plan j xs)
      (λ same. subst Goal (eqb-true _ _ same) (place_of maker c x.name core (All-head F x xs each).named.inside))
      (freed_places maker j c xs core (All-tail F x xs each))

  -- The shard has given them all out.
  pub freed_out : (maker : MakerTold) (j : ℕ) (c : PoolCore P H) (f : Frame P H) → IsCore maker c → FitsCore c f → AreOut (shard_at j c) (freed_of c.plan j f.freed.items)
  freed_out maker j c f core fits name =
      let of : List FreedSlot = freed_of c.plan j f.freed.items in
      elim (cases_lt 0 (freed_count (right_to name) of)) [
        | inl some ↦
            let parted = freed_parted (right_to name) (λ x. (home_of c.plan x.name).place == j) f.freed.items in
            let held : 1 ≤ frame_count (right_to name) f = omega (arith, some, parted) in
            let out = held_is_out maker name c f core fits held in
            let home : (home_of c.plan name).place ≡ j = freed_there name c.plan j f.freed.items some in
            let there : 1 ≤ total (right_to name) (shard_units (shard_at j c)) = subst (λ (q : ℕ). 1 ≤ total (right_to name) (shard_units (shard_at q c))) home (used_away c.plan name (shard_at (home_of c.plan name).place c) (place_of maker c name core out.inside) out.used) in
            omega (arith, there, (held_once maker name c f core fits held).held, parted)
        | inr none ↦ omega (arith, none)
      ]

  -- so it takes them all back
  pub freed_counts : (t : Thing) (maker : MakerTold) (j : ℕ) (c : PoolCore P H) (f : Frame P H) → IsCore maker c → FitsCore c f → All (IsFreedOf c.plan) f.freed.items → IsShardPlace c.plan j → total t (shard_units (after_frees c.plan (freed_of c.plan j f.freed.items) (shard_at j c))) + freed_count t (freed_of c.plan j f.freed.items) ≡ total t (shard_units (shard_at j c))
  freed_counts t maker j c f core fits each place =
      frees_less t c.plan (freed_of c.plan j f.freed.items) (shard_at j c) (sound_shard maker j c core place).numbers.apart (freed_places maker j c f.freed.items core each) (freed_out maker j c f core fits)

  -- The shard whose slots are freed first is one of the pool.
  pub first_is_shard : (maker : MakerTold) (c : PoolCore P H) (xs : List FreedSlot) → IsCore maker c → 0 < length xs → All (IsFreedOf c.plan) xs → IsShardPlace c.plan (first_shard c.plan xs)
  first_is_shard maker c xs core some each = first_of (IsShardPlace c.plan) c.plan xs some (All-weaker (IsFreedOf c.plan) (λ x. IsShardPlace c.plan (home_of c.plan x.name).place) (λ x of. home_place c.plan (length c.parts) x.name core.plan of.named.inside) xs each)

  -- Each slot of a shard is used when its turn comes, whatever was freed before it.
  pub freed_in_turn : (maker : MakerTold) (j : ℕ) (c : PoolCore P H) (f : Frame P H) → IsCore maker c → FitsCore c f → All (IsFreedOf c.plan) f.freed.items → IsShardPlace c.plan j → AreUsedInTurn c.plan (freed_of c.plan j f.freed.items) (shard_at j c)
  freed_in_turn maker j c f core fits each place =
      used_in_turn c.plan (freed_of c.plan j f.freed.items) (shard_at j c) (sound_shard maker j c core place).numbers.apart (freed_places maker j c f.freed.items core each) (freed_out maker j c f core fits)

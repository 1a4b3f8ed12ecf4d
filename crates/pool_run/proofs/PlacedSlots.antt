-- Live memories of a party that lie in different slots of one stripe: there are no more of them than slots.
use Rattle.std.proofs.Common.{◌≡◌, ◌≢◌, ℕ, suc, ◌+◌, ◌-◌, ◌*◌, ◌/◌, ◌%◌, ◌<◌, ◌≤◌, ◌==◌, ◌&&◌, Bool, true, not, List, [], ◌∷◌, length, Option, Some, None, refl, sym, ap, ◌∙◌, subst, inl, inr, arith, All, nat_lt, replicate, slice_index_or, sum_by}
use Rattle.std.proofs.lemmas.Bool.{ne_eqb}
use Rattle.std.proofs.lemmas.Nat.{div-add-mod'}
use Rattle.std.specs.Int.{div_ceil}
use Rattle.pool_run.proofs.Imports.{All-head, All-tail, and_parts, cases_Bool, cases_eq, cases_lt, eq-eqb, eqb-true, lt-ltb, ltb-true, sum_by-cons, one_at_most, one_if, below, below_most, below_one, below_sum}
use Rattle.pool_run.specs.Needs.{in_one_stripe, stripe_count}
use Rattle.pool_run.specs.Private.{PrivateMemory, PrivateGrant, Grants, memories_in_grant}
use Rattle.pool_run.specs.Rooms.{HasNoMemoryIn, AllDiffer, memories_in, live_count}
use Rattle.pool_run.proofs.SlotWeights.{memories_weigh, grant_weighs, live_weigh, none_weighs}
use Rattle.pool_run.proofs.StripeSlots.{below_share}

-- 1 for this slot
abbrev pub is_slot : ℕ → ℕ → ℕ
is_slot x k = one_if (k == x)

here_one : (k x : ℕ) → k ≡ x → is_slot x k ≡ 1
here_one k x same = ap one_if (eq-eqb k x same)

not_here : (k x : ℕ) → k ≢ x → is_slot x k ≡ 0
not_here k x apart = ap one_if (ne_eqb k x apart)

-- Slots that differ have each once.
none_in : (x : ℕ) (slots : List ℕ) → ((i : ℕ) → i < length slots → slice_index_or slots i 0 ≡ x → ⊥) → sum_by (is_slot x) slots ≡ 0
none_in x [] apart = refl
none_in x (slot ∷ slots) apart =
    omega (
      arith,
      sum_by-cons (is_slot x) slot slots,
      not_here slot x (λ same. apart 0 (omega arith) same),
      none_in x slots (λ i below same. apart (suc i) (omega (arith, below)) same),
    )

once_in : (x : ℕ) (slots : List ℕ) → AllDiffer slots → sum_by (is_slot x) slots ≤ 1
once_in x [] differ = omega arith
once_in x (slot ∷ slots) differ =
    elim (cases_eq slot x) [
      | inl same ↦
          let none : sum_by (is_slot x) slots ≡ 0 = none_in x slots (λ i below other. absurd (let wrong : 0 ≡ suc i = differ 0 (suc i) (omega arith) (omega (arith, below)) (same ∙ sym other) in omega (arith, wrong))) in
          omega (arith, none, one_at_most (slot == x), sum_by-cons (is_slot x) slot slots)
      | inr apart ↦ omega (arith, not_here slot x apart, sum_by-cons (is_slot x) slot slots, once_in x slots (λ i j one two same. (let next : suc i ≡ suc j = differ (suc i) (suc j) (omega (arith, one)) (omega (arith, two)) same in omega (arith, next))))
    ]

-- What holds of all of them holds of one that is there.
there_is : (Q : ℕ → Type 0) (x : ℕ) (slots : List ℕ) → All Q slots → 0 < sum_by (is_slot x) slots → Q x
there_is Q x [] all some = absurd (omega (arith, some))
there_is Q x (slot ∷ slots) all some =
    elim (cases_eq slot x) [
      | inl same ↦ subst Q same (All-head Q slot slots all)
      | inr apart ↦ there_is Q x slots (All-tail Q slot slots all) (omega (arith, some, not_here slot x apart, sum_by-cons (is_slot x) slot slots))
    ]

-- A slot in which no live memory is has none.
no_memories : (x : ℕ) (ms : List PrivateMemory) → All (λ m. m.slot ≢ x) ms → memories_weigh (is_slot x) ms ≡ 0
no_memories x [] all = refl
no_memories x (m ∷ ms) all =
    omega (
      arith,
      sum_by-cons (λ (y : PrivateMemory). is_slot x y.slot) m ms,
      not_here m.slot x (All-head (λ (y : PrivateMemory). y.slot ≢ x) m ms all),
      no_memories x ms (All-tail (λ (y : PrivateMemory). y.slot ≢ x) m ms all),
    )

none_live : (x : ℕ) (grants : Grants) → HasNoMemoryIn x grants → live_weigh (is_slot x) grants ≡ 0
none_live x [] free = refl
none_live x (None ∷ grants) free = omega (arith, sum_by-cons (grant_weighs (is_slot x)) None grants, none_live x grants (λ i. free (suc i)))
none_live x (Some g ∷ grants) free = omega (arith, sum_by-cons (grant_weighs (is_slot x)) (Some g) grants, none_live x grants (λ i. free (suc i)), no_memories x (memories_in_grant g) (free 0))

-- The slots of a stripe: there are so many in all, dealt out to so many stripes.
module _ (slots stripes stripe : ℕ) (some : 0 < stripes) where
  abbrev pub share : ℕ
  share = div_ceil (slots - stripe) stripes

  abbrev lies : ℕ → Bool
  lies k = nat_lt k slots && (k % stripes == stripe)

  -- 1 for a slot that isn't one of the stripe, and for the one at a place in it
  abbrev pub strays : ℕ → ℕ
  strays k = one_if (not (lies k))

  abbrev at_place : ℕ → ℕ → ℕ
  at_place j k = is_slot (stripe + j * stripes) k

  in_place : (k : ℕ) → lies k ≡ true → 1 ≤ below (λ j. at_place j k) share
  in_place k is =
      let parts = and_parts (nat_lt k slots) (k % stripes == stripe) is in
      let inside : k < slots = ltb-true k slots parts.0 in
      let its : k % stripes ≡ stripe = eqb-true (k % stripes) stripe parts.1 in
      let j : ℕ = k / stripes in
      let split : j * stripes + k % stripes ≡ k = div-add-mod' k stripes in
      below_one (λ i. at_place i k) j share (below_share (slots - stripe) stripes j some (omega (arith, split, its, inside))) (here_one k (stripe + j * stripes) (omega (arith, split, its)))

  each_placed : (k : ℕ) → 1 ≤ below (λ j. at_place j k) share + strays k
  each_placed k =
      elim (cases_Bool (lies k)) [
        | inl is ↦ omega (arith, in_place k is)
        | inr out ↦ let one : strays k ≡ 1 = ap (λ (b : Bool). one_if (not b)) out in omega (arith, one)
      ]

  -- So of slots, of memories and of grants.
  slots_placed : (ks : List ℕ) → length ks ≤ below (λ j. sum_by (at_place j) ks) share + sum_by strays ks
  slots_placed [] = omega arith
  slots_placed (k ∷ ks) =
      omega (
        arith,
        each_placed k,
        slots_placed ks,
        below_sum (λ j. at_place j k) (λ j. sum_by (at_place j) ks) (λ j. sum_by (at_place j) (k ∷ ks)) (λ j. sum_by-cons (at_place j) k ks) share,
        sum_by-cons strays k ks,
      )

  memories_placed : (ms : List PrivateMemory) → length ms ≤ below (λ j. memories_weigh (at_place j) ms) share + memories_weigh strays ms
  memories_placed [] = omega arith
  memories_placed (m ∷ ms) =
      omega (
        arith,
        each_placed m.slot,
        memories_placed ms,
        below_sum (λ j. at_place j m.slot) (λ j. memories_weigh (at_place j) ms) (λ j. memories_weigh (at_place j) (m ∷ ms)) (λ j. sum_by-cons (λ (x : PrivateMemory). at_place j x.slot) m ms) share,
        sum_by-cons (λ (x : PrivateMemory). strays x.slot) m ms,
      )

  grant_placed : (x : Option PrivateGrant) → memories_in x ≤ below (λ j. grant_weighs (at_place j) x) share + grant_weighs strays x
  grant_placed None = omega arith
  grant_placed (Some g) = memories_placed (memories_in_grant g)

  live_placed : (grants : Grants) → live_count grants ≤ below (λ j. live_weigh (at_place j) grants) share + live_weigh strays grants
  live_placed [] = omega arith
  live_placed (x ∷ grants) =
      omega (
        arith,
        grant_placed x,
        live_placed grants,
        below_sum (λ j. grant_weighs (at_place j) x) (λ j. live_weigh (at_place j) grants) (λ j. live_weigh (at_place j) (x ∷ grants)) (λ j. sum_by-cons (grant_weighs (at_place j)) x grants) share,
        sum_by-cons memories_in x grants,
        sum_by-cons (grant_weighs strays) x grants,
      )

  -- Slots of the stripe don't stray.
  not_stray : (k : ℕ) → k < slots → k % stripes ≡ stripe → strays k ≡ 0
  not_stray k inside its = ap (λ (b : Bool). one_if (not (b && (k % stripes == stripe)))) (lt-ltb k slots inside) ∙ ap (λ (b : Bool). one_if (not b)) (eq-eqb (k % stripes) stripe its)

  pub none_stray : (ks : List ℕ) → All (λ k. k < slots) ks → All (λ k. k % stripes ≡ stripe) ks → sum_by strays ks ≡ 0
  none_stray [] inside its = refl
  none_stray (k ∷ ks) inside its =
      omega (
        arith,
        sum_by-cons strays k ks,
        not_stray k (All-head (λ (n : ℕ). n < slots) k ks inside) (All-head (λ (n : ℕ). n % stripes ≡ stripe) k ks its),
        none_stray ks (All-tail (λ (n : ℕ). n < slots) k ks inside) (All-tail (λ (n : ℕ). n % stripes ≡ stripe) k ks its),
      )

  -- All live memories of a party lie in slots of the stripe, which differ.
  pub record AreInPlace (grants : Grants) : Type 0 where
    pub own : live_weigh strays grants ≡ 0
    pub once : (x : ℕ) → live_weigh (is_slot x) grants ≤ 1

  -- Where these come to them, there are slots for all.
  module _ (grants : Grants) (ks : List ℕ) (placed : AreInPlace grants) (inside : All (λ k. k < slots) ks) (its : All (λ k. k % stripes ≡ stripe) ks) (free : All (λ k. HasNoMemoryIn k grants) ks) (differ : AllDiffer ks) where
    pub together : (x : ℕ) → live_weigh (is_slot x) grants + sum_by (is_slot x) ks ≤ 1
    together x =
        elim (cases_lt 0 (sum_by (is_slot x) ks)) [
          | inl some' ↦ omega (arith, once_in x ks differ, none_live x grants (there_is (λ k. HasNoMemoryIn k grants) x ks free some'))
          | inr none ↦ omega (arith, none, placed.once x)
        ]

    pub few_slots : live_count grants + length ks ≤ share
    few_slots =
        omega (
          arith,
          live_placed grants,
          slots_placed ks,
          placed.own,
          none_stray ks inside its,
          below_sum (λ j. live_weigh (at_place j) grants) (λ j. sum_by (at_place j) ks) (λ j. live_weigh (at_place j) grants + sum_by (at_place j) ks) (λ j. refl) share,
          below_most (λ j. live_weigh (at_place j) grants + sum_by (at_place j) ks) (λ j. together (stripe + j * stripes)) share,
        )

    -- So it is with what grows by these alone.
    pub placed_more : (new : Grants) → ((f : ℕ → ℕ) → live_weigh f new ≤ live_weigh f grants + sum_by f ks) → AreInPlace new
    placed_more new grows = record {
      own = omega (arith, grows strays, placed.own, none_stray ks inside its);
      once = λ x. omega (arith, grows (is_slot x), together x);
    }

  -- With no more than before it stays so, and before the first command it is.
  pub placed_still : (grants new : Grants) → AreInPlace grants → ((f : ℕ → ℕ) → live_weigh f new ≤ live_weigh f grants) → AreInPlace new
  placed_still grants new placed same = record {
    own = omega (arith, same strays, placed.own);
    once = λ x. omega (arith, same (is_slot x), placed.once x);
  }

  pub none_placed : (n : ℕ) → AreInPlace (replicate n None)
  none_placed n = record {
    own = none_weighs strays n;
    once = λ x. omega (arith, none_weighs (is_slot x) n);
  }

  -- As many lie in the stripe as are live.
  memories_of_stripe : (ms : List PrivateMemory) → length ms ≤ sum_by (λ m. one_if (m.slot % stripes == stripe)) ms + memories_weigh strays ms
  memories_of_stripe [] = omega arith
  memories_of_stripe (m ∷ ms) =
      omega (
        arith,
        one_of_stripe m.slot,
        memories_of_stripe ms,
        sum_by-cons (λ (x : PrivateMemory). one_if (x.slot % stripes == stripe)) m ms,
        sum_by-cons (λ (x : PrivateMemory). strays x.slot) m ms,
      )
    where
      one_of_stripe : (k : ℕ) → 1 ≤ one_if (k % stripes == stripe) + strays k
      one_of_stripe k =
          elim (cases_Bool (lies k)) [
            | inl is ↦ let one : one_if (k % stripes == stripe) ≡ 1 = ap one_if (and_parts (nat_lt k slots) (k % stripes == stripe) is).1 in omega (arith, one)
            | inr out ↦ let one : strays k ≡ 1 = ap (λ (b : Bool). one_if (not b)) out in omega (arith, one)
          ]

  grant_of_stripe : (x : Option PrivateGrant) → memories_in x ≤ in_one_stripe stripes stripe x + grant_weighs strays x
  grant_of_stripe None = omega arith
  grant_of_stripe (Some g) = memories_of_stripe (memories_in_grant g)

  pub live_of_stripe : (grants : Grants) → live_count grants ≤ stripe_count stripes stripe grants + live_weigh strays grants
  live_of_stripe [] = omega arith
  live_of_stripe (x ∷ grants) =
      omega (
        arith,
        grant_of_stripe x,
        live_of_stripe grants,
        sum_by-cons memories_in x grants,
        sum_by-cons (in_one_stripe stripes stripe) x grants,
        sum_by-cons (grant_weighs strays) x grants,
      )

-- No more lie in a stripe than are live.
module _ (stripes stripe : ℕ) where
  few_memories : (ms : List PrivateMemory) → sum_by (λ m. one_if (m.slot % stripes == stripe)) ms ≤ length ms
  few_memories [] = omega arith
  few_memories (m ∷ ms) = omega (arith, one_at_most (m.slot % stripes == stripe), few_memories ms, sum_by-cons (λ (x : PrivateMemory). one_if (x.slot % stripes == stripe)) m ms)

  few_in : (x : Option PrivateGrant) → in_one_stripe stripes stripe x ≤ memories_in x
  few_in None = omega arith
  few_in (Some g) = few_memories (memories_in_grant g)

  pub few_of_stripe : (grants : Grants) → stripe_count stripes stripe grants ≤ live_count grants
  few_of_stripe [] = omega arith
  few_of_stripe (x ∷ grants) = omega (arith, few_in x, few_of_stripe grants, sum_by-cons memories_in x grants, sum_by-cons (in_one_stripe stripes stripe) x grants)

-- Slots of a kind, counted by their numbers: each thing that has one is counted at one number, and each number once at most.
use Rattle.std.proofs.Common.{◌≡◌, ℕ, zero, suc, ◌+◌, ◌-◌, ◌*◌, ◌<◌, ◌≤◌, List, [], ◌∷◌, length, refl, sym, ap, ◌∙◌, inl, inr, arith, sum_by}
use Rattle.pool_run.proofs.Imports.{cases_eq, cases_lt, le-ltb, sum_by-cons, one_if, RegionNumbers, SlotName, right_to, slot_count, both_count, below, below_sum, below_most, below_one, slot_once, slot_other, region_rights}
use Rattle.pool_run.proofs.SlotsMade.{made_slot, made_once}

pub below_le : (f g : ℕ → ℕ) → ((k : ℕ) → f k ≤ g k) → (n : ℕ) → below f n ≤ below g n
below_le f g each zero = omega arith
below_le f g each (suc n) = omega (arith, each n, below_le f g each n)

pub none_below : (n : ℕ) → below (λ k. 0) n ≡ 0
none_below zero = refl
none_below (suc n) = omega (arith, none_below n)

-- things that are counted at numbers below n alone are no more than all counts together
pub sum_below : {X : Type 0} (of : ℕ → X → ℕ) (size : X → ℕ) (n : ℕ) (xs : List X) → ((x : X) → ((k : ℕ) → n ≤ k → of k x ≡ 0) → size x ≤ below (λ k. of k x) n) → ((k : ℕ) → n ≤ k → sum_by (of k) xs ≡ 0) → sum_by size xs ≤ below (λ k. sum_by (of k) xs) n
sum_below of size n [] each none = omega arith
sum_below of size n (x ∷ xs) each none =
    omega (
      arith,
      sum_by-cons size x xs,
      below_sum (λ k. of k x) (λ k. sum_by (of k) xs) (λ k. sum_by (of k) (x ∷ xs)) (λ k. sum_by-cons (of k) x xs) n,
      each x (λ k past. omega (arith, none k past, sum_by-cons (of k) x xs)),
      sum_below of size n xs each (λ k past. omega (arith, none k past, sum_by-cons (of k) x xs)),
    )

-- all counts together are no more than the things that are counted
pub sum_above : {X : Type 0} (of : ℕ → X → ℕ) (size : X → ℕ) (n : ℕ) (xs : List X) → ((x : X) → below (λ k. of k x) n ≤ size x) → below (λ k. sum_by (of k) xs) n ≤ sum_by size xs
sum_above of size n [] each = omega (arith, none_below n)
sum_above of size n (x ∷ xs) each =
    omega (
      arith,
      sum_by-cons size x xs,
      below_sum (λ k. of k x) (λ k. sum_by (of k) xs) (λ k. sum_by (of k) (x ∷ xs)) (λ k. sum_by-cons (of k) x xs) n,
      each x,
      sum_above of size n xs each,
    )

pub ones : {X : Type 0} (xs : List X) → sum_by (λ x. 1) xs ≡ length xs
ones [] = refl
ones (x ∷ xs) = omega (arith, sum_by-cons (λ y. 1) x xs, ones xs)

pub none_made : (k total : ℕ) → total ≤ k → made_slot k total ≡ 0
none_made k total past = ap one_if (le-ltb k total past)

below_longer : (f : ℕ → ℕ) (n more : ℕ) → below f n ≤ below f (n + more)
below_longer f n zero = let same : n + 0 ≡ n = omega arith in omega (arith, ap (below f) same)
below_longer f n (suc more) =
    let next : n + suc more ≡ suc (n + more) = omega arith in
    omega (arith, below_longer f n more, ap (below f) next)

-- numbers that follow one another at a distance are some of those below the last
spread_below : (f : ℕ → ℕ) (s k m : ℕ) → 0 < k → below (λ j. f (s + j * k)) m ≤ below f (s + m * k)
spread_below f s k zero some = omega arith
spread_below f s k (suc m) some =
    let next : suc (s + m * k) + (k - 1) ≡ s + suc m * k = omega (arith, some) in
    omega (arith, spread_below f s k m some, below_longer f (suc (s + m * k)) (k - 1), ap (below f) next)

one_each : (g : ℕ → ℕ) (m : ℕ) → ((j : ℕ) → j < m → 1 ≤ g j) → m ≤ below g m
one_each g zero each = omega arith
one_each g (suc m) each = omega (arith, each m (omega arith), one_each g m (λ j under. each j (omega (arith, under))))

-- Where each of m slots, whose numbers follow one another at a distance, is with some of these or those, there are no more
-- of them than these and those.
pub all_there : (s k total these those : ℕ) (n m : ℕ → ℕ) → 0 < k → ((j : ℕ) → j < total → 1 ≤ n (s + j * k) + m (s + j * k)) → below n (s + total * k) ≤ these → below m (s + total * k) ≤ those → total ≤ these + those
all_there s k total these those n m apart all some others =
    omega (
      arith,
      some,
      others,
      one_each (λ j. n (s + j * k) + m (s + j * k)) total all,
      spread_below (λ x. n x + m x) s k total apart,
      below_sum n m (λ x. n x + m x) (λ x. refl) (s + total * k),
    )

-- Where these and those have no slot together, and no other than those that there are, there are slots for all.
pub some_apart : (total these those : ℕ) (n m : ℕ → ℕ) → ((k : ℕ) → n k + m k ≤ made_slot k total) → (((k : ℕ) → total ≤ k → n k ≡ 0) → these ≤ below n total) → (((k : ℕ) → total ≤ k → m k ≡ 0) → those ≤ below m total) → these + those ≤ total
some_apart total these those n m apart some others =
    omega (
      arith,
      some (λ k past. omega (arith, apart k, none_made k total past)),
      others (λ k past. omega (arith, apart k, none_made k total past)),
      below_sum n m (λ k. n k + m k) (λ k. refl) total,
      below_most (λ k. n k + m k) (λ k. omega (arith, apart k, made_once k total)) total,
    )

-- the slots of a kind by their numbers
module _ (named : ℕ → SlotName) (one_to_one : (k i : ℕ) → named k ≡ named i → k ≡ i) where
  -- one slot is counted once at most
  below_slot : (i n : ℕ) → (below (λ k. slot_count (right_to (named k)) (named i)) n ≤ 1) × (n ≤ i → below (λ k. slot_count (right_to (named k)) (named i)) n ≡ 0)
  below_slot i zero = (omega arith, λ past. refl)
  below_slot i (suc n) =
      let before = below_slot i n in
      elim (cases_eq n i) [
        | inl is ↦
            let here : slot_count (right_to (named n)) (named i) ≡ 1 = ap (λ (m : ℕ). slot_count (right_to (named n)) (named m)) (sym is) ∙ slot_once (named n) in
            (omega (arith, here, before.1 (omega (arith, is))), λ past. absurd (omega (arith, past, is)))
        | inr other ↦
            let here : slot_count (right_to (named n)) (named i) ≡ 0 = slot_other (named n) (named i) (λ same. other (one_to_one n i same)) in
            (omega (arith, here, before.0), λ past. omega (arith, here, before.1 (omega (arith, past))))
      ]

  pub slot_below : (i total : ℕ) → i < total → 1 ≤ below (λ k. slot_count (right_to (named k)) (named i)) total
  slot_below i total inside = below_one (λ k. slot_count (right_to (named k)) (named i)) i total inside (slot_once (named i))

  module _ {L : Type 0} (index : L → ℕ) (numbers : L → RegionNumbers) where
    -- how often slot k is with these
    abbrev pub times_in : ℕ → List L → ℕ
    times_in k ls = sum_by (λ l. both_count (right_to (named k)) (named (index l)) (numbers l)) ls

    pub all_above : (n : ℕ) (ls : List L) → below (λ k. times_in k ls) n ≤ length ls
    all_above n ls =
        omega (
          arith,
          ones ls,
          sum_above (λ k l. both_count (right_to (named k)) (named (index l)) (numbers l)) (λ l. 1) n ls
              (λ l. omega (arith, (below_slot (index l) n).0, below_le (λ k. both_count (right_to (named k)) (named (index l)) (numbers l)) (λ k. slot_count (right_to (named k)) (named (index l))) (λ k. omega (arith, region_rights (named k) (named (index l)) (numbers l))) n)),
        )

    pub one_below : (n : ℕ) (l : L) → ((k : ℕ) → n ≤ k → both_count (right_to (named k)) (named (index l)) (numbers l) ≡ 0) → 1 ≤ below (λ k. both_count (right_to (named k)) (named (index l)) (numbers l)) n
    one_below n l none =
        let i : ℕ = index l in
        let one : both_count (right_to (named i)) (named i) (numbers l) ≡ 1 = omega (arith, slot_once (named i), region_rights (named i) (named i) (numbers l)) in
        elim (cases_lt i n) [
          | inl inside ↦ below_one (λ k. both_count (right_to (named k)) (named i) (numbers l)) i n inside one
          | inr past ↦ absurd (omega (arith, one, none i past))
        ]

    pub all_below : (n : ℕ) (ls : List L) → ((k : ℕ) → n ≤ k → times_in k ls ≡ 0) → length ls ≤ below (λ k. times_in k ls) n
    all_below n ls none = omega (arith, ones ls, sum_below (λ k l. both_count (right_to (named k)) (named (index l)) (numbers l)) (λ l. 1) n ls (one_below n) none)

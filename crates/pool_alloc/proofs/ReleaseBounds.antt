-- Which slots of a release are decommitted next, and how many steps that leaves.
use Rattle.std.proofs.Common.{◌≡◌, ℕ, zero, suc, ◌+◌, ◌*◌, ◌<◌, ◌≤◌, Bool, true, false, List, [], ◌∷◌, length, refl, ap, ◌∙◌, arith, get_or, ◌==◌, not, drop, if◌then◌else◌}
use Rattle.pool_alloc.proofs.Imports.{sum_by-cons, one_if, Allocator, slots_at}
use Rattle.pool_alloc.specs.BetweenSteps.{slots_left}
use Rattle.pool_alloc.specs.Releases.{not_resident}
use Rattle.pool_alloc.specs.StepBounds.{residents}
use Rattle.pool_alloc.specs.declared.frame.FreedSlot.{FreedSlot}
use Rattle.pool_alloc.proofs.PurgeBounds.{drop_sum}

-- 1 for a slot that keeps bytes resident
abbrev pub resident_one : FreedSlot → ℕ
resident_one x = one_if (not (x.bytes == 0))

pub residents_few : (xs : List FreedSlot) → residents xs ≤ length xs
residents_few [] = omega arith
residents_few (x ∷ xs) = omega (arith, sum_by-cons resident_one x xs, most (not (x.bytes == 0)), residents_few xs)
  where
    most : (b : Bool) → one_if b ≤ 1
    most true = omega arith
    most false = omega arith

-- behind those that keep none, as many are left that keep some
skipped : (xs : List FreedSlot) → residents (drop (not_resident xs) xs) ≡ residents xs
skipped [] = refl
skipped (x ∷ xs) = by_test (x.bytes == 0) refl (skipped xs)
  where
    by_test : (b : Bool) → (x.bytes == 0) ≡ b → residents (drop (not_resident xs) xs) ≡ residents xs → residents (drop (if b then not_resident xs + 1 else 0) (x ∷ xs)) ≡ residents (x ∷ xs)
    by_test true none rest =
        let one : resident_one x ≡ 0 = rw none refl in
        let same : residents (drop (not_resident xs + 1) (x ∷ xs)) ≡ residents (drop (not_resident xs) xs) = ap (λ (n : ℕ). residents (drop n (x ∷ xs))) {x = not_resident xs + 1} {y = suc (not_resident xs)} (omega arith) in
        omega (arith, one, same, rest, sum_by-cons resident_one x xs)
    by_test false some rest = refl

-- and there the first keeps some
first_keeps : (xs : List FreedSlot) (d : FreedSlot) → not_resident xs < length xs → resident_one (get_or xs (not_resident xs) d) ≡ 1
first_keeps [] d below = absurd (omega arith)
first_keeps (x ∷ xs) d below = by_test (x.bytes == 0) refl below (first_keeps xs d)
  where
    by_test : (b : Bool) → (x.bytes == 0) ≡ b → (if b then not_resident xs + 1 else 0) < length (x ∷ xs) → (not_resident xs < length xs → resident_one (get_or xs (not_resident xs) d) ≡ 1) → resident_one (get_or (x ∷ xs) (if b then not_resident xs + 1 else 0) d) ≡ 1
    by_test true none inside rest =
        let same : get_or (x ∷ xs) (not_resident xs + 1) d ≡ get_or xs (not_resident xs) d = ap (λ (n : ℕ). get_or (x ∷ xs) n d) {x = not_resident xs + 1} {y = suc (not_resident xs)} (omega arith) in
        ap resident_one same ∙ rest (omega (arith, inside))
    by_test false some inside rest = rw some refl

-- the same from a place on
pub skipped_from : (k : ℕ) (xs : List FreedSlot) → residents (drop (k + not_resident (drop k xs)) xs) ≡ residents (drop k xs)
skipped_from zero xs = ap (λ (n : ℕ). residents (drop n xs)) {x = zero + not_resident xs} {y = not_resident xs} (omega arith) ∙ skipped xs
skipped_from (suc k) [] = ap (λ (n : ℕ). residents (drop {A = FreedSlot} n [])) {x = suc k + 0} {y = suc (k + 0)} (omega arith)
skipped_from (suc k) (x ∷ xs) = ap (λ (n : ℕ). residents (drop n (x ∷ xs))) {x = suc k + not_resident (drop k xs)} {y = suc (k + not_resident (drop k xs))} (omega arith) ∙ skipped_from k xs

pub keeps_from : (k : ℕ) (xs : List FreedSlot) (d : FreedSlot) → k + not_resident (drop k xs) < length xs → resident_one (get_or xs (k + not_resident (drop k xs)) d) ≡ 1
keeps_from zero xs d below =
    let same : get_or xs (zero + not_resident xs) d ≡ get_or xs (not_resident xs) d = ap (λ (n : ℕ). get_or xs n d) {x = zero + not_resident xs} {y = not_resident xs} (omega arith) in
    ap resident_one same ∙ first_keeps xs d (omega (arith, below))
keeps_from (suc k) [] d below = absurd (omega arith)
keeps_from (suc k) (x ∷ xs) d below =
    let same : get_or (x ∷ xs) (suc k + not_resident (drop k xs)) d ≡ get_or xs (k + not_resident (drop k xs)) d = ap (λ (n : ℕ). get_or (x ∷ xs) n d) {x = suc k + not_resident (drop k xs)} {y = suc (k + not_resident (drop k xs))} (omega arith) in
    ap resident_one same ∙ keeps_from k xs d (omega (arith, below))

-- one less is left behind it
pub one_drained : (k : ℕ) (xs : List FreedSlot) (d : FreedSlot) → k + not_resident (drop k xs) < length xs → residents (drop k xs) ≡ 1 + residents (drop (k + not_resident (drop k xs) + 1) xs)
one_drained k xs d below =
    let n : ℕ = k + not_resident (drop k xs) in
    omega (arith, skipped_from k xs, keeps_from k xs d below, drop_sum resident_one xs n d below)

-- The shards of an allocator have its slots one after the other.
pub slots_next : (a : Allocator) (j n : ℕ) → n ≤ slots_at a j → n + slots_left a (j + 1) ≤ slots_left a j
slots_next a j n few =
    let next : (j + 1) * a.slots_per_shard ≡ j * a.slots_per_shard + a.slots_per_shard = omega arith in
    omega (arith, few, next)

pub slots_first : (a : Allocator) → slots_left a 0 ≡ a.capacity
slots_first a = omega arith

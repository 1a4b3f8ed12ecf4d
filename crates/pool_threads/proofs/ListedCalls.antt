-- How many calls a plan lists of those that were made, and that faults are no more than these.
use Rattle.std.proofs.Common.{◌≡◌, ℕ, zero, suc, ◌+◌, ◌-◌, ◌^◌, ◌≤◌, ◌⊎◌, inl, inr, ◌==◌, if◌then◌else◌, Bool, true, false, List, min, Option, Some, None, sym, ap, ◌∙◌, arith}
use Rattle.std.proofs.lemmas.Bool.{cases_lt}
use Rattle.std.specs.List.{list_any}
use Rattle.pool_types.specs.Rising.{risen}
use Rattle.pool_pages.specs.Told.{listed_among}
use Rattle.pool_driver.specs.ListedCalls.{AreAtMost, calls_listed}
use Rattle.pool_driver.proofs.ListedCalls.{listed_most}
use Rattle.pool_threads.specs.GrowthFaults.{listed_of}

one_more : (b : Bool) (n : ℕ) → n ≤ (if b then suc n else n)
one_more true n = omega arith
one_more false n = omega arith

listed_up : (plan : List ℕ) (n : ℕ) → listed_among plan n ≤ listed_among plan (suc n)
listed_up plan n = one_more (list_any (λ m. m == suc n) plan) (listed_among plan n)

-- of more calls no fewer
listed_more : (plan : List ℕ) (a b : ℕ) → a ≤ b → listed_among plan a ≤ listed_among plan b
listed_more plan a zero less = let same : a ≡ 0 = omega (arith, less) in omega (arith, ap (listed_among plan) same)
listed_more plan a (suc b) less =
    elim (cases_lt b a) [
      | inl past ↦ (let same : a ≡ suc b = omega (arith, less, past) in omega (arith, ap (listed_among plan) same))
      | inr within ↦ omega (arith, listed_more plan a b within, listed_up plan b)
    ]

pub listed_within : (o : Option ℕ) (plan : List ℕ) → listed_of o plan ≤ calls_listed plan
listed_within None plan = omega arith
listed_within (Some made) plan = listed_most plan (min made (2 ^ 64 - 1))

-- As many or fewer, where there may be as many or more.
pub still_most : (most more : ℕ) (plan : List ℕ) (met less : ℕ) → most ≤ more → less ≤ met → AreAtMost most plan met → AreAtMost more plan less
still_most most more plan met less fits fewer (inl few) = inl (omega (arith, fits, fewer, few))
still_most most more plan met less fits fewer (inr ends) = inr ends

pub none_met : (most : ℕ) (plan : List ℕ) (met : ℕ) → met ≡ 0 → AreAtMost most plan met
none_met most plan met none = inl (omega (arith, none))

-- After one call more the plan lists no fewer,
pub listed_after : (plan : List ℕ) (made after : ℕ) → (after ≡ made) ⊎ (after ≡ risen made) → listed_of (Some made) plan ≤ listed_of (Some after) plan
listed_after plan made after (inl same) = listed_more plan (min made (2 ^ 64 - 1)) (min after (2 ^ 64 - 1)) (omega (arith, same))
listed_after plan made after (inr same) = listed_more plan (min made (2 ^ 64 - 1)) (min after (2 ^ 64 - 1)) (omega (arith, same))

-- and one more where it lists that one.
pub listed_next : (plan : List ℕ) (made met : ℕ) → list_any (λ m. m == risen made) plan ≡ true → AreAtMost (listed_of (Some made) plan) plan met → AreAtMost (listed_of (Some (risen made)) plan) plan (met + 1)
listed_next plan made met listed (inr ends) = inr ends
listed_next plan made met listed (inl few) =
    elim (cases_lt made (2 ^ 64 - 1)) [
      | inl below ↦
          let here : min made (2 ^ 64 - 1) ≡ made = omega (arith, below) in
          let next : risen made ≡ suc made = omega (arith, below) in
          let there : min (risen made) (2 ^ 64 - 1) ≡ suc made = omega (arith, below) in
          let more : listed_among plan (suc made) ≡ suc (listed_among plan made) = ap (λ (b : Bool). if b then suc (listed_among plan made) else listed_among plan made) (ap (λ (n : ℕ). list_any (λ m. m == n) plan) (sym next) ∙ listed) in
          inl (omega (arith, few, ap (listed_among plan) here, ap (listed_among plan) there, more))
      | inr past ↦ (let end : risen made ≡ 2 ^ 64 - 1 = omega (arith, past) in inr (ap (λ (n : ℕ). list_any (λ m. m == n) plan) (sym end) ∙ listed))
    ]

-- Failures counted against a list of failing calls.
use Rattle.std.proofs.Common.{◌≡◌, ℕ, zero, suc, ◌-◌, ◌^◌, ◌≤◌, Bool, true, false, not, ◌||◌, ◌==◌, List, [], ◌∷◌, Option, Some, None, refl, sym, ap, ◌∙◌, arith, inl, inr, subst, if◌then◌else◌}
use Rattle.pool_pages.proofs.Imports.{list_any, cases_lt, risen, IfSome}
use Rattle.pool_pages.specs.CallSums.{both}
use Rattle.pool_pages.specs.FailingTold.{if_empty, lets_through, counts_after_call}
use Rattle.pool_pages.specs.declared.call_counts.CallCounts.{CallCounts}
use Rattle.pool_pages.specs.declared.call_counts.CallKind.{CallKind}
use Rattle.pool_pages.specs.Told.{listed_among, NoMoreThanListed, joined_plan}

one_if : (b : Bool) (x : ℕ) → x ≤ (if b then suc x else x)
one_if true x = omega arith
one_if false x = omega arith

-- one more call, which the list refuses
pub refuses_on : (plan : List ℕ) (made faults : ℕ) → list_any (λ m. m == risen made) plan ≡ true → NoMoreThanListed plan made faults → NoMoreThanListed plan (risen made) (risen faults)
refuses_on plan made faults listed h = elim (cases_lt made (2 ^ 64 - 1)) [
  | inl below ↦
      let up : suc made ≡ risen made = omega (arith, below) in
      let more : listed_among plan (suc made) ≡ suc (listed_among plan made) = ap (λ (b : Bool). if b then suc (listed_among plan made) else listed_among plan made) (ap (λ (n : ℕ). list_any (λ m. m == n) plan) up ∙ listed) in
      elim h [
        | inl few ↦ subst (λ n. NoMoreThanListed plan n (risen faults)) up (inl (omega (arith, few, more)))
        | inr ends ↦ absurd (omega (arith, below, ends.0))
      ]
  | inr past ↦
      let end : risen made ≡ 2 ^ 64 - 1 = omega (arith, past) in
      inr (end, ap (λ (n : ℕ). list_any (λ m. m == n) plan) (sym end) ∙ listed)
]

-- where nothing is listed nothing fails
pub none_fails : (made : ℕ) → listed_among [] made ≡ 0
none_fails zero = refl
none_fails (suc n) = none_fails n

pub never_fails : (made faults : ℕ) → NoMoreThanListed [] made faults → faults ≡ 0
never_fails made faults h = elim h [
  | inl few ↦ omega (arith, few, none_fails made)
  | inr ends ↦ absurd (cc ends.1)
]

-- fewer failures
fewer : (plan : List ℕ) (made a b : ℕ) → a ≤ b → NoMoreThanListed plan made b → NoMoreThanListed plan made a
fewer plan made a b less h = elim h [
  | inl few ↦ inl (omega (arith, few, less))
  | inr ends ↦ inr ends
]

-- what a list before a region counts, by what the region counts
pub joined_failures : (plan : Option (List ℕ)) (listed : List ℕ) (behind made faults refused : ℕ) → IfSome plan (λ p. NoMoreThanListed p behind faults) → NoMoreThanListed listed made refused → IfSome (joined_plan plan listed) (λ p. NoMoreThanListed p (if_empty listed behind made) (if_empty listed faults (both refused faults)))
joined_failures plan [] behind made faults refused h own = h
joined_failures None (n ∷ ns) behind made faults refused h own = tt
joined_failures (Some (y ∷ ys)) (n ∷ ns) behind made faults refused h own = tt
joined_failures (Some []) (n ∷ ns) behind made faults refused h own = fewer (n ∷ ns) made (both refused faults) refused (omega (arith, never_fails behind faults h)) own

refused_parts : (z b : Bool) → (z || not b) ≡ false → (z ≡ false) × (b ≡ true)
refused_parts true b e = absurd (cc e)
refused_parts false true e = (refl, refl)
refused_parts false false e = absurd (cc e)

-- the counts after a call that the list refuses
pub refused_listed : (listed after : List ℕ) (kind : CallKind) (len : ℕ) (old new : CallCounts) → after ≡ listed → new ≡ counts_after_call kind len true old → lets_through listed old.made len ≡ false → NoMoreThanListed listed old.made old.refused → NoMoreThanListed after new.made new.refused
refused_listed listed after kind len old new same is refused h =
    let parts = refused_parts (len == 0) (list_any (λ n. n == risen old.made) listed) refused in
    subst (λ (l : List ℕ). NoMoreThanListed l new.made new.refused) (sym same) (
    subst (λ (n : CallCounts). NoMoreThanListed listed n.made n.refused) (sym is) (
    subst (λ (z : Bool). NoMoreThanListed listed (if z then old.made else risen old.made) (risen old.refused)) (sym parts.0) (
    refuses_on listed old.made old.refused parts.1 h)))

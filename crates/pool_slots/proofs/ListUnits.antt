-- What all parts of a pool have given out and keep, by what each of them does.
use Rattle.std.proofs.Common.{◌≡◌, ◌≢◌, ℕ, zero, suc, ◌+◌, ◌<◌, ◌≤◌, List, [], ◌∷◌, length, refl, ap, ◌∙◌, inl, inr, arith, slice_index_or}
use Rattle.pool_slots.proofs.Imports.{cases_lt, total, UnitName, element, inside, total_append, total_set, total_only, total_zero}
use mathlib.Core.Option.{some, some-injective}
use lib.ListN.{get_elem?}
use Rattle.pool_slots.specs.ListUnits.{all_away, all_kept, AwayFollows, KeptFollows}
use Rattle.pool_slots.specs.PartUnits.{part_away, part_kept}
use Rattle.pool_slots.specs.Parts.{part_at, with_part}
use Rattle.pool_slots.specs.declared.part.PoolPart.{PoolPart}

-- the element at a place, read with a default
pub read_at : {X : Type 0} (l : List X) (i : ℕ) (d v : X) → get_elem? l i ≡ some v → slice_index_or l i d ≡ v
read_at [] i d v e = let under = inside [] i v e in absurd (omega (arith, under))
read_at (x ∷ xs) zero d v e = some-injective x v e
read_at (x ∷ xs) (suc i) d v e = read_at xs i d v e

-- a sum in which one element at most has a share, which is at most 1
pub total_once : {X : Type 0} (f : X → ℕ) (l : List X) (p : ℕ) → ((i : ℕ) (x : X) → get_elem? l i ≡ some x → 0 < f x → i ≡ p) → ((i : ℕ) (x : X) → get_elem? l i ≡ some x → f x ≤ 1) → total f l ≤ 1
total_once {X} f l p only once =
    let none : (i : ℕ) (x : X) → i ≢ p → get_elem? l i ≡ some x → f x ≡ 0 = λ i x other e.
    elim (cases_lt 0 (f x)) [ inl some' ↦ absurd (other (only i x e some')) | inr none ↦ omega arith ] in
    elim (cases_lt p (length l)) [
      | inl within ↦
          let at = element l p within in
          let all = total_only f l p at.0 at.1 none in
          let one = once p at.0 at.1 in
          omega (arith, all, one)
      | inr past ↦
          let zero' : total f l ≡ 0 = total_zero f l (λ i x e. none i x (λ same. let under = inside l i x e in absurd (omega (arith, under, same, past))) e) in
          omega (arith, zero')
    ]

module _ {P H : Type 0} where
  -- part by part
  pub away_parts : (w : UnitName → ℕ) (parts : List (PoolPart P H)) → total w (all_away parts) ≡ total (λ x. total w (part_away x)) parts
  away_parts w [] = refl
  away_parts w (x ∷ xs) = total_append w (part_away x) (all_away xs) ∙ ap (λ (n : ℕ). total w (part_away x) + n) (away_parts w xs)

  pub kept_parts : (w : UnitName → ℕ) (parts : List (PoolPart P H)) → total w (all_kept parts) ≡ total (λ x. total w (part_kept x)) parts
  kept_parts w [] = refl
  kept_parts w (x ∷ xs) = total_append w (part_kept x) (all_kept xs) ∙ ap (λ (n : ℕ). total w (part_kept x) + n) (kept_parts w xs)

  -- one part is changed
  changed : (f : PoolPart P H → ℕ) (place : ℕ) (change : PoolPart P H → PoolPart P H) (parts : List (PoolPart P H)) (more less : ℕ) → place < length parts → f (change (part_at place parts)) + less ≡ f (part_at place parts) + more → total f (with_part place change parts) + less ≡ total f parts + more
  changed f place change parts more less within here =
      let at = element parts place within in
      let is : part_at place parts ≡ at.0 = read_at parts place _ at.0 at.1 in
      let all = total_set f parts place at.0 (change (part_at place parts)) at.1 in
      let was : f (part_at place parts) ≡ f at.0 = ap f is in
      omega (arith, all, here, was)

pub away_follows : (P H : Type 0) → AwayFollows P H
away_follows P H w place change parts gave took within here =
    let old = away_parts w parts in
    let new = away_parts w (with_part place change parts) in
    let r = changed (λ x. total w (part_away x)) place change parts gave took within here in
    omega (arith, old, new, r)

pub kept_follows : (P H : Type 0) → KeptFollows P H
kept_follows P H w place change parts came left within here =
    let old = kept_parts w parts in
    let new = kept_parts w (with_part place change parts) in
    let r = changed (λ x. total w (part_kept x)) place change parts came left within here in
    omega (arith, old, new, r)

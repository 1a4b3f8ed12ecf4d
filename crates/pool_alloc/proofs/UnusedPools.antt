-- Of a pool as it is made nothing is given out, and it is whole where nobody has anything.
use Rattle.std.proofs.Common.{◌≡◌, ℕ, List, [], ◌∷◌, refl, ap, arith, sum_by}
use Rattle.pool_alloc.proofs.Imports.{AllByRecursion, sum_by-cons, total, each_weaker}
use Rattle.pool_alloc.specs.Places.{Thing, away_count, kept_count, Weight}
use Rattle.pool_alloc.specs.PoolAndHolders.{Holding, IsPartitioned, IsUntouched}
use Rattle.pool_alloc.specs.declared.pool_core.PoolCore.{PoolCore}

-- nothing at all
abbrev pub HasNothing : Holding → Type 0
HasNothing h = (w : Weight) → h w ≡ 0

sum_each_none : {X : Type 0} (f : X → ℕ) (xs : List X) → AllByRecursion (λ x. f x ≡ 0) xs → sum_by f xs ≡ 0
sum_each_none f [] none = refl
sum_each_none f (x ∷ xs) none = omega (arith, sum_by-cons f x xs, none.0, sum_each_none f xs none.1)

module _ {P H : Type 0} where
  pub none_away : (t : Thing) (c : PoolCore P H) → IsUntouched c → away_count t c ≡ 0
  none_away t c untouched = ap (total t) untouched.none_away

  pub none_kept : (t : Thing) (c : PoolCore P H) → IsUntouched c → kept_count t c ≡ 0
  none_kept t c untouched = ap (total t) untouched.none_kept

  -- So it is whole with those who have nothing.
  pub untouched_is_whole : {X : Type 0} (has : X → Holding) (c : PoolCore P H) (xs : List X) → IsUntouched c → AllByRecursion (λ x. HasNothing (has x)) xs → IsPartitioned has c xs
  untouched_is_whole has c xs untouched nothing = λ w. omega (
    arith,
    none_away w.unit c untouched,
    none_kept w.unit c untouched,
    untouched.counted w.counts,
    sum_each_none (λ x. has x w) xs (each_weaker (λ x. HasNothing (has x)) (λ x. has x w ≡ 0) xs (λ x none. none w) nothing),
  )

-- Lists that have each unit equally often weigh the same, whatever each unit weighs.
use Rattle.std.proofs.Common.{◌≡◌, ℕ, ◌+◌, ◌<◌, true, false, List, [], ◌∷◌, ⊎_elim, sym, refl, ap, arith}
use Rattle.std.proofs.lemmas.Bool.{cases_Bool}
use Rattle.pool_hall.specs.Sum.{one_if, total}
use Rattle.pool_hall.specs.Unit.{same, times, without}
use Rattle.pool_hall.specs.declared.unit_name.UnitName.{UnitName}
use Rattle.pool_hall.proofs.Callers.{none_left}
use Rattle.pool_hall.proofs.Units.{same_is, same_self}

-- a list weighs what one of its units weighs, and what is left without it
total_without : (t : UnitName → ℕ) (w : UnitName) (us : List UnitName) → 0 < times w us → total t us ≡ t w + total t (without w us)
total_without t w [] some' = absurd (omega arith)
total_without t w (x ∷ us) some' = ⊎_elim
    (λ (is : same w x ≡ true).
    let e : t w ≡ t x = ap t (same_is w x is) in
    let f : total t (without w (x ∷ us)) ≡ total t us = rw is refl in
    omega arith)
    (λ (other : same w x ≡ false).
    let z : one_if (same w x) ≡ 0 = ap one_if other in
    let f : total t (without w (x ∷ us)) ≡ t x + total t (without w us) = rw other refl in
    let r = total_without t w us (omega arith) in
    omega arith)
    (cases_Bool (same w x))

pub same_totals : (a b : List UnitName) → ((u : UnitName) → times u a ≡ times u b) → (t : UnitName → ℕ) → total t a ≡ total t b
same_totals [] b e t = ap (total t) (sym (none_left b (λ u. sym (e u))))
same_totals (w ∷ a) b e t =
    let one : one_if (same w w) ≡ 1 = ap one_if (same_self w) in
    let here = e w in
    let some' : 0 < times w b = omega arith in
    let less : (u : UnitName) → times u a ≡ times u (without w b) = λ u. (let p = e u in let q = total_without (λ z. one_if (same u z)) w b some' in omega arith) in
    let r = same_totals a (without w b) less t in
    let q = total_without t w b some' in
    omega arith

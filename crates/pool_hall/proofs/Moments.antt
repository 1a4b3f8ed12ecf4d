-- The units of all seats but one.
use Rattle.std.proofs.Common.{◌≡◌, ℕ, zero, suc, ◌+◌, ◌<◌, ◌≤◌, List, [], ◌∷◌, ◌++◌, ⊎_elim, sym, refl, ap, arith}
use Rattle.std.proofs.lemmas.Bool.{cases_lt}
use mathlib.Core.Option.{some, some-injective, some-ne-none}
use lib.ListN.{get_elem?}
use Rattle.pool_hall.specs.declared.unit_name.UnitName.{UnitName}
use Rattle.pool_hall.specs.declared.view.View.{View}
use Rattle.pool_hall.specs.Unit.{times, pick_of, Beside}
use Rattle.pool_hall.specs.Tally.{having, sum}
use Rattle.pool_hall.proofs.Units.{times_append}

pub beside_append : (us ws : List UnitName) → Beside us → Beside ws → Beside (us ++ ws)
beside_append us ws a b u region some' =
    let e = times_append u us ws in
    let f = times_append (pick_of u) us ws in
    ⊎_elim
    (λ (here : 0 < times u us). let k = a u region here in omega arith)
    (λ (none' : times u us ≤ 0). let k = b u region (omega arith) in omega arith)
    (cases_lt 0 (times u us))

module _ {T : Type 0} where
  abbrev pub units_in : List (View T) → List UnitName
  units_in [] = []
  units_in (v ∷ vs) = v.units ++ units_in vs

  abbrev pub units_but : ℕ → List (View T) → List UnitName
  units_but n [] = []
  units_but zero (v ∷ vs) = units_in vs
  units_but (suc n) (v ∷ vs) = v.units ++ units_but n vs

  all_in : (u : UnitName) (vs : List (View T)) → times u (units_in vs) ≡ sum (having u) vs
  all_in u [] = refl
  all_in u (v ∷ vs) = let a = all_in u vs in let e = times_append u v.units (units_in vs) in omega arith

  pub but_one : (u : UnitName) (vs : List (View T)) (n : ℕ) (v : View T) → get_elem? vs n ≡ some v → times u v.units + times u (units_but n vs) ≡ sum (having u) vs
  but_one u [] n v e = absurd (some-ne-none v (sym e))
  but_one u (w ∷ vs) zero v e = let a = all_in u vs in let f : times u w.units ≡ times u v.units = ap (λ (z : View T). times u z.units) (some-injective w v e) in omega arith
  but_one u (w ∷ vs) (suc n) v e = let a = but_one u vs n v e in let f = times_append u w.units (units_but n vs) in omega arith

  abbrev AllBeside : List (View T) → Type 0
  AllBeside vs = (j : ℕ) (w : View T) → get_elem? vs j ≡ some w → Beside w.units

  beside_in : (vs : List (View T)) → AllBeside vs → Beside (units_in vs)
  beside_in [] each = λ u region some'. absurd (omega arith)
  beside_in (v ∷ vs) each = beside_append v.units (units_in vs) (each 0 v refl) (beside_in vs (λ j w e. each (suc j) w e))

  pub beside_but : (vs : List (View T)) (n : ℕ) → AllBeside vs → Beside (units_but n vs)
  beside_but [] n each = λ u region some'. absurd (omega arith)
  beside_but (v ∷ vs) zero each = beside_in vs (λ j w e. each (suc j) w e)
  beside_but (v ∷ vs) (suc n) each = beside_append v.units (units_but n vs) (each 0 v refl) (beside_but vs n (λ j w e. each (suc j) w e))

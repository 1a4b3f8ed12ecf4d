-- A slot that is picked stands at its place, and gives its unit where it was free.
use Rattle.std.proofs.Common.{◌≡◌, ℕ, zero, suc, ◌+◌, ◌^◌, ◌<◌, ◌≤◌, if◌then◌else◌, Bool, true, false, not, List, [], ◌∷◌, sym, refl, ap, ◌∙◌, ⊎_elim, arith, true≢false, slice_index}
use Rattle.pool_checks.proofs.Imports.{cases_Bool, Memory, UnitName, one_if, same, times, pick_unit, Beside, Meaning, StandsAt, moved, MayPut, view, made_with, limits_of, same_is, lent_is, can_put, view_after, may_stay, times_stay, may_give, times_given}
use Rattle.pool_checks.specs.declared.hall_tests.Slot.{Slot}
use Rattle.pool_checks.proofs.hall_tests.pick.Goals as goal

abbrev pub slot_meaning : Meaning Slot
slot_meaning = record {
  fits = λ parts limits p x. x.number ≡ p;
  away = λ x. if x.used then pick_unit Memory x.number ∷ [] else [];
  kept = λ x. [];
  counts = λ x. x.picks ∷ [];
  steady = λ x. false;
  topped = λ x. false;
  place = λ parts limits u. u.slot;
}

abbrev pub away_if : Bool → ℕ → List UnitName
away_if b n = if b then pick_unit Memory n ∷ [] else []

one_away : (b : Bool) (n : ℕ) (u : UnitName) → 0 < times u (away_if b n) → u.slot ≡ n
one_away true n u h = ⊎_elim
    (λ (is : same u (pick_unit Memory n) ≡ true). ap (λ (z : UnitName). z.slot) (same_is u (pick_unit Memory n) is))
    (λ (not : same u (pick_unit Memory n) ≡ false). let z : one_if (same u (pick_unit Memory n)) ≡ 0 = ap one_if not in absurd (omega arith))
    (cases_Bool (same u (pick_unit Memory n)))
one_away false n u h = absurd (omega arith)

pub at_most_one : (b : Bool) → one_if b ≤ 1
at_most_one true = omega arith
at_most_one false = omega arith

away_once : (b : Bool) (n : ℕ) (u : UnitName) → times u (away_if b n) ≤ 1
away_once true n u = let o = at_most_one (same u (pick_unit Memory n)) in omega arith
away_once false n u = omega arith

small_count : (n : ℕ) → n < 2 ^ 64 → (i : ℕ) → slice_index (n ∷ []) i < 2 ^ 64
small_count n h zero = h
small_count n h (suc i) = omega arith

pub slot_stands : (ps : List Slot) (ls : List ℕ) (p : ℕ) (x : Slot) → x.number ≡ p → x.picks < 2 ^ 64 → StandsAt slot_meaning ps ls p x
slot_stands ps ls p x fits small = record {
  fits = fits;
  own = λ u h. one_away x.used x.number u h ∙ fits;
  once = λ u. away_once x.used x.number u;
  small = small_count x.picks small;
  beside = λ u region h. absurd (omega arith);
}

module _ (ps : List Slot) (ls : List ℕ) (p : ℕ) (x y : Slot) (us : List UnitName) (fits : x.number ≡ p) (used : y.used ≡ true) (same_number : y.number ≡ x.number) (small : y.picks < 2 ^ 64) (beside : Beside us) where
  abbrev Picks : Bool → Type 0
  Picks b = MayPut slot_meaning ps ls p x y us × ((u : UnitName) → times u (moved slot_meaning x y us) ≡ times u us + (if b then one_if (same u (pick_unit Memory p)) else 0))

  stands : StandsAt slot_meaning ps ls p y
  stands = slot_stands ps ls p y (same_number ∙ fits) small

  after : away_if y.used y.number ≡ pick_unit Memory p ∷ []
  after = (λ i. away_if (used i) ((same_number ∙ fits) i))

  picks : (b : Bool) → x.used ≡ b → Picks (not b)
  picks true was =
      let before : away_if x.used x.number ≡ pick_unit Memory p ∷ [] = (λ i. away_if (was i) (fits i)) in
      let away = λ (u : UnitName). ap (times u) after ∙ sym (ap (times u) before) in (
        may_stay slot_meaning ps ls p x y us stands (λ e. e) refl (λ e i. absurd (true≢false (sym e))) (λ u. refl) beside away,
        λ u. let t = times_stay slot_meaning ps ls p x y us stands (λ e. e) refl (λ e i. absurd (true≢false (sym e))) (λ u. refl) beside away u in omega arith,
      )
  picks false was =
      let before : away_if x.used x.number ≡ [] = (λ i. away_if (was i) (fits i)) in
      let away : (u : UnitName) → times u (away_if y.used y.number) ≡ times u (away_if x.used x.number) + one_if (same u (pick_unit Memory p)) = λ u. let a = ap (times u) after in let b = ap (times u) before in omega arith in (
        may_give slot_meaning ps ls p x y us stands (λ e. e) refl (λ e i. absurd (true≢false (sym e))) (λ u. refl) beside (pick_unit Memory p) away (λ e. absurd (true≢false (sym e))),
        times_given slot_meaning ps ls p x y us stands (λ e. e) refl (λ e i. absurd (true≢false (sym e))) (λ u. refl) beside (pick_unit Memory p) away (λ e. absurd (true≢false (sym e))),
      )

pub put-requires-clause-may : goal.put-requires-clause-may
put-requires-clause-may g c =
    let h = c.take.ensures.taken in
    let e = lent_is slot_meaning _ _ _ h _ c.part.ensures.value in
    let p = c.pick-picked.ensures in
    can_put slot_meaning c.args.hall.now c.args.seat.now c.take.new.seat h c.pick-picked.new.self
    (picks _ _ _ h.part c.pick-picked.new.self _ h.told.stands.fits p.used (p.same ∙ sym (ap (λ x. x.number) e)) p.small h.told.beside h.part.used refl).0

pub returns-clause-units : goal.returns-clause-units
returns-clause-units g c u =
    let h = c.take.ensures.taken in
    let e = lent_is slot_meaning _ _ _ h _ c.part.ensures.value in
    let p = c.pick-picked.ensures in
    let after = view_after slot_meaning c.args.hall.now c.args.seat.now c.take.new.seat h c.pick-picked.new.self c.put.new.seat c.put.ensures.view in
    let came = (picks (made_with c.args.hall.now) (limits_of c.args.hall.now) _ h.part c.pick-picked.new.self (view c.args.seat.now).units h.told.stands.fits p.used (p.same ∙ sym (ap (λ x. x.number) e)) p.small h.told.beside h.part.used refl).1 u in
    ap (λ v. times u v.units) after ∙ came
    ∙ (λ i. times u (view c.args.seat.now).units + (if (ap not (ap (λ x. x.used) e) ∙ sym p.picked) i then one_if (same u (pick_unit Memory (c.take.ensures.place i))) else 0))

pub returns-clause-portions : goal.returns-clause-portions
returns-clause-portions g c =
    ap (λ v. v.portions) (view_after slot_meaning c.args.hall.now c.args.seat.now c.take.new.seat c.take.ensures.taken c.pick-picked.new.self c.put.new.seat c.put.ensures.view)

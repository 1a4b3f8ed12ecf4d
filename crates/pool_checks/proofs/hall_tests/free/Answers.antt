-- A slot whose pick unit the seat has is used, and takes the unit back.
use Rattle.std.proofs.Common.{◌≡◌, ℕ, zero, suc, ◌+◌, if◌then◌else◌, ◌^◌, ◌<◌, ◌≤◌, Bool, true, false, List, [], ◌∷◌, sym, refl, ap, ◌∙◌, subst, arith, true≢false, slice_index}
use Rattle.pool_checks.proofs.Imports.{Memory, UnitName, one_if, same, times, pick_unit, Beside, Meaning, StandsAt, moved, MayPut, view, made_with, limits_of, same_is, same_self, lent_is, can_put, view_after, none_left, may_take_back, times_returned}
use Rattle.pool_checks.specs.declared.hall_tests.Slot.{Slot}
use Rattle.pool_checks.proofs.hall_tests.free.Goals as goal

abbrev slot_meaning : Meaning Slot
slot_meaning = record {
  fits = λ parts limits p x. x.number ≡ p;
  away = λ x. if x.used then pick_unit Memory x.number ∷ [] else [];
  kept = λ x. [];
  counts = λ x. x.picks ∷ [];
  steady = λ x. false;
  topped = λ x. false;
  place = λ parts limits u. u.slot;
}

abbrev away_if : Bool → ℕ → List UnitName
away_if b n = if b then pick_unit Memory n ∷ [] else []

small_count : (n : ℕ) → n < 2 ^ 64 → (i : ℕ) → slice_index (n ∷ []) i < 2 ^ 64
small_count n h zero = h
small_count n h (suc i) = omega arith

module _ (ps : List Slot) (ls : List ℕ) (p : ℕ) (x y : Slot) (us : List UnitName) (fits : x.number ≡ p) (unused : y.used ≡ false) (same_number : y.number ≡ x.number) (small : y.picks < 2 ^ 64) (beside : Beside us)
    (one : (u : UnitName) → times u us ≡ one_if (same u (pick_unit Memory p))) (away : times (pick_unit Memory p) us ≤ times (pick_unit Memory p) (away_if x.used x.number)) where
  abbrev w : UnitName
  w = pick_unit Memory p

  had : times w us ≡ 1
  had = one w ∙ ap one_if (same_self w)

  was_used : (b : Bool) → x.used ≡ b → x.used ≡ true
  was_used true e = e
  was_used false e = let h = had in let z : times w (away_if x.used x.number) ≡ 0 = ap (λ b. times w (away_if b x.number)) e in absurd (omega arith)

  before : away_if x.used x.number ≡ w ∷ []
  before = λ i. away_if (was_used x.used refl i) (fits i)

  none_away : (u : UnitName) → times u (away_if y.used y.number) ≡ 0
  none_away u = ap (λ b. times u (away_if b y.number)) unused

  stands : StandsAt slot_meaning ps ls p y
  stands = record {
    fits = same_number ∙ fits;
    own = λ u h. let z = none_away u in absurd (omega arith);
    once = λ u. let z = none_away u in omega arith;
    small = small_count y.picks small;
    beside = λ u region h. absurd (omega arith);
  }

  came : (u : UnitName) → times u (away_if y.used y.number) + one_if (same u w) ≡ times u (away_if x.used x.number)
  came u = let a = ap (times u) before in let b = none_away u in omega arith

  unneeded : (u : UnitName) → u.region ≡ true → pick_unit u.kind u.slot ≡ w → times u us ≡ 0
  unneeded u region _ = one u ∙ go (same u w) refl
    where
      go : (b : Bool) → same u w ≡ b → one_if (same u w) ≡ 0
      go true e = absurd (true≢false (sym region ∙ ap (λ (z : UnitName). z.region) (same_is u w e)))
      go false e = ap one_if e

  frees : MayPut slot_meaning ps ls p x y us × (moved slot_meaning x y us ≡ [])
  frees = (
    may_take_back slot_meaning ps ls p x y us stands (λ e. e) refl (λ e i. absurd (true≢false (sym e))) (λ u. refl) beside w came (let h = had in omega arith) unneeded,
    none_left (moved slot_meaning x y us) (λ u.
        let t = times_returned slot_meaning ps ls p x y us stands (λ e. e) refl (λ e i. absurd (true≢false (sym e))) (λ u. refl) beside w came (let h = had in omega arith) unneeded u in
        let o = one u in
        omega arith),
  )

pub put-requires-clause-may : goal.put-requires-clause-may
put-requires-clause-may g c =
    let h = c.take.ensures.taken in
    let e = lent_is slot_meaning _ _ _ h _ c.part.ensures.value in
    let f = c.free.ensures in
    let one = subst (λ (p : ℕ). (u : UnitName) → times u (view c.args.seat.now).units ≡ one_if (same u (pick_unit Memory p))) (sym c.take.ensures.place) c.requires.one in
    can_put slot_meaning c.args.hall.now c.args.seat.now c.take.new.seat h c.free.new.self
    (frees _ _ _ h.part c.free.new.self _ h.told.stands.fits f.used (f.same ∙ sym (ap (λ x. x.number) e)) f.small h.told.beside one (h.told.away (pick_unit Memory c.take.new.seat.place) refl)).0

pub returns-clause-none : goal.returns-clause-none
returns-clause-none g c =
    let h = c.take.ensures.taken in
    let e = lent_is slot_meaning _ _ _ h _ c.part.ensures.value in
    let f = c.free.ensures in
    let one = subst (λ (p : ℕ). (u : UnitName) → times u (view c.args.seat.now).units ≡ one_if (same u (pick_unit Memory p))) (sym c.take.ensures.place) c.requires.one in
    let after = view_after slot_meaning c.args.hall.now c.args.seat.now c.take.new.seat h c.free.new.self c.put.new.seat c.put.ensures.view in
    ap (λ v. v.units) after
    ∙ (frees (made_with c.args.hall.now) (limits_of c.args.hall.now) _ h.part c.free.new.self _ h.told.stands.fits f.used (f.same ∙ sym (ap (λ x. x.number) e)) f.small h.told.beside one (h.told.away (pick_unit Memory c.take.new.seat.place) refl)).1

pub returns-clause-portions : goal.returns-clause-portions
returns-clause-portions g c =
    ap (λ v. v.portions) (view_after slot_meaning c.args.hall.now c.args.seat.now c.take.new.seat c.take.ensures.taken c.free.new.self c.put.new.seat c.put.ensures.view)

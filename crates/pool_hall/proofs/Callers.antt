-- For proofs of those who call a hall: what a seat holds before and after its part is lent, and the puts that move one unit.
use Rattle.std.proofs.Common.{◌≡◌, ℕ, ◌+◌, ◌<◌, ◌≤◌, true, false, List, [], ◌∷◌, get_or, ⊎_elim, sym, refl, ap, subst, ◌∙◌, arith, slice_index}
use Rattle.std.proofs.lemmas.Bool.{cases_Bool}
use Rattle.atomic_table.specs.Table.{rest}
use Rattle.pool_hall.specs.declared.unit_name.UnitName.{UnitName}
use Rattle.pool_hall.specs.declared.hall.Hall.{Hall}
use Rattle.pool_hall.specs.declared.hall.HallSeat.{HallSeat}
use Rattle.pool_hall.specs.Sum.{one_if}
use Rattle.pool_hall.specs.Unit.{same, times, pick_of, Beside}
use Rattle.pool_hall.specs.Meaning.{Meaning, StandsAt}
use Rattle.pool_hall.specs.Step.{moved, put_view, MayPut}
use Rattle.pool_hall.specs.Seat.{made_with, limits_of, view, Holds, HasPart, with_part, IsTaken, CanPut, IsPut}
use Rattle.pool_hall.proofs.Units.{same_is, same_self}
use Rattle.pool_hall.proofs.Hands.{times_moved}

module _ {T : Type 0} (m : Meaning T) (h : Hall T) (s t : HallSeat T) (taken : IsTaken m h s t) where
  -- the part that is lent after a take is the part that was taken
  pub lent_is : (x : T) → HasPart t x → taken.part ≡ x
  lent_is x lent = ap (λ (l : List (ℕ × T)). (get_or l 0 (t.place, x)).1) (sym taken.holds.slots ∙ lent)

  -- after the loan the seat holds what was left in it
  pub holds_after : (y : T) → Holds (with_part t y) taken.part y
  holds_after y = record { place = taken.holds.place; slots = ap (λ (l : List (ℕ × T)). (t.place, y) ∷ rest l) taken.holds.slots; within = taken.holds.within }

  -- a take, a loan that leaves y, and a put: what the put asks, and what the seat knows then
  pub can_put : (y : T) → MayPut m (made_with h) (limits_of h) t.place taken.part y (view s).units → CanPut m h (with_part t y)
  can_put y may = record { was = taken.part; part = y; holds = holds_after y; may = subst (MayPut m (made_with h) (limits_of h) t.place taken.part y) (sym (ap (λ v. v.units) taken.view)) may }

  pub view_after : (y : T) (u : HallSeat T) → IsPut m (with_part t y) u → view u ≡ put_view m t.place taken.part y (view s)
  view_after y u put = put taken.part y (holds_after y) ∙ ap (put_view m t.place taken.part y) taken.view

-- a list with no unit is empty
pub none_left : (us : List UnitName) → ((u : UnitName) → times u us ≡ 0) → us ≡ []
none_left [] none' = refl
none_left (w ∷ us) none' = let one : one_if (same w w) ≡ 1 = ap one_if (same_self w) in let z = none' w in absurd (omega arith)

-- Puts, by the units that come into the view and those that leave it. The kinds of part make no difference
module _ {T : Type 0} (m : Meaning T) (parts : List T) (limits : List ℕ) (p : ℕ) (x y : T) (us : List UnitName) (stands : StandsAt m parts limits p y) (topped : m.topped x ≡ true → m.topped y ≡ true)
    (steady : m.steady y ≡ m.steady x) (rises : m.steady y ≡ true → (i : ℕ) → slice_index (m.counts x) i ≤ slice_index (m.counts y) i) where
  -- any units: those that come are the part's to give, and the view has those that leave
  module _ (come leave : List UnitName) (flow : (u : UnitName) → times u (m.away y) + times u (m.kept x) + times u leave ≡ times u (m.away x) + times u (m.kept y) + times u come)
      (had : (u : UnitName) → times u leave ≤ times u us + times u come) where
    all_paid : (u : UnitName) → times u (m.away x) + times u (m.kept y) ≤ times u us + (times u (m.away y) + times u (m.kept x))
    all_paid u = let f = flow u in let h = had u in omega arith

    pub times_after : (u : UnitName) → times u (moved m x y us) + times u leave ≡ times u us + times u come
    times_after u = let t = times_moved m x y us u (all_paid u) in let f = flow u in omega arith

    pub may_move : ((u : UnitName) → u.region ≡ true → times u leave < times u us + times u come → times (pick_of u) leave < times (pick_of u) us + times (pick_of u) come) → MayPut m parts limits p x y us
    may_move needs = record {
      stands = stands;
      paid = all_paid;
      beside = λ u region some'. let t = times_after u in let q = times_after (pick_of u) in let n = needs u region (omega arith) in omega arith;
      topped = topped;
      steady = steady;
      rises = rises;
    }

  module _ (kept : (u : UnitName) → times u (m.kept y) ≡ times u (m.kept x)) (beside : Beside us) where
    -- no unit: the view has the units that it had
    module _ (away : (u : UnitName) → times u (m.away y) ≡ times u (m.away x)) where
      still : (u : UnitName) → times u (m.away y) + times u (m.kept x) + times u [] ≡ times u (m.away x) + times u (m.kept y) + times u []
      still u = let a = away u in let k = kept u in omega arith

      pub times_stay : (u : UnitName) → times u (moved m x y us) ≡ times u us
      times_stay u = let t = times_after [] [] still (λ u. omega arith) u in omega arith

      pub may_stay : MayPut m parts limits p x y us
      may_stay = may_move [] [] still (λ u. omega arith) (λ u region h. let b = beside u region (omega arith) in omega arith)

    -- one unit that the part gave out
    module _ (w : UnitName) (away : (u : UnitName) → times u (m.away y) ≡ times u (m.away x) + one_if (same u w)) (needs : w.region ≡ true → 0 < times (pick_of w) us) where
      gives_one : (u : UnitName) → times u (m.away y) + times u (m.kept x) + times u [] ≡ times u (m.away x) + times u (m.kept y) + times u (w ∷ [])
      gives_one u = let a = away u in let k = kept u in omega arith

      pub times_given : (u : UnitName) → times u (moved m x y us) ≡ times u us + one_if (same u w)
      times_given u = let t = times_after (w ∷ []) [] gives_one (λ u. omega arith) u in omega arith

      given_needs : (u : UnitName) → u.region ≡ true → 0 < times u us + one_if (same u w) → 0 < times (pick_of u) us
      given_needs u region some' = ⊎_elim
          (λ (is : same u w ≡ true).
          let e : w ≡ u = sym (same_is u w is) in
          subst (λ (z : UnitName). 0 < times (pick_of z) us) e (needs (ap (λ (z : UnitName). z.region) e ∙ region)))
          (λ (other : same u w ≡ false). let z : one_if (same u w) ≡ 0 = ap one_if other in beside u region (omega arith))
          (cases_Bool (same u w))

      pub may_give : MayPut m parts limits p x y us
      may_give = may_move (w ∷ []) [] gives_one (λ u. omega arith) (λ u region h. let n = given_needs u region (omega arith) in omega arith)

    -- one unit that the part took back, which the view had beside no unit that needs it
    module _ (w : UnitName) (away : (u : UnitName) → times u (m.away y) + one_if (same u w) ≡ times u (m.away x)) (had : 0 < times w us) (unneeded : (u : UnitName) → u.region ≡ true → pick_of u ≡ w → times u us ≡ 0) where
      takes_one : (u : UnitName) → times u (m.away y) + times u (m.kept x) + times u (w ∷ []) ≡ times u (m.away x) + times u (m.kept y) + times u []
      takes_one u = let a = away u in let k = kept u in omega arith

      had_one : (u : UnitName) → times u (w ∷ []) ≤ times u us + times u []
      had_one u = ⊎_elim
          (λ (is : same u w ≡ true). let e : times u us ≡ times w us = ap (λ (z : UnitName). times z us) (same_is u w is) in let o : one_if (same u w) ≡ 1 = ap one_if is in omega arith)
          (λ (other : same u w ≡ false). let z : one_if (same u w) ≡ 0 = ap one_if other in omega arith)
          (cases_Bool (same u w))

      pub times_returned : (u : UnitName) → times u (moved m x y us) + one_if (same u w) ≡ times u us
      times_returned u = let t = times_after [] (w ∷ []) takes_one had_one u in omega arith

      returned_needs : (u : UnitName) → u.region ≡ true → 0 < times u us → one_if (same (pick_of u) w) < times (pick_of u) us
      returned_needs u region some' = ⊎_elim
          (λ (is : same (pick_of u) w ≡ true). let z = unneeded u region (same_is (pick_of u) w is) in absurd (omega arith))
          (λ (other : same (pick_of u) w ≡ false). let z : one_if (same (pick_of u) w) ≡ 0 = ap one_if other in let b = beside u region some' in omega arith)
          (cases_Bool (same (pick_of u) w))

      pub may_take_back : MayPut m parts limits p x y us
      may_take_back = may_move [] (w ∷ []) takes_one had_one (λ u region h. let n = returned_needs u region (omega arith) in omega arith)

-- What a notify does to the lists and to the marked waiters.
use Rattle.std.proofs.Common.{◌≡◌, ◌≢◌, ℕ, zero, suc, ◌<◌, Bool, true, false, cond, ◌&&◌, ◌||◌, not, List, [], ◌∷◌, length, map, drop, get_or, eqb, refl, sym, ap, subst, ◌∙◌, inl, inr, arith}
use Rattle.std.specs.List.{filter}
use Rattle.std.proofs.lemmas.Bool.{cases_Bool, and_parts, and_left, eqb-true, ne_eqb, eq-eqb, or_right, false_from_ne_true, true_from_ne_false, both_ways}
use Rattle.pool_pages.proofs.Small.{and_false, or_false}
use Rattle.pool_shared.specs.Spot.{is_of, is_parked_at, parked_at, is_waiting, is_marked, is_among, first_waiters, marked_if}
use Rattle.pool_shared.specs.Laws.{EarlyWaitersAreMarked, NotifyMarksTheFirst, NotifyTakesTheFirst, NotifyKeepsOtherLists, OthersStayInOrder}
use Rattle.pool_shared.specs.declared.waiting.Waiting.{Waiting}
use Rattle.pool_shared.proofs.Marking.{marking, marking_is, not_first}
use Rattle.pool_shared.proofs.Distinct.{same_waiter}

marking_takes : (addr n : ℕ) (ws : List Waiting) → parked_at addr (marking addr n ws) ≡ drop n (parked_at addr ws)
marking_takes addr zero ws = refl
marking_takes addr (suc n) [] = refl
marking_takes addr (suc n) (w ∷ ws) =
    elim (cases_Bool (is_parked_at addr w)) [
      | inl e ↦ rw (e, and_false (eqb w.addr addr)) (marking_takes addr n ws)
      | inr e ↦ rw (e, e) (marking_takes addr (suc n) ws)
    ]

pub takes_first : NotifyTakesTheFirst
takes_first addr n spot h = ap (parked_at addr) (sym (marking_is addr n spot h)) ∙ marking_takes addr n spot

elsewhere : (addr other : ℕ) (w : Waiting) → other ≢ addr → is_parked_at addr w ≡ true → is_parked_at other w ≡ false
elsewhere addr other w ne e =
    let here = eqb-true w.addr addr (and_parts (eqb w.addr addr) (not w.marked) e).0 in
    and_left (eqb w.addr other) (not w.marked) (ne_eqb w.addr other (λ (s : w.addr ≡ other). ne (sym s ∙ here)))

marking_keeps : (addr other n : ℕ) (ws : List Waiting) → other ≢ addr → parked_at other (marking addr n ws) ≡ parked_at other ws
marking_keeps addr other zero ws ne = refl
marking_keeps addr other (suc n) [] ne = refl
marking_keeps addr other (suc n) (w ∷ ws) ne =
    elim (cases_Bool (is_parked_at addr w)) [
      | inl e ↦ rw (e, elsewhere addr other w ne e, and_false (eqb w.addr other)) (marking_keeps addr other n ws ne)
      | inr e ↦ rw e (ap (λ (vs : List Waiting). cond (is_parked_at other w) (w ∷ vs) vs) (marking_keeps addr other (suc n) ws ne))
    ]

pub keeps_other_lists : NotifyKeepsOtherLists
keeps_other_lists addr other n spot h ne = ap (parked_at other) (sym (marking_is addr n spot h)) ∙ marking_keeps addr other n spot ne

pub filters_swap : (p q : Waiting → Bool) (ws : List Waiting) → filter p (filter q ws) ≡ filter q (filter p ws)
filters_swap p q [] = refl
filters_swap p q (w ∷ ws) =
    elim (cases_Bool (p w)) [
      | inl e ↦ elim (cases_Bool (q w)) [
        | inl o ↦ rw (e, o, e) (ap (λ (vs : List Waiting). w ∷ vs) (filters_swap p q ws))
        | inr o ↦ rw (e, o) (filters_swap p q ws)
      ]
      | inr e ↦ elim (cases_Bool (q w)) [
        | inl o ↦ rw (e, o, e) (filters_swap p q ws)
        | inr o ↦ rw (e, o) (filters_swap p q ws)
      ]
    ]

pub stay_in_order : OthersStayInOrder
stay_in_order addr waiter spot = filters_swap (is_parked_at addr) (λ w. not (is_of waiter w)) spot

marking_early : (addr n place : ℕ) (ws : List Waiting) (d : Waiting) → place < n → place < length (parked_at addr ws) → is_marked (get_or (parked_at addr ws) place d).waiter (marking addr n ws) ≡ true
marking_early addr zero place ws d m l = absurd (omega arith)
marking_early addr (suc n) place [] d m l = absurd (omega arith)
marking_early addr (suc n) zero (w ∷ ws) d m l =
    elim (cases_Bool (is_parked_at addr w)) [
      | inl e ↦ rw (e, eq-eqb w.waiter w.waiter refl) refl
      | inr e ↦ rw e (or_right _ _ (marking_early addr (suc n) zero ws d m (rw e at l)))
    ]
marking_early addr (suc n) (suc place) (w ∷ ws) d m l =
    elim (cases_Bool (is_parked_at addr w)) [
      | inl e ↦
          let less : place < n = omega arith in
          let long = rw e at l in
          rw e (or_right _ _ (marking_early addr n place ws d less (omega (arith, long))))
      | inr e ↦ rw e (or_right _ _ (marking_early addr (suc n) (suc place) ws d m (rw e at l)))
    ]

pub early_are_marked : EarlyWaitersAreMarked
early_are_marked addr n place spot wait h m l =
    ap (is_marked (get_or (parked_at addr spot) place wait).waiter) (sym (marking_is addr n spot h)) ∙ marking_early addr n place spot wait m l

its_mark_stays : (ks : List ℕ) (k : ℕ) (w : Waiting) → is_among ks k ≡ false → (is_of k (marked_if ks w) && (marked_if ks w).marked) ≡ (is_of k w && w.marked)
its_mark_stays ks k w h =
    elim (cases_Bool (is_among ks w.waiter)) [
      | inl e ↦
          let other : is_of k w ≡ false = false_from_ne_true (is_of k w) (λ o. both_ways (is_among ks k) h (subst (λ (j : ℕ). is_among ks j ≡ true) (eqb-true w.waiter k o) e)) in
          rw (e, other) refl
      | inr e ↦ rw e refl
    ]

marks_stay : (ks : List ℕ) (k : ℕ) (ws : List Waiting) → is_among ks k ≡ false → is_marked k (map (marked_if ks) ws) ≡ is_marked k ws
marks_stay ks k [] h = refl
marks_stay ks k (w ∷ ws) h = rw (its_mark_stays ks k w h, marks_stay ks k ws h) refl

marks_come : (ks : List ℕ) (k : ℕ) (ws : List Waiting) → is_among ks k ≡ true → is_marked k (map (marked_if ks) ws) ≡ (is_marked k ws || is_waiting k ws)
marks_come ks k [] h = refl
marks_come ks k (w ∷ ws) h =
    elim (cases_Bool (is_of k w)) [
      | inl o ↦
          let e = subst (λ (j : ℕ). is_among ks j ≡ true) (sym (eqb-true w.waiter k o)) h in
          rw (e, o) (sym (or_right (w.marked || is_marked k ws) true refl))
      | inr o ↦ rw (same_waiter ks w, o) (marks_come ks k ws h)
    ]

pub marks_the_first : NotifyMarksTheFirst
marks_the_first addr n waiter spot =
    let ks = first_waiters addr n spot in
    elim (cases_Bool (is_among ks waiter)) [
      | inl e ↦
          let waits : is_waiting waiter spot ≡ true = true_from_ne_false (is_waiting waiter spot) (λ f. both_ways (is_among ks waiter) (not_first addr n waiter spot f) e) in
          let all = marks_come ks waiter spot e in
          rw (e) (rw waits at all)
      | inr e ↦ rw (e) (marks_stay ks waiter spot e ∙ sym (or_false (is_marked waiter spot)))
    ]

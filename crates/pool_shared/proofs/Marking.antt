-- A notify, wait by wait.
use Rattle.std.proofs.Common.{◌≡◌, ℕ, zero, suc, ◌<◌, ◌≤◌, ◌+◌, ◌-◌, min, true, false, cond, List, [], ◌∷◌, ◌++◌, length, map, take, drop, set, get_or, eqb, refl, sym, ap, ◌∙◌, inl, inr, arith, append_assoc}
use Rattle.std.proofs.lemmas.Bool.{or_parts, or_from, cases_Bool, eq-eqb, cond-true, cond-false}
use Rattle.std.proofs.lemmas.List.{drop_more, take_more, take_more_set, drop-set-lt, drop_all, take_all, length-set, append-nil, take-append-drop}
use Rattle.pool_shared.specs.Spot.{is_of, is_parked_at, parked_at, is_waiting, AreDistinct, first_waiters, is_among, marked_wait, marked_if, after_notify}
use Rattle.pool_shared.specs.declared.waiting.Waiting.{Waiting}
use Rattle.pool_shared.proofs.Distinct.{other_way}

-- wait by wait: the first n that are parked at the address are marked
abbrev pub marking : ℕ → ℕ → List Waiting → List Waiting
marking addr zero ws = ws
marking addr (suc n) [] = []
marking addr (suc n) (w ∷ ws) = cond (is_parked_at addr w) (marked_wait w ∷ marking addr n ws) (w ∷ marking addr (suc n) ws)

pub none_marked : (ws : List Waiting) → map (marked_if []) ws ≡ ws
none_marked [] = refl
none_marked (w ∷ ws) = ap (λ vs. w ∷ vs) (none_marked ws)

-- a waiter that doesn't wait may be named too
pub one_more : (k : ℕ) (ks : List ℕ) (ws : List Waiting) → is_waiting k ws ≡ false → map (marked_if (k ∷ ks)) ws ≡ map (marked_if ks) ws
one_more k ks [] h = refl
one_more k ks (w ∷ ws) h =
    let parts = or_parts (is_of k w) (is_waiting k ws) h in
    rw parts.0 (ap (λ vs. marked_if ks w ∷ vs) (one_more k ks ws parts.1))

pub not_first : (addr n k : ℕ) (ws : List Waiting) → is_waiting k ws ≡ false → is_among (first_waiters addr n ws) k ≡ false
not_first addr zero k ws h = refl
not_first addr (suc n) k [] h = refl
not_first addr (suc n) k (w ∷ ws) h =
    let parts = or_parts (is_of k w) (is_waiting k ws) h in
    elim (cases_Bool (is_parked_at addr w)) [
      | inl e ↦ rw e (or_from (eqb k w.waiter) (is_among (first_waiters addr n ws) k) (other_way w.waiter k parts.0) (not_first addr n k ws parts.1))
      | inr e ↦ rw e (not_first addr (suc n) k ws parts.1)
    ]

first_yes : (addr n : ℕ) (w : Waiting) (ws : List Waiting) → is_parked_at addr w ≡ true → first_waiters addr (suc n) (w ∷ ws) ≡ w.waiter ∷ first_waiters addr n ws
first_yes addr n w ws e = rw e refl

first_no : (addr n : ℕ) (w : Waiting) (ws : List Waiting) → is_parked_at addr w ≡ false → first_waiters addr (suc n) (w ∷ ws) ≡ first_waiters addr (suc n) ws
first_no addr n w ws e = rw e refl

its_own : (ks : List ℕ) (w : Waiting) → marked_if (w.waiter ∷ ks) w ≡ marked_wait w
its_own ks w = rw (eq-eqb w.waiter w.waiter refl) refl

no_other : (ks : List ℕ) (w : Waiting) → is_among ks w.waiter ≡ false → marked_if ks w ≡ w
no_other ks w e = rw e refl

pub marking_is : (addr n : ℕ) (ws : List Waiting) → AreDistinct ws → marking addr n ws ≡ after_notify addr n ws
marking_is addr zero ws h = sym (none_marked ws)
marking_is addr (suc n) [] h = refl
marking_is addr (suc n) (w ∷ ws) h =
    elim (cases_Bool (is_parked_at addr w)) [
      | inl e ↦
          let ks = first_waiters addr n ws in
          let tail = marking_is addr n ws h.1 ∙ sym (one_more w.waiter ks ws h.0) in
          let name : after_notify addr (suc n) (w ∷ ws) ≡ map (marked_if (w.waiter ∷ ks)) (w ∷ ws) = ap (λ (js : List ℕ). map (marked_if js) (w ∷ ws)) (first_yes addr n w ws e) in
          let head : map (marked_if (w.waiter ∷ ks)) (w ∷ ws) ≡ marked_wait w ∷ map (marked_if (w.waiter ∷ ks)) ws = ap (λ (v : Waiting). v ∷ map (marked_if (w.waiter ∷ ks)) ws) (its_own ks w) in
          cond-true (is_parked_at addr w) _ _ e ∙ (ap (λ (vs : List Waiting). marked_wait w ∷ vs) tail ∙ sym (name ∙ head))
      | inr e ↦
          let ks = first_waiters addr (suc n) ws in
          let name : after_notify addr (suc n) (w ∷ ws) ≡ map (marked_if ks) (w ∷ ws) = ap (λ (js : List ℕ). map (marked_if js) (w ∷ ws)) (first_no addr n w ws e) in
          let head : map (marked_if ks) (w ∷ ws) ≡ w ∷ map (marked_if ks) ws = ap (λ (v : Waiting). v ∷ map (marked_if ks) ws) (no_other ks w (not_first addr (suc n) w.waiter ws h.0)) in
          cond-false (is_parked_at addr w) _ _ e ∙ (ap (λ (vs : List Waiting). w ∷ vs) (marking_is addr (suc n) ws h.1) ∙ sym (name ∙ head))
    ]

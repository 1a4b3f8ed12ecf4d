-- Each waiter has one wait at most: what that gives, and that it stays so.
use Rattle.std.proofs.Common.{◌≡◌, ℕ, zero, suc, ◌<◌, Bool, true, false, ◌||◌, not, List, [], ◌∷◌, ◌++◌, length, map, get_or, eqb, refl, sym, ap, subst, ◌∙◌, inl, inr, arith}
use Rattle.std.specs.List.{filter, remove}
use Rattle.std.proofs.lemmas.Bool.{or_parts, or_from, cases_Bool, both_ways, eqb-true, false_from_ne_true}
use Rattle.std.proofs.lemmas.Bool.Decides.{nat_tests}
use Rattle.std.proofs.lemmas.List.Folds.{list_any-append, list_any_at}
use Rattle.pool_pages.proofs.Small.{or_false}
use Rattle.pool_shared.specs.Spot.{is_of, is_waiting, AreDistinct, its_wait_is, is_marked, is_late, has_passed, without, is_among, marked_if}
use Rattle.pool_shared.specs.declared.waiting.Waiting.{Waiting}

pub other_way : (j k : ℕ) → eqb j k ≡ false → eqb k j ≡ false
other_way j k h = grind (arith, nat_tests)

pub distinct_push : (ws : List Waiting) (v : Waiting) → AreDistinct ws → is_waiting v.waiter ws ≡ false → AreDistinct (ws ++ v ∷ [])
distinct_push [] v h f = (refl, tt)
distinct_push (w ∷ ws) v h f =
    let parts = or_parts (is_of v.waiter w) (is_waiting v.waiter ws) f in
    let apart = other_way w.waiter v.waiter parts.0 in
    (rw (list_any-append (is_of w.waiter) ws (v ∷ [])) (or_from (is_waiting w.waiter ws) (is_of w.waiter v || false) h.0 (or_from (is_of w.waiter v) false apart refl)), distinct_push ws v h.1 parts.1)

pub waiting_filtered : (p : Waiting → Bool) (k : ℕ) (ws : List Waiting) → is_waiting k ws ≡ false → is_waiting k (filter p ws) ≡ false
waiting_filtered p k [] h = refl
waiting_filtered p k (w ∷ ws) h =
    let parts = or_parts (is_of k w) (is_waiting k ws) h in
    elim (cases_Bool (p w)) [
      | inl e ↦ rw e (or_from (is_of k w) (is_waiting k (filter p ws)) parts.0 (waiting_filtered p k ws parts.1))
      | inr e ↦ rw e (waiting_filtered p k ws parts.1)
    ]

pub distinct_filtered : (p : Waiting → Bool) (ws : List Waiting) → AreDistinct ws → AreDistinct (filter p ws)
distinct_filtered p [] h = tt
distinct_filtered p (w ∷ ws) h =
    elim (cases_Bool (p w)) [
      | inl e ↦ rw e (waiting_filtered p w.waiter ws h.0, distinct_filtered p ws h.1)
      | inr e ↦ rw e (distinct_filtered p ws h.1)
    ]

pub same_waiter : (ks : List ℕ) (w : Waiting) → (marked_if ks w).waiter ≡ w.waiter
same_waiter ks w = elim (cases_Bool (is_among ks w.waiter)) [ inl e ↦ rw e refl | inr e ↦ rw e refl ]

pub waiting_marked : (ks : List ℕ) (k : ℕ) (ws : List Waiting) → is_waiting k (map (marked_if ks) ws) ≡ is_waiting k ws
waiting_marked ks k [] = refl
waiting_marked ks k (w ∷ ws) = rw (same_waiter ks w, waiting_marked ks k ws) refl

pub distinct_marked : (ks : List ℕ) (ws : List Waiting) → AreDistinct ws → AreDistinct (map (marked_if ks) ws)
distinct_marked ks [] h = tt
distinct_marked ks (w ∷ ws) h = (rw (same_waiter ks w, waiting_marked ks w.waiter ws) h.0, distinct_marked ks ws h.1)

-- a waiter that doesn't wait
pub all_kept : (k : ℕ) (ws : List Waiting) → is_waiting k ws ≡ false → without k ws ≡ ws
all_kept k [] h = refl
all_kept k (w ∷ ws) h =
    let parts = or_parts (is_of k w) (is_waiting k ws) h in
    rw parts.0 (ap (λ vs. w ∷ vs) (all_kept k ws parts.1))

pub no_wait : (test : Waiting → Bool) (k : ℕ) (ws : List Waiting) → is_waiting k ws ≡ false → its_wait_is test k ws ≡ false
no_wait test k [] h = refl
no_wait test k (w ∷ ws) h =
    let parts = or_parts (is_of k w) (is_waiting k ws) h in
    rw parts.0 (no_wait test k ws parts.1)

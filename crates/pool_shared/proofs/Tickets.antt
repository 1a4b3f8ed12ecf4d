-- What a spot's tickets find, and that they go on finding it.
use Rattle.std.proofs.Common.{◌≡◌, ℕ, zero, suc, ◌<◌, ◌≤◌, ◌+◌, Bool, true, false, cond, ◌&&◌, not, List, [], ◌∷◌, ◌++◌, eqb, refl, sym, ap, subst, ◌∙◌, inl, inr, arith, Option, None, Some, nat_lt, Result, Ok, Err}
use Rattle.std.specs.Option.{is_some, IsSome}
use Rattle.std.specs.Result.{is_err, OnErr, OnOk}
use Rattle.std.specs.Ordering.{nat_cmp}
use Rattle.std.specs.declared.cmp.Ordering.TheVariants.{Less}
use Rattle.std.specs.Cmp.{unsigned_tied, tied_then}
use Rattle.std.specs.BTreeMap.{is_at, insert_entry}
use Rattle.std.specs.List.{AllByRecursion}
use Rattle.std.specs.List.Sorted.{IsStrictlySortedBy}
use Rattle.std.specs.Map.{keys_of, values_of, lookup, remove_entry, set_value}
use Rattle.std.proofs.lemmas.Map.Keys.{sorted_head, sorted_tail}
use Rattle.std.proofs.lemmas.Option.{none-some, same_Some}
use Rattle.std.proofs.lemmas.List.{map_push}
use Rattle.std.proofs.lemmas.Bool.{cases_Bool, or_parts, eqb-true, eq-eqb, ne_eqb, both_ways, false_from_ne_true}
use Rattle.std.proofs.lemmas.Bool.Decides.{nat_tests}
use Rattle.pool_pages.proofs.Small.{or_false}
use Rattle.pool_shared.specs.Spot.{is_of, is_parked_at, parked_at, is_waiting, AreDistinct, its_wait_is, without, marked_wait}
use Rattle.pool_shared.specs.Tickets.{place_cmp, held_at, ticket_of, has_parked, AreIndexed}
use Rattle.pool_shared.specs.declared.waiting.Waiting.{Waiting}
use Rattle.pool_shared.proofs.Distinct.{other_way, all_kept, no_wait, distinct_push, distinct_filtered}
use Rattle.pool_shared.proofs.Marking.{marking}

abbrev pub Held : Type 0
Held = List (ℕ × Waiting)

-- a search by a number finds that number
pub at_is : (t q : ℕ) → is_at (nat_cmp t) q ≡ eqb t q
at_is t q = unsigned_tied t q

at_itself : (t : ℕ) → is_at (nat_cmp t) t ≡ true
at_itself t = at_is t t ∙ eq-eqb t t refl

pub at_same : (t q : ℕ) → is_at (nat_cmp t) q ≡ true → t ≡ q
at_same t q h = eqb-true t q (sym (at_is t q) ∙ h)

pub at_apart : (t q : ℕ) → q < t → is_at (nat_cmp t) q ≡ false
at_apart t q h = at_is t q ∙ grind (arith, nat_tests, h)

pub place_is : (a t : ℕ) (p : ℕ × ℕ) → is_at (place_cmp (a, t)) p ≡ (eqb a p.0 && eqb t p.1)
place_is a t p = rw (← tied_then (nat_cmp a p.0) (nat_cmp t p.1), unsigned_tied a p.0, unsigned_tied t p.1) refl

-- ---- what is held

pub held_first : (e : ℕ × Waiting) (es : Held) → held_at e.0 (e ∷ es) ≡ Some e.1
held_first e es = rw (at_itself e.0) refl

held_later : (q : ℕ) (e : ℕ × Waiting) (es : Held) → is_at (nat_cmp q) e.0 ≡ false → held_at q (e ∷ es) ≡ held_at q es
held_later q e es h = rw h refl

is_held_later : (q : ℕ) (e : ℕ × Waiting) (es : Held) → IsSome (held_at q es) → IsSome (held_at q (e ∷ es))
is_held_later q e es h = elim (cases_Bool (is_at (nat_cmp q) e.0)) [ inl o ↦ rw o refl | inr o ↦ rw o h ]

-- a later ticket is higher
pub higher : (x q : ℕ) (es : Held) → AllByRecursion (λ y. nat_cmp x y ≡ Less) (keys_of es) → IsSome (held_at q es) → x < q
higher x q [] all h = absurd (both_ways false refl h)
higher x q (e ∷ es) all h =
    elim (cases_Bool (is_at (nat_cmp q) e.0)) [
      | inl o ↦ let same = at_same q e.0 o in let less = all.0 in grind (arith, nat_tests, same, less)
      | inr o ↦ higher x q es all.1 (rw o at h)
    ]

-- ---- the waiter's ticket

pub waits_by_ticket : (k : ℕ) (es : Held) → is_waiting k (values_of es) ≡ is_some (ticket_of k es)
waits_by_ticket k [] = refl
waits_by_ticket k (e ∷ es) = elim (cases_Bool (is_of k e.1)) [ inl o ↦ rw o refl | inr o ↦ rw o (waits_by_ticket k es) ]

no_ticket : (k : ℕ) (es : Held) → is_waiting k (values_of es) ≡ false → ticket_of k es ≡ None
no_ticket k [] h = refl
no_ticket k (e ∷ es) h =
    let parts = or_parts (is_of k e.1) (is_waiting k (values_of es)) h in
    rw parts.0 (no_ticket k es parts.1)

pub ticket_is_held : (k t : ℕ) (es : Held) → ticket_of k es ≡ Some t → IsSome (held_at t es)
ticket_is_held k t [] h = absurd (none-some t h)
ticket_is_held k t (e ∷ es) h =
    elim (cases_Bool (is_of k e.1)) [
      | inl o ↦ let same : e.0 ≡ t = same_Some e.0 t (rw o at h) in subst (λ (q : ℕ). IsSome (held_at q (e ∷ es))) same (rw (held_first e es) refl)
      | inr o ↦ is_held_later t e es (ticket_is_held k t es (rw o at h))
    ]

-- what the wait of a waiter's ticket tells, and what is left without it
pub record Found (k t : ℕ) (es : Held) (w : Waiting) : Type 0 where
  pub its : (test : Waiting → Bool) → its_wait_is test k (values_of es) ≡ test w
  pub gone : values_of (remove_entry (is_at (nat_cmp t)) es) ≡ without k (values_of es)
  pub others : (j : ℕ) → ticket_of j (remove_entry (is_at (nat_cmp t)) es) ≡ cond (eqb k j) None (ticket_of j es)

pub found : (k t : ℕ) (es : Held) (w : Waiting) → IsStrictlySortedBy nat_cmp (keys_of es) → AreDistinct (values_of es) → ticket_of k es ≡ Some t → held_at t es ≡ Some w → Found k t es w
found k t [] w s d h g = absurd (none-some t h)
found k t (e ∷ es) w s d h g =
    elim (cases_Bool (is_of k e.1)) [
      | inl o ↦
          let same : e.0 ≡ t = same_Some e.0 t (rw o at h) in
          let here : is_at (nat_cmp t) e.0 ≡ true = subst (λ (q : ℕ). is_at (nat_cmp q) e.0 ≡ true) same (at_itself e.0) in
          let is : e.1 ≡ w = same_Some e.1 w (rw here at g) in
          let its : e.1.waiter ≡ k = eqb-true e.1.waiter k o in
          let none : is_waiting k (values_of es) ≡ false = subst (λ (j : ℕ). is_waiting j (values_of es) ≡ false) its d.0 in
          record {
            its = λ test. rw (o, no_wait test k (values_of es) none) (or_false (test e.1) ∙ ap test is);
            gone = rw (here, o) (sym (all_kept k (values_of es) none));
            others = λ j. rw here (elim (cases_Bool (eqb k j)) [
              | inl q ↦ rw q (no_ticket j es (subst (λ (i : ℕ). is_waiting i (values_of es) ≡ false) (eqb-true k j q) none))
              | inr q ↦
                  let apart : is_of j e.1 ≡ false = subst (λ (i : ℕ). eqb i j ≡ false) (sym its) q in
                  rw (q, apart) refl
            ]);
          }
      | inr o ↦
          let tick : ticket_of k es ≡ Some t = rw o at h in
          let up : e.0 < t = higher e.0 t es (sorted_head nat_cmp e.0 (keys_of es) s) (ticket_is_held k t es tick) in
          let off : is_at (nat_cmp t) e.0 ≡ false = at_apart t e.0 up in
          let rest = found k t es w (sorted_tail nat_cmp e.0 (keys_of es) s) d.1 tick (rw off at g) in
          record {
            its = λ test. rw o (rest.its test);
            gone = rw (off, o) (ap (λ (vs : List Waiting). e.1 ∷ vs) rest.gone);
            others = λ j. rw off (elim (cases_Bool (is_of j e.1)) [
              | inl q ↦
                  let apart : eqb k j ≡ false = other_way j k (subst (λ (i : ℕ). eqb i k ≡ false) (eqb-true e.1.waiter j q) o) in
                  rw (q, apart) refl
              | inr q ↦ rw q (rest.others j)
            ]);
          }
    ]

pub ticket_of_waiting : (k : ℕ) (es : Held) → is_waiting k (values_of es) ≡ true → IsSome (ticket_of k es)
ticket_of_waiting k [] h = absurd (both_ways false refl h)
ticket_of_waiting k (e ∷ es) h =
    elim (cases_Bool (is_of k e.1)) [ inl o ↦ rw o refl | inr o ↦ rw o (ticket_of_waiting k es (rw o at h)) ]

-- a wait has ended
pub removed : (k t : ℕ) (es left : Held) (w : Waiting) (f f' : ℕ → Option ℕ) (g g' : ℕ × ℕ → Bool) → AreIndexed es f g → ticket_of k es ≡ Some t → held_at t es ≡ Some w → left ≡ remove_entry (is_at (nat_cmp t)) es → IsStrictlySortedBy nat_cmp (keys_of left) → ((q : ℕ) → held_at q left ≡ cond (is_at (nat_cmp t) q) None (held_at q es)) → ((j : ℕ) → f' j ≡ cond (eqb k j) None (f j)) → ((p : ℕ × ℕ) → g' p ≡ cond (is_at (place_cmp (w.addr, t)) p) false (g p)) → AreIndexed left f' g'
removed k t es left w f f' g g' h tick at is s held fs gs =
    let there = found k t es w h.ordered h.distinct tick at in
    record {
      ordered = s;
      distinct = rw (is, there.gone) (distinct_filtered (λ v. not (is_of k v)) (values_of es) h.distinct);
      by_waiter = λ j. fs j ∙ (ap (λ (o : Option ℕ). cond (eqb k j) None o) (h.by_waiter j) ∙ (sym (there.others j) ∙ ap (λ (fs : Held). ticket_of j fs) (sym is)));
      by_address = λ p. gs p ∙ rw (held p.1, place_is w.addr t p, h.by_address p) (elim (cases_Bool (eqb t p.1)) [
        | inl o ↦
            let same : t ≡ p.1 = eqb-true t p.1 o in
            let here : held_at p.1 es ≡ Some w = subst (λ (q : ℕ). held_at q es ≡ Some w) same at in
            rw (at_is t p.1, o, here) (elim (cases_Bool (eqb w.addr p.0)) [ inl a ↦ rw a refl | inr a ↦ rw a refl ])
        | inr o ↦ rw (at_is t p.1, o) (elim (cases_Bool (eqb w.addr p.0)) [ inl a ↦ rw a refl | inr a ↦ rw a refl ])
      ]);
    }

-- ---- a wait that enters

pub enters_last : (es : Held) (t : ℕ) (w : Waiting) → ((q : ℕ) → IsSome (held_at q es) → q < t) → insert_entry nat_cmp es t w ≡ es ++ (t, w) ∷ []
enters_last [] t w h = refl
enters_last (e ∷ es) t w h =
    let up : e.0 < t = h e.0 (rw (held_first e es) refl) in
    let less : nat_lt t e.0 ≡ false = grind (arith, nat_tests, up) in
    let apart : eqb t e.0 ≡ false = grind (arith, nat_tests, up) in
    rw (less, apart) (ap (λ (fs : Held). e ∷ fs) (enters_last es t w (λ q there. h q (is_held_later q e es there))))

ticket_entered : (k t : ℕ) (es : Held) (w : Waiting) → is_waiting w.waiter (values_of es) ≡ false → ticket_of k (es ++ (t, w) ∷ []) ≡ cond (eqb w.waiter k) (Some t) (ticket_of k es)
ticket_entered k t [] w h = refl
ticket_entered k t (e ∷ es) w h =
    let parts = or_parts (is_of w.waiter e.1) (is_waiting w.waiter (values_of es)) h in
    elim (cases_Bool (is_of k e.1)) [
      | inl o ↦
          let apart : eqb w.waiter k ≡ false = other_way k w.waiter (subst (λ (i : ℕ). eqb i w.waiter ≡ false) (eqb-true e.1.waiter k o) parts.0) in
          rw (o, apart) refl
      | inr o ↦ rw o (ticket_entered k t es w parts.1)
    ]

not_held : (t : ℕ) (es : Held) → ((q : ℕ) → IsSome (held_at q es) → q < t) → held_at t es ≡ None
not_held t es h = none_if (held_at t es) (λ there. absurd (omega (arith, h t there)))
  where
    none_if : (o : Option Waiting) → (IsSome o → ⊥) → o ≡ None
    none_if None f = refl
    none_if (Some x) f = absurd (f refl)

pub entered : (t : ℕ) (es new : Held) (w : Waiting) (f f' : ℕ → Option ℕ) (g g' : ℕ × ℕ → Bool) → AreIndexed es f g → is_waiting w.waiter (values_of es) ≡ false → w.marked ≡ false → ((q : ℕ) → IsSome (held_at q es) → q < t) → new ≡ insert_entry nat_cmp es t w → IsStrictlySortedBy nat_cmp (keys_of new) → ((q : ℕ) → held_at q new ≡ cond (is_at (nat_cmp t) q) (Some w) (held_at q es)) → ((j : ℕ) → f' j ≡ cond (eqb w.waiter j) (Some t) (f j)) → ((p : ℕ × ℕ) → g' p ≡ cond (is_at (place_cmp (w.addr, t)) p) true (g p)) → (values_of new ≡ values_of es ++ w ∷ []) × AreIndexed new f' g'
entered t es new w f f' g g' h apart unmarked up is s held fs gs =
    let last : new ≡ es ++ (t, w) ∷ [] = is ∙ enters_last es t w up in
    let values : values_of new ≡ values_of es ++ w ∷ [] = ap (λ (fs : Held). values_of fs) last ∙ map_push (λ (e : ℕ × Waiting). e.1) es (t, w) in (
      values,
      record {
        ordered = s;
        distinct = rw values (distinct_push (values_of es) w h.distinct apart);
        by_waiter = λ j. fs j ∙ (ap (λ (o : Option ℕ). cond (eqb w.waiter j) (Some t) o) (h.by_waiter j) ∙ (sym (ticket_entered j t es w apart) ∙ ap (λ (fs : Held). ticket_of j fs) (sym last)));
        by_address = λ p. gs p ∙ rw (held p.1, place_is w.addr t p, h.by_address p) (elim (cases_Bool (eqb t p.1)) [
          | inl o ↦
              let same : t ≡ p.1 = eqb-true t p.1 o in
              let none : held_at p.1 es ≡ None = subst (λ (q : ℕ). held_at q es ≡ None) same (not_held t es up) in
              rw (at_is t p.1, o, none, unmarked) (elim (cases_Bool (eqb w.addr p.0)) [ inl a ↦ rw a refl | inr a ↦ rw a refl ])
          | inr o ↦ rw (at_is t p.1, o) (elim (cases_Bool (eqb w.addr p.0)) [ inl a ↦ rw a refl | inr a ↦ rw a refl ])
        ]);
      },
    )

-- a place that was taken and given back
pub restored : (t a : ℕ) (es new : Held) (f f' : ℕ → Option ℕ) (g taken g' : ℕ × ℕ → Bool) → AreIndexed es f g → ((q : ℕ) → IsSome (held_at q es) → q < t) → new ≡ es → ((j : ℕ) → f' j ≡ f j) → ((p : ℕ × ℕ) → taken p ≡ cond (is_at (place_cmp (a, t)) p) true (g p)) → ((p : ℕ × ℕ) → g' p ≡ cond (is_at (place_cmp (a, t)) p) false (taken p)) → AreIndexed new f' g'
restored t a es new f f' g taken g' h up is fs ts gs =
    record {
      ordered = rw is h.ordered;
      distinct = rw is h.distinct;
      by_waiter = λ j. fs j ∙ rw is (h.by_waiter j);
      by_address = λ p. gs p ∙ rw (is, ts p, place_is a t p, h.by_address p) (elim (cases_Bool (eqb t p.1)) [
        | inl o ↦
            let none : held_at p.1 es ≡ None = subst (λ (q : ℕ). held_at q es ≡ None) (eqb-true t p.1 o) (not_held t es up) in
            rw (o, none) (elim (cases_Bool (eqb a p.0)) [ inl b ↦ rw b refl | inr b ↦ rw b refl ])
        | inr o ↦ rw o (elim (cases_Bool (eqb a p.0)) [ inl b ↦ rw b refl | inr b ↦ rw b refl ])
      ]);
    }

-- ---- what a call's result says

pub if_err : {A E : Type 0} (r : Result A E) (P : Type 0) → is_err r ≡ true → OnErr r P → P
if_err (Ok x) P h p = absurd (both_ways false refl h)
if_err (Err e) P h p = p

pub if_no_err : {A E : Type 0} (r : Result A E) (P : Type 0) → is_err r ≡ false → OnOk r P → P
if_no_err (Ok x) P h p = p
if_no_err (Err e) P h p = absurd (both_ways true h refl)

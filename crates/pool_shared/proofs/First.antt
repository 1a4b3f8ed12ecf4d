-- The wait that a notify marks next: the parked one of the lowest ticket.
use Rattle.std.proofs.Common.{◌≡◌, ℕ, zero, suc, ◌<◌, ◌≤◌, ◌+◌, ◌-◌, min, Bool, true, false, cond, ◌&&◌, not, List, [], ◌∷◌, length, map, take, drop, eqb, refl, sym, ap, subst, ◌∙◌, inl, inr, arith, Option, None, Some, nat_lt}
use Rattle.std.specs.Option.{IsSome, IfSome}
use Rattle.std.specs.Ordering.{nat_cmp, is_gt}
use Rattle.std.specs.BTreeMap.{is_at}
use Rattle.std.specs.List.Sorted.{IsStrictlySortedBy}
use Rattle.std.specs.Map.{keys_of, values_of, set_value}
use Rattle.std.proofs.lemmas.Map.Keys.{sorted_head, sorted_tail, le_from_not_gt}
use Rattle.std.proofs.lemmas.Option.{none-some, same_Some}
use Rattle.std.proofs.lemmas.List.{length-drop}
use Rattle.std.proofs.lemmas.Bool.{cases_Bool, and_parts, eqb-true, eq-eqb, both_ways}
use Rattle.std.proofs.lemmas.Bool.Decides.{nat_tests}
use Rattle.pool_pages.proofs.Small.{and_false}
use Rattle.pool_shared.specs.Spot.{is_of, is_parked_at, parked_at, AreDistinct, first_waiters, marked_wait, marked_if, after_notify}
use Rattle.pool_shared.specs.Tickets.{place_cmp, held_at, ticket_of, has_parked, AreIndexed}
use Rattle.pool_shared.specs.declared.waiting.Waiting.{Waiting}
use Rattle.pool_shared.proofs.Distinct.{distinct_marked}
use Rattle.pool_shared.proofs.Lawful.{takes_first}
use Rattle.pool_shared.proofs.Marking.{marking, marking_is, none_marked}
use Rattle.pool_shared.proofs.Tickets.{Held, at_is, at_apart, at_same, place_is, held_first, higher}

pub is_there : (a : ℕ) (o : Option Waiting) → has_parked a o ≡ true → IsSome o
is_there a None h = absurd (both_ways false refl h)
is_there a (Some w) h = refl

-- the first entry has a lower ticket than any other that is parked
later_than : (a q : ℕ) (e : ℕ × Waiting) (es : Held) → IsStrictlySortedBy nat_cmp (keys_of (e ∷ es)) → has_parked a (held_at q es) ≡ true → has_parked a (held_at q (e ∷ es)) ≡ true
later_than a q e es s h =
    let up = higher e.0 q es (sorted_head nat_cmp e.0 (keys_of es) s) (is_there a (held_at q es) h) in
    rw (at_apart q e.0 up) h

pub first_marked : (a t : ℕ) (es : Held) (w : Waiting) → IsStrictlySortedBy nat_cmp (keys_of es) → held_at t es ≡ Some w → is_parked_at a w ≡ true → ((q : ℕ) → has_parked a (held_at q es) ≡ true → t ≤ q) → values_of (set_value (is_at (nat_cmp t)) es (marked_wait w)) ≡ marking a 1 (values_of es)
first_marked a t [] w s g p least = absurd (none-some w g)
first_marked a t (e ∷ es) w s g p least =
    elim (cases_Bool (is_parked_at a e.1)) [
      | inl o ↦ elim (cases_Bool (is_at (nat_cmp t) e.0)) [
        | inl here ↦
            let is : e.1 ≡ w = same_Some e.1 w (rw here at g) in
            rw (here, o) (ap (λ (v : Waiting). marked_wait v ∷ values_of es) (sym is))
        | inr off ↦
            let low : t ≤ e.0 = least e.0 (rw (held_first e es) o) in
            let up : e.0 < t = higher e.0 t es (sorted_head nat_cmp e.0 (keys_of es) s) (rw (rw off at g) refl) in
            absurd (omega (arith, low, up))
      ]
      | inr o ↦ elim (cases_Bool (is_at (nat_cmp t) e.0)) [
        | inl here ↦
            let is : e.1 ≡ w = same_Some e.1 w (rw here at g) in
            absurd (both_ways (is_parked_at a e.1) o (rw is p))
        | inr off ↦
            rw (off, o) (ap (λ (vs : List Waiting). e.1 ∷ vs) (first_marked a t es w (sorted_tail nat_cmp e.0 (keys_of es) s) (rw off at g) p (λ q h. least q (later_than a q e es s h))))
      ]
    ]

pub none_first : (a : ℕ) (es : Held) → IsStrictlySortedBy nat_cmp (keys_of es) → ((q : ℕ) → has_parked a (held_at q es) ≡ false) → parked_at a (values_of es) ≡ []
none_first a [] s none = refl
none_first a (e ∷ es) s none =
    let off : is_parked_at a e.1 ≡ false = rw (held_first e es) at (none e.0) in
    rw off (none_first a es (sorted_tail nat_cmp e.0 (keys_of es) s) (λ q. elim (cases_Bool (has_parked a (held_at q es))) [
      | inl h ↦ absurd (both_ways (has_parked a (held_at q (e ∷ es))) (none q) (later_than a q e es s h))
      | inr h ↦ h
    ]))

ticket_marked : (j t : ℕ) (es : Held) (w : Waiting) → held_at t es ≡ Some w → ticket_of j (set_value (is_at (nat_cmp t)) es (marked_wait w)) ≡ ticket_of j es
ticket_marked j t [] w g = refl
ticket_marked j t (e ∷ es) w g =
    elim (cases_Bool (is_at (nat_cmp t) e.0)) [
      | inl here ↦ let is : w ≡ e.1 = sym (same_Some e.1 w (rw here at g)) in rw (here, is) refl
      | inr off ↦ rw off (ap (λ (o : Option ℕ). cond (is_of j e.1) (Some e.0) o) (ticket_marked j t es w (rw off at g)))
    ]

-- the wait of the lowest parked ticket is marked, and is parked no more
marked_there : (a t : ℕ) (es new : Held) (w : Waiting) (f : ℕ → Option ℕ) (g g' : ℕ × ℕ → Bool) → AreIndexed es f g → held_at t es ≡ Some w → g (a, t) ≡ true → ((q : ℕ) → g (a, q) ≡ true → t ≤ q) → new ≡ set_value (is_at (nat_cmp t)) es (marked_wait w) → IsStrictlySortedBy nat_cmp (keys_of new) → ((q : ℕ) → held_at q new ≡ cond (is_at (nat_cmp t) q) (Some (marked_wait w)) (held_at q es)) → ((p : ℕ × ℕ) → g' p ≡ cond (is_at (place_cmp (a, t)) p) false (g p)) → (values_of new ≡ after_notify a 1 (values_of es)) × AreIndexed new f g'
marked_there a t es new w f g g' h at here least is s held gs =
    let has : has_parked a (held_at t es) ≡ true = sym (h.by_address (a, t)) ∙ here in
    let parks : is_parked_at a w ≡ true = rw at at has in
    let first = first_marked a t es w h.ordered at parks (λ q o. least q (h.by_address (a, q) ∙ o)) in
    let values : values_of new ≡ after_notify a 1 (values_of es) = ap (λ (fs : Held). values_of fs) is ∙ (first ∙ marking_is a 1 (values_of es) h.distinct) in (
      values,
      record {
        ordered = s;
        distinct = rw values (distinct_marked (first_waiters a 1 (values_of es)) (values_of es) h.distinct);
        by_waiter = λ j. h.by_waiter j ∙ (sym (ticket_marked j t es w at) ∙ ap (λ (fs : Held). ticket_of j fs) (sym is));
        by_address = λ p. gs p ∙ rw (held p.1, place_is a t p, h.by_address p) (elim (cases_Bool (eqb t p.1)) [
          | inl o ↦
              let there : held_at p.1 es ≡ Some w = subst (λ (q : ℕ). held_at q es ≡ Some w) (eqb-true t p.1 o) at in
              rw (at_is t p.1, o, there) (elim (cases_Bool (eqb a p.0)) [
                | inl b ↦ rw b (sym (and_false (eqb w.addr p.0)))
                | inr b ↦
                    let own : w.addr ≡ a = eqb-true w.addr a (and_parts (eqb w.addr a) (not w.marked) parks).0 in
                    rw (own, b) refl
              ])
          | inr o ↦ rw (at_is t p.1, o) (elim (cases_Bool (eqb a p.0)) [ inl b ↦ rw b refl | inr b ↦ rw b refl ])
        ]);
      },
    )

some_held : (o : Option Waiting) → IsSome o → (w : Waiting) × (o ≡ Some w)
some_held None h = absurd (both_ways false refl h)
some_held (Some w) h = (w, refl)

if_held : (o : Option Waiting) (w : Waiting) (P : Waiting → Type 0) → o ≡ Some w → IfSome o P → P w
if_held o w P e h = subst (λ (x : Option Waiting). IfSome x P) e h

pub marked : (a t : ℕ) (es new : Held) (f : ℕ → Option ℕ) (g g' : ℕ × ℕ → Bool) → AreIndexed es f g → g (a, t) ≡ true → ((q : ℕ) → g (a, q) ≡ true → t ≤ q) → IfSome (held_at t es) (λ w. new ≡ set_value (is_at (nat_cmp t)) es (marked_wait w)) → IsStrictlySortedBy nat_cmp (keys_of new) → IfSome (held_at t es) (λ w. (q : ℕ) → held_at q new ≡ cond (is_at (nat_cmp t) q) (Some (marked_wait w)) (held_at q es)) → ((p : ℕ × ℕ) → g' p ≡ cond (is_at (place_cmp (a, t)) p) false (g p)) → (values_of new ≡ after_notify a 1 (values_of es)) × AreIndexed new f g'
marked a t es new f g g' h here least is s held gs =
    let w = some_held (held_at t es) (is_there a (held_at t es) (sym (h.by_address (a, t)) ∙ here)) in
    marked_there a t es new w.0 f g g' h w.1 here least (if_held (held_at t es) w.0 _ w.1 is) s (if_held (held_at t es) w.0 _ w.1 held) gs

one_parked : (a t : ℕ) (es : Held) → has_parked a (held_at t es) ≡ true → 1 ≤ length (parked_at a (values_of es))
one_parked a t [] h = absurd (both_ways false refl h)
one_parked a t (e ∷ es) h =
    elim (cases_Bool (is_parked_at a e.1)) [
      | inl o ↦ rw o (omega arith)
      | inr o ↦ rw o (elim (cases_Bool (is_at (nat_cmp t) e.0)) [
        | inl here ↦ absurd (both_ways (is_parked_at a e.1) o (rw here at h))
        | inr off ↦ one_parked a t es (rw off at h)
      ])
    ]

pub is_one : (a t : ℕ) (es : Held) → has_parked a (held_at t es) ≡ true → 1 ≡ min 1 (length (parked_at a (values_of es)))
is_one a t es h = let more = one_parked a t es h in omega (arith, more)

-- ---- wait by wait

one_by_one : (a m : ℕ) (ws : List Waiting) → marking a m (marking a 1 ws) ≡ marking a (suc m) ws
one_by_one a m [] = none_left m
  where
    none_left : (m : ℕ) → marking a m [] ≡ []
    none_left zero = refl
    none_left (suc m) = refl
one_by_one a zero (w ∷ ws) = refl
one_by_one a (suc m) (w ∷ ws) =
    elim (cases_Bool (is_parked_at a w)) [
      | inl o ↦ rw (o, and_false (eqb w.addr a)) refl
      | inr o ↦ rw (o, o) (ap (λ (vs : List Waiting). w ∷ vs) (one_by_one a (suc m) ws))
    ]

take_none : (n : ℕ) → take {A = Waiting} n [] ≡ []
take_none zero = refl
take_none (suc n) = refl

-- where nobody is parked at the address, a notify changes nothing
pub changes_nothing : (a n : ℕ) (ws : List Waiting) → parked_at a ws ≡ [] → after_notify a n ws ≡ ws
changes_nothing a n ws h =
    let none : first_waiters a n ws ≡ [] = ap (λ (vs : List Waiting). map (λ (v : Waiting). v.waiter) (take n vs)) h ∙ ap (λ (vs : List Waiting). map (λ (v : Waiting). v.waiter) vs) (take_none n) in
    ap (λ (ks : List ℕ). map (marked_if ks) ws) none ∙ none_marked ws

-- so many waits were marked, one by one
pub record MarkedSoFar (a n : ℕ) (old new : List Waiting) (marked : ℕ) : Type 0 where
  pub rest : after_notify a (n - marked) new ≡ after_notify a n old
  pub count : marked + min (n - marked) (length (parked_at a new)) ≡ min n (length (parked_at a old))

pub so_far_none : (a n : ℕ) (ws : List Waiting) → MarkedSoFar a n ws ws 0
so_far_none a n ws = let same : n - 0 ≡ n = omega arith in record { rest = rw same refl; count = rw same (omega arith) }

pub so_far_more : (a n m : ℕ) (old new next : List Waiting) → MarkedSoFar a n old new m → m < n → AreDistinct new → 1 ≡ min 1 (length (parked_at a new)) → next ≡ after_notify a 1 new → MarkedSoFar a n old next (m + 1)
so_far_more a n m old new next h l d one is =
    let k = n - (m + 1) in
    let more : n - m ≡ suc k = omega arith in
    let apart : AreDistinct (after_notify a 1 new) = distinct_marked (first_waiters a 1 new) new d in
    let both : after_notify a k (after_notify a 1 new) ≡ after_notify a (suc k) new = sym (marking_is a k (after_notify a 1 new) apart) ∙ (ap (marking a k) (sym (marking_is a 1 new d)) ∙ (one_by_one a k new ∙ marking_is a (suc k) new d)) in
    let left : length (parked_at a (after_notify a 1 new)) ≡ length (parked_at a new) - 1 = ap (λ (vs : List Waiting). length vs) (takes_first a 1 new d) ∙ length-drop 1 (parked_at a new) in
    let rest = rw more at h.rest in
    let count = rw more at h.count in
    record {
      rest = rw is (both ∙ rest);
      count = rw (is, left) (omega (arith, count, one));
    }

empty_if : (ws : List Waiting) → 0 ≡ min 1 (length ws) → ws ≡ []
empty_if [] h = refl
empty_if (w ∷ ws) h = absurd (omega (arith, h))

pub so_far_all : (a n m : ℕ) (old new next : List Waiting) → MarkedSoFar a n old new m → 0 ≡ min 1 (length (parked_at a new)) → next ≡ after_notify a 1 new → (m ≡ min n (length (parked_at a old))) × (next ≡ after_notify a n old)
so_far_all a n m old new next h empty is =
    let none = empty_if (parked_at a new) empty in
    let count = h.count in
    (omega (arith, count, empty), is ∙ (changes_nothing a 1 new none ∙ (sym (changes_nothing a (n - m) new none) ∙ h.rest)))

pub so_far_enough : (a n m : ℕ) (old new : List Waiting) → MarkedSoFar a n old new m → m ≡ n → (n ≡ min n (length (parked_at a old))) × (new ≡ after_notify a n old)
so_far_enough a n m old new h e =
    let none : n - m ≡ 0 = omega (arith, e) in
    let rest = rw none at h.rest in
    let count = rw none at h.count in
    (omega (arith, count, e), sym (none_marked new) ∙ rest)

-- ---- the order of the places

pub from_zero : (a q : ℕ) → is_gt (place_cmp (a, 0) (a, q)) ≡ false
from_zero a q =
    let less : nat_lt a a ≡ false = grind (arith, nat_tests) in
    let same : eqb a a ≡ true = eq-eqb a a refl in
    rw (less, same) (elim (cases_Bool (nat_lt 0 q)) [
      | inl o ↦ rw o refl
      | inr o ↦ let zero : eqb 0 q ≡ true = grind (arith, nat_tests, o) in rw (o, zero) refl
    ])

pub le_first : (p q : ℕ × ℕ) → is_gt (place_cmp p q) ≡ false → p.0 ≤ q.0
le_first p q h =
    elim (cases_Bool (nat_lt q.0 p.0)) [
      | inl o ↦
          let less : nat_lt p.0 q.0 ≡ false = grind (arith, nat_tests, o) in
          let same : eqb p.0 q.0 ≡ false = grind (arith, nat_tests, o) in
          absurd (both_ways true (rw (less, same) at h) refl)
      | inr o ↦ grind (arith, nat_tests, o)
    ]

pub le_second : (p q : ℕ × ℕ) → is_gt (place_cmp p q) ≡ false → p.0 ≡ q.0 → p.1 ≤ q.1
le_second p q h e =
    let less : nat_lt p.0 q.0 ≡ false = grind (arith, nat_tests, e) in
    let same : eqb p.0 q.0 ≡ true = eq-eqb p.0 q.0 e in
    le_from_not_gt p.1 q.1 (rw (less, same) at h)

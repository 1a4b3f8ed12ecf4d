-- A take and a put keep the rule.
use Rattle.std.proofs.Common.{◌≡◌, ◌≢◌, ℕ, ◌+◌, ◌%◌, ◌^◌, ◌<◌, ◌≤◌, ◌==◌, if◌then◌else◌, Bool, true, false, zero, suc, List, [], ◌∷◌, ◌++◌, length, set, get_or, Some, None, IfSome, ⊎_elim, sym, refl, ap, ◌∙◌, subst, arith, length-set, get_or-set_other, slice_index}
use Rattle.std.proofs.lemmas.Bool.{cases_lt, eq-eqb, ne_eqb}
use mathlib.Core.Option.{some, none, some-injective}
use mathlib.Core.Option as maybe
use lib.ListN.{get_elem?}
use Rattle.atomic_table.specs.Table.{State, Me, step, stepped, keeps, takes, gives, rest, Allows}
use Rattle.atomic_table.proofs.Lists.{at_set, set_here, set_else, set_again}
use Rattle.pool_hall.specs.declared.unit_name.UnitName.{UnitName}
use Rattle.pool_hall.specs.declared.view.CountRise.{CountRise}
use Rattle.pool_hall.specs.declared.view.View.{View}
use Rattle.pool_hall.specs.Sum.{one_if, often}
use Rattle.pool_hall.specs.Unit.{times}
use Rattle.pool_hall.specs.Tally.{holding, additions, low_additions, subtractions, rise, rise_at, one_at, number}
use Rattle.pool_hall.specs.Meaning.{Meaning}
use Rattle.pool_hall.specs.Rule.{word_of, IsView, Places, Counters, Lawful}
use Rattle.pool_hall.specs.Step.{held_at, with_held, moved, put_view, MayPut, took, gave}
use Rattle.pool_hall.proofs.Totals.{element, total_at, total_two, total_kept}
use Rattle.pool_hall.proofs.Units.{times_append, times_minus}
use Rattle.pool_hall.proofs.Words.{words_apart}
use Rattle.pool_hall.proofs.Keeps.{same_counters, Moves, changed}
use Rattle.pool_hall.proofs.Told.{taken}

rise_mod : (a b : ℕ) → a < 2 ^ 64 → b < 2 ^ 64 → b ≡ (a + rise a b) % 2 ^ 64
rise_mod a b x y = omega arith

rise_is : (a b : ℕ) → a < 2 ^ 64 → b < 2 ^ 64 → a ≤ b → b ≡ a + rise a b
rise_is a b x y le = omega arith

-- a word that is written again stays
pub set_word : (l : List ℕ) (i n : ℕ) → get_or l i 0 ≡ n → set l i n ≡ l
set_word [] i n e = refl
set_word (x ∷ xs) zero n e = ap (λ (k : ℕ). k ∷ xs) (sym e)
set_word (x ∷ xs) (suc i) n e = ap (λ k. x ∷ k) (set_word xs i n e)

-- how often a unit is in a view after a put
pub times_moved : {T : Type 0} (m : Meaning T) (x y : T) (us : List UnitName) (u : UnitName) → times u (m.away x) + times u (m.kept y) ≤ times u us + (times u (m.away y) + times u (m.kept x))
    → times u (moved m x y us) + (times u (m.kept y) + times u (m.away x)) ≡ times u us + (times u (m.kept x) + times u (m.away y))
times_moved m x y us u paid =
    let a = times_minus u (us ++ (m.away y ++ m.kept x)) (m.away x ++ m.kept y) in
    let b = times_append u us (m.away y ++ m.kept x) in
    let c = times_append u (m.away y) (m.kept x) in
    let d = times_append u (m.away x) (m.kept y) in
    omega arith

module _ {T : Type 0} (m : Meaning T) (parts : List T) (limits : List ℕ) (packed : ℕ) where
  abbrev St : Type 0
  St = State T (View T)

  -- a step on the word of a place, in which a view keeps its numbers of counters, keeps the rule on counters
  place_word : (s : St) (r : Places m parts limits packed s) → Counters m parts limits packed s → (id : ℕ) (v w : View T) (p n : ℕ) (homes : List (maybe.Option T)) → get_elem? s.views id ≡ some v → p < length parts
      → w.added ≡ v.added → w.low ≡ v.low → w.subtracted ≡ v.subtracted → Counters m parts limits packed record { words = set s.words (word_of packed p) n; homes = homes; views = set s.views id w }
  place_word s r k id v w p n homes seen near added low subtracted =
      same_counters m parts limits packed s record { words = set s.words (word_of packed p) n; homes = homes; views = set s.views id w } k
      (λ c close. get_or-set_other s.words (word_of packed p) (word_of packed (length parts + c)) n 0 (words_apart packed (length parts + c) p (λ e. absurd (omega arith))))
      record {
        additions = λ c. total_kept (number (additions c)) s.views id v w seen (ap (often c) added);
        low = λ c. total_kept (number (low_additions c)) s.views id v w seen (ap (often c) low);
        subtractions = λ c. total_kept (number (subtractions c)) s.views id v w seen (ap (often c) subtracted);
      }

  here_at : (s : St) (r : Places m parts limits packed s) (p : ℕ) → p < length parts → (x : T) × (get_elem? r.now p ≡ some x)
  here_at s r p near = element r.now p (let all : length r.now ≡ length parts = r.all in omega arith)

  -- the view of a seat that takes the part x at p
  taken_view : (now : List T) (v : View T) (p : ℕ) (x : T) → get_elem? now p ≡ some x → 0 < v.portions → IsView m parts limits now v → IsView m parts limits now (with_held p x v)
  taken_view now v p x here portion ok = record {
    spent = λ none'. absurd (omega arith);
    made = ok.made;
    held = here;
    beside = ok.beside;
    topped = ok.topped;
    fewer = ok.fewer;
    low = ok.low;
  }

  take_moves : (s : St) (r : Places m parts limits packed s) (id : ℕ) (v : View T) (p : ℕ) (x : T) → get_elem? s.views id ≡ some v → v.held ≡ None → 0 < v.portions → get_elem? r.now p ≡ some x → Moves m parts limits r.now v (with_held p x v) p 1 x x
  take_moves s r id v p x seen free portion here =
      let one : one_if (p == p) ≡ 1 = ap one_if (eq-eqb p p refl) in
      record {
        lock = sym one;
        small = omega arith;
        elsewhere = λ q apart. ap one_if (ne_eqb q p apart) ∙ sym (ap (one_at q) free);
        stands = r.part p x here;
        unit = λ u. omega arith;
        rose = λ i. 0;
        counts = λ i. omega arith;
        count = λ i. let small = (r.part p x here).small i in omega arith;
        steady = refl;
        exact = λ e i. omega arith;
        others = λ q i apart. refl;
        topped = λ e. e;
        portions = refl;
        view = subst (λ l. IsView m parts limits l (with_held p x v)) (sym (set_again r.now p x here)) (taken_view r.now v p x here portion (r.each id v seen));
      }

  takes_place : (s : St) (l : Lawful m parts limits packed s) (id : ℕ) (v : View T) (p : ℕ) (x : T) → get_elem? s.views id ≡ some v → v.held ≡ None → 0 < v.portions → p < length parts → get_elem? l.places.now p ≡ some x → slice_index s.words (word_of packed p) ≡ 0
      → Lawful m parts limits packed record { words = set s.words (word_of packed p) 1; homes = set s.homes p none; views = set s.views id (with_held p x v) }
  takes_place s l id v p x seen free portion near here unlocked =
      let r = l.places in
      let alone = λ (j : ℕ) (u : View T) (_ : j ≢ id) (at' : get_elem? s.views j ≡ some u). let a = total_at (number (holding p)) s.views j u at' in let b = r.lock p near in let z : number (holding p) u ≡ 0 = omega arith in z in
      record {
        places = changed m parts limits packed s r id v (with_held p x v) p 1 x x (set s.homes p none) seen near here alone (take_moves s r id v p x seen free portion here) (length-set s.homes p none) (λ q apart. set_else s.homes p q none apart) (λ e. absurd (omega arith));
        counters = place_word s r l.counters id v (with_held p x v) p 1 (set s.homes p none) seen near refl refl refl;
      }

  -- what is noted as topped after a put of y
  noted_after : (now : List T) (v : View T) (p : ℕ) (x y : T) → IsView m parts limits now v → get_elem? now p ≡ some x → (m.topped x ≡ true → m.topped y ≡ true) → (b : Bool) → m.topped y ≡ b → (q : ℕ) (z : T)
      → 0 < often q (if b then p ∷ v.topped else v.topped) → get_elem? (set now p y) q ≡ some z → m.topped z ≡ true
  noted_after now v p x y ok here stays true is q z noted e = ⊎_elim
      (λ (h : (q ≡ p) × (y ≡ z)). ap m.topped (sym h.1) ∙ is)
      (λ (h : (q ≢ p) × (get_elem? now q ≡ some z)). let other : one_if (q == p) ≡ 0 = ap one_if (ne_eqb q p h.0) in ok.topped q z (omega arith) h.1)
      (at_set now p q y z e)
  noted_after now v p x y ok here stays false is q z noted e = ⊎_elim
      (λ (h : (q ≡ p) × (y ≡ z)). ap m.topped (sym h.1) ∙ stays (ok.topped p x (subst (λ (k : ℕ). 0 < often k v.topped) h.0 noted) here))
      (λ (h : (q ≢ p) × (get_elem? now q ≡ some z)). ok.topped q z noted h.1)
      (at_set now p q y z e)

  module _ (s : St) (l : Lawful m parts limits packed s) (id : ℕ) (v : View T) (p : ℕ) (x y : T) (seen : get_elem? s.views id ≡ some v) (held : v.held ≡ Some (held_at p x)) (portion : 0 < v.portions) (near : p < length parts) (may : MayPut m parts limits p x y v.units) where
    abbrev w : View T
    w = put_view m p x y v

    abbrev entry : CountRise
    entry = record { place = p; before = m.counts x; after = m.counts y }

    ok_view : IsView m parts limits l.places.now v
    ok_view = l.places.each id v seen

    here : get_elem? l.places.now p ≡ some x
    here = subst (λ o. IfSome o (λ h. get_elem? l.places.now h.place ≡ some h.part)) held ok_view.held

    held_once : number (holding p) v ≡ 1
    held_once = ap (one_at p) held ∙ ap one_if (eq-eqb p p refl)

    only : (j : ℕ) (u : View T) → j ≢ id → get_elem? s.views j ≡ some u → number (holding p) u ≡ 0
    only j u apart at' = let a = total_two (number (holding p)) s.views id j v u apart seen at' in let b = l.places.once p in let c = held_once in omega arith

    rose : ℕ → ℕ
    rose i = rise (slice_index (m.counts x) i) (slice_index (m.counts y) i)

    put_moves : Moves m parts limits l.places.now v w p 0 x y
    put_moves = record {
      lock = refl;
      small = omega arith;
      elsewhere = λ q apart. sym (ap (one_at q) held ∙ ap one_if (ne_eqb q p apart));
      stands = may.stands;
      unit = λ u. times_moved m x y v.units u (may.paid u);
      rose = λ i. rise (slice_index (m.counts x) i) (slice_index (m.counts y) i);
      counts = λ i. let a : rise_at p i entry ≡ rise (slice_index (m.counts x) i) (slice_index (m.counts y) i) = ap (λ b. if b then rise (slice_index (m.counts x) i) (slice_index (m.counts y) i) else 0) (eq-eqb p p refl) in omega arith;
      count = λ i. rise_mod (slice_index (m.counts x) i) (slice_index (m.counts y) i) ((l.places.part p x here).small i) (may.stands.small i);
      steady = may.steady;
      exact = λ e i. rise_is (slice_index (m.counts x) i) (slice_index (m.counts y) i) ((l.places.part p x here).small i) (may.stands.small i) (may.rises e i);
      others = λ q i apart. let a : rise_at q i entry ≡ 0 = ap (λ b. if b then rise (slice_index (m.counts x) i) (slice_index (m.counts y) i) else 0) (ne_eqb q p apart) in omega arith;
      topped = may.topped;
      portions = refl;
      view = record {
        spent = λ none'. absurd (omega arith);
        made = ok_view.made;
        held = tt;
        beside = may.beside;
        topped = λ q z noted e. noted_after l.places.now v p x y ok_view here may.topped (m.topped y) refl q z noted e;
        fewer = ok_view.fewer;
        low = ok_view.low;
      };
    }

    puts_place : Lawful m parts limits packed record { words = set s.words (word_of packed p) 0; homes = set s.homes p (some y); views = set s.views id w }
    puts_place =
        let roomy : length s.homes ≡ length parts = l.places.roomy in
        record {
          places = changed m parts limits packed s l.places id v w p 0 x y (set s.homes p (some y)) seen near here only put_moves (length-set s.homes p (some y)) (λ q apart. set_else s.homes p q (some y) apart) (λ e. set_here s.homes p (some y) (omega arith));
          counters = place_word s l.places l.counters id v w p 0 (set s.homes p (some y)) seen near refl refl refl;
        }

module _ {T : Type 0} (m : Meaning T) (packed slots id : ℕ) (me : Me T (View T)) (p : ℕ) where
  -- a swap of 1 takes the place where it finds 0, and otherwise changes nothing
  takes_at : me.0.held ≡ None → 0 < me.0.portions → p < length me.0.parts
      → Allows (Lawful m me.0.parts me.0.limits packed) slots id me (word_of packed p) (λ _. 1) (took m p (step slots (word_of packed p) 1 0 none) me)
  takes_at free portion near s l wide seen small =
      let r = l.places in
      let n : ℕ = slice_index s.words (word_of packed p) in
      let once : n ≤ 1 = (let a = r.lock p near in let b = r.once p in omega arith) in
      ⊎_elim
      (λ (busy : 0 < n).
      let one : n ≡ 1 = omega arith in (
        me.0,
        keeps,
        tt,
        subst (λ (k : List ℕ × List (View T)). Lawful m me.0.parts me.0.limits packed record { words = k.0; homes = s.homes; views = k.1 }) (λ i. (sym (set_word s.words (word_of packed p) 1 one) i, sym (set_again s.views id me.0 seen) i)) l,
        ((λ none'. absurd (omega arith)), (λ _. refl)),
      ))
      (λ (unlocked : n ≤ 0).
      let zero' : n ≡ 0 = omega arith in
      let h = here_at m me.0.parts me.0.limits packed s r p near in
      let x : T = h.0 in (
        with_held p x me.0,
        takes p x,
        r.home p x h.1 zero',
        takes_place m me.0.parts me.0.limits packed s l id me.0 p x seen free portion near h.1 zero',
        ((λ _. (x, refl, taken m me.0.parts me.0.limits s r id p me.0 x seen h.1)), (λ not. absurd (not zero'))),
      ))
      (cases_lt 0 n)

  -- a store of 0 gives the place back
  puts_at : (x y : T) → me.0.held ≡ Some (held_at p x) → me.1 ≡ (p, y) ∷ [] → 0 < me.0.portions → p < length me.0.parts → MayPut m me.0.parts me.0.limits p x y me.0.units
      → Allows (Lawful m me.0.parts me.0.limits packed) slots id me (word_of packed p) (λ _. 0) (λ _ w. gave m (step slots (word_of packed p) 0 0 none) me 0 w)
  puts_at x y held lent portion near may s l wide seen small = (
    put_view m p x y me.0,
    gives,
    tt,
    subst (λ (c : List (ℕ × T)). Lawful m me.0.parts me.0.limits packed (stepped s (word_of packed p) 0 id c (put_view m p x y me.0) gives)) (sym lent) (puts_place m me.0.parts me.0.limits packed s l id me.0 p x y seen held portion near may),
    given,
  )
    where
      given : gave m (step slots (word_of packed p) 0 0 none) me 0 (put_view m p x y me.0, rest me.1)
      given q x' y' held' lent' =
          let a : held_at p x ≡ held_at q x' = cc in
          let c : y ≡ y' = ap (λ (l : List (ℕ × T)). (get_or l 0 (p, y)).1) (sym lent ∙ lent') in
          λ i. (put_view m (a i).place (a i).part (c i) me.0, ap rest lent i)

module _ {T : Type 0} (m : Meaning T) (parts : List T) (limits : List ℕ) (packed slots id : ℕ) where
  -- the same of a seat by a hall's own record of what it was made with, at a number that is the place's word
  pub takes_as : (me : Me T (View T)) (p i q : ℕ) → me.0.held ≡ None → 0 < me.0.portions → me.0.parts ≡ parts → me.0.limits ≡ limits → p < length parts → i ≡ word_of packed p → q ≡ p
      → Allows (Lawful m parts limits packed) slots id me i (λ _. 1) (took m q (step slots i 1 0 none) me)
  takes_as me p i q free portion ps ls near word named =
      subst (λ (k : List T × List ℕ × ℕ × ℕ). Allows (Lawful m k.0 k.1 packed) slots id me k.2 (λ _. 1) (took m k.3 (step slots k.2 1 0 none) me)) (λ j. (ps j, ls j, sym word j, sym named j))
      (takes_at m packed slots id me p free portion (let e = ap length ps in omega arith))

  pub puts_as : (me : Me T (View T)) (p i : ℕ) (x y : T) → me.0.held ≡ Some (held_at p x) → me.1 ≡ (p, y) ∷ [] → 0 < me.0.portions → me.0.parts ≡ parts → me.0.limits ≡ limits → p < length me.0.parts → MayPut m parts limits p x y me.0.units
      → i ≡ word_of packed p → Allows (Lawful m parts limits packed) slots id me i (λ _. 0) (λ _ w. gave m (step slots i 0 0 none) me 0 w)
  puts_as me p i x y held lent portion ps ls near may word =
      subst (λ (k : List T × List ℕ × ℕ). Allows (Lawful m k.0 k.1 packed) slots id me k.2 (λ _. 0) (λ _ w. gave m (step slots k.2 0 0 none) me 0 w)) (λ j. (ps j, ls j, sym word j))
      (puts_at m packed slots id me p x y held lent portion near (subst (λ (k : List T × List ℕ). MayPut m k.0 k.1 p x y me.0.units) (λ i. (sym ps i, sym ls i)) may))

-- What stays of the rule when one view changes, and when one place changes hands.
use Rattle.std.proofs.Common.{◌≡◌, ◌≢◌, ℕ, ◌+◌, ◌%◌, ◌^◌, ◌<◌, ◌≤◌, ◌==◌, true, List, length, set, Option, Some, None, IfSome, ⊎_elim, sym, ap, ◌∙◌, subst, arith, length-set, get_or-set_same, get_or-set_other, slice_index}
use Rattle.std.proofs.lemmas.Bool.{cases_eq, cases_lt, eq-eqb}
use mathlib.Core.Option.{some, some-injective}
use mathlib.Core.Option as maybe
use lib.ListN.{get_elem?}
use Rattle.atomic_table.specs.Table.{State}
use Rattle.atomic_table.proofs.Lists.{at_set, set_here, set_else}
use Rattle.pool_hall.specs.declared.unit_name.UnitName.{UnitName}
use Rattle.pool_hall.specs.declared.view.HeldPart.{HeldPart}
use Rattle.pool_hall.specs.declared.view.View.{View}
use Rattle.pool_hall.specs.Sum.{one_if, often}
use Rattle.pool_hall.specs.Unit.{times}
use Rattle.pool_hall.specs.Tally.{holding, having, counted, additions, low_additions, subtractions, portion_count, one_at, number, sum}
use Rattle.pool_hall.specs.Meaning.{Meaning, StandsAt}
use Rattle.pool_hall.specs.Rule.{word_of, away_of, out, keeping, IsView, Places, Counters}
use Rattle.pool_hall.proofs.Totals.{inside, total_set, total_only}
use Rattle.pool_hall.proofs.Words.{word_rises, words_apart}

-- the sums over views that the rule on places speaks of are the same
pub record EvenPlaces {T : Type 0} (old new : List (View T)) : Type 0 where
  pub holding : (p : ℕ) → sum (holding p) new ≡ sum (holding p) old
  pub having : (u : UnitName) → sum (having u) new ≡ sum (having u) old
  pub counted : (p i : ℕ) → sum (counted p i) new ≡ sum (counted p i) old
  pub portions : sum portion_count new ≡ sum portion_count old

-- and those that the rule on counters speaks of
pub record EvenCounters {T : Type 0} (old new : List (View T)) : Type 0 where
  pub additions : (c : ℕ) → sum (additions c) new ≡ sum (additions c) old
  pub low : (c : ℕ) → sum (low_additions c) new ≡ sum (low_additions c) old
  pub subtractions : (c : ℕ) → sum (subtractions c) new ≡ sum (subtractions c) old

module _ {T : Type 0} (m : Meaning T) (parts : List T) (limits : List ℕ) where
  abbrev St : Type 0
  St = State T (View T)

  pub same_places : (packed : ℕ) (s t : St) (r : Places m parts limits packed s) → t.homes ≡ s.homes → length t.words ≡ length s.words
      → ((p : ℕ) → p < length parts → slice_index t.words (word_of packed p) ≡ slice_index s.words (word_of packed p))
      → EvenPlaces s.views t.views → ((id : ℕ) (v : View T) → get_elem? t.views id ≡ some v → IsView m parts limits r.now v) → Places m parts limits packed t
  same_places packed s t r homes long words even each = record {
    now = r.now;
    wide = long ∙ r.wide;
    roomy = ap length homes ∙ r.roomy;
    all = r.all;
    part = r.part;
    lock = λ p near. words p near ∙ r.lock p near ∙ sym (even.holding p);
    once = λ p. let e = even.holding p in let o = r.once p in omega arith;
    home = λ p x here free. ap (λ l. get_elem? l p) homes ∙ r.home p x here (sym (words p (near p x here)) ∙ free);
    unit = λ u. let e = even.having u in let o = r.unit u in omega arith;
    count = λ p i x here. r.count p i x here ∙ ap (λ n. n % 2 ^ 64) (sym (even.counted p i));
    exact = λ p i x here steady. r.exact p i x here steady ∙ sym (even.counted p i);
    portions = even.portions ∙ r.portions;
    each = each;
  }
    where
      near : (p : ℕ) (x : T) → get_elem? r.now p ≡ some x → p < length parts
      near p x here = let all : length r.now ≡ length parts = r.all in let h = inside r.now p x here in omega arith

  pub same_counters : (packed : ℕ) (s t : St) → Counters m parts limits packed s → ((c : ℕ) → c < length limits → slice_index t.words (word_of packed (length parts + c)) ≡ slice_index s.words (word_of packed (length parts + c)))
      → EvenCounters s.views t.views → Counters m parts limits packed t
  same_counters packed s t k words even = record {
    word = λ c near. let a = even.additions c in let b = even.subtractions c in let w = words c near in let o = k.word c near in omega arith;
    full = λ c less. let a = even.additions c in let l = even.low c in let o = k.full c (omega arith) in omega arith;
  }

  -- What a hold of the place p changes: the view from v to w, the part from x to y
  pub record Moves (now : List T) (v w : View T) (p n : ℕ) (x y : T) : Type 0 where
    pub lock : n ≡ number (holding p) w
    pub small : n ≤ 1
    pub elsewhere : (q : ℕ) → q ≢ p → number (holding q) w ≡ number (holding q) v
    pub stands : StandsAt m parts limits p y
    pub unit : (u : UnitName) → times u w.units + (times u (m.kept y) + times u (m.away x)) ≡ times u v.units + (times u (m.kept x) + times u (m.away y))
    pub rose : ℕ → ℕ
    pub counts : (i : ℕ) → number (counted p i) w ≡ number (counted p i) v + rose i
    pub count : (i : ℕ) → slice_index (m.counts y) i ≡ (slice_index (m.counts x) i + rose i) % 2 ^ 64
    pub steady : m.steady y ≡ m.steady x
    pub exact : m.steady y ≡ true → (i : ℕ) → slice_index (m.counts y) i ≡ slice_index (m.counts x) i + rose i
    pub others : (q i : ℕ) → q ≢ p → number (counted q i) w ≡ number (counted q i) v
    pub topped : m.topped x ≡ true → m.topped y ≡ true
    pub portions : w.portions ≡ v.portions
    pub view : IsView m parts limits (set now p y) w

  module _ (packed : ℕ) (s : St) (r : Places m parts limits packed s) (id : ℕ) (v w : View T) (p n : ℕ) (x y : T) (homes' : List (maybe.Option T)) (seen : get_elem? s.views id ≡ some v) (near : p < length parts) (here : get_elem? r.now p ≡ some x)
      (alone : (j : ℕ) (u : View T) → j ≢ id → get_elem? s.views j ≡ some u → number (holding p) u ≡ 0) (mv : Moves r.now v w p n x y) where
    abbrev now' : List T
    now' = set r.now p y

    abbrev t : St
    t = record { words = set s.words (word_of packed p) n; homes = homes'; views = set s.views id w }

    placed : p < length r.now
    placed = let all : length r.now ≡ length parts = r.all in omega arith

    -- what holds at the place after, and at each other place before, holds of each part after
    at_now : (F : ℕ → T → Type 0) → F p y → ((q : ℕ) (z : T) → q ≢ p → get_elem? r.now q ≡ some z → F q z) → (q : ℕ) (z : T) → get_elem? now' q ≡ some z → F q z
    at_now F mine other q z e =
        ⊎_elim
        (λ (h : (q ≡ p) × (y ≡ z)). subst (λ (a : ℕ × T). F a.0 a.1) (λ i. (sym h.0 i, h.1 i)) mine)
        (λ (h : (q ≢ p) × (get_elem? r.now q ≡ some z)). other q z h.0 h.1)
        (at_set r.now p q y z e)

    held_by : sum (holding p) t.views ≡ n
    held_by = let a = total_only (number (holding p)) s.views id v seen alone in let b = total_set (number (holding p)) s.views id v w seen in let c : n ≡ number (holding p) w = mv.lock in omega arith

    unheld : (q : ℕ) → q ≢ p → sum (holding q) t.views ≡ sum (holding q) s.views
    unheld q apart = let b = total_set (number (holding q)) s.views id v w seen in let c = mv.elsewhere q apart in omega arith

    word_apart : (q : ℕ) → q ≢ p → slice_index t.words (word_of packed q) ≡ slice_index s.words (word_of packed q)
    word_apart q apart = get_or-set_other s.words (word_of packed p) (word_of packed q) n 0 (words_apart packed q p apart)

    word_here : slice_index t.words (word_of packed p) ≡ n
    word_here = get_or-set_same s.words (word_of packed p) n 0 (subst (λ (k : ℕ). word_of packed p < k) (sym r.wide) (word_rises packed p (length parts + length limits) (omega arith)))

    none_of : (u : UnitName) (q : ℕ) (z : T) → StandsAt m parts limits q z → m.place parts limits u ≢ q → times u (m.away z) ≡ 0
    none_of u q z ok apart = ⊎_elim (λ (some' : 0 < times u (m.away z)). absurd (apart (ok.own u some'))) (λ (none' : times u (m.away z) ≤ 0). omega arith) (cases_lt 0 (times u (m.away z)))

    out_after : (u : UnitName) → out m parts limits u now' + times u (m.away x) ≡ out m parts limits u r.now + times u (m.away y)
    out_after u =
        let at : ℕ = m.place parts limits u in
        ⊎_elim
        (λ (is : at ≡ p).
        let a = ap (away_of m parts limits u) (ap (get_elem? now') is ∙ set_here r.now p y placed) in
        let b = ap (away_of m parts limits u) (ap (get_elem? r.now) is ∙ here) in
        omega arith)
        (λ (not : at ≢ p).
        let a = ap (away_of m parts limits u) (set_else r.now p at y not) in
        let b = none_of u p x (r.part p x here) not in
        let c = none_of u p y mv.stands not in
        omega arith)
        (cases_eq at p)

    unit_after : (u : UnitName) → sum (having u) t.views + keeping m parts limits u now' ≡ out m parts limits u now'
    unit_after u =
        let a = total_set (number (having u)) s.views id v w seen in
        let b = total_set (λ z. times u (m.kept z)) r.now p x y here in
        let c = out_after u in
        let d = mv.unit u in
        let e = r.unit u in
        omega arith

    counted_here : (i : ℕ) → sum (counted p i) t.views ≡ sum (counted p i) s.views + mv.rose i
    counted_here i = let a = total_set (number (counted p i)) s.views id v w seen in let b = mv.counts i in omega arith

    counted_apart : (q i : ℕ) → q ≢ p → sum (counted q i) t.views ≡ sum (counted q i) s.views
    counted_apart q i apart = let a = total_set (number (counted q i)) s.views id v w seen in let b = mv.others q i apart in omega arith

    held_stays : (o : Option (HeldPart T)) → one_at p o ≡ 0 → IfSome o (λ h. get_elem? r.now h.place ≡ some h.part) → IfSome o (λ h. get_elem? now' h.place ≡ some h.part)
    held_stays None none' is = is
    held_stays (Some h) none' is = set_else r.now p h.place y (λ e. let one : one_if (p == h.place) ≡ 1 = ap one_if (eq-eqb p h.place (sym e)) in absurd (omega arith)) ∙ is

    view_stays : (u : View T) → number (holding p) u ≡ 0 → IsView m parts limits r.now u → IsView m parts limits now' u
    view_stays u apart ok = record {
      spent = ok.spent;
      made = ok.made;
      held = held_stays u.held apart ok.held;
      beside = ok.beside;
      topped = λ q z noted e. at_now (λ q z. 0 < often q u.topped → m.topped z ≡ true) (λ k. mv.topped (ok.topped p x k here)) (λ q z _ e k. ok.topped q z k e) q z e noted;
      fewer = ok.fewer;
      low = ok.low;
    }

    pub changed : length homes' ≡ length s.homes → ((q : ℕ) → q ≢ p → get_elem? homes' q ≡ get_elem? s.homes q) → (n ≡ 0 → get_elem? homes' p ≡ some (some y)) → Places m parts limits packed t
    changed long homes home = record {
      now = now';
      wide = length-set s.words (word_of packed p) n ∙ r.wide;
      roomy = long ∙ r.roomy;
      all = length-set r.now p y ∙ r.all;
      part = at_now (λ q z. StandsAt m parts limits q z) mv.stands (λ q z _ e. r.part q z e);
      lock = λ q close. ⊎_elim
          (λ (e : q ≡ p). subst (λ (k : ℕ). slice_index t.words (word_of packed k) ≡ sum (holding k) t.views) (sym e) (word_here ∙ sym held_by))
          (λ (f : q ≢ p). word_apart q f ∙ r.lock q close ∙ sym (unheld q f))
          (cases_eq q p);
      once = λ q. ⊎_elim
          (λ (e : q ≡ p). subst (λ (k : ℕ). sum (holding k) t.views ≤ 1) (sym e) (let a = held_by in let b : n ≤ 1 = mv.small in omega arith))
          (λ (f : q ≢ p). let a = unheld q f in let b = r.once q in omega arith)
          (cases_eq q p);
      home = at_now (λ q z. slice_index t.words (word_of packed q) ≡ 0 → get_elem? homes' q ≡ some (some z)) (λ free. home (sym word_here ∙ free)) (λ q z f e free. homes q f ∙ r.home q z e (sym (word_apart q f) ∙ free));
      unit = unit_after;
      count = λ q i z e. at_now (λ q z. slice_index (m.counts z) i ≡ sum (counted q i) t.views % 2 ^ 64)
          (let a = counted_here i in let b = r.count p i x here in let c = mv.count i in omega arith)
          (λ q z f e. r.count q i z e ∙ ap (λ k. k % 2 ^ 64) (sym (counted_apart q i f))) q z e;
      exact = λ q i z e. at_now (λ q z. m.steady z ≡ true → slice_index (m.counts z) i ≡ sum (counted q i) t.views)
          (λ steady. let a = counted_here i in let b = r.exact p i x here (sym mv.steady ∙ steady) in let c = mv.exact steady i in omega arith)
          (λ q z f e steady. r.exact q i z e steady ∙ sym (counted_apart q i f)) q z e;
      portions = let a = total_set (number portion_count) s.views id v w seen in let b : w.portions ≡ v.portions = mv.portions in let c = r.portions in omega arith;
      each = λ j u e. ⊎_elim
          (λ (h : (j ≡ id) × (w ≡ u)). subst (IsView m parts limits now') h.1 mv.view)
          (λ (h : (j ≢ id) × (get_elem? s.views j ≡ some u)). view_stays u (alone j u h.0 h.1) (r.each j u h.1))
          (at_set s.views id j w u e);
    }

-- A split, a join, the start and the end keep to the rule.
use Rattle.std.proofs.Common.{◌≡◌, ◌≢◌, ℕ, ◌+◌, ◌<◌, ◌≤◌, ◌==◌, List, [], ◌∷◌, ◌++◌, set, None, ⊎_elim, sym, refl, ap, ◌∙◌, subst, arith}
use Rattle.std.proofs.lemmas.Bool.{cases_lt}
use mathlib.Core.Option.{some}
use lib.ListN.{get_elem?}
use Rattle.atomic_table.specs.Table.{State, Splits, Joins}
use Rattle.atomic_table.proofs.Lists.{at_set, at_snoc, set_else}
use Rattle.pool_hall.specs.declared.view.View.{View}
use Rattle.pool_hall.specs.Sum.{one_if, often}
use Rattle.pool_hall.specs.Tally.{Tally, holding, having, counted, additions, low_additions, subtractions, portion_count, rise_at, one_at, number, sum}
use Rattle.pool_hall.specs.Meaning.{Meaning}
use Rattle.pool_hall.specs.Rule.{nobody, IsView, Lawful}
use Rattle.pool_hall.specs.Step.{left_with, newcomer, joined}
use Rattle.pool_hall.proofs.Totals.{total_append, total_split, total_joined}
use Rattle.pool_hall.proofs.Units.{times_append}
use Rattle.pool_hall.proofs.Moments.{beside_append}
use Rattle.pool_hall.proofs.Keeps.{EvenPlaces, EvenCounters, same_places, same_counters}

module _ {T : Type 0} where
  -- the numbers of a view that is cut in two are shared out
  split_number : (t : Tally) (n : ℕ) (v : View T) → n ≤ v.portions → number t (left_with n v) + number t (newcomer n v) ≡ number t v
  split_number (holding p) n v le = omega arith
  split_number (having u) n v le = omega arith
  split_number (counted p i) n v le = omega arith
  split_number (additions c) n v le = omega arith
  split_number (low_additions c) n v le = omega arith
  split_number (subtractions c) n v le = omega arith
  split_number portion_count n v le = omega arith

  -- a joined view has the numbers of both
  pub join_number : (t : Tally) (v w : View T) → w.held ≡ None → number t (joined v w) + number t (nobody {T = T}) ≡ number t v + number t w
  join_number (holding p) v w free = let e = ap (one_at p) free in omega arith
  join_number (having u) v w free = let e = times_append u v.units w.units in omega arith
  join_number (counted p i) v w free = let e = total_append (rise_at p i) v.rises w.rises in omega arith
  join_number (additions c) v w free = let e = total_append (λ k. one_if (c == k)) v.added w.added in omega arith
  join_number (low_additions c) v w free = let e = total_append (λ k. one_if (c == k)) v.low w.low in omega arith
  join_number (subtractions c) v w free = let e = total_append (λ k. one_if (c == k)) v.subtracted w.subtracted in omega arith
  join_number portion_count v w free = omega arith

  -- views whose sums are all the same
  even_places : (old new : List (View T)) → ((t : Tally) → sum t new ≡ sum t old) → EvenPlaces old new
  even_places old new e = record { holding = λ p. e (holding p); having = λ u. e (having u); counted = λ p i. e (counted p i); portions = e portion_count }

  even_counters : (old new : List (View T)) → ((t : Tally) → sum t new ≡ sum t old) → EvenCounters old new
  even_counters old new e = record { additions = λ c. e (additions c); low = λ c. e (low_additions c); subtractions = λ c. e (subtractions c) }

module _ {T : Type 0} (m : Meaning T) (parts : List T) (limits : List ℕ) (packed : ℕ) where
  abbrev St : Type 0
  St = State T (View T)

  -- other views with the same sums keep the rule
  reviewed : (s : St) (l : Lawful m parts limits packed s) (views : List (View T)) → ((t : Tally) → sum t views ≡ sum t s.views) → ((id : ℕ) (v : View T) → get_elem? views id ≡ some v → IsView m parts limits l.places.now v)
      → Lawful m parts limits packed record { words = s.words; homes = s.homes; views = views }
  reviewed s l views even each = record {
    places = same_places m parts limits packed s record { words = s.words; homes = s.homes; views = views } l.places refl refl (λ p near. refl) (even_places s.views views even) each;
    counters = same_counters m parts limits packed s record { words = s.words; homes = s.homes; views = views } l.counters (λ c near. refl) (even_counters s.views views even);
  }

  left_view : (now : List T) (v : View T) (n : ℕ) → n < v.portions → IsView m parts limits now v → IsView m parts limits now (left_with n v)
  left_view now v n less ok = record { spent = λ e. absurd (omega arith); made = λ some'. ok.made (omega arith); held = ok.held; beside = ok.beside; topped = ok.topped; fewer = ok.fewer; low = ok.low }

  new_view : (now : List T) (v : View T) (n : ℕ) → 0 < n → n < v.portions → IsView m parts limits now v → IsView m parts limits now (newcomer n v)
  new_view now v n some' less ok = record {
    spent = λ e. absurd (omega arith);
    made = λ _. ok.made (omega arith);
    held = tt;
    beside = λ u region h. absurd (omega arith);
    topped = λ p x h _. absurd (omega arith);
    fewer = λ c. omega arith;
    low = λ c. omega arith;
  }

  nobody_view : (now : List T) → IsView m parts limits now nobody
  nobody_view now = record {
    spent = λ _. refl;
    made = λ h. absurd (omega arith);
    held = tt;
    beside = λ u region h. absurd (omega arith);
    topped = λ p x h _. absurd (omega arith);
    fewer = λ c. omega arith;
    low = λ c. omega arith;
  }

  joined_view : (now : List T) (v w : View T) → 0 < v.portions → IsView m parts limits now v → IsView m parts limits now w → IsView m parts limits now (joined v w)
  joined_view now v w portion a b = record {
    spent = λ e. absurd (omega arith);
    made = λ _. a.made portion;
    held = a.held;
    beside = beside_append v.units w.units a.beside b.beside;
    topped = λ p x h here.
        let e = total_append (λ k. one_if (p == k)) v.topped w.topped in
        ⊎_elim
        (λ (mine : 0 < often p v.topped). a.topped p x mine here)
        (λ (not : often p v.topped ≤ 0). b.topped p x (omega arith) here)
        (cases_lt 0 (often p v.topped));
    fewer = λ c. let e = total_append (λ k. one_if (c == k)) v.added w.added in let f = total_append (λ k. one_if (c == k)) v.subtracted w.subtracted in let g = a.fewer c in let h = b.fewer c in omega arith;
    low = λ c. let e = total_append (λ k. one_if (c == k)) v.added w.added in let f = total_append (λ k. one_if (c == k)) v.low w.low in let g = a.low c in let h = b.low c in omega arith;
  }

  pub splits : (id n : ℕ) (v : View T) → 0 < n → n < v.portions → Splits (Lawful m parts limits packed) id v (left_with n v) (newcomer n v)
  splits id n v some' less s l seen =
      let ok = l.places.each id v seen in
      reviewed s l (set s.views id (left_with n v) ++ newcomer n v ∷ []) (λ t. total_split (number t) s.views id v (left_with n v) (newcomer n v) seen (split_number t n v (omega arith)))
      (λ j u e. ⊎_elim
      (λ (old : get_elem? (set s.views id (left_with n v)) j ≡ some u).
      ⊎_elim
      (λ (h : (j ≡ id) × (left_with n v ≡ u)). subst (IsView m parts limits l.places.now) h.1 (left_view l.places.now v n less ok))
      (λ (h : (j ≢ id) × (get_elem? s.views j ≡ some u)). l.places.each j u h.1)
      (at_set s.views id j (left_with n v) u old))
      (λ (new : newcomer n v ≡ u). subst (IsView m parts limits l.places.now) new (new_view l.places.now v n some' less ok))
      (at_snoc (set s.views id (left_with n v)) (newcomer n v) u j e))

  pub joins : (id other : ℕ) (v w : View T) → 0 < v.portions → w.held ≡ None → Joins (Lawful m parts limits packed) id v other w (joined v w) nobody
  joins id other v w portion free s l seen apart there =
      let there' : get_elem? s.views other ≡ some w = sym (set_else s.views id other (joined v w) apart) ∙ there in
      let a = l.places.each id v seen in
      let b = l.places.each other w there' in
      reviewed s l (set (set s.views id (joined v w)) other nobody) (λ t. total_joined (number t) s.views id other v w (joined v w) nobody seen apart there' (join_number t v w free))
      (λ j u e. ⊎_elim
      (λ (h : (j ≡ other) × (nobody ≡ u)). subst (IsView m parts limits l.places.now) h.1 (nobody_view l.places.now))
      (λ (h : (j ≢ other) × (get_elem? (set s.views id (joined v w)) j ≡ some u)).
      ⊎_elim
      (λ (k : (j ≡ id) × (joined v w ≡ u)). subst (IsView m parts limits l.places.now) k.1 (joined_view l.places.now v w portion a b))
      (λ (k : (j ≢ id) × (get_elem? s.views j ≡ some u)). l.places.each j u k.1)
      (at_set s.views id j (joined v w) u h.1))
      (at_set (set s.views id (joined v w)) other j nobody u e))

-- The steps on a counter keep the rule.
use Rattle.std.proofs.Common.{◌≡◌, ◌≢◌, ℕ, ◌+◌, ◌-◌, ◌%◌, ◌^◌, ◌<◌, ◌≤◌, ◌==◌, if◌then◌else◌, nat_lt, Bool, true, false, List, ◌∷◌, length, set, ⊎_elim, sym, refl, ap, ◌∙◌, subst, arith, length-set, get_or-set_same, get_or-set_other, slice_index}
use Rattle.std.proofs.lemmas.Bool.{cases_eq, cases_lt, eq-eqb, ne_eqb, lt-ltb, le-ltb}
use mathlib.Core.Option.{some, none}
use lib.ListN.{get_elem?}
use Rattle.atomic_table.specs.Table.{State, Me, step, keeps, Allows}
use Rattle.atomic_table.proofs.Lists.{at_set, set_again}
use Rattle.pool_hall.specs.declared.view.View.{View}
use Rattle.pool_hall.specs.Sum.{one_if, total, often}
use Rattle.pool_hall.specs.Tally.{Tally, holding, having, counted, additions, low_additions, subtractions, portion_count, rise_at, one_at, number, sum, all_portions}
use Rattle.pool_hall.specs.Unit.{times}
use Rattle.pool_hall.specs.Meaning.{Meaning}
use Rattle.pool_hall.specs.Rule.{word_of, nobody, IsView, Places, Lawful}
use Rattle.pool_hall.specs.Step.{add_view, subtract_view, Loaded, SeesMoment, added, subtracted, loaded}
use Rattle.pool_hall.specs.Moment.{Moment}
use Rattle.pool_hall.proofs.Totals.{total_set, total_le, total_kept}
use Rattle.pool_hall.proofs.Keeps.{same_places}
use Rattle.pool_hall.proofs.Told.{has_all, momentous}
use Rattle.pool_hall.proofs.Words.{word_rises, words_apart}
use Rattle.pool_hall.proofs.Hands.{set_word}

one_up : (n a b : ℕ) → (n + b) % 2 ^ 64 ≡ a % 2 ^ 64 → ((n + 1) % 2 ^ 64 + b) % 2 ^ 64 ≡ (a + 1) % 2 ^ 64
one_up n a b e = omega arith

one_down : (n a b : ℕ) → (n + b) % 2 ^ 64 ≡ a % 2 ^ 64 → ((n + (2 ^ 64 - 1)) % 2 ^ 64 + (b + 1)) % 2 ^ 64 ≡ a % 2 ^ 64
one_down n a b e = omega arith

-- a word is at most the additions
word_below : (n a b : ℕ) → n < 2 ^ 64 → b ≤ a → (n + b) % 2 ^ 64 ≡ a % 2 ^ 64 → n ≤ a
word_below n a b small le e = omega arith

word_is : (n a b : ℕ) → n < 2 ^ 64 → b ≤ a → (n + b) % 2 ^ 64 ≡ a % 2 ^ 64 → n ≡ (a - b) % 2 ^ 64
word_is n a b small le e = omega arith

module _ {T : Type 0} where
  added_here : (v : View T) (c n : ℕ) → number (additions c) (add_view c n v) ≡ number (additions c) v + 1
  added_here v c n = let e : one_if (c == c) ≡ 1 = ap one_if (eq-eqb c c refl) in omega arith

  added_apart : (v : View T) (c n k : ℕ) → k ≢ c → number (additions k) (add_view c n v) ≡ number (additions k) v
  added_apart v c n k apart = let e : one_if (k == c) ≡ 0 = ap one_if (ne_eqb k c apart) in omega arith

  low_here : (v : View T) (c n : ℕ) → n < slice_index v.limits c → number (low_additions c) (add_view c n v) ≡ number (low_additions c) v + 1
  low_here v c n below =
      let e : one_if (c == c) ≡ 1 = ap one_if (eq-eqb c c refl) in
      let f : number (low_additions c) (add_view c n v) ≡ one_if (c == c) + often c v.low = ap (λ b. often c (if b then c ∷ v.low else v.low)) (lt-ltb n (slice_index v.limits c) below) in
      omega arith

  low_none : (v : View T) (c n k : ℕ) → slice_index v.limits c ≤ n → number (low_additions k) (add_view c n v) ≡ number (low_additions k) v
  low_none v c n k above = ap (λ b. often k (if b then c ∷ v.low else v.low)) (le-ltb n (slice_index v.limits c) above)

  low_apart : (v : View T) (c n k : ℕ) → k ≢ c → number (low_additions k) (add_view c n v) ≡ number (low_additions k) v
  low_apart v c n k apart = either_way (nat_lt n (slice_index v.limits c))
    where
      either_way : (b : Bool) → often k (if b then c ∷ v.low else v.low) ≡ often k v.low
      either_way true = let e : one_if (k == c) ≡ 0 = ap one_if (ne_eqb k c apart) in omega arith
      either_way false = refl

  low_most : (v : View T) (c n k : ℕ) → number (low_additions k) v ≤ number (additions k) v → number (low_additions k) (add_view c n v) ≤ number (additions k) (add_view c n v)
  low_most v c n k le = either_way (nat_lt n (slice_index v.limits c))
    where
      either_way : (b : Bool) → often k (if b then c ∷ v.low else v.low) ≤ one_if (k == c) + often k v.added
      either_way true = omega arith
      either_way false = omega arith

  taken_off : (v : View T) (c : ℕ) → number (subtractions c) (subtract_view c v) ≡ number (subtractions c) v + 1
  taken_off v c = let e : one_if (c == c) ≡ 1 = ap one_if (eq-eqb c c refl) in omega arith

  taken_off_apart : (v : View T) (c k : ℕ) → k ≢ c → number (subtractions k) (subtract_view c v) ≡ number (subtractions k) v
  taken_off_apart v c k apart = let e : one_if (k == c) ≡ 0 = ap one_if (ne_eqb k c apart) in omega arith

module _ {T : Type 0} (m : Meaning T) (parts : List T) (limits : List ℕ) (packed : ℕ) where
  abbrev St : Type 0
  St = State T (View T)

  module _ (s : St) (l : Lawful m parts limits packed s) (id : ℕ) (v : View T) (c : ℕ) (seen : get_elem? s.views id ≡ some v) (near : c < length limits) where
    abbrev word : ℕ
    word = word_of packed (length parts + c)

    abbrev found : ℕ
    found = slice_index s.words word

    wide : word < length s.words
    wide = subst (λ (n : ℕ). word < n) (sym l.places.wide) (word_rises packed (length parts + c) (length parts + length limits) (omega arith))

    word_now : (n : ℕ) → slice_index (set s.words word n) word ≡ n
    word_now n = get_or-set_same s.words word n 0 wide

    word_other : (n k : ℕ) → k ≢ length parts + c → slice_index (set s.words word n) (word_of packed k) ≡ slice_index s.words (word_of packed k)
    word_other n k apart = get_or-set_other s.words word (word_of packed k) n 0 (words_apart packed k (length parts + c) apart)

    -- a change of one view in its numbers of counters alone
    places_stay : (n : ℕ) (w : View T) → w.held ≡ v.held → w.units ≡ v.units → w.rises ≡ v.rises → w.portions ≡ v.portions → IsView m parts limits l.places.now w
        → Places m parts limits packed record { words = set s.words word n; homes = s.homes; views = set s.views id w }
    places_stay n w held units rises portions ok = same_places m parts limits packed s record { words = set s.words word n; homes = s.homes; views = set s.views id w } l.places refl (length-set s.words word n)
        (λ p close. word_other n p (λ e. absurd (omega arith)))
        record {
          holding = λ p. total_kept (number (holding p)) s.views id v w seen (ap (one_at p) held);
          having = λ u. total_kept (number (having u)) s.views id v w seen (ap (times u) units);
          counted = λ p i. total_kept (number (counted p i)) s.views id v w seen (ap (total (rise_at p i)) rises);
          portions = total_kept (number portion_count) s.views id v w seen portions;
        }
        (λ j u e. ⊎_elim
        (λ (h : (j ≡ id) × (w ≡ u)). subst (IsView m parts limits l.places.now) h.1 ok)
        (λ (h : (j ≢ id) × (get_elem? s.views j ≡ some u)). l.places.each j u h.1)
        (at_set s.views id j w u e))

    sub_most : (k : ℕ) → sum (subtractions k) s.views ≤ sum (additions k) s.views
    sub_most k = total_le (number (subtractions k)) (number (additions k)) s.views (λ j u e. (l.places.each j u e).fewer k)

    low_all : (k : ℕ) → sum (low_additions k) s.views ≤ sum (additions k) s.views
    low_all k = total_le (number (low_additions k)) (number (additions k)) s.views (λ j u e. (l.places.each j u e).low k)

    module _ (small : found < 2 ^ 64) (portion : 0 < v.portions) where
      abbrev w : View T
      w = add_view c found v

      abbrev views' : List (View T)
      views' = set s.views id w

      add_sum : (k : ℕ) → sum (additions k) views' + number (additions k) v ≡ sum (additions k) s.views + number (additions k) w
      add_sum k = total_set (number (additions k)) s.views id v w seen

      low_sum : (k : ℕ) → sum (low_additions k) views' + number (low_additions k) v ≡ sum (low_additions k) s.views + number (low_additions k) w
      low_sum k = total_set (number (low_additions k)) s.views id v w seen

      sub_sum : (k : ℕ) → sum (subtractions k) views' ≡ sum (subtractions k) s.views
      sub_sum k = total_kept (number (subtractions k)) s.views id v w seen refl

      add_full : slice_index v.limits c ≡ slice_index limits c → sum (low_additions c) views' < sum (additions c) views' → slice_index limits c ≤ sum (low_additions c) views'
      add_full same less =
          let a = add_sum c in
          let b = low_sum c in
          let d = added_here v c found in
          let most = low_all c in
          let full = l.counters.full c in
          ⊎_elim
          (λ (below : found < slice_index v.limits c). let f = low_here v c found below in let g = full (omega arith) in omega arith)
          (λ (above : slice_index v.limits c ≤ found).
          let f = low_none v c found c above in
          ⊎_elim
          (λ (short : sum (low_additions c) s.views < sum (additions c) s.views). let g = full short in omega arith)
          (λ (even : sum (additions c) s.views ≤ sum (low_additions c) s.views). let g = word_below found _ _ small (sub_most c) (l.counters.word c near) in omega arith)
          (cases_lt (sum (low_additions c) s.views) (sum (additions c) s.views)))
          (cases_lt found (slice_index v.limits c))

      adds_one : Lawful m parts limits packed record { words = set s.words word ((found + 1) % 2 ^ 64); homes = s.homes; views = views' }
      adds_one =
          let ok = l.places.each id v seen in
          let limit : slice_index v.limits c ≡ slice_index limits c = ap (λ ls. slice_index ls c) (ok.made portion).1 in
          record {
            places = places_stay ((found + 1) % 2 ^ 64) w refl refl refl refl record {
              spent = λ e. absurd (omega arith);
              made = ok.made;
              held = ok.held;
              beside = ok.beside;
              topped = ok.topped;
              fewer = λ k. let f = ok.fewer k in omega arith;
              low = λ k. low_most v c found k (ok.low k);
            };
            counters = record {
              word = λ k close. ⊎_elim
                  (λ (e : k ≡ c).
                  let a = add_sum c in
                  let b = added_here v c found in
                  let d : sum (additions c) views' ≡ sum (additions c) s.views + 1 = omega arith in
                  subst (λ (j : ℕ). (slice_index (set s.words word ((found + 1) % 2 ^ 64)) (word_of packed (length parts + j)) + sum (subtractions j) views') % 2 ^ 64 ≡ sum (additions j) views' % 2 ^ 64) (sym e)
                  (ap (λ n. (n + sum (subtractions c) views') % 2 ^ 64) (word_now ((found + 1) % 2 ^ 64)) ∙ ap (λ n. ((found + 1) % 2 ^ 64 + n) % 2 ^ 64) (sub_sum c) ∙ one_up found _ _ (l.counters.word c near) ∙ ap (λ n. n % 2 ^ 64) (sym d)))
                  (λ (f : k ≢ c).
                  let a = add_sum k in
                  let b = added_apart v c found k f in
                  let d : sum (additions k) views' ≡ sum (additions k) s.views = omega arith in
                  ap (λ n. (n + sum (subtractions k) views') % 2 ^ 64) (word_other ((found + 1) % 2 ^ 64) (length parts + k) (λ e. f (omega arith))) ∙ ap (λ n. (slice_index s.words (word_of packed (length parts + k)) + n) % 2 ^ 64) (sub_sum k) ∙ l.counters.word k close ∙ ap (λ n. n % 2 ^ 64) (sym d))
                  (cases_eq k c);
              full = λ k. ⊎_elim
                  (λ (e : k ≡ c). subst (λ (j : ℕ). sum (low_additions j) views' < sum (additions j) views' → slice_index limits j ≤ sum (low_additions j) views') (sym e) (add_full limit))
                  (λ (f : k ≢ c). λ less.
                  let a = add_sum k in
                  let b = low_sum k in
                  let d = added_apart v c found k f in
                  let g = low_apart v c found k f in
                  let full = l.counters.full k (omega arith) in
                  omega arith)
                  (cases_eq k c);
            };
          }

    module _ (portion : 0 < v.portions) (more : number (subtractions c) v < number (additions c) v) where
      abbrev less_one : View T
      less_one = subtract_view c v

      fewer_left : (k : ℕ) → number (subtractions k) v ≤ number (additions k) v → number (subtractions k) less_one ≤ number (additions k) v
      fewer_left k le = ⊎_elim
          (λ (e : k ≡ c). subst (λ (j : ℕ). number (subtractions j) less_one ≤ number (additions j) v) (sym e) (let a = taken_off v c in omega arith))
          (λ (f : k ≢ c). let a = taken_off_apart v c k f in omega arith)
          (cases_eq k c)

      kept_sum : (k : ℕ) → sum (additions k) (set s.views id less_one) ≡ sum (additions k) s.views
      kept_sum k = total_kept (number (additions k)) s.views id v less_one seen refl

      kept_low : (k : ℕ) → sum (low_additions k) (set s.views id less_one) ≡ sum (low_additions k) s.views
      kept_low k = total_kept (number (low_additions k)) s.views id v less_one seen refl

      subtracts_one : Lawful m parts limits packed record { words = set s.words word ((found + (2 ^ 64 - 1)) % 2 ^ 64); homes = s.homes; views = set s.views id less_one }
      subtracts_one =
          let ok = l.places.each id v seen in
          let n : ℕ = (found + (2 ^ 64 - 1)) % 2 ^ 64 in
          let views : List (View T) = set s.views id less_one in
          record {
            places = places_stay n less_one refl refl refl refl record {
              spent = λ e. absurd (omega arith);
              made = ok.made;
              held = ok.held;
              beside = ok.beside;
              topped = ok.topped;
              fewer = λ k. fewer_left k (ok.fewer k);
              low = ok.low;
            };
            counters = record {
              word = λ k close. ⊎_elim
                  (λ (e : k ≡ c).
                  let a = total_set (number (subtractions c)) s.views id v less_one seen in
                  let b = taken_off v c in
                  let d : sum (subtractions c) views ≡ sum (subtractions c) s.views + 1 = omega arith in
                  subst (λ (j : ℕ). (slice_index (set s.words word n) (word_of packed (length parts + j)) + sum (subtractions j) views) % 2 ^ 64 ≡ sum (additions j) views % 2 ^ 64) (sym e)
                  (ap (λ x. (x + sum (subtractions c) views) % 2 ^ 64) (word_now n) ∙ ap (λ x. (n + x) % 2 ^ 64) d ∙ one_down found _ _ (l.counters.word c near) ∙ ap (λ x. x % 2 ^ 64) (sym (kept_sum c))))
                  (λ (f : k ≢ c).
                  let a = total_set (number (subtractions k)) s.views id v less_one seen in
                  let b = taken_off_apart v c k f in
                  let d : sum (subtractions k) views ≡ sum (subtractions k) s.views = omega arith in
                  ap (λ x. (x + sum (subtractions k) views) % 2 ^ 64) (word_other n (length parts + k) (λ e. f (omega arith))) ∙ ap (λ x. (slice_index s.words (word_of packed (length parts + k)) + x) % 2 ^ 64) d ∙ l.counters.word k close ∙ ap (λ x. x % 2 ^ 64) (sym (kept_sum k)))
                  (cases_eq k c);
              full = λ k less. let a = kept_sum k in let b = kept_low k in let g = l.counters.full k (omega arith) in omega arith;
            };
          }

    -- what a load tells a seat with all portions
    told_load : found < 2 ^ 64 → v.limits ≡ limits → v.portions ≡ all_portions → Loaded c found v
    told_load small same mine =
        let all = λ (t : Tally) (none' : number t (nobody {T = T}) ≡ 0). has_all t none' s.views id v seen l.places.portions mine (λ j u e. (l.places.each j u e).spent) in
        let a : sum (additions c) s.views ≡ number (additions c) v = all (additions c) refl in
        let b : sum (subtractions c) s.views ≡ number (subtractions c) v = all (subtractions c) refl in
        let d : sum (low_additions c) s.views ≡ number (low_additions c) v = all (low_additions c) refl in
        let le = sub_most c in
        let e : slice_index v.limits c ≡ slice_index limits c = ap (λ ls. slice_index ls c) same in
        record {
          value = word_is found _ _ small le (l.counters.word c near) ∙ (λ i. (a i - b i) % 2 ^ 64);
          full = λ less. let f = l.counters.full c (omega arith) in omega arith;
        }

-- The step on the counter c of a seat, at a number that is its word
module _ {T : Type 0} (m : Meaning T) (parts : List T) (limits : List ℕ) (packed slots id c : ℕ) (me : Me T (View T)) (own : me.0.parts ≡ parts) (own' : me.0.limits ≡ limits) (portion : 0 < me.0.portions) (near : c < length limits) where
  abbrev at_word : ℕ
  at_word = word_of packed (length parts + c)

  told_moment : (s : State T (View T)) → Places m parts limits packed s → get_elem? s.views id ≡ some me.0 → SeesMoment m me
  told_moment s r seen = subst (λ (k : List T × List ℕ). Moment m k.0 k.1 me.0.units) (λ i. (sym own i, sym own' i)) (momentous m parts limits s r id me.0 seen)

  adds_at : Allows (Lawful m parts limits packed) slots id me at_word (λ n. (n + 1) % 2 ^ 64) (added m c (step slots at_word 1 0 none) me)
  adds_at s l _ seen small = (
    add_view c (slice_index s.words at_word) me.0,
    keeps,
    tt,
    adds_one m parts limits packed s l id me.0 c seen near small portion,
    (refl, told_moment s l.places seen),
  )

  subtracts_at : number (subtractions c) me.0 < number (additions c) me.0 → Allows (Lawful m parts limits packed) slots id me at_word (λ n. (n + (2 ^ 64 - 1)) % 2 ^ 64) (subtracted m c (step slots at_word 1 0 none) me)
  subtracts_at more s l _ seen small = (
    subtract_view c me.0,
    keeps,
    tt,
    subtracts_one m parts limits packed s l id me.0 c seen near portion more,
    (refl, told_moment s l.places seen),
  )

  loads_at : Allows (Lawful m parts limits packed) slots id me at_word (λ n. n) (loaded m c (step slots at_word 0 0 none) me)
  loads_at s l _ seen small = (
    me.0,
    keeps,
    tt,
    subst (λ (k : List ℕ × List (View T)). Lawful m parts limits packed record { words = k.0; homes = s.homes; views = k.1 }) (λ i. (sym (set_word s.words at_word (slice_index s.words at_word) refl) i, sym (set_again s.views id me.0 seen) i)) l,
    (refl, told_load m parts limits packed s l id me.0 c seen near small own', told_moment s l.places seen),
  )

  module _ (i n : ℕ) (word : i ≡ at_word) (named : n ≡ c) where
    pub adds : Allows (Lawful m parts limits packed) slots id me i (λ k. (k + 1) % 2 ^ 64) (added m n (step slots i 1 0 none) me)
    adds = subst (λ (k : ℕ × ℕ). Allows (Lawful m parts limits packed) slots id me k.0 (λ r. (r + 1) % 2 ^ 64) (added m k.1 (step slots k.0 1 0 none) me)) (λ j. (sym word j, sym named j)) adds_at

    pub subtracts : number (subtractions c) me.0 < number (additions c) me.0 → Allows (Lawful m parts limits packed) slots id me i (λ k. (k + (2 ^ 64 - 1)) % 2 ^ 64) (subtracted m n (step slots i 1 0 none) me)
    subtracts more = subst (λ (k : ℕ × ℕ). Allows (Lawful m parts limits packed) slots id me k.0 (λ r. (r + (2 ^ 64 - 1)) % 2 ^ 64) (subtracted m k.1 (step slots k.0 1 0 none) me)) (λ j. (sym word j, sym named j)) (subtracts_at more)

    pub loads : Allows (Lawful m parts limits packed) slots id me i (λ k. k) (loaded m n (step slots i 0 0 none) me)
    loads = subst (λ (k : ℕ × ℕ). Allows (Lawful m parts limits packed) slots id me k.0 (λ r. r) (loaded m k.1 (step slots k.0 0 0 none) me)) (λ j. (sym word j, sym named j)) loads_at

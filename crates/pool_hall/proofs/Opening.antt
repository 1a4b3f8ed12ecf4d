-- The rule at the start, and what it says at the end.
use Rattle.std.proofs.Common.{◌≡◌, ℕ, zero, suc, ◌+◌, ◌%◌, ◌^◌, ◌<◌, List, [], ◌∷◌, length, replicate, get_or, None, sym, refl, ap, ◌∙◌, subst, arith, slice_index}
use mathlib.Core.Option.{some, none, some-injective, some-ne-none}
use mathlib.Core.Option as maybe
use lib.ListN.{get_elem?, length-map, length-replicate, get_or-replicate}
use Rattle.atomic_table.specs.Table.{opening, Final, Seen}
use Rattle.atomic_table.proofs.Lists.{at_map}
use Rattle.pool_hall.specs.declared.unit_name.UnitName.{UnitName}
use Rattle.pool_hall.specs.declared.view.View.{View}
use Rattle.pool_hall.specs.Unit.{times}
use Rattle.pool_hall.specs.Tally.{holding, having, counted, additions, low_additions, one_at, all_portions}
use Rattle.pool_hall.specs.Ending.{AllTold}
use Rattle.pool_hall.specs.Meaning.{Meaning, IsFreshAt, AllFresh, AllStand}
use Rattle.pool_hall.specs.Rule.{word_of, first_view, away_of, out, AwayIsKept, IsView, Lawful}
use Rattle.pool_hall.proofs.Totals.{inside, got, gotten, same_list, total_zero}
use Rattle.pool_hall.proofs.Told.{has_all}
use Rattle.pool_hall.proofs.Words.{word_rises}

module _ {T : Type 0} (m : Meaning T) (parts : List T) (limits : List ℕ) (packed : ℕ) where
  module _ (fresh : AllFresh m parts limits) (words : List ℕ) (blank : words ≡ replicate (word_of packed (length parts + length limits)) 0) where
    fresh_at : (p : ℕ) (x : T) → get_elem? parts p ≡ some x → IsFreshAt m parts limits p x
    fresh_at p x e = fresh p x (got parts p x e)

    none_away : (p : ℕ) (x : T) → get_elem? parts p ≡ some x → (u : UnitName) → times u (m.away x) ≡ 0
    none_away p x e u = ap (times u) (fresh_at p x e).none_away

    none_kept : (p : ℕ) (x : T) → get_elem? parts p ≡ some x → (u : UnitName) → times u (m.kept x) ≡ 0
    none_kept p x e u = ap (times u) (fresh_at p x e).none_kept

    none_out : (u : UnitName) → out m parts limits u parts ≡ 0
    none_out u = go (m.place parts limits u) (get_elem? parts (m.place parts limits u)) refl
      where
        go : (p : ℕ) (o : maybe.Option T) → get_elem? parts p ≡ o → away_of m parts limits u o ≡ 0
        go p none e = refl
        go p (some x) e = none_away p x e u

    zero_word : (p : ℕ) → p < length parts + length limits → slice_index words (word_of packed p) ≡ 0
    zero_word p near = ap (λ l. get_or l (word_of packed p) 0) blank ∙ get_or-replicate (word_of packed (length parts + length limits)) (word_of packed p) 0 0 (word_rises packed p (length parts + length limits) near)

    opens_view : IsView m parts limits parts (first_view parts limits)
    opens_view = record {
      spent = λ e. absurd (omega arith);
      made = λ _. (refl, refl);
      held = tt;
      beside = λ u region h. absurd (omega arith);
      topped = λ p x h _. absurd (omega arith);
      fewer = λ c. omega arith;
      low = λ c. omega arith;
    }

    only_first : (id : ℕ) (v : View T) → get_elem? (first_view parts limits ∷ []) id ≡ some v → IsView m parts limits parts v
    only_first zero v e = subst (IsView m parts limits parts) (some-injective _ _ e) opens_view
    only_first (suc id) v e = absurd (some-ne-none v (sym e))

    pub opens : Lawful m parts limits packed (opening words parts (first_view parts limits))
    opens = record {
      places = record {
        now = parts;
        wide = ap length blank ∙ length-replicate (word_of packed (length parts + length limits)) 0;
        roomy = length-map parts some;
        all = refl;
        part = λ p x e. record {
          fits = (fresh_at p x e).fits;
          own = λ u h. let z = none_away p x e u in absurd (omega arith);
          once = λ u. let z = none_away p x e u in omega arith;
          small = λ i. let z = (fresh_at p x e).at_zero i in omega arith;
          beside = λ u region h. let z = none_kept p x e u in absurd (omega arith);
        };
        lock = λ p near. zero_word p (omega arith);
        once = λ p. omega arith;
        home = λ p x e _. at_map some parts p x e;
        unit = λ u. let a = none_out u in let b = total_zero (λ x. times u (m.kept x)) parts (λ p x e. none_kept p x e u) in omega arith;
        count = λ p i x e. (fresh_at p x e).at_zero i;
        exact = λ p i x e _. (fresh_at p x e).at_zero i;
        portions = refl;
        each = only_first;
      };
      counters = record { word = λ c near. let z = zero_word (length parts + c) (omega arith) in ap (λ n. (n + 0) % 2 ^ 64) z; full = λ c less. absurd (omega arith) };
    }

  -- what the parts are, once a seat has all portions, no place and no unit, and what its view tells of them
  pub record Ended (v : View T) (xs : List T) : Type 0 where
    pub all : length xs ≡ length parts
    pub stand : AllStand m parts limits xs
    pub units : AwayIsKept m parts limits xs
    pub told : AllTold m limits v xs

  pub closes : (id : ℕ) (v : View T) (ws : List ℕ) (xs ys : List T) → v.portions ≡ all_portions → v.held ≡ None → v.units ≡ [] → Final (Seen (Lawful m parts limits packed) id v) ws xs → ys ≡ xs → Ended v ys
  closes id v ws xs ys mine free none' f moved =
      let s = f.0 in
      let r = f.1.0.places in
      let seen = f.1.1 in
      let spent = λ (j : ℕ) (w : View T) (e : get_elem? s.views j ≡ some w). (r.each j w e).spent in
      let all : length r.now ≡ length parts = r.all in
      let unheld = λ (p : ℕ). has_all (holding p) refl s.views id v seen r.portions mine spent ∙ ap (one_at p) free in
      let home = λ (p : ℕ) (x : T) (e : get_elem? r.now p ≡ some x). let near = inside r.now p x e in f.4 p x (r.home p x e (r.lock p (omega arith) ∙ unheld p)) in
      let same : r.now ≡ xs = same_list r.now xs (r.all ∙ sym r.roomy ∙ f.3) home in
      subst (Ended v) (same ∙ sym moved) record {
        all = r.all;
        stand = λ p x e. r.part p x (gotten r.now p x e);
        units = λ u. let a = has_all (having u) refl s.views id v seen r.portions mine spent in let b = ap (times u) none' in let c = r.unit u in omega arith;
        told = record {
          topped = λ p x e noted. (r.each id v seen).topped p x noted (gotten r.now p x e);
          count = λ p i x e. r.count p i x (gotten r.now p x e) ∙ ap (λ n. n % 2 ^ 64) (has_all (counted p i) refl s.views id v seen r.portions mine spent);
          exact = λ p i x e steady. r.exact p i x (gotten r.now p x e) steady ∙ has_all (counted p i) refl s.views id v seen r.portions mine spent;
          full = λ c less.
              let a = has_all (additions c) refl s.views id v seen r.portions mine spent in
              let b = has_all (low_additions c) refl s.views id v seen r.portions mine spent in
              let k = f.1.0.counters.full c (omega arith) in
              omega arith;
        };
      }

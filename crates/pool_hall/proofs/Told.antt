-- What the rule tells a seat that takes a place.
use Rattle.std.proofs.Common.{◌≡◌, ◌≢◌, ℕ, ◌+◌, ◌%◌, ◌^◌, ◌<◌, ◌≤◌, true, List, ⊎_elim, sym, refl, ap, ◌∙◌, arith}
use Rattle.std.proofs.lemmas.Bool.{cases_eq, cases_lt}
use mathlib.Core.Option.{some, none, some-injective}
use mathlib.Core.Option as maybe
use lib.ListN.{get_elem?}
use Rattle.atomic_table.specs.Table.{State}
use Rattle.pool_hall.specs.declared.unit_name.UnitName.{UnitName}
use Rattle.pool_hall.specs.declared.view.View.{View}
use Rattle.pool_hall.specs.Unit.{times, pick_of}
use Rattle.pool_hall.specs.Tally.{Tally, having, counted, portion_count, number, sum, all_portions}
use Rattle.pool_hall.specs.Meaning.{Meaning}
use Rattle.pool_hall.specs.Rule.{nobody, away_of, out, keeping, Places}
use Rattle.pool_hall.specs.Step.{Taken}
use Rattle.pool_hall.specs.Moment.{Moment}
use Rattle.pool_hall.proofs.Moments.{units_but, but_one, beside_but}
use Rattle.pool_hall.proofs.Totals.{got, gotten, total_at, total_two, total_some, total_alone}

-- a view with all portions has all of what views have
pub has_all : {T : Type 0} (t : Tally) → number t (nobody {T = T}) ≡ 0 → (views : List (View T)) (id : ℕ) (v : View T) → get_elem? views id ≡ some v → sum portion_count views ≡ all_portions → v.portions ≡ all_portions
    → ((j : ℕ) (w : View T) → get_elem? views j ≡ some w → w.portions ≡ 0 → w ≡ nobody) → sum t views ≡ number t v
has_all {T} t none' views id v seen all mine spent =
    total_alone (number t) (number portion_count) views id v seen (all ∙ sym mine) (λ j w at' zero'. ap (number t) (spent j w at' zero') ∙ none')

module _ {T : Type 0} (m : Meaning T) (parts : List T) (limits : List ℕ) {packed : ℕ} (s : State T (View T)) (r : Places m parts limits packed s) where
  out_once : (u : UnitName) → out m parts limits u r.now ≤ 1
  out_once u = go (m.place parts limits u) (get_elem? r.now (m.place parts limits u)) refl
    where
      go : (p : ℕ) (o : maybe.Option T) → get_elem? r.now p ≡ o → away_of m parts limits u o ≤ 1
      go p none e = omega arith
      go p (some x) e = (r.part p x e).once u

  -- no unit is twice with seats and parts together
  pub one_hand : (u : UnitName) → sum (having u) s.views + keeping m parts limits u r.now ≤ 1
  one_hand u = let a = out_once u in let b = r.unit u in omega arith

  out_at : (u : UnitName) (p : ℕ) (x : T) → get_elem? r.now p ≡ some x → m.place parts limits u ≡ p → out m parts limits u r.now ≡ times u (m.away x)
  out_at u p x here is = ap (away_of m parts limits u) (ap (get_elem? r.now) is ∙ here)

  -- what a seat is told of the moment
  abbrev pub momentous : (id : ℕ) (v : View T) → get_elem? s.views id ≡ some v → Moment m parts limits v.units
  momentous id v seen = record {
    now = r.now;
    others = units_but id s.views;
    all = r.all;
    stand = λ q y e. r.part q y (gotten r.now q y e);
    unit = λ u. let a = but_one u s.views id v seen in let b = r.unit u in omega arith;
    own = (r.each id v seen).beside;
    beside = beside_but s.views id (λ j w e. (r.each j w e).beside);
  }

  module _ (id p : ℕ) (v : View T) (x : T) (seen : get_elem? s.views id ≡ some v) (here : get_elem? r.now p ≡ some x) where
    -- a region unit that is away, whose pick unit the view has, is with no other seat and with no part
    nowhere_else : (u : UnitName) → u.region ≡ true → 0 < times (pick_of u) v.units → times u v.units ≡ 0 → sum (having u) s.views + keeping m parts limits u r.now ≡ 0
    nowhere_else u region pick none' =
        let one = one_hand (pick_of u) in
        let mine = total_at (number (having (pick_of u))) s.views id v seen in
        let with_seats : sum (having u) s.views ≡ 0 = ⊎_elim
        (λ (more : 0 < sum (having u) s.views).
        let o = total_some (number (having u)) s.views more in
        let theirs : 0 < times (pick_of u) o.1.units = (r.each o.0 o.1 o.2).beside u region o.3 in
        ⊎_elim
        (λ (is : o.0 ≡ id).
        let same : o.1 ≡ v = some-injective o.1 v (sym o.2 ∙ (ap (get_elem? s.views) is ∙ seen)) in
        let n : number (having u) o.1 ≡ 0 = ap (number (having u)) same ∙ none' in
        let k = o.3 in
        absurd (omega arith))
        (λ (not : o.0 ≢ id). let two = total_two (number (having (pick_of u))) s.views id o.0 v o.1 not seen o.2 in absurd (omega arith))
        (cases_eq o.0 id))
        (λ (less : sum (having u) s.views ≤ 0). omega arith)
        (cases_lt 0 (sum (having u) s.views)) in
        let with_parts : keeping m parts limits u r.now ≡ 0 = ⊎_elim
        (λ (more : 0 < keeping m parts limits u r.now).
        let o = total_some (λ z. times u (m.kept z)) r.now more in
        let theirs : 0 < times (pick_of u) (m.kept o.1) = (r.part o.0 o.1 o.2).beside u region o.3 in
        let there = total_at (λ z. times (pick_of u) (m.kept z)) r.now o.0 o.1 o.2 in
        absurd (omega arith))
        (λ (less : keeping m parts limits u r.now ≤ 0). omega arith)
        (cases_lt 0 (keeping m parts limits u r.now)) in
        omega arith

    told_mine : (u : UnitName) → u.region ≡ true → 0 < times u (m.away x) → 0 < times (pick_of u) v.units → 0 < times u v.units
    told_mine u region away pick = ⊎_elim
        (λ (some' : 0 < times u v.units). some')
        (λ (none' : times u v.units ≤ 0).
        let a = nowhere_else u region pick (omega arith) in
        let b = r.unit u in
        let c = out_at u p x here ((r.part p x here).own u away) in
        absurd (omega arith))
        (cases_lt 0 (times u v.units))

    told_away : (u : UnitName) → m.place parts limits u ≡ p → times u v.units ≤ times u (m.away x)
    told_away u is = let a = total_at (number (having u)) s.views id v seen in let b = r.unit u in let c = out_at u p x here is in omega arith

    told_kept : (u : UnitName) → 0 < times u (m.kept x) → times u v.units ≡ 0
    told_kept u some' = let a = total_at (number (having u)) s.views id v seen in let b = one_hand u in let c = total_at (λ z. times u (m.kept z)) r.now p x here in omega arith

    told_all : v.portions ≡ all_portions → (i : ℕ) → sum (counted p i) s.views ≡ number (counted p i) v
    told_all mine i = has_all (counted p i) refl s.views id v seen r.portions mine (λ j w at'. (r.each j w at').spent)

    pub taken : Taken m parts limits p x v
    taken = record {
      stands = r.part p x here;
      away = told_away;
      mine = told_mine;
      kept = told_kept;
      kept_once = λ u. let b = one_hand u in let c = total_at (λ z. times u (m.kept z)) r.now p x here in omega arith;
      once = λ u. let a = total_at (number (having u)) s.views id v seen in let b = one_hand u in omega arith;
      beside = (r.each id v seen).beside;
      topped = λ noted. (r.each id v seen).topped p x noted here;
      count = λ mine i. r.count p i x here ∙ ap (λ n. n % 2 ^ 64) (told_all mine i);
      exact = λ mine steady i. r.exact p i x here steady ∙ told_all mine i;
      moment = momentous id v seen;
      here = got r.now p x here;
    }

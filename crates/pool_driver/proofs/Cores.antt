-- The parts of a moment of a hall, as the parts of a core.
use Rattle.std.proofs.Common.{◌≡◌, ◌≢◌, ℕ, zero, suc, ◌+◌, ◌<◌, ◌≤◌, List, [], ◌∷◌, ◌++◌, length, map, ⊎_elim, sym, refl, ap, subst, ◌∙◌, arith, Option, Some}
use Rattle.std.proofs.lemmas.Bool.{cases_lt, cases_eq}
use mathlib.Core.Option.{some, none, some-injective}
use mathlib.Core.Option as maybe
use lib.ListN.{get_elem?}
use Rattle.pool_hall.specs.Sum.{one_if, total}
use Rattle.pool_hall.specs.Unit.{same, times}
use Rattle.pool_hall.specs.Meaning.{Meaning}
use Rattle.pool_hall.specs.Moment.{Moment}
use Rattle.pool_hall.specs.Rule.{away_of, out}
use Rattle.pool_hall.specs.declared.unit_name.UnitName.{UnitName}
use Rattle.pool_hall.proofs.Totals.{total_append, total_only, total_zero, inside, element, got}
use Rattle.pool_hall.proofs.Units.{times_append}
use Rattle.pool_slots.specs.ListUnits.{all_away, all_kept}
use Rattle.pool_slots.specs.PartUnits.{part_away, part_kept}
use Rattle.pool_slots.specs.declared.part.PoolPart.{PoolPart}
use Rattle.pool_slots.proofs.ListUnits.{read_at}
use Rattle.pool_alloc.specs.BetweenSteps.{IsCore, IsPartAt, IsPoolPlan}
use Rattle.pool_alloc.specs.Places.{Thing}
use Rattle.pool_alloc.specs.declared.frame.FrameLists.{FrameLists}
use Rattle.pool_alloc.specs.declared.pool_core.Counters.{Counters}
use Rattle.pool_driver.specs.Placed.{About, about_made, pool_meaning}
use Rattle.pool_driver.specs.Pools.{IsPool, core_of}
use Rattle.pool_driver.proofs.Multisets.{same_totals}

module _ {T P H : Type 0} (about : T → About) (inner : T → PoolPart P H) where
  abbrev means : Meaning T
  means = pool_meaning about inner

  -- what all parts have away, and what they keep
  pub away_now : (t : Thing) (now : List T) → total t (all_away (map inner now)) ≡ total (λ y. total t (part_away (inner y))) now
  away_now t [] = refl
  away_now t (y ∷ now) = let a = total_append t (part_away (inner y)) (all_away (map inner now)) in let b = away_now t now in omega arith

  pub kept_now : (t : Thing) (now : List T) → total t (all_kept (map inner now)) ≡ total (λ y. total t (part_kept (inner y))) now
  kept_now t [] = refl
  kept_now t (y ∷ now) = let a = total_append t (part_kept (inner y)) (all_kept (map inner now)) in let b = kept_now t now in omega arith

  pub map_at : (now : List T) (p : ℕ) (y : T) → get_elem? now p ≡ some y → get_elem? (map inner now) p ≡ some (inner y)
  map_at [] p y e = absurd (let h = inside [] p y e in omega arith)
  map_at (x ∷ now) zero y e = ap (λ (z : T). some (inner z)) (some-injective x y e)
  map_at (x ∷ now) (suc p) y e = map_at now p y e

  pub map_length : (now : List T) → length (map inner now) ≡ length now
  map_length [] = refl
  map_length (x ∷ now) = let r = map_length now in omega arith

  module _ (made : List T) (limits : List ℕ) (us : List UnitName) (moment : Moment means made limits us) where
    -- all that parts have away is what the parts at the units' places have
    out_is : (u : UnitName) → total (λ y. times u (part_away (inner y))) moment.now ≡ out means made limits u moment.now
    out_is u = go (get_elem? moment.now (means.place made limits u)) refl
      where
        there : (q : ℕ) (y : T) → get_elem? moment.now q ≡ some y → 0 < times u (part_away (inner y)) → means.place made limits u ≡ q
        there q y e some' = (moment.stand q y (got moment.now q y e)).own u some'

        none_at : (q : ℕ) (y : T) → q ≢ means.place made limits u → get_elem? moment.now q ≡ some y → times u (part_away (inner y)) ≡ 0
        none_at q y other e = ⊎_elim (λ (more : 0 < times u (part_away (inner y))). absurd (other (sym (there q y e more)))) (λ (less : times u (part_away (inner y)) ≤ 0). omega arith) (cases_lt 0 (times u (part_away (inner y))))

        go : (o : maybe.Option T) → get_elem? moment.now (means.place made limits u) ≡ o → total (λ y. times u (part_away (inner y))) moment.now ≡ away_of means made limits u o
        go none e = total_zero (λ y. times u (part_away (inner y))) moment.now (λ q y at. ⊎_elim
            (λ (is : q ≡ means.place made limits u). absurd (let f : none ≡ some y = sym e ∙ (ap (get_elem? moment.now) (sym is) ∙ at) in cc))
            (λ (other : q ≢ means.place made limits u). none_at q y other at)
            (cases_eq q (means.place made limits u)))
        go (some x) e = total_only (λ y. times u (part_away (inner y))) moment.now (means.place made limits u) x e (λ q y other at. none_at q y other at)

    -- Whatever each unit weighs: what parts have away is with this seat, with the others, or kept.
    pub all_weigh : (t : Thing) → total t us + total t moment.others + total t (all_kept (map inner moment.now)) ≡ total t (all_away (map inner moment.now))
    all_weigh t =
        let mine : List UnitName = us ++ (moment.others ++ all_kept (map inner moment.now)) in
        let each : (u : UnitName) → times u mine ≡ times u (all_away (map inner moment.now)) =
        (λ u.
        let a = times_append u us (moment.others ++ all_kept (map inner moment.now)) in
        let b = times_append u moment.others (all_kept (map inner moment.now)) in
        let c = kept_now (λ w. one_if (same u w)) moment.now in
        let d = away_now (λ w. one_if (same u w)) moment.now in
        let e = out_is u in
        let f = moment.unit u in
        omega arith) in
        let r = same_totals mine (all_away (map inner moment.now)) each t in
        let a = total_append t us (moment.others ++ all_kept (map inner moment.now)) in
        let b = total_append t moment.others (all_kept (map inner moment.now)) in
        omega arith

    module _ (a : About) (of : about_made about made ≡ Some a) (pool : IsPool a (length made)) where
      -- a part that fits is one of the pool
      part_is : (q : ℕ) (y : T) → get_elem? moment.now q ≡ some y → IsPartAt a.maker a.settings a.plan q (inner y)
      part_is q y e =
          let fits = (moment.stand q y (got moment.now q y e)).fits in
          let same' : Some (about y) ≡ Some a = sym fits.of ∙ of in
          let is : about y ≡ a = cc in
          subst (λ (z : About). IsPartAt z.maker z.settings z.plan q (inner y)) is fits.part

      -- The parts of the moment are those of a sound core.
      pub core_is : (n : Counters) (spare : Option (FrameLists P)) → IsCore a.maker (core_of a n spare (map inner moment.now))
      core_is n spare = record {
        settings = pool.settings;
        page = pool.page;
        plan = subst (IsPoolPlan a.plan) (sym (map_length moment.now ∙ moment.all)) pool.plan;
        stripes = pool.stripes;
        parts = λ p below.
            let it = element moment.now p (let e = map_length moment.now in omega arith) in
            subst (λ (z : PoolPart P H). IsPartAt a.maker a.settings a.plan p z) (sym (read_at (map inner moment.now) p _ (inner it.0) (map_at moment.now p it.0 it.1))) (part_is p it.0 it.1);
      }

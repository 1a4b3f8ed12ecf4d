-- Grants that are given back together: the first of them may be given back, and then the others.
use Rattle.std.proofs.Common.{◌≡◌, ◌⊎◌, ⊎_elim, inl, inr, ℕ, ◌+◌, ◌-◌, ◌<◌, ◌≤◌, List, [], ◌∷◌, ◌++◌, refl, sym, ap, ◌∙◌, arith, Some}
use Rattle.std.specs.List.{AllByRecursion}
use Rattle.pool_hall.specs.Sum.{total}
use Rattle.pool_hall.specs.Unit.{times, minus, pick_of, Beside}
use Rattle.pool_hall.specs.declared.unit_name.UnitName.{UnitName}
use Rattle.pool_hall.specs.declared.view.View.{View}
use Rattle.pool_hall.proofs.Moments.{beside_append}
use Rattle.pool_hall.proofs.Totals.{total_append}
use Rattle.pool_hall.proofs.Units.{times_append, times_minus}
use Rattle.pool_alloc.specs.Calls.{IsGrant}
use Rattle.pool_alloc.specs.Places.{Counter, Thing, only}
use Rattle.pool_alloc.specs.Stepping.{grant_count, grant_counted}
use Rattle.pool_alloc.specs.declared.frame.Grant.{Grant}
use Rattle.pool_alloc.specs.declared.frame.Outcome.TheVariants.{Granted}
use Rattle.pool_slots.specs.declared.plan.Plan.{Plan}
use Rattle.pool_driver.specs.Faults.{GrantKeeps}
use Rattle.pool_driver.specs.PageFaults.{SomeFaulted}
use Rattle.pool_driver.specs.Placed.{About}
use Rattle.pool_driver.specs.Telling.{HoldsMore}
use Rattle.pool_driver.specs.UnknownPuts.{NoneUnknown, UnknownCaused}
use Rattle.pool_driver.proofs.BesideRights.{pairs_answer, this}
use Rattle.pool_driver.proofs.Holding.{holds_on}
use Rattle.pool_callers.specs.Callers.{Gains, Gives, IsGivenBack, Keeps}
use Rattle.pool_callers.specs.GivingMany.{AreGivenBack, GivesAll, units_of_all}
use Rattle.pool_callers.specs.GrantUnits.{grant_units}
use Rattle.pool_callers.proofs.Giving.{gives_beside}
use Rattle.pool_callers.proofs.GrantUnits.{beside_same, less_total, units_weigh}

-- the units of a grant stand beside what they need
own_beside : {P H : Type 0} (grant : Grant P H) → Beside (grant_units grant)
own_beside grant u region some' =
    let here = units_weigh (this u) grant in
    let there = units_weigh (this (pick_of u)) grant in
    let right = pairs_answer (Some (Granted grant)) u region (omega (arith, here, some')) in
    omega (arith, right, there)

-- and so do those of several
pub all_beside : {P H : Type 0} (grants : List (Grant P H)) → Beside (units_of_all grants)
all_beside [] u region some' = absurd (omega (arith, some'))
all_beside (grant ∷ grants) u region some' = beside_append (grant_units grant) (units_of_all grants) (own_beside grant) (all_beside grants) u region some'

-- A cell that has faulted in a part of the time has faulted in all of it.
module _ {T : Type 0} (u v w : View T) (plan : Plan) where
  faulted_first : HoldsMore v w → SomeFaulted u v plan → SomeFaulted u w plan
  faulted_first more f = record {
    slot = f.slot;
    kind = f.kind;
    place = f.place;
    cell = f.cell;
    faulted = ⊎_elim (λ rose. inl (omega (arith, rose, more.counts f.place 0))) (λ topped. inr (omega (arith, topped, more.noted f.place))) f.faulted;
  }

  faulted_then : HoldsMore u v → SomeFaulted v w plan → SomeFaulted u w plan
  faulted_then more f = record {
    slot = f.slot;
    kind = f.kind;
    place = f.place;
    cell = f.cell;
    faulted = ⊎_elim (λ rose. inl (omega (arith, rose, more.counts f.place 0))) (λ topped. inr (omega (arith, topped, more.noted f.place))) f.faulted;
  }

  pub unknown_on : HoldsMore u v → HoldsMore v w → UnknownCaused u v plan → UnknownCaused v w plan → UnknownCaused u w plan
  unknown_on before after first second = ⊎_elim
      (λ (f : SomeFaulted u v plan). inl (faulted_first after f))
      (λ (none : NoneUnknown u v plan). ⊎_elim
      (λ (f : SomeFaulted v w plan). inl (faulted_then before f))
      (λ (still : NoneUnknown v w plan). inr (λ place slot role. still place slot role ∙ none place slot role))
      second)
      first

module _ {T P H : Type 0} (a : About) where
  -- No grant is given back where nothing is done.
  pub none_back : (v : View T) → AreGivenBack {P = P} {H = H} a [] v v
  none_back v = record {
    units = λ t. omega arith;
    counted = λ k. omega arith;
    none = λ q role. refl;
    appended = λ puts. omega arith;
    unknown = inr (λ place slot role. refl);
    bounds = record {
      cold = λ k. omega arith;
      instances = record { added = omega arith; low = omega arith };
      components = record { added = omega arith; low = omega arith };
    };
    goes = record { portions = refl; more = record { counts = λ q i. omega arith; noted = λ q. omega arith } };
  }

  module _ (grant : Grant P H) (grants : List (Grant P H)) where
    -- One is given back, and then the others.
    pub one_back : (u v w : View T) → IsGivenBack a grant u v → AreGivenBack a grants v w → AreGivenBack a (grant ∷ grants) u w
    one_back u v w first others = record {
      units = λ t. omega (arith, first.loses.units t, others.units t);
      counted = λ k. omega (arith, first.loses.counted k, others.counted k);
      none = λ q role. others.none q role ∙ first.none q role;
      appended = λ puts. omega (arith, first.appended puts, others.appended puts);
      unknown = unknown_on u v w a.plan first.goes.more others.goes.more first.unknown others.unknown;
      bounds = record {
        cold = λ k. omega (arith, first.bounds.cold k, others.bounds.cold k);
        instances = record { added = omega (arith, first.bounds.instances.added, others.bounds.instances.added); low = omega (arith, first.bounds.instances.low, others.bounds.instances.low) };
        components = record { added = omega (arith, first.bounds.components.added, others.bounds.components.added); low = omega (arith, first.bounds.components.low, others.bounds.components.low) };
      };
      goes = record { portions = others.goes.portions ∙ first.goes.portions; more = holds_on u v w first.goes.more others.goes.more };
    }

    -- The first of those that may be given back may be,
    pub first_gives : (v : View T) → GivesAll a (grant ∷ grants) v → Gives a grant v
    first_gives v all =
        let rest : List UnitName = units_of_all grants ++ minus v.units (units_of_all (grant ∷ grants)) in
        gives_beside a grant v rest all.are.0 all.keep.0
        (beside_append (units_of_all grants) (minus v.units (units_of_all (grant ∷ grants))) (all_beside grants) all.beside)
        (λ t. omega (
          arith,
          less_total t v.units (units_of_all (grant ∷ grants)) all.units,
          total_append t (grant_units grant) (units_of_all grants),
          units_weigh t grant,
          total_append t (units_of_all grants) (minus v.units (units_of_all (grant ∷ grants))),
        ))
        (λ k. omega (arith, all.counted k))

    -- and the others once it was.
    pub others_give : (v w : View T) → GivesAll a (grant ∷ grants) v → IsGivenBack a grant v w → GivesAll a grants w
    others_give v w all back =
        let left : (u : UnitName) → times u v.units ≡ times u (grant_units grant) + times u w.units = λ u. omega (arith, back.loses.units (this u), units_weigh (this u) grant) in
        record {
          are = all.are.1;
          keep = all.keep.1;
          units = λ u. omega (arith, all.units u, times_append u (grant_units grant) (units_of_all grants), left u);
          beside = beside_same (minus v.units (units_of_all (grant ∷ grants))) (minus w.units (units_of_all grants))
              (λ u. omega (arith, times_minus u v.units (units_of_all (grant ∷ grants)), times_minus u w.units (units_of_all grants), times_append u (grant_units grant) (units_of_all grants), left u)) all.beside;
          counted = λ k. omega (arith, all.counted k, back.loses.counted k);
        }

-- Where no grant is there, none has to be given back.
pub gives_none : {T P H : Type 0} (a : About) (v : View T) → Beside v.units → GivesAll {P = P} {H = H} a [] v
gives_none a v beside = record {
  are = tt;
  keep = tt;
  units = λ u. omega arith;
  beside = beside;
  counted = λ k. omega arith;
}

units_last : {P H : Type 0} (t : Thing) (grants : List (Grant P H)) (grant : Grant P H) → total t (units_of_all (grants ++ grant ∷ [])) ≡ total t (units_of_all grants) + total t (grant_units grant)
units_last t [] grant = omega (arith, total_append t (grant_units grant) [])
units_last t (x ∷ grants) grant = omega (arith, total_append t (grant_units x) (units_of_all (grants ++ grant ∷ [])), total_append t (grant_units x) (units_of_all grants), units_last t grants grant)

counted_last : {X : Type 0} (n : X → ℕ) (xs : List X) (x : X) → total n (xs ++ x ∷ []) ≡ total n xs + n x
counted_last n xs x = omega (arith, total_append n xs (x ∷ []))

each_last : {X : Type 0} (Q : X → Type 0) (xs : List X) (x : X) → AllByRecursion Q xs → Q x → AllByRecursion Q (xs ++ x ∷ [])
each_last Q [] x all last = (last, tt)
each_last Q (y ∷ xs) x all last = (all.0, each_last Q xs x all.1 last)

-- Grants may be given back together, and so may they with one that came after them.
pub gives_with : {T P H : Type 0} (a : About) (grants : List (Grant P H)) (grant : Grant P H) (v w : View T) → GivesAll a grants v → Gains grant v w → Gives a grant w → GivesAll a (grants ++ grant ∷ []) w
gives_with a grants grant v w all gained gives = record {
  are = each_last (IsGrant a.maker a.settings a.plan) grants grant all.are gives.is;
  keep = each_last GrantKeeps grants grant all.keep gives.keeps;
  units = λ u. omega (arith, all.units u, units_last (this u) grants grant, gained.units (this u), units_weigh (this u) grant);
  beside = beside_same (minus v.units (units_of_all grants)) (minus w.units (units_of_all (grants ++ grant ∷ [])))
      (λ u. omega (arith, times_minus u v.units (units_of_all grants), times_minus u w.units (units_of_all (grants ++ grant ∷ [])), units_last (this u) grants grant, gained.units (this u), units_weigh (this u) grant)) all.beside;
  counted = λ k. omega (arith, all.counted k, counted_last (grant_counted (only k)) grants grant, gained.counted k);
}

-- They may be given back still where nothing came or went meanwhile.
pub gives_all_still : {T P H : Type 0} (a : About) (grants : List (Grant P H)) (v w : View T) → GivesAll a grants v → Keeps v w → GivesAll a grants w
gives_all_still a grants v w all kept = record {
  are = all.are;
  keep = all.keep;
  units = λ u. omega (arith, all.units u, kept.units (this u));
  beside = beside_same (minus v.units (units_of_all grants)) (minus w.units (units_of_all grants)) (λ u. omega (arith, kept.units (this u), times_minus u v.units (units_of_all grants), times_minus u w.units (units_of_all grants))) all.beside;
  counted = λ k. omega (arith, all.counted k, kept.counted k);
}

-- A moment of the hall, as a core on which the frame can make its step.
use Rattle.std.proofs.Common.{◌≡◌, ℕ, ◌<◌, ◌≤◌, true, false, List, ◌++◌, length, map, ⊎_elim, sym, ap, subst, arith, Option, Some, None}
use Rattle.std.proofs.lemmas.Bool.{cases_Bool, cases_lt}
use Rattle.pool_hall.specs.Sum.{one_if, total}
use Rattle.pool_hall.specs.Unit.{same, times, pick_of, Beside}
use Rattle.pool_hall.specs.Moment.{Moment}
use Rattle.pool_hall.specs.declared.unit_name.UnitName.{UnitName}
use Rattle.pool_hall.proofs.Totals.{total_append, total_some, total_at}
use Rattle.pool_hall.proofs.Units.{same_is, same_self}
use Rattle.pool_hall.proofs.Moments.{beside_append}
use Rattle.pool_slots.specs.ListUnits.{bare, is_right, is_region}
use Rattle.pool_slots.specs.RegionCells.{right_to as unit_right}
use Rattle.pool_slots.specs.declared.part.PoolPart.{PoolPart}
use Rattle.pool_slots.specs.declared.slot_name.SlotName.{SlotName}
use Rattle.pool_alloc.specs.BetweenSteps.{IsFrame}
use Rattle.pool_alloc.specs.Places.{right_to, region_of}
use Rattle.pool_alloc.specs.Stepping.{CanStep}
use Rattle.pool_alloc.specs.declared.frame.Frame.{Frame}
use Rattle.pool_alloc.specs.declared.frame.FrameLists.{FrameLists}
use Rattle.pool_alloc.specs.declared.pool_core.Counters.{Counters}
use Rattle.pool_alloc.proofs.KeptCounts.{out_once}
use Rattle.pool_driver.specs.Carrying.{Carries, CountsFrame}
use Rattle.pool_driver.specs.Placed.{About, about_made, pool_meaning}
use Rattle.pool_driver.specs.Pools.{IsPool, core_of}
use Rattle.pool_driver.proofs.Cores.{all_weigh, core_is}

-- what the region of a slot weighs, in a list in which each region stands beside the right to its slot
module _ (name : SlotName) where
  region_is : (u : UnitName) → 0 < is_region name u → (u.region ≡ true) × (pick_of u ≡ unit_right name)
  region_is u some' = ⊎_elim
      (λ (is : same (record { kind = name.kind; slot = name.slot; region = true; first = 0; second = 0 }) (bare u) ≡ true).
      let e = same_is (record { kind = name.kind; slot = name.slot; region = true; first = 0; second = 0 }) (bare u) is in
      (ap (λ (z : UnitName). z.region) (sym e), ap pick_of (sym e)))
      (λ (other : same (record { kind = name.kind; slot = name.slot; region = true; first = 0; second = 0 }) (bare u) ≡ false). let z : is_region name u ≡ 0 = ap one_if other in absurd (omega arith))
      (cases_Bool (same (record { kind = name.kind; slot = name.slot; region = true; first = 0; second = 0 }) (bare u)))

  right_weighs : (us : List UnitName) → 0 < times (unit_right name) us → 0 < total (is_right name) us
  right_weighs us some' =
      let o = total_some (λ w. one_if (same (unit_right name) w)) us some' in
      let here = total_at (is_right name) us o.0 o.1 o.2 in
      ⊎_elim
      (λ (is : same (unit_right name) o.1 ≡ true).
      let e : is_right name o.1 ≡ is_right name (unit_right name) = ap (is_right name) (sym (same_is (unit_right name) o.1 is)) in
      let f : is_right name (unit_right name) ≡ 1 = ap one_if (same_self (unit_right name)) in
      omega arith)
      (λ (other : same (unit_right name) o.1 ≡ false). let z : one_if (same (unit_right name) o.1) ≡ 0 = ap one_if other in let k = o.3 in absurd (omega arith))
      (cases_Bool (same (unit_right name) o.1))

  region_needs_right : (us : List UnitName) → Beside us → total (is_region name) us ≤ 1 → total (is_region name) us ≤ total (is_right name) us
  region_needs_right us beside once = ⊎_elim
      (λ (more : 0 < total (is_region name) us).
      let o = total_some (is_region name) us more in
      let is = region_is o.1 o.3 in
      let at = total_at (λ w. one_if (same o.1 w)) us o.0 o.1 o.2 in
      let one : one_if (same o.1 o.1) ≡ 1 = ap one_if (same_self o.1) in
      let pick : 0 < times (pick_of o.1) us = beside o.1 is.0 (omega arith) in
      let r = right_weighs us (subst (λ (z : UnitName). 0 < times z us) is.1 pick) in
      omega arith)
      (λ (none' : total (is_region name) us ≤ 0). omega arith)
      (cases_lt 0 (total (is_region name) us))

module _ {T P H : Type 0} (about : T → About) (inner : T → PoolPart P H) (made : List T) (limits : List ℕ) (us : List UnitName) (moment : Moment (pool_meaning about inner) made limits us) (a : About) (of : about_made about made ≡ Some a) (pool : IsPool a (length made)) where
  -- The frame of a seat can make its step on the core that the moment shows.
  pub can_step : (n : Counters) (spare : Option (FrameLists P)) (rest : List UnitName) (f : Frame P H) → IsFrame a.maker a.settings a.plan f → CountsFrame n f → Carries rest us f None → CanStep a.maker (core_of a n spare (map inner moment.now)) f
  can_step n spare rest f frame counts carries =
      let core = core_is about inner made limits us moment a of pool n spare in
      record {
        core = core;
        frame = frame;
        fits = record {
          once = λ w. let k = all_weigh about inner made limits us moment w.unit in let c = carries.units w.unit in let m = counts w.counts in omega arith;
          others = λ name.
              let w = all_weigh about inner made limits us moment (region_of name) in
              let v = all_weigh about inner made limits us moment (right_to name) in
              let c = carries.units (region_of name) in
              let d = carries.units (right_to name) in
              let o = (out_once a.maker name (core_of a n spare (map inner moment.now)) core).1 in
              let both : List UnitName = rest ++ moment.others in
              let r = total_append (region_of name) rest moment.others in
              let s = total_append (right_to name) rest moment.others in
              let b = region_needs_right name both (beside_append rest moment.others carries.beside moment.beside) (omega arith) in
              omega arith;
        };
      }

-- A step on the part that a seat holds: it may be put, and what the seat has then is the frame's, the answer's and the rest.
use Rattle.std.proofs.Common.{◌≡◌, ℕ, ◌+◌, ◌<◌, ◌≤◌, List, ◌++◌, ⊎_elim, ap, arith, None}
use Rattle.std.proofs.lemmas.Bool.{cases_lt}
use Rattle.pool_hall.specs.Sum.{total}
use Rattle.pool_hall.specs.Unit.{times, pick_of, Beside}
use Rattle.pool_hall.specs.Meaning.{Meaning, StandsAt}
use Rattle.pool_hall.specs.Step.{moved, MayPut}
use Rattle.pool_hall.specs.declared.unit_name.UnitName.{UnitName}
use Rattle.pool_hall.proofs.Totals.{total_append}
use Rattle.pool_hall.proofs.Units.{times_append}
use Rattle.pool_hall.proofs.Hands.{times_moved}
use Rattle.pool_slots.specs.PartUnits.{part_away, part_kept}
use Rattle.pool_slots.specs.declared.part.PoolPart.{PoolPart}
use Rattle.pool_alloc.specs.PartFlows.{FlowsOnPart}
use Rattle.pool_alloc.specs.Places.{Thing, frame_count}
use Rattle.pool_alloc.specs.Stepping.{count_granted, grant_count}
use Rattle.pool_alloc.specs.Turns.{After}
use Rattle.pool_alloc.specs.declared.frame.Frame.{Frame}
use Rattle.pool_driver.specs.Carrying.{Carries, Grows}
use Rattle.pool_driver.proofs.Multisets.{same_totals}
use Rattle.pool_driver.proofs.BesideRights.{this, pairs_sum, pairs_frame, pairs_answer}

module _ {T P H : Type 0} (m : Meaning T) (inner : T → PoolPart P H) (away : (x : T) → m.away x ≡ part_away (inner x)) (kept : (x : T) → m.kept x ≡ part_kept (inner x)) (x y : T) (us rest : List UnitName) (f : Frame P H) (a : After P H)
    (carries : Carries rest us f None) (flows : FlowsOnPart (inner x) (inner y) f a) where
  away_of' : (t : Thing) (z : T) → total t (m.away z) ≡ total t (part_away (inner z))
  away_of' t z = ap (total t) (away z)

  kept_of' : (t : Thing) (z : T) → total t (m.kept z) ≡ total t (part_kept (inner z))
  kept_of' t z = ap (total t) (kept z)

  is_paid : (u : UnitName) → times u (m.away x) + times u (m.kept y) ≤ times u us + (times u (m.away y) + times u (m.kept x))
  is_paid u =
      let fl = flows.places (this u) in
      let c = carries.units (this u) in
      let p = away_of' (this u) x in
      let q = away_of' (this u) y in
      let r = kept_of' (this u) x in
      let s = kept_of' (this u) y in
      omega arith

  all_moved : (t : Thing) → total t (moved m x y us) + (total t (m.kept y) + total t (m.away x)) ≡ total t us + (total t (m.kept x) + total t (m.away y))
  all_moved t =
      let left : List UnitName = moved m x y us ++ (m.kept y ++ m.away x) in
      let right : List UnitName = us ++ (m.kept x ++ m.away y) in
      let each : (u : UnitName) → times u left ≡ times u right = (λ u.
      let a1 = times_append u (moved m x y us) (m.kept y ++ m.away x) in
      let a2 = times_append u (m.kept y) (m.away x) in
      let b1 = times_append u us (m.kept x ++ m.away y) in
      let b2 = times_append u (m.kept x) (m.away y) in
      let k = times_moved m x y us u (is_paid u) in
      omega arith) in
      let r = same_totals left right each t in
      let a1 = total_append t (moved m x y us) (m.kept y ++ m.away x) in
      let a2 = total_append t (m.kept y) (m.away x) in
      let b1 = total_append t us (m.kept x ++ m.away y) in
      let b2 = total_append t (m.kept x) (m.away y) in
      omega arith

  pub carries_on : Carries rest (moved m x y us) a.frame a.outcome
  carries_on = record {
    units = λ t.
        let k = all_moved t in
        let fl = flows.places t in
        let c = carries.units t in
        let p = away_of' t x in
        let q = away_of' t y in
        let r = kept_of' t x in
        let s = kept_of' t y in
        omega arith;
    beside = carries.beside;
  }

  moved_beside : Beside (moved m x y us)
  moved_beside u region some' =
      let c = carries_on.units (this u) in
      let d = carries_on.units (this (pick_of u)) in
      let hand = pairs_sum (λ t. frame_count t a.frame) (λ t. count_granted (grant_count t) a.outcome) (pairs_frame a.frame) (pairs_answer a.outcome) u region in
      ⊎_elim
      (λ (mine : 0 < frame_count (this u) a.frame + count_granted (grant_count (this u)) a.outcome). let h = hand mine in omega arith)
      (λ (none' : frame_count (this u) a.frame + count_granted (grant_count (this u)) a.outcome ≤ 0). let b = carries.beside u region (omega arith) in omega arith)
      (cases_lt 0 (frame_count (this u) a.frame + count_granted (grant_count (this u)) a.outcome))

  pub may_put : (made : List T) (limits : List ℕ) (p : ℕ) → StandsAt m made limits p y → Grows m x y → MayPut m made limits p x y us
  may_put made limits p stands grows = record {
    stands = stands;
    paid = is_paid;
    beside = moved_beside;
    topped = grows.topped;
    steady = grows.steady;
    rises = grows.rises;
  }

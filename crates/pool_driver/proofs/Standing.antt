-- A part that fits its place may stand there.
use Rattle.std.proofs.Common.{◌≡◌, ℕ, ◌<◌, ◌≤◌, true, false, List, [], ◌∷◌, length, ⊎_elim, sym, refl, ap, ◌∙◌, arith}
use Rattle.std.specs.Prelude.{if◌then◌else◌}
use Rattle.std.proofs.lemmas.Bool.{cases_Bool}
use Rattle.pool_hall.specs.Sum.{one_if, total}
use Rattle.pool_hall.specs.Unit.{same, times, pick_of, Beside}
use Rattle.pool_hall.specs.Meaning.{StandsAt}
use Rattle.pool_hall.specs.declared.unit_name.UnitName.{UnitName}
use Rattle.pool_hall.proofs.Totals.{total_le}
use Rattle.pool_hall.proofs.Units.{same_is, same_self}
use Rattle.pool_slots.specs.ListUnits.{bare, is_right, is_region, StandsAs}
use Rattle.pool_slots.specs.PartUnits.{part_away, part_kept, units_of_slots}
use Rattle.pool_slots.specs.Plans.{Role, role_at, home_of, region_place, IsPlanned}
use Rattle.pool_slots.specs.RegionCells.{right_to, region_of}
use Rattle.pool_slots.specs.SlotQueues.{Queued}
use Rattle.pool_slots.specs.declared.part.PoolPart.{PoolPart}
use Rattle.pool_slots.specs.declared.part.PoolPart.TheVariants as part
use Rattle.pool_slots.specs.declared.plan.Plan.{Plan}
use Rattle.pool_slots.proofs.AwayOnce.{region_there, part_region_once, right_there, part_right_once}
use Rattle.pool_alloc.proofs.KeptCounts.{stands}
use Rattle.pool_driver.specs.Placed.{About, name_of, unit_place, place_by, Fits, pool_meaning}

module _ (u : UnitName) where
  -- a region unit weighs 1 as the region of its slot, and another as the right to it
  region_self : u.region ≡ true → is_region (name_of u) u ≡ 1
  region_self region =
      let e : bare u ≡ region_of (name_of u) (record { faults = 0; erases = 0 }) = λ i. record { kind = u.kind; slot = u.slot; region = region i; first = 0; second = 0 } in
      ap (λ (z : UnitName). one_if (same (region_of (name_of u) (record { faults = 0; erases = 0 })) z)) e ∙ ap one_if (same_self (region_of (name_of u) (record { faults = 0; erases = 0 })))

  right_self : u.region ≡ false → is_right (name_of u) u ≡ 1
  right_self region =
      let e : bare u ≡ right_to (name_of u) = λ i. record { kind = u.kind; slot = u.slot; region = region i; first = 0; second = 0 } in
      ap (λ (z : UnitName). one_if (same (right_to (name_of u)) z)) e ∙ ap one_if (same_self (right_to (name_of u)))

  -- a list weighs at least as much as the unit stands there
  weighs : (f : UnitName → ℕ) → f u ≡ 1 → (us : List UnitName) → times u us ≤ total f us
  weighs f one us = total_le (λ w. one_if (same u w)) f us (λ i w e. ⊎_elim
      (λ (is : same u w ≡ true). let k : f w ≡ 1 = ap f (sym (same_is u w is)) ∙ one in let z : one_if (same u w) ≡ 1 = ap one_if is in omega arith)
      (λ (other : same u w ≡ false). let z : one_if (same u w) ≡ 0 = ap one_if other in omega arith)
      (cases_Bool (same u w)))

-- each region that is kept stands beside the right to its slot
kept_beside : (slots : List Queued) → Beside (units_of_slots slots)
kept_beside [] u region some' = absurd (omega arith)
kept_beside (m ∷ ms) u region some' = ⊎_elim
    (λ (is : same u (right_to m.name) ≡ true). absurd (let e : true ≡ false = sym region ∙ ap (λ (z : UnitName). z.region) (same_is u (right_to m.name) is) in cc))
    (λ (pick : same u (right_to m.name) ≡ false).
    let p : one_if (same u (right_to m.name)) ≡ 0 = ap one_if pick in
    ⊎_elim
    (λ (is : same u (region_of m.name m.numbers) ≡ true).
    let of : pick_of u ≡ right_to m.name = ap pick_of (same_is u (region_of m.name m.numbers) is) in
    let one : one_if (same (pick_of u) (right_to m.name)) ≡ 1 = ap (λ (z : UnitName). one_if (same z (right_to m.name))) of ∙ ap one_if (same_self (right_to m.name)) in
    omega arith)
    (λ (other : same u (region_of m.name m.numbers) ≡ false).
    let z : one_if (same u (region_of m.name m.numbers)) ≡ 0 = ap one_if other in
    let r = kept_beside ms u region (omega arith) in
    omega arith)
    (cases_Bool (same u (region_of m.name m.numbers))))
    (cases_Bool (same u (right_to m.name)))

module _ {P H : Type 0} where
  part_beside : (x : PoolPart P H) → Beside (part_kept x)
  part_beside (part.Queue q) u region some' = kept_beside q.slots u region some'
  part_beside (part.Shard s) u region some' = absurd (omega arith)
  part_beside (part.Memory c) u region some' = absurd (omega arith)
  part_beside (part.Table c) u region some' = absurd (omega arith)
  part_beside (part.Stack c) u region some' = absurd (omega arith)
  part_beside (part.Heaps c) u region some' = absurd (omega arith)

  -- what a part has given out belongs to its place, and is out once
  unit_there : (plan : Plan) (places p : ℕ) (x : PoolPart P H) (u : UnitName) → IsPlanned plan places → StandsAs (role_at plan p) x → 0 < times u (part_away x) → unit_place plan u ≡ p
  unit_there plan places p x u planned st some' = ⊎_elim
      (λ (region : u.region ≡ true).
      let w = weighs u (is_region (name_of u)) (region_self u region) (part_away x) in
      ap (λ b. if b then region_place plan (name_of u) else (home_of plan (name_of u)).place) region ∙ sym (region_there plan p (role_at plan p) x (name_of u) refl st (omega arith)))
      (λ (pick : u.region ≡ false).
      let w = weighs u (is_right (name_of u)) (right_self u pick) (part_away x) in
      ap (λ b. if b then region_place plan (name_of u) else (home_of plan (name_of u)).place) pick ∙ sym (right_there plan places p (role_at plan p) x (name_of u) planned refl st (omega arith)))
      (cases_Bool u.region)

  unit_once : (r : Role) (x : PoolPart P H) (u : UnitName) → StandsAs r x → times u (part_away x) ≤ 1
  unit_once r x u st = ⊎_elim
      (λ (region : u.region ≡ true). let w = weighs u (is_region (name_of u)) (region_self u region) (part_away x) in let o = part_region_once x (name_of u) in omega arith)
      (λ (pick : u.region ≡ false). let w = weighs u (is_right (name_of u)) (right_self u pick) (part_away x) in let o = part_right_once r x (name_of u) st in omega arith)
      (cases_Bool u.region)

module _ {T P H : Type 0} (about : T → About) (inner : T → PoolPart P H) where
  -- What fits stands.
  pub fits_stands : (made : List T) (limits : List ℕ) (p : ℕ) (x : T) → Fits about inner made p x → StandsAt (pool_meaning about inner) made limits p x
  fits_stands made limits p x fits =
      let st : StandsAs (role_at (about x).plan p) (inner x) = stands (about x).maker (about x).settings (role_at (about x).plan p) (inner x) fits.part in
      record {
        fits = fits;
        own = λ u some'. ap (λ o. place_by o u) fits.of ∙ unit_there (about x).plan (length made) p (inner x) u fits.planned st some';
        once = λ u. unit_once (role_at (about x).plan p) (inner x) u st;
        small = fits.small;
        beside = part_beside (inner x);
      }

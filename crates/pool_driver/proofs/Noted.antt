-- What a seat with all portions has noted of a hall, by what the hall tells of its parts as it is closed.
use Rattle.std.proofs.Common.{◌≡◌, ℕ, zero, suc, ◌-◌, ◌<◌, ◌≤◌, true, List, [], ◌∷◌, length, map, sym, subst, ◌∙◌, arith, Some}
use Rattle.std.specs.Prelude.{◌%◌, ◌^◌, slice_get, slice_index}
use Rattle.std.specs.List.{AllByRecursion}
use Rattle.std.proofs.lemmas.Bool.{eqb-true}
use mathlib.Core.Option.{some}
use lib.ListN.{get_elem?}
use Rattle.pool_pages.specs.MakerTold.{MakerTold, plan_for}
use Rattle.pool_pages.specs.declared.pages.RegionName.TheVariants.{Memory}
use Rattle.pool_hall.specs.Meaning.{AllStand}
use Rattle.pool_hall.specs.Ending.{AllTold}
use Rattle.pool_hall.specs.Rule.{AwayIsKept}
use Rattle.pool_hall.specs.Sum.{often}
use Rattle.pool_hall.specs.Tally.{counted, low_additions, number}
use Rattle.pool_hall.specs.declared.unit_name.SlotKind.TheVariants.{Memory as memory_kind}
use Rattle.pool_hall.specs.declared.view.View.{View}
use Rattle.pool_hall.proofs.Totals.{element, got}
use Rattle.pool_index.specs.Part.{cold_picks}
use Rattle.pool_slots.specs.Listed.{PartFailsAsListed}
use Rattle.pool_slots.specs.Plans.{Role, cell_role, shard_role, role_at, slots_at}
use Rattle.pool_slots.specs.declared.part.PoolPart.{PoolPart}
use Rattle.pool_slots.specs.declared.part.PoolPart.TheVariants as part
use Rattle.pool_slots.specs.declared.plan.Allocator.{Allocator}
use Rattle.pool_slots.specs.declared.slot_name.SlotName.{SlotName}
use Rattle.pool_slots.proofs.AwayOnce.{cell_at}
use Rattle.pool_alloc.specs.BetweenSteps.{HasCells, IsPartFor, IsSlotName}
use Rattle.pool_alloc.specs.declared.pool_core.Settings.{Settings}
use Rattle.pool_alloc.proofs.PlanPlaces.{cell_below, cell_inside}
use Rattle.pool_driver.specs.Counts.{counter_limits}
use Rattle.pool_driver.specs.Ending.{HasNoted, IsPaid}
use Rattle.pool_driver.specs.PageFaults.{cell_faults}
use Rattle.pool_driver.specs.Placed.{About, about_made, pool_meaning, part_counts, part_topped}
use Rattle.pool_driver.specs.Pools.{IsPool}
use Rattle.pool_driver.proofs.Paid.{all_faults, part_paid, steady_cell}

-- where a shard is topped, all its slots are among the cold picks that it counted
all_cold : {P H : Type 0} (maker : MakerTold) (s : Settings) (a : Allocator) (j : ℕ) (x : PoolPart P H) (picks : ℕ) → IsPartFor maker s (shard_role a j) x → part_topped x ≡ true → slice_index (part_counts x) cold_picks ≡ picks % 2 ^ 64 → slots_at a j ≤ picks
all_cold maker s a j (part.Shard shard) picks is topped count = omega (arith, eqb-true shard.cold shard.capacity topped, count, is.capacity)
all_cold maker s a j x picks is topped count = absurd is

-- what holds of all parts holds of the one at a place
fails_at : {T P H : Type 0} (inner : T → PoolPart P H) (parts : List T) → AllByRecursion PartFailsAsListed (map inner parts) → (p : ℕ) (x : T) → slice_get parts p ≡ Some x → PartFailsAsListed (inner x)
fails_at inner [] fails p x at' = absurd (cc)
fails_at inner (y ∷ ys) fails zero x at' = let is : y ≡ x = cc in subst (λ z. PartFailsAsListed (inner z)) is fails.0
fails_at inner (y ∷ ys) fails (suc p) x at' = fails_at inner ys fails.1 p x at'

module _ {T P H : Type 0} (about : T → About) (inner : T → PoolPart P H) (made : List T) (limits : List ℕ) (parts : List T) (all : length parts ≡ length made) (stand : AllStand (pool_meaning about inner) made limits parts) (units : AwayIsKept (pool_meaning about inner) made limits parts)
    (fails : AllByRecursion PartFailsAsListed (map inner parts)) (v : View T) (told : AllTold (pool_meaning about inner) limits v parts) (a : About) (of : about_made about made ≡ Some a) (pool : IsPool a (length made)) where
  -- a shard that was noted as topped has all its slots among the cold picks
  cold_at : (p j : ℕ) (allocator : Allocator) → p < length made → role_at a.plan p ≡ shard_role allocator j → 0 < often p v.topped → slots_at allocator j ≤ number (counted p cold_picks) v
  cold_at p j allocator below role noted =
      let it = element parts p (omega (arith, all, below)) in
      let there : slice_get parts p ≡ Some it.0 = got parts p it.0 it.1 in
      let fits = (stand p it.0 there).fits in
      let same' : Some (about it.0) ≡ Some a = sym fits.of ∙ of in
      let is : about it.0 ≡ a = cc in
      let here : IsPartFor a.maker a.settings (shard_role allocator j) (inner it.0) = subst (λ r. IsPartFor a.maker a.settings r (inner it.0)) role (subst (λ (z : About). IsPartFor z.maker z.settings (role_at z.plan p) (inner it.0)) is fits.part) in
      all_cold a.maker a.settings allocator j (inner it.0) (number (counted p cold_picks) v) here (told.topped p it.0 there noted) (told.count p cold_picks it.0 there)

  -- at the place of the cell of a memory's slot is a part that is what the plan has the place for
  cell_there : (p : ℕ) (slot : SlotName) → slot.kind ≡ memory_kind → role_at a.plan p ≡ cell_role slot → (x : T) × (get_elem? parts p ≡ some x) × IsPartFor a.maker a.settings (cell_role slot) (inner x)
  cell_there p slot kind role =
      let named : IsSlotName a.plan slot = record { cells = subst HasCells (sym kind) tt; inside = cell_below a.plan p slot role } in
      let within = cell_inside a.plan (length made) slot pool.plan named in
      let place = cell_at a.plan p slot role in
      let it = element parts p (omega (arith, all, within, place)) in
      let fits = (stand p it.0 (got parts p it.0 it.1)).fits in
      let same' : Some (about it.0) ≡ Some a = sym fits.of ∙ of in
      let is : about it.0 ≡ a = cc in
      (it.0, it.1, subst (λ (r : Role). IsPartFor a.maker a.settings r (inner it.0)) role (subst (λ (z : About). IsPartFor z.maker z.settings (role_at z.plan p) (inner it.0)) is fits.part))

  -- and the view tells exactly how many faults it counted
  count_there : (p : ℕ) (slot : SlotName) (x : T) → get_elem? parts p ≡ some x → IsPartFor a.maker a.settings (cell_role slot) (inner x) → slice_index (part_counts (inner x)) cell_faults ≡ number (counted p cell_faults) v
  count_there p slot x at' is = told.exact p cell_faults x (got parts p x at') (steady_cell a.maker a.settings slot (inner x) is)

  paid_at : (p : ℕ) (slot : SlotName) → slot.kind ≡ memory_kind → role_at a.plan p ≡ cell_role slot → IsPaid (plan_for (Memory slot.slot) a.maker) (number (counted p cell_faults) v)
  paid_at p slot kind role =
      let it = cell_there p slot kind role in
      part_paid about inner made limits parts stand units (fails_at inner parts fails) a of p it.0 slot (number (counted p cell_faults) v) it.1 kind role it.2 (count_there p slot it.0 it.1 it.2)

  topped_at : (p : ℕ) (slot : SlotName) → slot.kind ≡ memory_kind → role_at a.plan p ≡ cell_role slot → 0 < often p v.topped → number (counted p cell_faults) v ≡ 2 ^ 64 - 1
  topped_at p slot kind role noted =
      let it = cell_there p slot kind role in
      all_faults a.maker a.settings slot (inner it.0) (number (counted p cell_faults) v) kind it.2 (told.topped p it.0 (got parts p it.0 it.1) noted) (count_there p slot it.0 it.1 it.2)

  pub has_noted : limits ≡ counter_limits a.settings → HasNoted a (length made) v
  has_noted same = record {
    shards = cold_at;
    counters = λ c some'. subst (λ (l : List ℕ). slice_index l c ≤ number (low_additions c) v) same (told.full c some');
    paid = paid_at;
    topped = topped_at;
  }

-- The parts of a pool as it is made, each with the same origin: a hall may be made with them.
use Rattle.std.proofs.Common.{◌≡◌, ℕ, zero, suc, ◌<◌, List, [], ◌∷◌, length, map, sym, refl, ap, subst, ◌∙◌, arith, Option, Some, None}
use Rattle.std.specs.Prelude.{slice_index}
use Rattle.std.specs.List.{AllByRecursion}
use mathlib.Core.Option.{some, some-injective}
use lib.ListN.{get_elem?}
use Rattle.pool_pages.specs.MakerTold.{MakerTold}
use Rattle.pool_pages.specs.Told.{Told}
use Rattle.pool_images.specs.Slots.{coloured}
use Rattle.pool_hall.specs.Meaning.{AllFresh}
use Rattle.pool_hall.specs.Sum.{one_if, total}
use Rattle.pool_hall.specs.Unit.{same, times}
use Rattle.pool_hall.specs.declared.unit_name.SlotKind.{SlotKind}
use Rattle.pool_hall.specs.declared.unit_name.SlotKind.TheVariants.{Memory as memory_kind, Table as table_kind, Stack as stack_kind, Heap as heap_kind}
use Rattle.pool_hall.specs.declared.unit_name.UnitName.{UnitName}
use Rattle.pool_hall.proofs.Callers.{none_left}
use Rattle.pool_hall.proofs.Totals.{gotten, inside, total_at}
use Rattle.pool_slots.specs.Colourings.{stripe_colour}
use Rattle.pool_slots.specs.ListUnits.{all_away, all_kept}
use Rattle.pool_slots.specs.PartUnits.{part_away, part_kept}
use Rattle.pool_slots.specs.Parts.{part_at}
use Rattle.pool_slots.specs.PartsMade.{IsMadeAs, IsCellMade, slot_region}
use Rattle.pool_slots.specs.Plans.{Role, shard_role, cell_role, queue_role, heaps_role, no_role, role_at, IsPlanned}
use Rattle.pool_slots.specs.declared.part.PoolPart.{PoolPart}
use Rattle.pool_slots.specs.declared.part_maker.PartSettings.{PartSettings}
use Rattle.pool_slots.specs.declared.plan.Plan.{Plan}
use Rattle.pool_slots.specs.declared.queued_range.QueueKind.TheVariants as of_queue
use Rattle.pool_slots.proofs.ListUnits.{read_at}
use Rattle.pool_alloc.specs.BetweenSteps.{IsCore, IsPartAt, IsPoolPlan}
use Rattle.pool_alloc.specs.Made.{IsMadeCore, part_settings, plan_settings}
use Rattle.pool_alloc.specs.PoolAndHolders.{IsUntouched}
use Rattle.pool_alloc.specs.declared.pool_core.PoolCore.{PoolCore}
use Rattle.pool_driver.specs.Faults.{PartKeeps}
use Rattle.pool_driver.specs.Placed.{About, about_made, pool_meaning, part_counts}
use Rattle.pool_driver.specs.Pools.{Making, IsPool, about_core}
use Rattle.pool_driver.proofs.Cores.{map_at, map_length, away_now, kept_now}

-- a list of five noughts and of two
noughts : (n : ℕ) → n ≡ 0 → (i : ℕ) → slice_index (n ∷ 0 ∷ []) i ≡ 0
noughts n e zero = e
noughts n e (suc zero) = refl
noughts n e (suc (suc i)) = refl

five : (i : ℕ) → slice_index (0 ∷ 0 ∷ 0 ∷ 0 ∷ 0 ∷ []) i ≡ 0
five zero = refl
five (suc zero) = refl
five (suc (suc zero)) = refl
five (suc (suc (suc zero))) = refl
five (suc (suc (suc (suc zero)))) = refl
five (suc (suc (suc (suc (suc i))))) = refl

-- a region has no faults as it is made, also in its colour
colour_keeps : (colour : Option ℕ) (len : ℕ) (region : Told) → (coloured colour 0 len region).faults ≡ region.faults
colour_keeps None len region = refl
colour_keeps (Some colour) len region = refl

module _ (n : ℕ) (maker : MakerTold) (s : PartSettings) where
  memory_faults : (i : ℕ) → (slot_region n maker s of_queue.Memory i).faults ≡ 0
  memory_faults i = colour_keeps (stripe_colour n i) s.memory_len.bytes _

  module _ {P H : Type 0} where
    -- a part as it is made counts nothing
    cell_counts_none : (kind : SlotKind) (slot : ℕ) (x : PoolPart P H) → IsCellMade n maker s kind slot x → (i : ℕ) → slice_index (part_counts x) i ≡ 0
    cell_counts_none memory_kind slot x is i = ap (λ (y : PoolPart P H). slice_index (part_counts y) i) is ∙ noughts _ (memory_faults slot) i
    cell_counts_none table_kind slot x is i = ap (λ (y : PoolPart P H). slice_index (part_counts y) i) is ∙ noughts 0 refl i
    cell_counts_none stack_kind slot x is i = ap (λ (y : PoolPart P H). slice_index (part_counts y) i) is ∙ noughts 0 refl i
    cell_counts_none heap_kind slot x is i = absurd is

    pub counts_none : (r : Role) (x : PoolPart P H) → IsMadeAs n maker s r x → (i : ℕ) → slice_index (part_counts x) i ≡ 0
    counts_none (shard_role a j) x is i = ap (λ (y : PoolPart P H). slice_index (part_counts y) i) is.1 ∙ five i
    counts_none (cell_role name) x is i = cell_counts_none name.kind name.slot x is i
    counts_none queue_role x is i = ap (λ (y : PoolPart P H). slice_index (part_counts y) i) is ∙ noughts 0 refl i
    counts_none (heaps_role m) x is i = ap (λ (y : PoolPart P H). slice_index (part_counts y) i) is
    counts_none no_role x is i = absurd is

    -- and keeps no region
    cell_keeps : (kind : SlotKind) (slot : ℕ) (x : PoolPart P H) → IsCellMade n maker s kind slot x → PartKeeps x
    cell_keeps memory_kind slot x is = subst (λ (y : PoolPart P H). PartKeeps y) (sym is) tt
    cell_keeps table_kind slot x is = subst (λ (y : PoolPart P H). PartKeeps y) (sym is) tt
    cell_keeps stack_kind slot x is = subst (λ (y : PoolPart P H). PartKeeps y) (sym is) tt
    cell_keeps heap_kind slot x is = absurd is

    pub keeps_none : (r : Role) (x : PoolPart P H) → IsMadeAs n maker s r x → PartKeeps x
    keeps_none (shard_role a j) x is = subst (λ (y : PoolPart P H). PartKeeps y) (sym is.1) tt
    keeps_none (cell_role name) x is = cell_keeps name.kind name.slot x is
    keeps_none queue_role x is = subst (λ (y : PoolPart P H). PartKeeps y) (sym is) tt
    keeps_none (heaps_role m) x is = subst (λ (y : PoolPart P H). PartKeeps y) (sym is) tt
    keeps_none no_role x is = absurd is

module _ {T P H : Type 0} (about : T → About) (inner : T → PoolPart P H) (maker : MakerTold) (of : Making) (c : PoolCore P H) (is_made : IsMadeCore maker of.config of.tunables of.offered of.shards c) (core : IsCore maker c) (none : IsUntouched c)
    (xs : List T) (limits : List ℕ) (parts : map inner xs ≡ c.parts) (same' : AllByRecursion (λ x. about x ≡ about_core maker c) xs) where
  abbrev a : About
  a = about_core maker c

  each_about : (l : List T) → AllByRecursion (λ x. about x ≡ a) l → (p : ℕ) (x : T) → get_elem? l p ≡ some x → about x ≡ a
  each_about [] all p x e = absurd (let h = inside [] p x e in omega arith)
  each_about (y ∷ l) all zero x e = ap about (sym (some-injective y x e)) ∙ all.0
  each_about (y ∷ l) all (suc p) x e = each_about l all.1 p x e

  first_about : (l : List T) → AllByRecursion (λ x. about x ≡ a) l → 0 < length l → about_made about l ≡ Some a
  first_about [] all some' = absurd (omega arith)
  first_about (y ∷ l) all some' = ap (λ z. Some z) all.0

  all_long : length c.parts ≡ length xs
  all_long = ap length (sym parts) ∙ map_length about inner xs

  some_parts : 0 < length xs
  some_parts = let l = all_long in let q = core.plan.queues in let i = core.plan.planned.inside.1.1.1.0 in omega arith

  -- the part at a place is that of the core
  part_there : (p : ℕ) (x : T) → get_elem? xs p ≡ some x → part_at p c.parts ≡ inner x
  part_there p x e = ap (part_at p) (sym parts) ∙ read_at (map inner xs) p _ (inner x) (map_at about inner xs p x e)

  made_there : (p : ℕ) (x : T) → get_elem? xs p ≡ some x → IsMadeAs (plan_settings maker.page of.config of.tunables of.offered of.shards).num_stripes maker (part_settings maker.page of.config of.offered) (role_at c.plan p) (inner x)
  made_there p x e = subst (λ (y : PoolPart P H). IsMadeAs (plan_settings maker.page of.config of.tunables of.offered of.shards).num_stripes maker (part_settings maker.page of.config of.offered) (role_at c.plan p) y) (part_there p x e)
      (is_made.parts.each p (let h = inside xs p x e in let k = all_long in let n = is_made.parts.count in omega arith))

  no_away : (p : ℕ) (x : T) → get_elem? xs p ≡ some x → (u : UnitName) → times u (part_away (inner x)) ≡ 0
  no_away p x e u =
      let at = total_at (λ y. total (λ w. one_if (same u w)) (part_away (inner y))) xs p x e in
      let all = away_now about inner (λ w. one_if (same u w)) xs in
      let z : total (λ w. one_if (same u w)) (all_away (map inner xs)) ≡ 0 = ap (λ (l : List (PoolPart P H)). total (λ w. one_if (same u w)) (all_away l)) parts ∙ ap (total (λ w. one_if (same u w))) none.none_away in
      omega arith

  no_kept : (p : ℕ) (x : T) → get_elem? xs p ≡ some x → (u : UnitName) → times u (part_kept (inner x)) ≡ 0
  no_kept p x e u =
      let at = total_at (λ y. total (λ w. one_if (same u w)) (part_kept (inner y))) xs p x e in
      let all = kept_now about inner (λ w. one_if (same u w)) xs in
      let z : total (λ w. one_if (same u w)) (all_kept (map inner xs)) ≡ 0 = ap (λ (l : List (PoolPart P H)). total (λ w. one_if (same u w)) (all_kept l)) parts ∙ ap (total (λ w. one_if (same u w))) none.none_kept in
      omega arith

  -- The parts tell the core's pool, which is one with so many parts.
  pub of_core : about_made about xs ≡ Some (about_core maker c)
  of_core = first_about xs same' some_parts

  pub is_pool : IsPool (about_core maker c) (length xs)
  is_pool = record { settings = core.settings; page = core.page; plan = subst (IsPoolPlan c.plan) all_long core.plan; stripes = core.stripes }

  -- A hall may be made with them.
  pub all_fresh : AllFresh (pool_meaning about inner) xs limits
  all_fresh p x got' =
      let e = gotten xs p x got' in
      let is : about x ≡ a = each_about xs same' p x e in
      let zeros = counts_none (plan_settings maker.page of.config of.tunables of.offered of.shards).num_stripes maker (part_settings maker.page of.config of.offered) (role_at c.plan p) (inner x) (made_there p x e) in
      record {
        fits = record {
          of = of_core ∙ ap (λ z. Some z) (sym is);
          inside = inside xs p x e;
          planned = subst (IsPlanned (about x).plan) all_long (subst (λ (z : Plan). IsPlanned z (length c.parts)) (ap (λ (z : About). z.plan) (sym is)) core.plan.planned);
          part = subst (λ (z : About). IsPartAt z.maker z.settings z.plan p (inner x)) (sym is)
              (subst (IsPartAt maker c.settings c.plan p) (part_there p x e) (core.parts p (let h = inside xs p x e in let k = all_long in omega arith)));
          faults = keeps_none (plan_settings maker.page of.config of.tunables of.offered of.shards).num_stripes maker (part_settings maker.page of.config of.offered) (role_at c.plan p) (inner x) (made_there p x e);
          small = λ i. let z = zeros i in omega arith;
        };
        none_away = none_left (part_away (inner x)) (no_away p x e);
        none_kept = none_left (part_kept (inner x)) (no_kept p x e);
        at_zero = zeros;
      }

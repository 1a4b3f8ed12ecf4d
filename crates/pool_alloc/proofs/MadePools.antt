-- A pool as it is made is sound, and nothing of it is used.
use Rattle.std.proofs.Common.{◌≡◌, ℕ, zero, suc, ◌+◌, ◌*◌, ◌^◌, ◌<◌, ◌≤◌, List, [], ◌∷◌, ◌++◌, length, refl, sym, ap, subst, ◌∙◌, arith, replicate, Option, None, map, ◌-◌}
use Rattle.pool_alloc.proofs.Imports.{IsGivenBack, length-replicate, none_at_first, div_ceil, AllByRecursion, range_with_len, div_ceil_times, All-nil, SlotKind, memory_kind, table_kind, stack_kind, heap_kind, UnitName, count, rounded_up, IsPageSize, IsWithinLimits, MakerTold, slab_stripes, IsWithinRules, PoolingAllocationConfig, Tunables, Offered, rounded_within, rounded_leaves, rounded_is_whole, rounded_same, used_units, ShardState, MemoryInModule, all_away, all_kept, coloured_region, part_away, part_kept, part_at, AreMadeTo, IsCellMade, IsMadeAs, queue_made, shard_made, Role, shard_role, cell_role, queue_role, heaps_role, no_role, role_at, IsPlacedAllocator, places_planned, empty_queue, divided, stripe_allocator, IsStripedPlanOf, PoolPart, PartSettings, Allocator, Plan, OfKinds, StripedPlanSettings, each_both, made_shard_of, allocators_placed, planned}
use Rattle.pool_slots.specs.declared.heap_list.HeapEntry.TheVariants as entry
use Rattle.pool_slots.specs.declared.part.PoolPart.TheVariants as part
use Rattle.pool_alloc.specs.BetweenSteps.{queue_room, IsSettings, IsShared, IsQueuedOf, MayBeRanged, IsCore, IsPartFor, IsStripe, IsPoolPlan}
use Rattle.pool_alloc.specs.Made.{settings_of, plan_settings, part_settings, IsMadeCore}
use Rattle.pool_alloc.specs.PoolAndHolders.{IsUntouched}
use Rattle.pool_alloc.specs.declared.pool_core.PoolCore.{PoolCore}
use Rattle.pool_alloc.specs.declared.pool_core.Settings.{Settings}
use Rattle.pool_alloc.proofs.Striping.{few_stripes, some_stripes, some_times, within_slots}
use Rattle.pool_alloc.proofs.StackRegions.{stack_region_made}
use Rattle.pool_alloc.proofs.TableRegions.{table_region_made}
use Rattle.pool_alloc.specs.Places.{counters_counted}
use Rattle.pool_alloc.specs.declared.pool_core.Counters.{Counters}

settings_sound : (page : ℕ) (config : PoolingAllocationConfig) (tunables : Tunables) (offered : Offered) → IsPageSize page → IsWithinLimits config → offered.keys ≤ 15 → config.limits.max_memory_size + page ≤ 2 ^ 64 → IsSettings (settings_of page config tunables offered)
settings_sound page config tunables offered paged within keys small =
    record {
      page = paged;
      stripes = (some_stripes config tunables page offered (omega (arith, paged.at_least)), few_stripes config tunables page offered keys);
      keep_page = refl;
      kept = rounded_within page config.linear_memory_keep_resident paged within.memory_keep_resident;
      whole = rounded_is_whole page config.limits.max_memory_size;
      bounded = rounded_leaves page config.limits.max_memory_size paged small;
      batch = (within.batch_at_least, within.batch_at_most);
      memories = omega (arith, within.memories_per_module);
      tables = omega (arith, within.tables_per_module);
      table_keep_page = refl;
      table_kept = rounded_is_whole page config.table_keep_resident;
      table_whole = rounded_is_whole page (8 * config.limits.table_elements);
      table_few = rounded_within page (8 * config.limits.table_elements) paged (omega (arith, within.table_elements));
      stack_keep_page = refl;
      stack_kept = rounded_is_whole page config.async_stack_keep_resident;
      stack_whole = rounded_is_whole page config.stack_size;
      stack_few = rounded_within page config.stack_size paged within.stack_size;
    }

-- each stripe's allocator has shards
stripes_some : (z : StripedPlanSettings) (from n : ℕ) → AllByRecursion (λ a. 0 < a.shards) (map (stripe_allocator z) (range_with_len from n))
stripes_some z from zero = tt
stripes_some z from (suc n) = (omega arith, stripes_some z (from + 1) n)

-- and slots, where there are no more stripes than slots
stripes_filled : (z : StripedPlanSettings) (from n : ℕ) → 0 < z.num_stripes → from + n ≤ z.totals.memory → AllByRecursion (λ a. 0 < a.capacity) (map (stripe_allocator z) (range_with_len from n))
stripes_filled z from zero some within = tt
stripes_filled z from (suc n) some within =
    let rest : ℕ = z.totals.memory - from in
    (some_times rest (div_ceil rest z.num_stripes) z.num_stripes (omega (arith, within)) (div_ceil_times rest z.num_stripes some).0, stripes_filled z (from + 1) n some (omega (arith, within)))

-- and there are as many as stripes
stripes_long : (z : StripedPlanSettings) (from n : ℕ) → length (map (stripe_allocator z) (range_with_len from n)) ≡ n
stripes_long z from zero = refl
stripes_long z from (suc n) = ap suc (stripes_long z (from + 1) n)

stripes_number : (z : StripedPlanSettings) (plan : Plan) → IsStripedPlanOf z plan → length plan.memories ≡ z.num_stripes
stripes_number z plan is = ap (λ (l : List Allocator). length l) is.memories ∙ stripes_long z 0 z.num_stripes

-- The plan as it is made.
pub plan_made : (z : StripedPlanSettings) (plan : Plan) → (0 < z.num_stripes) × (z.num_stripes < 256) → (0 < z.totals.memory → z.num_stripes ≤ z.totals.memory) → 0 < z.queues → IsStripedPlanOf z plan → places_planned (divided z) < 2 ^ 32 → IsPoolPlan plan (places_planned (divided z))
plan_made z plan stripes within asked is small =
    let all = planned z plan stripes.0 is in
    let number : length plan.memories ≡ z.num_stripes = stripes_number z plan is in
    let some : AllByRecursion (λ a. 0 < a.shards) plan.memories = subst (λ (l : List Allocator). AllByRecursion (λ a. 0 < a.shards) l) (sym is.memories) (stripes_some z 0 z.num_stripes) in
    let table_some : AllByRecursion (λ a. 0 < a.shards) plan.tables = rw is.tables (omega arith, tt) in
    let heap_some : AllByRecursion (λ a. 0 < a.shards) plan.heaps = rw is.heaps (omega arith, tt) in
    let stack_some : AllByRecursion (λ a. 0 < a.shards) plan.stacks = rw is.stacks (omega arith, tt) in
    record {
      planned = all;
      small = small;
      stripes = omega (arith, number, stripes.0);
      few = omega (arith, number, stripes.1);
      filled = λ more. let has : 0 < z.totals.memory = omega (arith, more, ap (λ (o : OfKinds). o.memory) is.totals) in subst (λ (l : List Allocator). AllByRecursion (λ a. 0 < a.capacity) l) (sym is.memories) (stripes_filled z 0 z.num_stripes stripes.0 (omega (arith, within has)));
      shards = each_both (λ a. 0 < a.shards) IsPlacedAllocator IsStripe plan.memories (λ a more at. record { some = more; placed = at }) some (allocators_placed plan (places_planned (divided z)) all small memory_kind);
      tables = rw is.tables (omega arith);
      table_shards = each_both (λ a. 0 < a.shards) IsPlacedAllocator IsStripe plan.tables (λ a more at. record { some = more; placed = at }) table_some (allocators_placed plan (places_planned (divided z)) all small table_kind);
      stacks = rw is.stacks (omega arith);
      stack_shards = each_both (λ a. 0 < a.shards) IsPlacedAllocator IsStripe plan.stacks (λ a more at. record { some = more; placed = at }) stack_some (allocators_placed plan (places_planned (divided z)) all small stack_kind);
      heaps = rw is.heaps (omega arith);
      heap_shards = each_both (λ a. 0 < a.shards) IsPlacedAllocator IsStripe plan.heaps (λ a more at. record { some = more; placed = at }) heap_some (allocators_placed plan (places_planned (divided z)) all small heap_kind);
      queues = omega (arith, asked, is.queues);
    }

empty_shared : (maker : MakerTold) (s : Settings) → 1 ≤ s.batch → IsShared maker s (empty_queue (queue_room s.batch) (queue_room s.batch))
empty_shared maker s some = record {
  owners = tt;
  short = omega arith;
  slots = omega arith;
  range_room = refl;
  slot_room = refl;
  regions = All-nil (IsQueuedOf maker s);
  known = All-nil IsGivenBack;
  ranged = All-nil (MayBeRanged s);
  queue = record { range_room = omega arith; slot_room = omega arith; distinct = tt; each = tt };
  grouped = omega arith;
}

-- no slot that is cold is given out
cold_units : (kind : SlotKind) (step first n : ℕ) → used_units kind step first (replicate {A = Option (Option MemoryInModule)} n None) ≡ []
cold_units kind step first zero = refl
cold_units kind step first (suc n) = cold_units kind step (first + step) n

module _ {P H : Type 0} where
  -- where each part has nothing, they have nothing together
  pub none_of_all : (of : PoolPart P H → List UnitName) (all : List (PoolPart P H) → List UnitName) → all [] ≡ [] → ((x : PoolPart P H) (xs : List (PoolPart P H)) → all (x ∷ xs) ≡ of x ++ all xs) → (xs : List (PoolPart P H)) → ((p : ℕ) → p < length xs → of (part_at p xs) ≡ []) → all xs ≡ []
  none_of_all of all start next [] none = start
  none_of_all of all start next (x ∷ xs) none =
      next x xs ∙ ap (λ us. us ++ all xs) (none zero (omega arith)) ∙ none_of_all of all start next xs (λ p below. none (suc p) (omega (arith, below)))

  -- A part as it is made is as its place says, has given out nothing, and keeps nothing.
  made_cell : (maker : MakerTold) (config : PoolingAllocationConfig) (tunables : Tunables) (offered : Offered) (s : Settings) (kind : SlotKind) (slot : ℕ) (x : PoolPart P H) → 0 < maker.page → IsSettings s → s ≡ settings_of maker.page config tunables offered → IsCellMade s.num_stripes maker (part_settings maker.page config offered) kind slot x → IsPartFor maker s (cell_role (record { kind = kind; slot = slot })) x
  made_cell maker config tunables offered s memory_kind slot x page sound settings is =
      let F : Settings → PoolPart P H → Type 0 = λ t y. IsPartFor maker t (cell_role (record { kind = memory_kind; slot = slot })) y in
      let t : Settings = settings_of maker.page config tunables offered in
      let C : ℕ → Type 0 = λ n. IsCellMade n maker (part_settings maker.page config offered) memory_kind slot x in
      let size : ℕ = rounded_up maker.page config.limits.max_memory_size in
      let same : size ≡ rounded_up maker.page size = sym (rounded_same maker.page size page (rounded_is_whole maker.page config.limits.max_memory_size)) in
      let region = ap (λ (n : ℕ). coloured_region t.num_stripes maker offered.behaviour (count maker.page n) slot) same in
      let made : C t.num_stripes = subst C (ap (λ (u : Settings). u.num_stripes) settings) is in
      subst (λ (u : Settings). F u x) (sym settings) (subst (F t) (sym made) (refl, record { named = refl; holds = region }))
  made_cell maker config tunables offered s table_kind slot x page sound settings is =
      let F : Settings → PoolPart P H → Type 0 = λ t y. IsPartFor maker t (cell_role (record { kind = table_kind; slot = slot })) y in
      let t : Settings = settings_of maker.page config tunables offered in
      let region = table_region_made maker t slot refl (subst (λ (u : Settings). IsSettings u) settings sound) in
      subst (λ (u : Settings). F u x) (sym settings) (subst (F t) (sym is) (refl, record { named = refl; holds = region }))
  made_cell maker config tunables offered s stack_kind slot x page sound settings is =
      let F : Settings → PoolPart P H → Type 0 = λ t y. IsPartFor maker t (cell_role (record { kind = stack_kind; slot = slot })) y in
      let t : Settings = settings_of maker.page config tunables offered in
      let region = stack_region_made maker t slot refl (subst (λ (u : Settings). IsSettings u) settings sound) in
      subst (λ (u : Settings). F u x) (sym settings) (subst (F t) (sym is) (refl, record { named = refl; holds = region }))
  made_cell maker config tunables offered s heap_kind slot x page sound settings is = absurd is

  made_part : (maker : MakerTold) (config : PoolingAllocationConfig) (tunables : Tunables) (offered : Offered) (s : Settings) (r : Role) (x : PoolPart P H) → 0 < maker.page → IsSettings s → s ≡ settings_of maker.page config tunables offered → 1 ≤ s.batch → IsMadeAs s.num_stripes maker (part_settings maker.page config offered) r x → IsPartFor maker s r x
  made_part maker config tunables offered s (shard_role a j) x page sound settings some is = subst (IsPartFor maker s (shard_role a j)) (sym is.1) (made_shard_of config.max_unused_warm_slots a j is.0)
  made_part maker config tunables offered s (cell_role name) x page sound settings some is = made_cell maker config tunables offered s name.kind name.slot x page sound settings is
  made_part maker config tunables offered s queue_role x page sound settings some is =
      let batch : s.batch ≡ config.decommit_batch_size = ap (λ (t : Settings). t.batch) settings in
      let same : x ≡ part.Queue (empty_queue (queue_room s.batch) (queue_room s.batch)) = is ∙ ap (λ (n : ℕ). queue_made {P = P} (queue_room n) 0) (sym batch) in
      subst (IsPartFor maker s queue_role) (sym same) (empty_shared maker s some)
  made_part maker config tunables offered s (heaps_role n) x page sound settings some is =
      let F : PoolPart P H → Type 0 = IsPartFor maker s (heaps_role n) in
      subst F (sym is) (length-replicate n (entry.Here None))
  made_part maker config tunables offered s no_role x page sound settings some is = absurd is

  cell_has_nothing : (n : ℕ) (maker : MakerTold) (ps : PartSettings) (kind : SlotKind) (slot : ℕ) (x : PoolPart P H) → IsCellMade n maker ps kind slot x → (part_away x ≡ []) × (part_kept x ≡ [])
  cell_has_nothing n maker ps memory_kind slot x is = (ap part_away is, ap part_kept is)
  cell_has_nothing n maker ps table_kind slot x is = (ap part_away is, ap part_kept is)
  cell_has_nothing n maker ps stack_kind slot x is = (ap part_away is, ap part_kept is)
  cell_has_nothing n maker ps heap_kind slot x is = absurd is

  has_nothing : (n : ℕ) (maker : MakerTold) (ps : PartSettings) (r : Role) (x : PoolPart P H) → IsMadeAs n maker ps r x → (part_away x ≡ []) × (part_kept x ≡ [])
  has_nothing n maker ps (shard_role a j) x is =
      let made : ShardState = shard_made ps.max_unused_warm_slots a j in
      (ap part_away is.1 ∙ cold_units made.kind made.step made.first made.capacity, ap part_kept is.1)
  has_nothing n maker ps (cell_role name) x is = cell_has_nothing n maker ps name.kind name.slot x is
  has_nothing n maker ps queue_role x is = (ap part_away is, ap part_kept is)
  has_nothing n maker ps (heaps_role m) x is = (ap part_away is ∙ none_at_first H m, ap part_kept is)
  has_nothing n maker ps no_role x is = absurd is

  pub made_core : (maker : MakerTold) (config : PoolingAllocationConfig) (tunables : Tunables) (offered : Offered) (shards : ℕ) (c : PoolCore P H) → IsWithinRules config tunables maker.page shards offered → IsMadeCore maker config tunables offered shards c → IsCore maker c
  made_core maker config tunables offered shards c within made =
      let z : StripedPlanSettings = plan_settings maker.page config tunables offered shards in
      let I : Settings → Type 0 = λ s. IsSettings s in
      let M : ℕ → Type 0 = λ n. AreMadeTo c.plan n maker (part_settings maker.page config offered) (places_planned (divided z)) c.parts in
      let number : places_planned (divided z) ≡ length c.parts = omega (arith, made.parts.count) in
      let of : IsSettings (settings_of maker.page config tunables offered) = settings_sound maker.page config tunables offered within.page_size within.limits within.offered_keys within.rounds in
      let plan : IsPoolPlan c.plan (length c.parts) = subst (IsPoolPlan c.plan) number (plan_made z c.plan of.stripes (λ some. within_slots config tunables maker.page offered some) (omega (arith, within.shards_at_least)) made.plan made.few) in
      let batch : c.settings.batch ≡ config.decommit_batch_size = ap (λ (s : Settings). s.batch) made.settings in
      let sound : IsSettings c.settings = subst I (sym made.settings) of in
      let parts : M c.settings.num_stripes = subst M (sym (ap (λ (s : Settings). s.num_stripes) made.settings)) made.parts in
      record {
        settings = sound;
        page = ap (λ (s : Settings). s.page) made.settings;
        plan = plan;
        stripes = stripes_number z c.plan made.plan ∙ sym (ap (λ (s : Settings). s.num_stripes) made.settings);
        parts = λ p below.
            made_part maker config tunables offered c.settings (role_at c.plan p) (part_at p c.parts) (omega (arith, within.page_size.at_least)) sound made.settings (omega (arith, batch, within.limits.batch_at_least))
            (parts.each p (omega (arith, below, made.parts.count)));
      }

  pub made_untouched : (maker : MakerTold) (config : PoolingAllocationConfig) (tunables : Tunables) (offered : Offered) (shards : ℕ) (c : PoolCore P H) → IsMadeCore maker config tunables offered shards c → IsUntouched c
  made_untouched maker config tunables offered shards c made =
      let n : ℕ = slab_stripes config tunables maker.page offered in
      let nothing : (p : ℕ) → p < length c.parts → (part_away (part_at p c.parts) ≡ []) × (part_kept (part_at p c.parts) ≡ []) = λ p below. has_nothing n maker (part_settings maker.page config offered) (role_at c.plan p) (part_at p c.parts) (made.parts.each p (omega (arith, below, made.parts.count))) in
      record {
        none_away = none_of_all part_away all_away refl (λ x xs. refl) c.parts (λ p below. (nothing p below).0);
        none_kept = none_of_all part_kept all_kept refl (λ x xs. refl) c.parts (λ p below. (nothing p below).1);
        counted = λ n. ap (λ (x : Counters). counters_counted n x) made.counters ∙ omega arith;
      }

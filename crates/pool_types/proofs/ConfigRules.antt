-- What holds of settings that break no rule.
use Rattle.std.proofs.Common.{◌≡◌, ◌+◌, ◌-◌, ◌^◌, ◌<◌, ◌≤◌, ◌&&◌, nat_le, arith, ℕ, Bool, true, false, List, [], ◌∷◌, Option, Some, None, find, cond, option_map, refl}
use Rattle.std.proofs.lemmas.Bool.{leb-true, ltb-false, ltb-true}
use Rattle.pool_types.specs.declared.config.PoolingAllocationConfig.{PoolingAllocationConfig}
use Rattle.pool_types.specs.declared.bad_config.BadConfig.{BadConfig}
use Rattle.pool_types.specs.declared.bad_config.BadConfig.TheVariants.{PageSize, Shards, DecommitBatch, Reservation, KeysNotOffered, SlabArithmetic, TableArithmetic, StackArithmetic, DirtyPagesNotOffered, Regions}
use Rattle.pool_types.specs.declared.module_types.Tunables.{Tunables}
use Rattle.pool_types.specs.declared.offered.Offered.{Offered}
use Rattle.pool_types.specs.ConfigLimits.{limited_values, is_exceeded, is_batch_size, too_great, first_too_great, IsWithinLimits}
use Rattle.pool_types.specs.Count.{IsPageSize}
use Rattle.pool_types.specs.SettingsRules.{IsWithinRules, broken_pair, dirty_pages_suffice, faulting_bytes, first_broken_rule, first_broken_total, is_address, is_page_size, is_shard_count, keys_suffice, or_else, region_bytes, regions_fit, rounds_up, slab_bytes, slab_fits, stacks_fit, tables_fit, unless}

-- none passes the test
abbrev pub NonePass : {X : Type 0} → (X → Bool) → List X → Type 0
NonePass p [] = Unit {0}
NonePass p (x ∷ xs) = (p x ≡ false) × (NonePass p xs)

pub none_passes : {X : Type 0} (p : X → Bool) (xs : List X) → find p xs ≡ None → NonePass p xs
none_passes p [] h = tt
none_passes p (x ∷ xs) h = elim (p x) as (λ b. (p x ≡ b) → (cond b (Some x) (find p xs) ≡ None) → (p x ≡ false) × (NonePass p xs)) [
  | true ↦ (λ e k. absurd (cc k))
  | false ↦ (λ e k. (e, none_passes p xs k))
] refl h

-- both tests pass
and_true : (a b : Bool) → (a && b) ≡ true → (a ≡ true) × (b ≡ true)
and_true true b h = (refl, h)
and_true false b h = absurd (cc h)

nothing_mapped : {X Y : Type 0} (f : X → Y) (p : Option X) → option_map f p ≡ None → p ≡ None
nothing_mapped f None h = refl
nothing_mapped f (Some x) h = absurd (cc h)

-- no field of the settings is too great
no_field : (c : PoolingAllocationConfig) (o : Offered) → first_too_great c o ≡ None → NonePass is_exceeded (limited_values c o)
no_field c o h = none_passes is_exceeded (limited_values c o) (nothing_mapped too_great (find is_exceeded (limited_values c o)) h)

within_limits : (c : PoolingAllocationConfig) (o : Offered) → is_batch_size c.decommit_batch_size ≡ true → first_too_great c o ≡ None → IsWithinLimits c
within_limits c o batch none =
    let size = and_true (nat_le 1 c.decommit_batch_size) _ batch in
    let h = no_field c o none in
    record {
      batch_at_least = leb-true 1 c.decommit_batch_size size.0;
      batch_at_most = leb-true c.decommit_batch_size 4096 size.1;
      core_instances = ltb-false _ _ h.0;
      component_instances = ltb-false _ _ h.1.0;
      memories = ltb-false _ _ h.1.1.0;
      tables = ltb-false _ _ h.1.1.1.0;
      stacks = ltb-false _ _ h.1.1.1.1.0;
      gc_heaps = ltb-false _ _ h.1.1.1.1.1.0;
      memories_per_module = ltb-false _ _ h.1.1.1.1.1.1.0;
      tables_per_module = ltb-false _ _ h.1.1.1.1.1.1.1.0;
      core_instances_per_component = ltb-false _ _ h.1.1.1.1.1.1.1.1.0;
      memories_per_component = ltb-false _ _ h.1.1.1.1.1.1.1.1.1.0;
      tables_per_component = ltb-false _ _ h.1.1.1.1.1.1.1.1.1.1.0;
      table_elements = ltb-false _ _ h.1.1.1.1.1.1.1.1.1.1.1.0;
      core_instance_size = ltb-false _ _ h.1.1.1.1.1.1.1.1.1.1.1.1.0;
      component_instance_size = ltb-false _ _ h.1.1.1.1.1.1.1.1.1.1.1.1.1.0;
      warm_slots = ltb-false _ _ h.1.1.1.1.1.1.1.1.1.1.1.1.1.1.0;
      stack_size = ltb-false _ _ h.1.1.1.1.1.1.1.1.1.1.1.1.1.1.1.0;
      stack_keep_resident = ltb-false _ _ h.1.1.1.1.1.1.1.1.1.1.1.1.1.1.1.1.0;
      memory_keep_resident = ltb-false _ _ h.1.1.1.1.1.1.1.1.1.1.1.1.1.1.1.1.1.0;
      table_keep_resident = ltb-false _ _ h.1.1.1.1.1.1.1.1.1.1.1.1.1.1.1.1.1.1.0;
      keys = ltb-false _ _ h.1.1.1.1.1.1.1.1.1.1.1.1.1.1.1.1.1.1.1.0;
    }

offered_within : (c : PoolingAllocationConfig) (o : Offered) → first_too_great c o ≡ None → o.keys ≤ 15
offered_within c o none = let h = no_field c o none in ltb-false _ _ h.1.1.1.1.1.1.1.1.1.1.1.1.1.1.1.1.1.1.1.1.0

-- neither is an error
neither : (a b : Option BadConfig) → or_else a b ≡ None → (a ≡ None) × (b ≡ None)
neither None b h = (refl, h)
neither (Some e) b h = absurd (cc h)

-- the test holds
passed : (b : Bool) (e : BadConfig) → unless b e ≡ None → b ≡ true
passed true e h = refl
passed false e h = absurd (cc h)

-- the slab and the regions, where nothing on totals is broken
pub record AreTotalsWithin (c : PoolingAllocationConfig) (t : Tunables) (page : ℕ) (o : Offered) : Type 0 where
  pub size : rounds_up page c.limits.max_memory_size ≡ true
  pub slab : is_address (slab_bytes c t page o) ≡ true
  pub regions : regions_fit c page ≡ true

totals_within : (c : PoolingAllocationConfig) (t : Tunables) (page : ℕ) (o : Offered) → first_broken_total c t page o ≡ None → AreTotalsWithin c t page o
totals_within c t page o h =
    let slab = neither (unless (slab_fits c t page o) SlabArithmetic) _ h in
    let tables = neither (unless (tables_fit c page) TableArithmetic) _ slab.1 in
    let pair = neither (broken_pair t) _ tables.1 in
    let stacks = neither (unless (stacks_fit c page) StackArithmetic) _ pair.1 in
    let dirty = neither (unless (dirty_pages_suffice c o) DirtyPagesNotOffered) _ stacks.1 in
    let fits = passed (slab_fits c t page o) SlabArithmetic slab.0 in
    let reservation = and_true (rounds_up page t.memory_reservation) _ fits in
    let size = and_true (rounds_up page c.limits.max_memory_size) _ reservation.1 in
    let guard = and_true (rounds_up page t.memory_guard_size) _ size.1 in
    let faulting = and_true (is_address (faulting_bytes c t page)) _ guard.1 in
    record { size = size.0; slab = faulting.1; regions = passed (regions_fit c page) (Regions (region_bytes c page)) dirty.1 }

pub within_rules : (c : PoolingAllocationConfig) (t : Tunables) (page shards : ℕ) (o : Offered) → IsPageSize page → first_broken_rule c t page shards o ≡ None → IsWithinRules c t page shards o
within_rules c t page shards o sized h =
    let sizes = neither (unless (is_page_size page) (PageSize page)) _ h in
    let counts = neither (unless (is_shard_count shards) (Shards shards)) _ sizes.1 in
    let batch = neither (unless (is_batch_size c.decommit_batch_size) (DecommitBatch c.decommit_batch_size)) _ counts.1 in
    let great = neither (first_too_great c o) _ batch.1 in
    let reserved = neither (unless (nat_le c.limits.max_memory_size t.memory_reservation) (Reservation c.limits.max_memory_size t.memory_reservation)) _ great.1 in
    let keys = neither (unless (keys_suffice c o) KeysNotOffered) _ reserved.1 in
    let totals = totals_within c t page o keys.1 in
    let shard = and_true (nat_le 1 shards) (nat_le shards 16) (passed (is_shard_count shards) (Shards shards) counts.0) in
    let round : c.limits.max_memory_size + page - 1 < 2 ^ 64 = ltb-true _ _ totals.size in
    let page_least : 16 ≤ page = sized.at_least in
    record {
      page_size = sized;
      shards_at_least = leb-true 1 shards shard.0;
      shards_at_most = leb-true shards 16 shard.1;
      limits = within_limits c o (passed (is_batch_size c.decommit_batch_size) (DecommitBatch c.decommit_batch_size) batch.0) great.0;
      offered_keys = offered_within c o great.0;
      reserved = leb-true _ _ (passed (nat_le c.limits.max_memory_size t.memory_reservation) (Reservation c.limits.max_memory_size t.memory_reservation) reserved.0);
      rounds = omega arith;
      slab = ltb-true _ _ totals.slab;
      regions = ltb-true _ _ totals.regions;
    }

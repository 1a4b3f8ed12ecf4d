-- A pool as it is made.
use Rattle.std.specs.Prelude.{◌≡◌, ◌⊎◌, ℕ, ◌+◌, ◌*◌, ◌<◌, ◌&&◌, List, Bool, true, Option, Some, None, ◌^◌}
use Rattle.pool_alloc.specs.Imports.{count, may_use, rounded_up, MakerTold, Planned, slab_stripes, Told, Rose, BadConfig, PoolingAllocationConfig, Tunables, LinearMemory, Offered, AreMadeTo, lists_some_making, fails_some_slot, SomeGivenUp, places_planned, divided, IsStripedPlanOf, PartSettings, OfKinds, StripedPlanSettings, PoolNewError}
use Rattle.pool_slots.specs.declared.errors.PoolNewError.TheVariants as refused
use Rattle.pool_alloc.specs.BetweenSteps.{queue_room}
use Rattle.pool_alloc.specs.Calls.{lists_made}
use Rattle.pool_alloc.specs.declared.pool_core.PoolCore.{PoolCore}
use Rattle.pool_alloc.specs.declared.pool_core.Settings.{Settings}

-- What a pool keeps of its configuration: sizes of memories are rounded up to pages, and the size of an instance's state to 16
-- bytes. Its resets go by dirty marks where these are offered and not refused.
abbrev pub settings_of : ℕ → PoolingAllocationConfig → Tunables → Offered → Settings
settings_of page config tunables offered = record {
  page = page;
  behaviour = offered.behaviour;
  num_stripes = slab_stripes config tunables page offered;
  max_memory_size = rounded_up page config.limits.max_memory_size;
  keep_resident = count page (rounded_up page config.linear_memory_keep_resident);
  dirty_pages = may_use config.pagemap_scan && offered.dirty_pages;
  batch = config.decommit_batch_size;
  max_core_instances = config.limits.total_core_instances;
  max_component_instances = config.limits.total_component_instances;
  core_instance_size = rounded_up 16 config.limits.core_instance_size;
  component_instance_size = config.limits.component_instance_size;
  max_core_instances_per_component = config.limits.max_core_instances_per_component;
  max_memories_per_component = config.limits.max_memories_per_component;
  max_tables_per_component = config.limits.max_tables_per_component;
  max_memories_per_module = config.limits.max_memories_per_module;
  max_tables_per_module = config.limits.max_tables_per_module;
  table_elements = config.limits.table_elements;
  table_slot = rounded_up page (8 * config.limits.table_elements);
  table_keep_resident = count page (rounded_up page config.table_keep_resident);
  stack_size = rounded_up page config.stack_size;
  stack_zeroing = config.async_stack_zeroing;
  stack_keep_resident = count page (rounded_up page config.async_stack_keep_resident);
  tunables = record { tunables = tunables; kind = LinearMemory };
}

-- How many slots of each kind there are.
abbrev pub slots_of : PoolingAllocationConfig → OfKinds
slots_of config = record { memory = config.limits.total_memories; table = config.limits.total_tables; stack = config.limits.total_stacks; heap = config.limits.total_gc_heaps }

-- Memories lie in as many stripes as the slab has. The slots of each stripe and of each other kind are divided among about as
-- many shards as are asked for, and there are as many queues.
abbrev pub plan_settings : ℕ → PoolingAllocationConfig → Tunables → Offered → ℕ → StripedPlanSettings
plan_settings page config tunables offered shards = record {
  totals = slots_of config;
  num_stripes = slab_stripes config tunables page offered;
  requested_shards = shards;
  queues = shards;
}

-- With what the parts are made: the region of a memory has room for the largest, that of a table is its slot, that of a stack is its
-- guard page and its bytes, and a queue has room by the batch.
abbrev pub part_settings : ℕ → PoolingAllocationConfig → Offered → PartSettings
part_settings page config offered = record {
  behaviour = offered.behaviour;
  memory_len = count page (rounded_up page config.limits.max_memory_size);
  table_len = count page (rounded_up page (8 * config.limits.table_elements));
  stack_len = count page (page + rounded_up page config.stack_size);
  max_unused_warm_slots = config.max_unused_warm_slots;
  queue_room = queue_room config.decommit_batch_size;
}

-- Each place has the part that the plan has there, as it is made: slots are cold and have their regions in their cells,
-- queues are empty, and no heap is made. Nothing is counted, and there are lists to close the pool with.
pub record IsMadeCore {P H : Type 0} (maker : MakerTold) (config : PoolingAllocationConfig) (tunables : Tunables) (offered : Offered) (shards : ℕ) (c : PoolCore P H) : Type 0 where
  pub settings : c.settings ≡ settings_of maker.page config tunables offered
  pub plan : IsStripedPlanOf (plan_settings maker.page config tunables offered shards) c.plan
  pub few : places_planned (divided (plan_settings maker.page config tunables offered shards)) < 2 ^ 32
  pub parts : AreMadeTo c.plan (plan_settings maker.page config tunables offered shards).num_stripes maker (part_settings maker.page config offered) (places_planned (divided (plan_settings maker.page config tunables offered shards))) c.parts
  pub spare : c.spare ≡ Some (lists_made c.settings)
  pub counters : c.counters ≡ record { key = 0; core_instances = 0; component_instances = 0; memories = 0; tables = 0; stacks = 0; gc_heaps = 0 }

-- The making of the region of some slot is listed as one that fails.
abbrev pub lists_making : PoolingAllocationConfig → List Planned → Bool
lists_making config listed = lists_some_making (slots_of config) listed

-- That is planned, or that the first call on such a region fails, by which it is given its colour.
abbrev pub fails_slots : ℕ → PoolingAllocationConfig → Tunables → Offered → ℕ → List Planned → Bool
fails_slots page config tunables offered shards plan = fails_some_slot (plan_settings page config tunables offered shards) (part_settings page config offered) plan

-- A region was made and given up, as the first call on it failed.
abbrev pub GivesUpRegion : {P : Type 0} → (P → Told) → PoolingAllocationConfig → Tunables → Offered → ℕ → MakerTold → Type 0
GivesUpRegion told config tunables offered shards maker = SomeGivenUp told (plan_settings maker.page config tunables offered shards) (part_settings maker.page config offered) maker

-- No pool is made where a rule of the settings is broken, and then the refusal names the first.
abbrev pub IsRefusedFor : Option BadConfig → PoolNewError → Type 0
IsRefusedFor broken (refused.BadConfig rule) = broken ≡ Some rule
IsRefusedFor broken _ = broken ≡ None

-- Of the refusals, only a page fault raises the maker's count of faults. It doesn't where a region was given up: that fault
-- raised the count of the region, which is gone.
abbrev pub CountsFault : Type 0 → ℕ → ℕ → PoolNewError → Type 0
CountsFault given_up old new refused.PageFault = Rose old new ⊎ (given_up × (new ≡ old))
CountsFault given_up old new _ = new ≡ old

-- A page fault comes only where the maker's own list has the making of a region, where the maker behind it failed, of which
-- it raises the count, or where a region was given up.
abbrev pub NeedsFault : Type 0 → Bool → ℕ → ℕ → PoolNewError → Type 0
NeedsFault given_up listed old new refused.PageFault = ((listed ≡ true) ⊎ Rose old new) ⊎ (given_up × (new ≡ old))
NeedsFault given_up listed old new _ = new ≡ old

-- under a told plan, only where that has a making that fails, or a first call
abbrev pub NeedsListed : Bool → PoolNewError → Type 0
NeedsListed fails refused.PageFault = fails ≡ true
NeedsListed fails _ = Unit {0}

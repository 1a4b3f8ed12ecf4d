-- The settings of a pool where an input leaves them out.
use Rattle.std.specs.Prelude.{◌≡◌, true, false}
use Rattle.pool_types.specs.declared.config.Enabled.TheVariants.{No}
use Rattle.pool_types.specs.declared.config.InstanceLimits.{InstanceLimits}
use Rattle.pool_types.specs.declared.config.PoolingAllocationConfig.{PoolingAllocationConfig}
use Rattle.pool_types.specs.declared.module_types.Tunables.{Tunables}
use Rattle.pool_types.specs.declared.offered.Offered.{Offered}
use Rattle.pool_types.specs.declared.decommit_behavior.DecommitBehavior.TheVariants.{RestoreOriginalMapping}

-- How many things a pool may have, and how large each may be, where an input leaves it out.
abbrev pub default_instance_limits : InstanceLimits
default_instance_limits = record {
  total_core_instances = 1000;
  total_component_instances = 1000;
  total_memories = 10;
  total_tables = 10;
  total_stacks = 0;
  total_gc_heaps = 0;
  max_memories_per_module = 1;
  max_tables_per_module = 1;
  max_core_instances_per_component = 1000;
  max_memories_per_component = 1000;
  max_tables_per_component = 1000;
  max_memory_size = 65536;
  table_elements = 100;
  core_instance_size = 1048576;
  component_instance_size = 1048576;
}

-- All settings of a pool where an input leaves them out: 100 warm slots, a batch of one, nothing kept resident, no
-- keys.
abbrev pub default_config : PoolingAllocationConfig
default_config = record {
  limits = default_instance_limits;
  max_unused_warm_slots = 100;
  decommit_batch_size = 1;
  stack_size = 0;
  async_stack_zeroing = false;
  async_stack_keep_resident = 0;
  linear_memory_keep_resident = 0;
  table_keep_resident = 0;
  memory_protection_keys = No;
  max_memory_protection_keys = 15;
  pagemap_scan = No;
}

-- These limits are the ones of an input that names none.
abbrev pub IsDefaultLimits : InstanceLimits → Type 0
IsDefaultLimits limits = limits ≡ default_instance_limits

-- These settings are the ones of an input that names none.
abbrev pub IsDefaultConfig : PoolingAllocationConfig → Type 0
IsDefaultConfig config = config ≡ default_config

-- The engine's settings where an input leaves them out; those of heaps equal those of memories.
abbrev pub default_tunables : Tunables
default_tunables = record {
  memory_reservation = 1048576;
  memory_guard_size = 65536;
  memory_reservation_for_growth = 0;
  memory_may_move = true;
  guard_before_linear_memory = false;
  signals_based_traps = true;
  memory_init_cow = true;
  table_lazy_init = true;
  collector = false;
  gc_heap_reservation = 1048576;
  gc_heap_guard_size = 65536;
  gc_heap_reservation_for_growth = 0;
  gc_heap_may_move = true;
}

-- These are the engine's settings of an input that names none.
abbrev pub IsDefaultTunables : Tunables → Type 0
IsDefaultTunables tunables = tunables ≡ default_tunables

-- a system that offers neither keys nor dirty pages
abbrev pub default_offered : Offered
default_offered = record { keys = 0; dirty_pages = false; behaviour = RestoreOriginalMapping }

-- This is what a system offers of which an input says nothing.
abbrev pub IsDefaultOffered : Offered → Type 0
IsDefaultOffered offered = offered ≡ default_offered

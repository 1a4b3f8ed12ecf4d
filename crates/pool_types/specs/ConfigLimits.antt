-- The greatest values of a pool's settings and of what is offered to it.
use Rattle.std.specs.Prelude.{ℕ, ◌∷◌, [], ◌^◌, ◌≤◌, List, Bool, ◌&&◌, nat_le, nat_lt, find, Option, option_map}
use Rattle.pool_types.specs.declared.config.PoolingAllocationConfig.{PoolingAllocationConfig}
use Rattle.pool_types.specs.declared.bad_config.ConfigField.{ConfigField}
use Rattle.pool_types.specs.declared.bad_config.ConfigField.TheVariants.{TotalCoreInstances, TotalComponentInstances, TotalMemories, TotalTables, TotalStacks, TotalGcHeaps, MaxMemoriesPerModule, MaxTablesPerModule, MaxCoreInstancesPerComponent, MaxMemoriesPerComponent, MaxTablesPerComponent, TableElements, CoreInstanceSize, ComponentInstanceSize, MaxUnusedWarmSlots, StackSize, AsyncStackKeepResident, LinearMemoryKeepResident, TableKeepResident, MaxMemoryProtectionKeys, OfferedKeys}
use Rattle.pool_types.specs.declared.bad_config.BadConfig.{BadConfig}
use Rattle.pool_types.specs.declared.bad_config.BadConfig.TheVariants.{TooGreat}
use Rattle.pool_types.specs.declared.offered.Offered.{Offered}

-- the greatest value of a field
abbrev pub greatest : ConfigField → ℕ
greatest MaxMemoriesPerModule = 100
greatest MaxTablesPerModule = 100
greatest TableElements = 100000000
greatest CoreInstanceSize = 2 ^ 32
greatest ComponentInstanceSize = 2 ^ 32
greatest StackSize = 2 ^ 32
greatest AsyncStackKeepResident = 2 ^ 32
greatest LinearMemoryKeepResident = 2 ^ 32
greatest TableKeepResident = 2 ^ 32
greatest MaxMemoryProtectionKeys = 15
greatest OfferedKeys = 15
greatest _ = 100000

-- each field that has a greatest value, beside its value, in the order in which they are tested
abbrev pub limited_values : PoolingAllocationConfig → Offered → List (ConfigField × ℕ)
limited_values c o =
    (TotalCoreInstances, c.limits.total_core_instances)
    ∷ (TotalComponentInstances, c.limits.total_component_instances)
    ∷ (TotalMemories, c.limits.total_memories)
    ∷ (TotalTables, c.limits.total_tables)
    ∷ (TotalStacks, c.limits.total_stacks)
    ∷ (TotalGcHeaps, c.limits.total_gc_heaps)
    ∷ (MaxMemoriesPerModule, c.limits.max_memories_per_module)
    ∷ (MaxTablesPerModule, c.limits.max_tables_per_module)
    ∷ (MaxCoreInstancesPerComponent, c.limits.max_core_instances_per_component)
    ∷ (MaxMemoriesPerComponent, c.limits.max_memories_per_component)
    ∷ (MaxTablesPerComponent, c.limits.max_tables_per_component)
    ∷ (TableElements, c.limits.table_elements)
    ∷ (CoreInstanceSize, c.limits.core_instance_size)
    ∷ (ComponentInstanceSize, c.limits.component_instance_size)
    ∷ (MaxUnusedWarmSlots, c.max_unused_warm_slots)
    ∷ (StackSize, c.stack_size)
    ∷ (AsyncStackKeepResident, c.async_stack_keep_resident)
    ∷ (LinearMemoryKeepResident, c.linear_memory_keep_resident)
    ∷ (TableKeepResident, c.table_keep_resident)
    ∷ (MaxMemoryProtectionKeys, c.max_memory_protection_keys)
    ∷ (OfferedKeys, o.keys)
    ∷ []

-- the field exceeds its greatest value
abbrev pub is_exceeded : ConfigField × ℕ → Bool
is_exceeded (field, value) = nat_lt (greatest field) value

-- The refusal of a field that exceeds its greatest value: the field, its value and the greatest one.
abbrev pub too_great : ConfigField × ℕ → BadConfig
too_great (field, value) = TooGreat field value (greatest field)

-- the first field above its greatest value
abbrev pub first_too_great : PoolingAllocationConfig → Offered → Option BadConfig
first_too_great c o = option_map too_great (find is_exceeded (limited_values c o))

-- a batch of the decommit queue has 1 to 4,096 ranges
abbrev pub is_batch_size : ℕ → Bool
is_batch_size size = nat_le 1 size && nat_le size 4096

-- the batch and each field of the settings are within their limits
pub record IsWithinLimits (c : PoolingAllocationConfig) : Type 0 where
  pub batch_at_least : 1 ≤ c.decommit_batch_size
  pub batch_at_most : c.decommit_batch_size ≤ 4096
  pub core_instances : c.limits.total_core_instances ≤ 100000
  pub component_instances : c.limits.total_component_instances ≤ 100000
  pub memories : c.limits.total_memories ≤ 100000
  pub tables : c.limits.total_tables ≤ 100000
  pub stacks : c.limits.total_stacks ≤ 100000
  pub gc_heaps : c.limits.total_gc_heaps ≤ 100000
  pub memories_per_module : c.limits.max_memories_per_module ≤ 100
  pub tables_per_module : c.limits.max_tables_per_module ≤ 100
  pub core_instances_per_component : c.limits.max_core_instances_per_component ≤ 100000
  pub memories_per_component : c.limits.max_memories_per_component ≤ 100000
  pub tables_per_component : c.limits.max_tables_per_component ≤ 100000
  pub table_elements : c.limits.table_elements ≤ 100000000
  pub core_instance_size : c.limits.core_instance_size ≤ 2 ^ 32
  pub component_instance_size : c.limits.component_instance_size ≤ 2 ^ 32
  pub warm_slots : c.max_unused_warm_slots ≤ 100000
  pub stack_size : c.stack_size ≤ 2 ^ 32
  pub stack_keep_resident : c.async_stack_keep_resident ≤ 2 ^ 32
  pub memory_keep_resident : c.linear_memory_keep_resident ≤ 2 ^ 32
  pub table_keep_resident : c.table_keep_resident ≤ 2 ^ 32
  pub keys : c.max_memory_protection_keys ≤ 15

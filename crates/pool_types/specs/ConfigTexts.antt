-- The texts of a configuration that is refused.
use Rattle.std.specs.Prelude.{ℕ, List, ◌++◌, codes}
use Rattle.std.specs.Fmt.{decimal}
use Rattle.pool_types.specs.Numerals.{hexadecimal}
use Rattle.pool_types.specs.declared.bad_config.ConfigField.{ConfigField}
use Rattle.pool_types.specs.declared.bad_config.ConfigField.TheVariants.{TotalCoreInstances, TotalComponentInstances, TotalMemories, TotalTables, TotalStacks, TotalGcHeaps, MaxMemoriesPerModule, MaxTablesPerModule, MaxCoreInstancesPerComponent, MaxMemoriesPerComponent, MaxTablesPerComponent, TableElements, CoreInstanceSize, ComponentInstanceSize, MaxUnusedWarmSlots, StackSize, AsyncStackKeepResident, LinearMemoryKeepResident, TableKeepResident, MaxMemoryProtectionKeys, OfferedKeys}
use Rattle.pool_types.specs.declared.bad_config.PairedTunable.{PairedTunable}
use Rattle.pool_types.specs.declared.bad_config.PairedTunable.TheVariants.{Reservation as PairedReservation, GuardSize, ReservationForGrowth, MayMove}
use Rattle.pool_types.specs.declared.bad_config.BadConfig.{BadConfig}
use Rattle.pool_types.specs.declared.bad_config.BadConfig.TheVariants.{PageSize, Shards, DecommitBatch, TooGreat, Reservation, KeysNotOffered, SlabArithmetic, TableArithmetic, CollectorPair, StackArithmetic, DirtyPagesNotOffered, Regions}

-- The name of a limited field, as inputs and refusals spell it.
abbrev pub field_text : ConfigField → List ℕ
field_text TotalCoreInstances = codes "total_core_instances"
field_text TotalComponentInstances = codes "total_component_instances"
field_text TotalMemories = codes "total_memories"
field_text TotalTables = codes "total_tables"
field_text TotalStacks = codes "total_stacks"
field_text TotalGcHeaps = codes "total_gc_heaps"
field_text MaxMemoriesPerModule = codes "max_memories_per_module"
field_text MaxTablesPerModule = codes "max_tables_per_module"
field_text MaxCoreInstancesPerComponent = codes "max_core_instances_per_component"
field_text MaxMemoriesPerComponent = codes "max_memories_per_component"
field_text MaxTablesPerComponent = codes "max_tables_per_component"
field_text TableElements = codes "table_elements"
field_text CoreInstanceSize = codes "core_instance_size"
field_text ComponentInstanceSize = codes "component_instance_size"
field_text MaxUnusedWarmSlots = codes "max_unused_warm_slots"
field_text StackSize = codes "stack_size"
field_text AsyncStackKeepResident = codes "async_stack_keep_resident"
field_text LinearMemoryKeepResident = codes "linear_memory_keep_resident"
field_text TableKeepResident = codes "table_keep_resident"
field_text MaxMemoryProtectionKeys = codes "max_memory_protection_keys"
field_text OfferedKeys = codes "offered.keys"

-- The ending of the name of a setting that memories and heaps have to share, after `memory_` or `gc_heap_`.
abbrev pub tunable_text : PairedTunable → List ℕ
tunable_text PairedReservation = codes "reservation"
tunable_text GuardSize = codes "guard_size"
tunable_text ReservationForGrowth = codes "reservation_for_growth"
tunable_text MayMove = codes "may_move"

-- The text of each broken rule of the settings, which follows `error BadConfig: `.
abbrev pub bad_config_text : BadConfig → List ℕ
bad_config_text (PageSize size) = codes "page size " ++ decimal size ++ codes " is not a power of two from 16 to 65536"
bad_config_text (Shards count) = codes "shard count " ++ decimal count ++ codes " is not from 1 to 16"
bad_config_text (DecommitBatch size) = codes "decommit batch size " ++ decimal size ++ codes " is not from 1 to 4096"
bad_config_text (TooGreat field value greatest) = field_text field ++ codes " of " ++ decimal value ++ codes " exceeds " ++ decimal greatest
bad_config_text (Reservation max reservation) = codes "maximum memory size of " ++ (hexadecimal max ++ (codes " bytes exceeds the configured memory reservation of " ++ (hexadecimal reservation ++ codes " bytes")))
bad_config_text KeysNotOffered = codes "mpk is disabled on this system"
bad_config_text SlabArithmetic = codes "total size of memory reservation exceeds addressable memory"
bad_config_text TableArithmetic = codes "total size of tables exceeds addressable memory"
bad_config_text (CollectorPair tunable) = codes "pooling allocator requires memory_" ++ tunable_text tunable ++ codes " == gc_heap_" ++ tunable_text tunable
bad_config_text StackArithmetic = codes "total size of execution stacks exceeds addressable memory"
bad_config_text DirtyPagesNotOffered = codes "required to enable PAGEMAP_SCAN but this system does not support it"
bad_config_text (Regions bytes) = codes "regions of " ++ decimal bytes ++ codes " bytes exceed 4294967295"

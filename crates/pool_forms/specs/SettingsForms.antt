-- The settings that a JSON value is. `None` says that it has another form.
use Rattle.std.specs.Prelude.{ℕ, ◌-◌, ◌^◌, List, [], ◌∷◌, ◌++◌, codes, min, true, false, if◌then◌else◌, Option, Some, None, option_map}
use Rattle.pool_forms.specs.Imports.{bytes_eq, Data, get, as_bool, as_str, default_config, default_instance_limits, default_offered, default_tunables, Enabled, Auto, Yes, No, PoolingAllocationConfig, InstanceLimits, Fault, FaultKind, Table, Image, Tunables, Offered, DecommitBehavior, Zero, RestoreOriginalMapping}
use Rattle.pool_pages.specs.declared.fault_plan.FaultKind.TheVariants.{Memory, Stack, OnDemand}
use Rattle.pool_forms.specs.Fields.{◌>>=◌, only, whole_number, required, optional}

-- A number of things that 32 bits can't hold stands as the greatest that they can.
abbrev pub count_form : Data → Option ℕ
count_form value = option_map (λ n. min n (2 ^ 32 - 1)) (whole_number value)

-- how many there are of each thing
unfoldable pub totals_form : Data → Option InstanceLimits
totals_form fields = do
  instances ← optional 1000 count_form (get (codes "total_core_instances") fields)
  components ← optional 1000 count_form (get (codes "total_component_instances") fields)
  memories ← optional 10 count_form (get (codes "total_memories") fields)
  tables ← optional 10 count_form (get (codes "total_tables") fields)
  stacks ← optional 0 count_form (get (codes "total_stacks") fields)
  heaps ← optional 0 count_form (get (codes "total_gc_heaps") fields)
  Some (record default_instance_limits { total_core_instances = instances; total_component_instances = components; total_memories = memories; total_tables = tables; total_stacks = stacks; total_gc_heaps = heaps })

-- beside these limits, how many an instance of a module and one of a component may have
unfoldable pub shares_form : InstanceLimits → Data → Option InstanceLimits
shares_form limits fields = do
  memories ← optional 1 count_form (get (codes "max_memories_per_module") fields)
  tables ← optional 1 count_form (get (codes "max_tables_per_module") fields)
  instances ← optional 1000 count_form (get (codes "max_core_instances_per_component") fields)
  all_memories ← optional 1000 count_form (get (codes "max_memories_per_component") fields)
  all_tables ← optional 1000 count_form (get (codes "max_tables_per_component") fields)
  Some (record limits { max_memories_per_module = memories; max_tables_per_module = tables; max_core_instances_per_component = instances; max_memories_per_component = all_memories; max_tables_per_component = all_tables })

-- beside these limits, how large each thing may be
unfoldable pub sizes_form : InstanceLimits → Data → Option InstanceLimits
sizes_form limits fields = do
  memory ← optional 65536 whole_number (get (codes "max_memory_size") fields)
  elements ← optional 100 whole_number (get (codes "table_elements") fields)
  instance ← optional 1048576 whole_number (get (codes "core_instance_size") fields)
  component ← optional 1048576 whole_number (get (codes "component_instance_size") fields)
  Some (record limits { max_memory_size = memory; table_elements = elements; core_instance_size = instance; component_instance_size = component })

-- The limits on instances: how many things there are, how many an instance may have, how large each may be.
abbrev pub instance_limits_form : Data → Option InstanceLimits
instance_limits_form fields = totals_form fields >>= (λ totals. shares_form totals fields >>= (λ limits. sizes_form limits fields))

-- whether a feature is used, by this name
abbrev pub enabled_named : List ℕ → Option Enabled
enabled_named name =
    if bytes_eq name (codes "auto") then Some Auto
    else if bytes_eq name (codes "yes") then Some Yes
    else if bytes_eq name (codes "no") then Some No
    else None

-- Whether something is used: `yes`, `no` or `auto`.
abbrev pub enabled_form : Data → Option Enabled
enabled_form value = as_str value >>= enabled_named

-- beside these settings, those of stacks
unfoldable pub stacks_form : PoolingAllocationConfig → Data → Option PoolingAllocationConfig
stacks_form config fields = do
  size ← optional 0 whole_number (get (codes "stack_size") fields)
  zeroing ← optional false as_bool (get (codes "async_stack_zeroing") fields)
  kept ← optional 0 whole_number (get (codes "async_stack_keep_resident") fields)
  Some (record config { stack_size = size; async_stack_zeroing = zeroing; async_stack_keep_resident = kept })

-- beside these settings, what is used of the system: protection keys, and marks of dirty pages
unfoldable pub system_form : PoolingAllocationConfig → Data → Option PoolingAllocationConfig
system_form config fields = do
  enabled ← optional No enabled_form (get (codes "memory_protection_keys") fields)
  most ← optional 15 whole_number (get (codes "max_memory_protection_keys") fields)
  scan ← optional No enabled_form (get (codes "pagemap_scan") fields)
  Some (record config { memory_protection_keys = enabled; max_memory_protection_keys = most; pagemap_scan = scan })

-- beside these settings, how many slots stay warm, how many ranges are decommitted together, and how many bytes of a memory
-- and of a table a reset keeps resident
unfoldable pub slots_form : PoolingAllocationConfig → Data → Option PoolingAllocationConfig
slots_form config fields = do
  warm ← optional 100 count_form (get (codes "max_unused_warm_slots") fields)
  batch ← optional 1 whole_number (get (codes "decommit_batch_size") fields)
  memory ← optional 0 whole_number (get (codes "linear_memory_keep_resident") fields)
  table ← optional 0 whole_number (get (codes "table_keep_resident") fields)
  Some (record config { max_unused_warm_slots = warm; decommit_batch_size = batch; linear_memory_keep_resident = memory; table_keep_resident = table })

-- the fields of numbers of things, which 32 bits have to hold
abbrev pub count_fields : List (List ℕ)
count_fields =
    codes "total_core_instances" ∷ codes "total_component_instances" ∷ codes "total_memories" ∷ codes "total_tables" ∷ codes "total_stacks" ∷ codes "total_gc_heaps"
    ∷ codes "max_memories_per_module" ∷ codes "max_tables_per_module"
    ∷ codes "max_core_instances_per_component" ∷ codes "max_memories_per_component" ∷ codes "max_tables_per_component"
    ∷ codes "max_unused_warm_slots" ∷ []

-- the other fields: sizes, the batch, and what is used
abbrev pub other_fields : List (List ℕ)
other_fields =
    codes "max_memory_size" ∷ codes "table_elements" ∷ codes "core_instance_size" ∷ codes "component_instance_size"
    ∷ codes "decommit_batch_size"
    ∷ codes "stack_size" ∷ codes "async_stack_zeroing" ∷ codes "async_stack_keep_resident"
    ∷ codes "linear_memory_keep_resident" ∷ codes "table_keep_resident"
    ∷ codes "memory_protection_keys" ∷ codes "max_memory_protection_keys" ∷ codes "pagemap_scan" ∷ []

-- The settings of the pool.
unfoldable pub config_form : Data → Option PoolingAllocationConfig
config_form value = do
  fields ← only (count_fields ++ other_fields) value
  limits ← instance_limits_form fields
  slots ← slots_form (record default_config { limits = limits }) fields
  stacks ← stacks_form slots fields
  system_form stacks fields

-- beside these settings, whether there is a collector, and those of GC heaps, which are those of memories where they are
-- left out
unfoldable pub heap_tunables_form : Tunables → Data → Option Tunables
heap_tunables_form tunables fields = do
  collector ← optional false as_bool (get (codes "collector") fields)
  reservation ← optional tunables.memory_reservation whole_number (get (codes "gc_heap_reservation") fields)
  guard ← optional tunables.memory_guard_size whole_number (get (codes "gc_heap_guard_size") fields)
  growth ← optional tunables.memory_reservation_for_growth whole_number (get (codes "gc_heap_reservation_for_growth") fields)
  moves ← optional tunables.memory_may_move as_bool (get (codes "gc_heap_may_move") fields)
  Some (record tunables {
    collector = collector;
    gc_heap_reservation = reservation;
    gc_heap_guard_size = guard;
    gc_heap_reservation_for_growth = growth;
    gc_heap_may_move = moves;
  })

-- the settings of memories and tables
unfoldable pub memory_tunables_form : Data → Option Tunables
memory_tunables_form fields = do
  reservation ← optional 1048576 whole_number (get (codes "memory_reservation") fields)
  guard ← optional 65536 whole_number (get (codes "memory_guard_size") fields)
  growth ← optional 0 whole_number (get (codes "memory_reservation_for_growth") fields)
  moves ← optional true as_bool (get (codes "memory_may_move") fields)
  before ← optional false as_bool (get (codes "guard_before_linear_memory") fields)
  signals ← optional true as_bool (get (codes "signals_based_traps") fields)
  cow ← optional true as_bool (get (codes "memory_init_cow") fields)
  lazy ← optional true as_bool (get (codes "table_lazy_init") fields)
  Some (record default_tunables {
    memory_reservation = reservation;
    memory_guard_size = guard;
    memory_reservation_for_growth = growth;
    memory_may_move = moves;
    guard_before_linear_memory = before;
    signals_based_traps = signals;
    memory_init_cow = cow;
    table_lazy_init = lazy;
  })

-- The engine's settings; those of heaps are those of memories where they are left out.
unfoldable pub tunables_form : Data → Option Tunables
tunables_form value = do
  fields ← only (codes "memory_reservation" ∷ codes "memory_guard_size" ∷ codes "memory_reservation_for_growth" ∷ codes "memory_may_move" ∷ codes "guard_before_linear_memory" ∷ codes "signals_based_traps" ∷ codes "memory_init_cow" ∷ codes "table_lazy_init" ∷ codes "collector" ∷ codes "gc_heap_reservation" ∷ codes "gc_heap_guard_size" ∷ codes "gc_heap_reservation_for_growth" ∷ codes "gc_heap_may_move" ∷ []) value
  tunables ← memory_tunables_form fields
  heap_tunables_form tunables fields

-- the behaviour of this name
abbrev pub behaviour_named : List ℕ → Option DecommitBehavior
behaviour_named name =
    if bytes_eq name (codes "restore") then Some RestoreOriginalMapping
    else if bytes_eq name (codes "zero") then Some Zero
    else None

-- What a decommit does to pages, by its name.
abbrev pub behaviour_form : Data → Option DecommitBehavior
behaviour_form value = as_str value >>= behaviour_named

-- What the system offers: how many protection keys, whether it tells which pages are dirty, and what a decommit does to
-- pages.
unfoldable pub offered_form : Data → Option Offered
offered_form value = do
  fields ← only (codes "keys" ∷ codes "dirty_pages" ∷ codes "behaviour" ∷ []) value
  keys ← optional 0 count_form (get (codes "keys") fields)
  marks ← optional false as_bool (get (codes "dirty_pages") fields)
  behaviour ← optional RestoreOriginalMapping behaviour_form (get (codes "behaviour") fields)
  Some (record default_offered { keys = keys; dirty_pages = marks; behaviour = behaviour })

-- the kind of fault of this name
abbrev pub kind_named : List ℕ → Option FaultKind
kind_named name =
    if bytes_eq name (codes "memory") then Some Memory
    else if bytes_eq name (codes "table") then Some Table
    else if bytes_eq name (codes "stack") then Some Stack
    else if bytes_eq name (codes "image") then Some Image
    else if bytes_eq name (codes "ondemand") then Some OnDemand
    else None

-- The kind of a planned fault, by its name.
abbrev pub kind_form : Data → Option FaultKind
kind_form value = as_str value >>= kind_named

-- A planned fault: of which kind, on which slot or module, and which call.
unfoldable pub fault_form : Data → Option Fault
fault_form value = do
  fields ← only (codes "kind" ∷ codes "slot" ∷ codes "call" ∷ []) value
  kind ← required kind_form (get (codes "kind") fields)
  slot ← required whole_number (get (codes "slot") fields)
  call ← required whole_number (get (codes "call") fields)
  Some (record { kind = kind; slot = slot; call = call })

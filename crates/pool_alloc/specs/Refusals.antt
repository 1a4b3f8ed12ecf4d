-- Which modules and components the pool refuses, and for which of the rules that they break.
use Rattle.std.specs.Prelude.{ℕ, ◌%◌, ◌^◌, ◌+◌, ◌==◌, ◌-◌, List, [], ◌∷◌, length, min, nat_le, nat_lt, sum_by, if◌then◌else◌, Option, Some, None}
use Rattle.pool_alloc.specs.Imports.{option_or, minimum_byte_size, refused_limits, ComponentInfo, ImageDecl, MemoryDecl, MemoryType, ModuleInfo, Part, TableType, Unsupported, ImageOffset, MemoriesPerModule, MemoryUnrepresentable, MemoryExceedsSlot, MemoryShared, TablesPerModule, TotalTables, TableExceedsSlot, InstanceSize, ComponentMemories, ComponentTables, ComponentSize}
use Rattle.pool_types.specs.declared.unsupported.Unsupported.TheVariants.{ComponentInstances}
use Rattle.pool_alloc.specs.declared.frame.Asked.{Asked}
use Rattle.pool_alloc.specs.declared.frame.Asked.TheVariants.{Heap as heap_asked}
use Rattle.pool_alloc.specs.declared.pool_core.Settings.{Settings}

-- the refusal of the first memory or table of which a rule is broken
abbrev pub first_refused : {X : Type 0} → (X → Option Unsupported) → List X → Option Unsupported
first_refused rule [] = None
first_refused rule (decl ∷ decls) = option_or (rule decl) (first_refused rule decls)

-- an image begins with a page
abbrev pub offset_refused : ℕ → Option ImageDecl → Option Unsupported
offset_refused page None = None
offset_refused page (Some image) = if image.offset % page == 0 then None else Some (ImageOffset image.offset)

-- an instance may have so many memories
abbrev pub number_refused : Settings → ℕ → Option Unsupported
number_refused s n = if nat_lt s.max_memories_per_module n then Some (MemoriesPerModule n s.max_memories_per_module) else None

-- a memory fits a slot, and isn't shared
abbrev pub memory_refused : Settings → MemoryType → Option Unsupported
memory_refused s ty =
    if nat_le (2 ^ 64) (minimum_byte_size ty)
    then Some MemoryUnrepresentable
    else (
    if nat_lt s.max_memory_size (minimum_byte_size ty)
    then Some (MemoryExceedsSlot (minimum_byte_size ty) s.max_memory_size)
    else (if ty.shared then Some MemoryShared else None)
    )

-- an instance may have so many tables, and so may the pool
abbrev pub tables_refused : Settings → ℕ → ℕ → Option Unsupported
tables_refused s total n =
    if nat_lt s.max_tables_per_module n
    then Some (TablesPerModule n s.max_tables_per_module)
    else (if nat_lt total n then Some (TotalTables n total) else None)

-- the first table, of those of which the first has this number, that has more elements than a table may have
abbrev pub long_table : Settings → ℕ → List TableType → Option Unsupported
long_table s i [] = None
long_table s i (ty ∷ tys) = option_or (if nat_lt s.table_elements ty.limits.min then Some (TableExceedsSlot i ty.limits.min s.table_elements) else None) (long_table s (i + 1) tys)

-- The first rule that the memories of a module break by themselves: where images begin, limits, how many there are, and what fits a slot.
abbrev pub memories_refused : Settings → List MemoryDecl → Option Unsupported
memories_refused s memories =
    option_or (first_refused (λ (d : MemoryDecl). offset_refused s.page d.image) memories)
    (option_or (first_refused (λ (d : MemoryDecl). refused_limits d.ty.limits) memories)
    (option_or (number_refused s (length memories))
    (first_refused (λ (d : MemoryDecl). memory_refused s d.ty) memories)))

-- The first rule that the tables of a module break by themselves, in a pool with so many slots for tables: limits, how many there are, and
-- how many elements a table may have.
abbrev pub table_types_refused : Settings → ℕ → List TableType → Option Unsupported
table_types_refused s total tables =
    option_or (first_refused (λ (ty : TableType). refused_limits ty.limits) tables)
    (option_or (tables_refused s total (length tables))
    (long_table s 0 tables))

-- how many bytes the state of an instance of the module takes, as far as 64 bits tell it: what the runtime keeps of it, and
-- all its parts
abbrev pub instance_size : ModuleInfo → ℕ
instance_size info = min (info.state_bytes + sum_by (λ (part : Part). part.bytes) info.parts) (2 ^ 64 - 1)

-- The refusal of a module whose instances take more bytes than the settings allow.
abbrev pub size_refused : Settings → ModuleInfo → Option Unsupported
size_refused s info = if nat_lt s.core_instance_size (instance_size info) then Some (InstanceSize (instance_size info) s.core_instance_size) else None

-- The first rule that memories and tables of a module break, in a pool with so many slots for tables: each rule is tested
-- for all memories or tables before the next is.
abbrev pub objects_refused : Settings → ℕ → List MemoryDecl → List TableType → Option Unsupported
objects_refused s total memories tables =
    option_or (first_refused (λ (d : MemoryDecl). offset_refused s.page d.image) memories)
    (option_or (first_refused (λ (d : MemoryDecl). refused_limits d.ty.limits) memories)
    (option_or (first_refused (λ (ty : TableType). refused_limits ty.limits) tables)
    (option_or (number_refused s (length memories))
    (option_or (first_refused (λ (d : MemoryDecl). memory_refused s d.ty) memories)
    (option_or (tables_refused s total (length tables))
    (long_table s 0 tables))))))

-- The first rule that a module breaks: those on its memories and tables come before that on its size.
abbrev pub module_refused : Settings → ℕ → ModuleInfo → Option Unsupported
module_refused s total info = option_or (objects_refused s total info.memories info.tables) (size_refused s info)

-- The first rule that a memory breaks that is asked for by itself: its minimum is within its maximum, and it fits a slot.
abbrev pub type_refused : Settings → MemoryType → Option Unsupported
type_refused s ty = option_or (refused_limits ty.limits) (memory_refused s ty)

-- the first rule that the memory of a heap breaks
abbrev pub heap_refused : Settings → Asked → Option Unsupported
heap_refused s (heap_asked ty) = type_refused s ty
heap_refused s _ = None

-- how many bytes a component takes, as far as 64 bits tell it: its own and those of its instances
abbrev pub component_size : ComponentInfo → ℕ
component_size info = min (info.own_bytes + info.core_bytes) (2 ^ 64 - 1)

-- The refusal of a component that takes more bytes than the settings allow.
abbrev pub component_size_refused : Settings → ComponentInfo → Option Unsupported
component_size_refused s info = if nat_lt s.component_instance_size (component_size info) then Some (ComponentSize (component_size info) s.component_instance_size info.own_bytes info.core_bytes) else None

-- The first rule that a component breaks: how many instances, memories and tables it may have, and how many bytes it may take.
abbrev pub component_refused : Settings → ComponentInfo → Option Unsupported
component_refused s info =
    option_or (if nat_lt s.max_core_instances_per_component info.core_instances then Some (ComponentInstances info.core_instances s.max_core_instances_per_component) else None)
    (option_or (if nat_lt s.max_memories_per_component info.memories then Some (ComponentMemories info.memories s.max_memories_per_component) else None)
    (option_or (if nat_lt s.max_tables_per_component info.tables then Some (ComponentTables info.tables s.max_tables_per_component) else None)
    (component_size_refused s info)))

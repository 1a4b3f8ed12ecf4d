-- The texts of what the allocator can't do.
use Rattle.std.specs.Prelude.{ℕ, Bool, true, false, List, [], ◌++◌, codes, Option, Some, None}
use Rattle.std.specs.Fmt.{decimal}
use Rattle.pool_types.specs.Breakdown.{breakdown}
use Rattle.pool_types.specs.Numerals.{hexadecimal}
use Rattle.pool_types.specs.declared.module_types.ModuleInfo.{ModuleInfo}
use Rattle.pool_types.specs.declared.unsupported.Unsupported.{Unsupported}
use Rattle.pool_types.specs.declared.unsupported.Unsupported.TheVariants.{ImageOffset, MinimumExceedsMaximum, SharedOnDemand, MemoriesPerModule, MemoryUnrepresentable, MemoryExceedsSlot, MemoryShared, TablesPerModule, TotalTables, TableExceedsSlot, InstanceSize, MemoryMinimum, TableSize, AddressSpace, ComponentInstances, ComponentMemories, ComponentTables, ComponentSize, ImageLength, MallocTunables, InitialSize, NotShared}

-- what the state of a component is made of
abbrev pub used_text : ℕ → ℕ → List ℕ
used_text own core = codes "`VMComponentContext` used " ++ (decimal own ++ (codes " bytes, `core module instances` used " ++ (decimal core ++ codes " bytes.")))

-- The text, of an instance that is too large only as far as the list of its parts. The last four have none.
abbrev pub unsupported_text : Unsupported → List ℕ
unsupported_text (ImageOffset offset) = codes "image offset " ++ (decimal offset ++ codes " is not a multiple of the page")
unsupported_text (MinimumExceedsMaximum min max) = codes "minimum " ++ (decimal min ++ (codes " exceeds maximum " ++ decimal max))
unsupported_text SharedOnDemand = codes "shared memories are made by SharedMemory"
unsupported_text (MemoriesPerModule count limit) = codes "defined memories count of " ++ (decimal count ++ (codes " exceeds the per-instance limit of " ++ decimal limit))
unsupported_text MemoryUnrepresentable = codes "memory has a minimum byte size that cannot be represented in a u64"
unsupported_text (MemoryExceedsSlot min slot) = codes "memory has a minimum byte size of " ++ (decimal min ++ (codes " which exceeds the limit of " ++ (hexadecimal slot ++ codes " bytes")))
unsupported_text MemoryShared = codes "memory is shared which is not supported in the pooling allocator"
unsupported_text (TablesPerModule count limit) = codes "defined tables count of " ++ (decimal count ++ (codes " exceeds the per-instance limit of " ++ decimal limit))
unsupported_text (TotalTables count limit) = codes "defined tables count of " ++ (decimal count ++ (codes " exceeds the total tables limit of " ++ decimal limit))
unsupported_text (TableExceedsSlot index min limit) = codes "table index " ++ (decimal index ++ (codes " has a minimum element size of " ++ (decimal min ++ (codes " which exceeds the limit of " ++ decimal limit))))
unsupported_text (InstanceSize size limit) = codes "instance allocation for this module requires " ++ (decimal size ++ (codes " bytes which exceeds the configured maximum of " ++ (decimal limit ++ codes " bytes; breakdown of allocation requirement:\n\n")))
unsupported_text (MemoryMinimum pages) = codes "memory minimum size of " ++ (decimal pages ++ codes " pages exceeds memory limits")
unsupported_text (TableSize min limit) = codes "initial table size of " ++ (decimal min ++ (codes " exceeds the pooling allocator's configured maximum table size of " ++ (decimal limit ++ codes " elements")))
unsupported_text AddressSpace = codes "size exceeds addressable memory"
unsupported_text (ComponentInstances count limit) = codes "The component transitively contains " ++ (decimal count ++ (codes " core module instances, which exceeds the configured maximum of " ++ (decimal limit ++ codes " in the pooling allocator")))
unsupported_text (ComponentMemories count limit) = codes "The component transitively contains " ++ (decimal count ++ (codes " Wasm linear memories, which exceeds the configured maximum of " ++ (decimal limit ++ codes " in the pooling allocator")))
unsupported_text (ComponentTables count limit) = codes "The component transitively contains " ++ (decimal count ++ (codes " tables, which exceeds the configured maximum of " ++ (decimal limit ++ codes " in the pooling allocator")))
unsupported_text (ComponentSize size limit own_bytes core_bytes) = codes "instance allocation for this component requires " ++ (decimal size ++ (codes " bytes of `VMComponentContext` and aggregated core instance runtime space which exceeds the configured maximum of " ++ (decimal limit ++ (codes " bytes. " ++ used_text own_bytes core_bytes))))
unsupported_text (ImageLength len) = []
unsupported_text MallocTunables = []
unsupported_text InitialSize = []
unsupported_text NotShared = []

-- its text ends with a list of the module's parts
abbrev pub has_breakdown : Unsupported → Bool
has_breakdown (InstanceSize size limit) = true
has_breakdown _ = false

-- the lines that end its text, where the module that is refused is given
abbrev pub breakdown_text : Option ModuleInfo → Unsupported → List ℕ
breakdown_text None u = []
breakdown_text (Some info) (InstanceSize size limit) = breakdown size info
breakdown_text (Some info) _ = []

-- The whole text of what isn't supported, with the list of a module's parts where it ends with one.
abbrev pub whole_text : Unsupported → Option ModuleInfo → List ℕ
whole_text u info = unsupported_text u ++ breakdown_text info u

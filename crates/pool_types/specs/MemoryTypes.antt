-- What the types of a module and the engine's settings say of a memory.
use Rattle.std.specs.Prelude.{ℕ, ◌-◌, ◌*◌, ◌^◌, max, Bool, true, false, not, ◌&&◌, ◌||◌, ◌==◌, nat_le, nat_lt, if◌then◌else◌, Option, Some, None}
use Rattle.pool_types.specs.declared.module_types.IndexType.{IndexType}
use Rattle.pool_types.specs.declared.module_types.IndexType.TheVariants.{I32, I64}
use Rattle.pool_types.specs.declared.module_types.Limits.{Limits}
use Rattle.pool_types.specs.declared.module_types.MemoryType.{MemoryType}
use Rattle.pool_types.specs.declared.module_types.Tunables.{Tunables}
use Rattle.pool_types.specs.declared.module_types.MemoryTunables.{MemoryTunables}
use Rattle.pool_types.specs.declared.unsupported.Unsupported.{Unsupported}
use Rattle.pool_types.specs.declared.unsupported.Unsupported.TheVariants.{MinimumExceedsMaximum}
use Rattle.pool_types.specs.declared.module_types.MemoryKind.{MemoryKind}
use Rattle.pool_types.specs.declared.module_types.MemoryKind.TheVariants.{LinearMemory, GcHeap}

-- the size of the memory's own pages
abbrev pub page_size : MemoryType → ℕ
page_size ty = 2 ^ ty.page_size_log2

-- the minimum in bytes
abbrev pub minimum_byte_size : MemoryType → ℕ
minimum_byte_size ty = ty.limits.min * page_size ty

-- the size that addresses of a type can reach: of the wide type, what leaves room for one of the memory's pages
abbrev pub index_bound : IndexType → ℕ → ℕ
index_bound I32 page = 2 ^ 32
index_bound I64 page = 2 ^ 64 - page

-- The maximum in bytes; with none, the greater of the minimum and what addresses can reach. So it leaves a `u64`
-- then exactly where the minimum does.
abbrev pub greatest_size : Option ℕ → ℕ → ℕ → ℕ → ℕ
greatest_size (Some pages) page least bound = pages * page
greatest_size None page least bound = max least bound

-- The greatest size of a memory in bytes: its maximum; without one what its addresses reach, or its minimum if that is
-- greater.
abbrev pub maximum_byte_size : MemoryType → ℕ
maximum_byte_size ty = greatest_size ty.limits.max (page_size ty) (minimum_byte_size ty) (index_bound ty.idx_type (page_size ty))

-- Addresses have 64 bits.
abbrev pub is_wide : IndexType → Bool
is_wide I32 = false
is_wide I64 = true

-- a memory may grow to this many bytes: 32-bit addresses reach them, or addresses have 64 bits
abbrev pub allow_growth_to : MemoryType → ℕ → Bool
allow_growth_to ty size = nat_le size (2 ^ 32) || is_wide ty.idx_type

-- A maximum is there, and is the minimum: what has these limits can't grow.
abbrev pub same_bound : Option ℕ → ℕ → Bool
same_bound None min = false
same_bound (Some max) min = max == min

-- the maximum is given, and is the minimum
abbrev pub is_fixed : Limits → Bool
is_fixed limits = same_bound limits.max limits.min

-- why limits are refused: a minimum above the maximum
abbrev pub above : ℕ → Option ℕ → Option Unsupported
above min None = None
above min (Some max) = if nat_lt max min then Some (MinimumExceedsMaximum min max) else None

-- Why a minimum and a maximum are refused, if they are: the minimum exceeds the maximum.
abbrev pub refused_limits : Limits → Option Unsupported
refused_limits limits = above limits.min limits.max

-- traps come by signals, and the memory's pages are whole pages of the host
abbrev pub can_use_virtual_memory : MemoryType → Tunables → ℕ → Bool
can_use_virtual_memory ty tunables host_page = tunables.signals_based_traps && nat_le host_page (page_size ty)

-- a setting of the kind that the memory is of
abbrev pub of_kind : {X : Type 0} → MemoryKind → X → X → X
of_kind LinearMemory memory heap = memory
of_kind GcHeap memory heap = heap

-- How many bytes of address space are reserved for a memory, by the setting of its kind.
abbrev pub reservation : MemoryTunables → ℕ
reservation t = of_kind t.kind t.tunables.memory_reservation t.tunables.gc_heap_reservation

-- How many bytes lie unreachable behind a memory, by the setting of its kind.
abbrev pub guard_size : MemoryTunables → ℕ
guard_size t = of_kind t.kind t.tunables.memory_guard_size t.tunables.gc_heap_guard_size

-- How many bytes more a region has that is made for a memory which moves, by the setting of its kind.
abbrev pub reservation_for_growth : MemoryTunables → ℕ
reservation_for_growth t = of_kind t.kind t.tunables.memory_reservation_for_growth t.tunables.gc_heap_reservation_for_growth

-- The settings allow a memory of this kind to move as it grows.
abbrev pub may_move : MemoryTunables → Bool
may_move t = of_kind t.kind t.tunables.memory_may_move t.tunables.gc_heap_may_move

-- The memory may be moved as it grows. It is not where it is shared, where the settings forbid it, where it can't
-- grow, and where what is reserved holds its greatest size.
abbrev pub memory_may_move : MemoryType → MemoryTunables → Bool
memory_may_move ty tunables = not ty.shared && may_move tunables && not (is_fixed ty.limits) && nat_lt (reservation tunables) (maximum_byte_size ty)

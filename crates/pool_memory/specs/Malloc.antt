-- A memory in a list of bytes, in units of 16.
use Rattle.std.specs.Prelude.{◌≡◌, ℕ, ◌+◌, ◌-◌, ◌/◌, ◌%◌, ◌^◌, ◌<◌, ◌≤◌, List, length, replicate, max, slice_range, Bool, true, ◌||◌, nat_lt, if◌then◌else◌, Option, Some, None}
use Rattle.pool_memory.specs.Imports.{rounded_up, with_zeros, reservation, guard_size, reservation_for_growth, MemoryTunables, Unsupported, MallocTunables, AddressSpace}
use Rattle.pool_memory.specs.Linear.{Linear, stored}
use Rattle.pool_memory.specs.declared.memory_error.MemoryError.{MemoryError}
use Rattle.pool_memory.specs.declared.memory_error.MemoryError.TheVariants as refused

-- A memory in a list of bytes: its size, the bytes that it stores, and for how many it has taken room.
pub record Malloc : Type 0 where
  pub size : ℕ
  pub bytes : List ℕ
  pub capacity : ℕ

-- A memory in a list of bytes as plain data: it may move, and has no room for growth in advance.
abbrev pub malloc_linear : Malloc → Linear
malloc_linear m = record { size = m.size; capacity = m.capacity; moves = true; extra = 0; storage = stored (length m.bytes) (Some m.bytes) }

-- how many units it stores
abbrev pub units_of : Malloc → ℕ
units_of m = length m.bytes / 16

-- what holds of every such memory: it stores whole units, as many as its bytes need at least, and zeros behind these
pub record IsMalloc (m : Malloc) : Type 0 where
  pub whole : length m.bytes % 16 ≡ 0
  pub reached : m.size ≤ length m.bytes
  pub room : length m.bytes ≤ m.capacity
  pub units : m.capacity % 16 ≡ 0
  pub bounded : m.capacity < 2 ^ 64
  pub zeros : slice_range m.bytes m.size (length m.bytes) ≡ replicate (length m.bytes - m.size) 0

-- settings under which memories need pages: guards, reservations, images that are shared until they are written
abbrev pub needs_pages : MemoryTunables → Bool
needs_pages t = nat_lt 0 (guard_size t) || (nat_lt 0 (reservation t) || t.tunables.memory_init_cow)

-- for how many bytes room is taken at first
abbrev pub malloc_capacity : MemoryTunables → ℕ → ℕ
malloc_capacity t minimum = rounded_up 16 (minimum + reservation_for_growth t)

-- why such a memory isn't made: the settings need pages, or addresses don't reach its room
abbrev pub malloc_refusal : MemoryTunables → ℕ → Option Unsupported
malloc_refusal t minimum =
    if needs_pages t
    then Some MallocTunables
    else (if nat_lt (malloc_capacity t minimum) (2 ^ 64) then None else Some AddressSpace)

-- the memory as it is made: zeros, in whole units
abbrev pub malloc_made : MemoryTunables → ℕ → Malloc
malloc_made t minimum = record { size = minimum; bytes = replicate (rounded_up 16 minimum) 0; capacity = malloc_capacity t minimum }

-- the memory as it has grown: more units of zeros where it needs them, in a longer list where there is no room for them
abbrev pub malloc_grown : ℕ → Malloc → Malloc
malloc_grown size m = record {
  size = size;
  bytes = with_zeros (rounded_up 16 size) m.bytes;
  capacity = max m.capacity (rounded_up 16 size);
}

-- what a refusal of such a memory is: the reason, where there is one, and otherwise want of memory
abbrev pub RefusesMalloc : Option Unsupported → MemoryError → Type 0
RefusesMalloc None e = e ≡ refused.Memory
RefusesMalloc (Some u) e = e ≡ refused.Unsupported u

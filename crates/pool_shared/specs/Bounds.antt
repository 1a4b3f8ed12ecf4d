-- When a call on a memory that threads share is refused: what is known of it whatever other threads do.
use Rattle.std.specs.Prelude.{◌≡◌, ◌≢◌, ℕ, ◌+◌, ◌%◌, ◌^◌, ◌<◌, nat_lt, if◌then◌else◌, Option, Some, None}
use Rattle.std.specs.Int.{Width, byte_len}
use Rattle.pool_limits.specs.declared.errors.Trap.{Trap}
use Rattle.pool_limits.specs.declared.errors.Trap.TheVariants as trap
use Rattle.pool_shared.specs.declared.wait_fault.WaitFault.{WaitFault}
use Rattle.pool_shared.specs.declared.wait_fault.WaitFault.TheVariants as fault

-- the address is a multiple of the width
abbrev pub IsAligned : Width → ℕ → Type 0
IsAligned width addr = addr % byte_len width ≡ 0

-- a trap of an access that ends here: it passes the size
abbrev pub IsPast : ℕ → ℕ → Trap → Type 0
IsPast size end trap.MemoryOutOfBounds = size < end
IsPast size end trap.TableOutOfBounds = ⊥
IsPast size end trap.HeapMisaligned = ⊥
IsPast size end trap.AtomicWaitNonSharedMemory = ⊥

-- a trap of an access to a word: its address is no multiple of the width, or it passes the size
abbrev pub IsTrapped : Width → ℕ → ℕ → Trap → Type 0
IsTrapped width addr size trap.MemoryOutOfBounds = IsAligned width addr × (size < addr + byte_len width)
IsTrapped width addr size trap.TableOutOfBounds = ⊥
IsTrapped width addr size trap.HeapMisaligned = addr % byte_len width ≢ 0
IsTrapped width addr size trap.AtomicWaitNonSharedMemory = ⊥

-- a refusal of a wait on a word: want of memory, or a trap
abbrev pub IsRefused : Width → ℕ → ℕ → WaitFault → Type 0
IsRefused width addr size fault.Memory = IsAligned width addr
IsRefused width addr size (fault.Trap t) = IsTrapped width addr size t

-- the deadline of a timeout from a time on, where 64 bits hold it
abbrev pub deadline_after : Option ℕ → ℕ → Option ℕ
deadline_after None now = None
deadline_after (Some timeout) now = if nat_lt (now + timeout) (2 ^ 64) then Some (now + timeout) else None

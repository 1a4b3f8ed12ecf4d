-- Atomic accesses to a memory that isn't shared.
use Rattle.std.specs.Prelude.{ℕ, ◌+◌, ◌%◌, ◌==◌, nat_le, if◌then◌else◌, Result, Ok, Err}
use Rattle.pool_memory.specs.Imports.{Trap, MemoryOutOfBounds, HeapMisaligned, AtomicWaitNonSharedMemory, WaitResult}

-- the address, where it is a multiple of the alignment and the access ends within the memory
abbrev pub atomic_answer : ℕ → ℕ → ℕ → ℕ → Result ℕ Trap
atomic_answer length addr size alignment =
    if addr % alignment == 0
    then (if nat_le (addr + size) length then Ok addr else Err MemoryOutOfBounds)
    else Err HeapMisaligned

-- nobody waits on such a memory, so nobody is woken
abbrev pub notify_answer : Result ℕ Trap → Result ℕ Trap
notify_answer (Ok addr) = Ok 0
notify_answer (Err trap) = Err trap

-- A memory that isn't shared can't be waited on: the trap.
abbrev pub wait_answer : Result ℕ Trap → Result WaitResult Trap
wait_answer (Ok addr) = Err AtomicWaitNonSharedMemory
wait_answer (Err trap) = Err trap

-- What is written into a memory of an instance on demand.
use Rattle.std.specs.Prelude.{◌≡◌, ℕ, ◌+◌, List, length, slice_index_or, slice_set, Result, OnErr, OnOk}
use Rattle.pool_limits.specs.declared.errors.Trap.{Trap}
use Rattle.pool_memory.specs.Memories.{access_answer, memory_written}
use Rattle.pool_on_demand.specs.Imports.{state_of}
use Rattle.pool_on_demand.specs.declared.lease.OnDemandMemory.{OnDemandMemory}
use Rattle.pool_on_demand.specs.declared.lease.OnDemandInstance.{OnDemandInstance}

-- These bytes were written into the memory, or it is as before where they pass its size.
pub record IsMemoryWritten {M L : Type 0} (at : ℕ) (bytes : List ℕ) (old new : OnDemandMemory M L) (result : Result (Unit {0}) Trap) : Type 0 where
  pub index : new.index ≡ old.index
  pub answer : result ≡ access_answer (at + length bytes) (state_of old.memory).linear.size
  pub written : OnOk result (state_of new.memory ≡ memory_written at bytes (state_of old.memory))
  pub same : OnErr result (state_of new.memory ≡ state_of old.memory)

-- So the memory at this place was written. The others stay, and so do the tables.
pub record IsInstanceWritten {M L P : Type 0} (place at : ℕ) (bytes : List ℕ) (result : Result (Unit {0}) Trap) (old new : OnDemandInstance M L P) : Type 0 where
  pub memory : OnDemandMemory M L
  pub written : (d : OnDemandMemory M L) → IsMemoryWritten at bytes (slice_index_or old.memories place d) memory result
  pub is : new ≡ record old { memories = slice_set old.memories place memory }

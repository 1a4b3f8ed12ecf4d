-- What the code's memories are, as plain data.
use Rattle.pool_memory.specs.Memories.{MemoryState}
use Rattle.pool_memory.specs.declared.memory.Memory.{Memory}
use Rattle.pool_memory.specs.declared.memory.Memory.TheVariants.{Local}

-- A memory of the code as plain data.
abbrev pub state_of : {M L : Type 0} → Memory M L → MemoryState
state_of (Local memory) = memory

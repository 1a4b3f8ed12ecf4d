-- What the code's linear memories of either form are, as plain data.
use Rattle.std.specs.Prelude.{Bool, true}
use Rattle.pool_memory.specs.Linear.{Linear}
use Rattle.pool_memory.specs.Malloc.{malloc_linear}
use Rattle.pool_memory.specs.Mapped.{mapped_linear}
use Rattle.pool_memory.specs.declared.creators.LinearMemory.{LinearMemory}
use Rattle.pool_memory.specs.declared.creators.LinearMemory.TheVariants.{Mapped, Malloc}

-- A linear memory of either form, in a region or in a list of bytes, as plain data.
abbrev pub either_linear : {P : Type 0} → LinearMemory P → Linear
either_linear (Mapped memory) = mapped_linear memory
either_linear (Malloc memory) = malloc_linear memory

-- Nothing was done with the memory since it was made; one in a list of bytes always counts so.
abbrev pub either_untouched : {P : Type 0} → LinearMemory P → Bool
either_untouched (Mapped memory) = memory.as_made
either_untouched (Malloc memory) = true

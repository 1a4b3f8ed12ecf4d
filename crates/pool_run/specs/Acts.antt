-- What a command acts on: commands that do alike have one case.
use Rattle.std.specs.Prelude.{ℕ, List, slice_get, false, Option, option_map}
use Rattle.pool_run.specs.Imports.{ComponentInfo, I32, Limits, MemoryType}
use Rattle.pool_run.specs.declared.command.Command.{Command}
use Rattle.pool_run.specs.declared.command.Command.TheVariants.{Instantiate, Read, Write, Fill, Grow, Size, Get, Set, TableFill, TableGrow, TableSize, Drop, Purge, Release, Component, Stack, Heap}
use Rattle.pool_run.specs.declared.command.TableValue.{TableValue}

-- what is done with a memory: so many bytes are read from a place, or these written there, or so many set to one byte; it
-- grows by so many of its own pages; or its size is asked for
pub data MemoryOp : Type 0 where
  reads : ℕ → ℕ → MemoryOp
  writes : ℕ → List ℕ → MemoryOp
  fills : ℕ → ℕ → ℕ → MemoryOp
  grows : ℕ → MemoryOp
  asks_size : MemoryOp

-- What is done with a table: an element is asked for; so many are set from a place on; it grows by so many; or how many
-- it has is asked for.
pub data TableOp : Type 0 where
  gets : ℕ → TableOp
  sets : ℕ → ℕ → TableValue → TableOp
  lengthens : ℕ → TableOp
  asks_length : TableOp

-- What is asked for: an instance of the module of this number, a component of which this is known, a stack, or a heap whose
-- memory has so many pages of 64 KiB.
pub data Wanted : Type 0 where
  an_instance : ℕ → Wanted
  a_component : ComponentInfo → Wanted
  a_stack : Wanted
  a_heap : Limits → Wanted

-- the type of that memory, which has addresses of 32 bits
abbrev pub heap_type : Limits → MemoryType
heap_type limits = record { idx_type = I32; limits = limits; shared = false; page_size_log2 = 16 }

-- A grant is requested, something is done with a memory or a table of the grant of a command, or that grant is given back. A
-- module of this number is purged, or what is resident released.
pub data Act : Type 0 where
  requests : Wanted → Act
  on_memory : ℕ → ℕ → MemoryOp → Act
  on_table : ℕ → ℕ → TableOp → Act
  drops : ℕ → Act
  purges : ℕ → Act
  releases : Act

-- What a command asks for: a request, an operation on a memory or a table, a give-back, a purge or a release.
abbrev pub act_of : Command → Act
act_of (Instantiate number) = requests (an_instance number)
act_of (Component core_instances memories tables core_bytes own_bytes) =
    requests (a_component (record { core_instances = core_instances; memories = memories; tables = tables; core_bytes = core_bytes; own_bytes = own_bytes }))
act_of Stack = requests a_stack
act_of (Heap min max) = requests (a_heap (record { min = min; max = max }))
act_of (Read of k at len) = on_memory of k (reads at len)
act_of (Write of k at bytes) = on_memory of k (writes at bytes)
act_of (Fill of k at len byte) = on_memory of k (fills at len byte)
act_of (Grow of k pages) = on_memory of k (grows pages)
act_of (Size of k) = on_memory of k asks_size
act_of (Get of k at) = on_table of k (gets at)
act_of (Set of k at value) = on_table of k (sets at 1 value)
act_of (TableFill of k at value len) = on_table of k (sets at len value)
act_of (TableGrow of k by) = on_table of k (lengthens by)
act_of (TableSize of k) = on_table of k asks_length
act_of (Drop of) = drops of
act_of (Purge number) = purges number
act_of Release = releases

-- what command n does, if there is one
abbrev pub act_at : List Command → ℕ → Option Act
act_at commands n = option_map act_of (slice_get commands n)

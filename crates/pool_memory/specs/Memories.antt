-- A memory with its type, and what reads and writes of it answer.
use Rattle.std.specs.Prelude.{◌≡◌, ℕ, ◌+◌, ◌^◌, ◌<◌, ◌≤◌, List, Bool, true, false, nat_le, if◌then◌else◌, Option, Result, Ok, Err}
use Rattle.pool_memory.specs.Imports.{page_size, MemoryType, Trap, MemoryOutOfBounds, Slot}
use Rattle.pool_memory.specs.Linear.{Linear, slot_in, linear_bytes, linear_written}

-- its type, whether it may be moved as it grows, and its bytes with their room
pub record MemoryState : Type 0 where
  pub ty : MemoryType
  pub may_move : Bool
  pub linear : Linear

-- what is kept of every memory: its size leaves room for one page of its own, and it isn't to move where it can't
pub record IsMemoryState (m : MemoryState) : Type 0 where
  pub page : m.ty.page_size_log2 < 64
  pub room : m.linear.size + page_size m.ty ≤ 2 ^ 64
  pub moves : m.may_move ≡ true → m.linear.moves ≡ true
  pub shared : m.ty.shared ≡ true → m.may_move ≡ false

-- the slot that it lies in
abbrev pub slot_of : MemoryState → Slot
slot_of m = slot_in m.linear.storage

-- the memory's bytes, where they are told
abbrev pub bytes_of : MemoryState → Option (List ℕ)
bytes_of m = linear_bytes m.linear

-- the memory after bytes of it were written
abbrev pub memory_written : ℕ → List ℕ → MemoryState → MemoryState
memory_written at new m = record m { linear = linear_written at new m.linear }

-- an access that ends here is in bounds, or a trap
abbrev pub access_answer : ℕ → ℕ → Result (Unit {0}) Trap
access_answer end size = if nat_le end size then Ok tt else Err MemoryOutOfBounds

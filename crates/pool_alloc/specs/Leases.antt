-- What is granted, and how a lease is changed.
use Rattle.std.specs.Prelude.{◌≡◌, ℕ, ◌+◌, ◌≤◌, List, [], ◌∷◌, length, slice_index_or, slice_set, false, Option, Some, Result, OnOk, OnErr}
use Rattle.pool_alloc.specs.Imports.{IsInUse, Exchange, LimiterTold, GrowFault, Trap, GrowsAsking, MemoryState, slot_of, memory_written, access_answer, memory_kind, RegionNumbers, SlotName}
use Rattle.pool_alloc.specs.Reserved.{Reserved}
use Rattle.pool_alloc.specs.declared.frame.TakenSlot.{TakenSlot}

-- a memory that was granted, the number of its slot, and the numbers that its region went out with
pub record Lease : Type 0 where
  pub index : ℕ
  pub memory : MemoryState
  pub numbers : RegionNumbers

-- the name of a memory slot
abbrev pub memory_slot : ℕ → SlotName
memory_slot slot = record { kind = memory_kind; slot = slot }

-- the index of the first of these memories; where there is none, it doesn't matter which
abbrev pub first_index : List Lease → ℕ
first_index [] = 0
first_index (lease ∷ rest) = lease.index

-- the slot with those numbers
abbrev pub slot_taken : Lease → TakenSlot
slot_taken l = record { name = memory_slot l.index; numbers = l.numbers }

-- the memory can be read and written, is no larger than it may be, and stays where it is
pub record IsUsable (m : MemoryState) : Type 0 where
  pub within : m.linear.size ≤ m.linear.capacity
  pub in_use : IsInUse (slot_of m)
  pub inside : m.linear.size ≤ (slot_of m).accessible.bytes
  pub fixed : m.may_move ≡ false

-- bytes of the memory were written, or it is as before where they pass its size
pub record IsWritten (at : ℕ) (bytes : List ℕ) (old new : Lease) (result : Result (Unit {0}) Trap) : Type 0 where
  pub same : new ≡ record old { memory = new.memory }
  pub answer : result ≡ access_answer (at + length bytes) old.memory.linear.size
  pub written : OnOk result (new.memory ≡ memory_written at bytes old.memory)
  pub unwritten : OnErr result (new.memory ≡ old.memory)
  pub memory : IsUsable new.memory

-- The memory was asked to grow by so many of its pages, and this was the answer. The limiter was in the first of these
-- states, and is left in the other.
pub record IsGrown {R : Type 0} (told : R → LimiterTold) (leads : R → Exchange → R → Type 0) (pages : ℕ) (old new : Lease) (before after : R) (answer : Result (Option ℕ) GrowFault) : Type 0 where
  pub same : new ≡ record old { memory = new.memory }
  pub growth : GrowsAsking told leads pages old.memory.linear.size old.memory new.memory (Some before) (Some after) answer
  pub memory : IsUsable new.memory

-- the lease at this place was so changed, and the others stay
pub record IsChanged {L : Type 0} (Change : L → L → Type 0) (place : ℕ) (old new : Reserved L) : Type 0 where
  pub lease : L
  pub change : (d : L) → Change (slice_index_or old.items place d) lease
  pub is : new ≡ record old { items = slice_set old.items place lease }

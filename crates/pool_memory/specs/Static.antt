-- A memory that stays in the slot of an image that it began in.
use Rattle.std.specs.Prelude.{◌≡◌, ℕ, ◌+◌, ◌-◌, ◌≤◌, min, replicate, slice_range, nat_le, if◌then◌else◌, false, Option, IfSome, Result, Ok, Err}
use Rattle.pool_memory.specs.Imports.{option_map_or, rounded_up, Unsupported, InitialSize, Slot, IsInUse}
use Rattle.pool_memory.specs.Linear.{Linear, in_slot}

-- A memory that stays in its slot: the slot, how many bytes it has, and how many it may have.
pub record Static : Type 0 where
  pub slot : Slot
  pub size : ℕ
  pub capacity : ℕ

-- A memory that stays in its slot as plain data: it never moves.
abbrev pub linear_of : Static → Linear
linear_of m = record { size = m.size; capacity = m.capacity; moves = false; extra = 0; storage = in_slot m.slot }

-- A slot in use can hold a memory of so many bytes: they can be reached, and all behind them is zeros.
pub record CanHold (size : ℕ) (s : Slot) : Type 0 where
  pub in_use : IsInUse s
  pub reached : size ≤ s.accessible.bytes
  pub inside : size ≤ s.static_size
  pub zeros : IfSome s.region.contents (λ c. slice_range c.bytes (s.base.bytes + size) (s.base.bytes + s.static_size) ≡ replicate (s.static_size - size) 0)

-- what holds of every such memory
pub record IsStatic (m : Static) : Type 0 where
  pub slot : CanHold m.size m.slot
  pub within : m.size ≤ m.capacity
  pub room : rounded_up m.slot.region.page m.capacity ≤ m.slot.static_size

-- the lesser of what the slot offers and what the memory's type allows
abbrev pub static_capacity : ℕ → Option ℕ → ℕ
static_capacity base_capacity maximum = option_map_or (min base_capacity) maximum base_capacity

-- the memory made in a slot, or the slot again where the memory begins with more than the slot offers
abbrev pub made_static : ℕ → ℕ → Option ℕ → Slot → Result Static (Slot × Unsupported)
made_static base_capacity initial maximum slot =
    if nat_le initial base_capacity
    then Ok (record { slot = slot; size = initial; capacity = static_capacity base_capacity maximum })
    else Err (slot, InitialSize)

-- A memory in a region that it has to itself.
use Rattle.std.specs.Prelude.{◌≡◌, ℕ, ◌+◌, ◌-◌, ◌%◌, ◌^◌, ◌≤◌, ◌++◌, replicate, slice_range, Bool, true, false, ◌&&◌, nat_le, nat_lt, if◌then◌else◌, Option, Some, None, IfSome}
use Rattle.pool_memory.specs.Imports.{reservation, reservation_for_growth, MemoryTunables, Unsupported, AddressSpace, RestoreOriginalMapping, Slot, IsClean, IsSlot}
use Rattle.pool_memory.specs.Linear.{Linear, in_slot, linear_bytes}
use Rattle.pool_memory.specs.Copying.{OnlyWritten}
use Rattle.pool_memory.specs.Static.{Static, IsStatic}
use Rattle.pool_memory.specs.Layouts.{Layout, layout_len, layout_of, first_layout}

-- The slot of its region, how many bytes it has, and how many it takes beyond what it needs as it moves. Whether it is as it
-- was made, but for its size, and whether it is known what the slot holds: it isn't once the mapping of an image failed.
pub record Mapped : Type 0 where
  pub slot : Slot
  pub size : ℕ
  pub extra : ℕ
  pub as_made : Bool
  pub known : Bool

-- the slot as one in use: a memory may be written from the beginning
abbrev pub used : Slot → Slot
used s = record s { dirty = true }

-- what it may have without moving: all of its slot, or nothing where that isn't known
abbrev pub mapped_capacity : Mapped → ℕ
mapped_capacity m = if m.known then m.slot.static_size else 0

-- A memory in a region of its own as plain data: it may move.
abbrev pub mapped_linear : Mapped → Linear
mapped_linear m = record { size = m.size; capacity = mapped_capacity m; moves = true; extra = m.extra; storage = in_slot (used m.slot) }

-- as a memory that stays in its slot
abbrev pub held_in : Mapped → Static
held_in m = record { slot = used m.slot; size = m.size; capacity = m.slot.static_size }

-- What holds of every such memory. One whose slot isn't known has no bytes.
pub record IsMapped (m : Mapped) : Type 0 where
  pub holds : m.known ≡ true → IsStatic (held_in m)
  pub clean : m.as_made ≡ true → IsClean m.slot
  pub known_made : m.as_made ≡ true → m.known ≡ true
  pub unmapped : m.as_made ≡ true → m.slot.image ≡ None
  pub restores : m.slot.region.behaviour ≡ RestoreOriginalMapping
  pub whole : m.slot.static_size % m.slot.region.page ≡ 0
  pub inside : m.slot.base.bytes + m.slot.static_size ≤ m.slot.region.len
  pub empty : m.known ≡ false → m.size ≡ 0

-- what it keeps beside its value
pub record KeepsLayout (l : Layout) (m : Mapped) : Type 0 where
  pub is : IsMapped m
  pub before : l.before ≡ m.slot.base.bytes
  pub capacity : l.capacity ≡ m.slot.static_size
  pub page : l.page ≡ m.slot.region.page
  pub len : layout_len l ≡ m.slot.region.len

-- why such a memory isn't made: its region would be longer than addresses reach
abbrev pub mapped_refusal : ℕ → MemoryTunables → ℕ → Option Unsupported
mapped_refusal page tunables minimum = if nat_lt (layout_len (first_layout page tunables minimum)) (2 ^ 64) then None else Some AddressSpace

-- it takes nothing beyond what it needs where what is reserved holds its minimum and its maximum
abbrev pub is_reserved : MemoryTunables → ℕ → Option ℕ → Bool
is_reserved tunables minimum None = false
is_reserved tunables minimum (Some maximum) = nat_le minimum (reservation tunables) && nat_le maximum (reservation tunables)

-- How many bytes of room a larger region gets beyond the size asked for: none where the first region is large enough
-- for ever.
abbrev pub extra_on_growth : MemoryTunables → ℕ → Option ℕ → ℕ
extra_on_growth tunables minimum maximum = if is_reserved tunables minimum maximum then 0 else reservation_for_growth tunables

-- A slot in a region of this layout, as it is made for a memory of so many bytes.
pub record IsMadeSlot (l : Layout) (size : ℕ) (s : Slot) : Type 0 where
  pub clean : IsClean s
  pub fits : IsSlot s
  pub restores : s.region.behaviour ≡ RestoreOriginalMapping
  pub layout : layout_of s ≡ l
  pub reached : size ≤ s.accessible.bytes
  pub inside : size ≤ s.static_size
  pub whole : s.static_size % s.region.page ≡ 0
  pub image : s.image ≡ None
  pub zeros : IfSome s.region.contents (λ c. slice_range c.bytes s.base.bytes (s.base.bytes + s.static_size) ≡ replicate s.static_size 0)

-- the memory has moved to such a slot
pub record HasMoved (size : ℕ) (slot : Slot) (old new : Mapped) : Type 0 where
  pub sized : new.size ≡ size
  pub extra : new.extra ≡ old.extra
  pub known : new.known ≡ true
  pub place : OnlyWritten slot (used new.slot)
  pub bytes : IfSome (linear_bytes (mapped_linear old)) (λ b. IfSome (linear_bytes (mapped_linear new)) (λ c. c ≡ b ++ replicate (size - old.size) 0))

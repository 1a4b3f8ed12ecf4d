-- How a region is laid out that a memory has to itself, and how large it is made.
use Rattle.std.specs.Prelude.{ℕ, ◌+◌, ◌-◌, nat_le, if◌then◌else◌}
use Rattle.pool_memory.specs.Imports.{rounded_up, reservation, guard_size, reservation_for_growth, MemoryTunables, Slot}

-- the region's page, and how many bytes lie before the memory, may become its own, and lie behind it
pub record Layout : Type 0 where
  pub page : ℕ
  pub before : ℕ
  pub capacity : ℕ
  pub guard : ℕ

-- the bytes of such a region
abbrev pub layout_len : Layout → ℕ
layout_len l = l.before + l.capacity + l.guard

-- how many bytes are set aside for a memory: what is reserved, or where it begins with more, that and what is reserved for
-- its growth
abbrev pub first_room : MemoryTunables → ℕ → ℕ
first_room tunables minimum = if nat_le minimum (reservation tunables) then reservation tunables else minimum + reservation_for_growth tunables

-- How many bytes lie unreachable before a memory: the guard in whole pages where the settings ask for one, else none.
abbrev pub guard_before : ℕ → MemoryTunables → ℕ
guard_before page tunables = if tunables.tunables.guard_before_linear_memory then rounded_up page (guard_size tunables) else 0

-- the region that a memory of this size begins in, all of it in whole pages
abbrev pub first_layout : ℕ → MemoryTunables → ℕ → Layout
first_layout page tunables minimum = record {
  page = page;
  before = guard_before page tunables;
  capacity = rounded_up page (first_room tunables minimum);
  guard = rounded_up page (guard_size tunables);
}

-- the region that a memory moves to for a size, of which it takes so many bytes beyond that
abbrev pub moved_layout : ℕ → ℕ → Layout → Layout
moved_layout size extra l = record l { capacity = rounded_up l.page size + rounded_up l.page extra }

-- how the region of a slot is laid out
abbrev pub layout_of : Slot → Layout
layout_of s = record {
  page = s.region.page;
  before = s.base.bytes;
  capacity = s.static_size;
  guard = s.region.len - s.static_size - s.base.bytes;
}

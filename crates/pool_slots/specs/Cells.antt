-- What the cell of a memory slot holds.
use Rattle.std.specs.Prelude.{◌≡◌, ℕ, ◌-◌, ◌^◌, List, min, sum_by, Bool, true, false, Option, is_some}
use Rattle.pool_slots.specs.Imports.{count, Told, no_calls, PageCalls, Slot, SlotIdentity, IsClean, identity}

-- the region as it was made, a slot of which nothing is known, a slot that was used and is clean, or nothing
pub data Cell : Type 0 where
  unmapped : Told → Cell
  unknown : Slot → Cell
  previously_used : Slot → Cell
  taken : Cell

-- The cell is empty: what it held is out.
abbrev pub is_taken : Cell → Bool
is_taken (unmapped region) = false
is_taken (unknown slot) = false
is_taken (previously_used slot) = false
is_taken taken = true

-- the calls made so far on the region that lies in a cell, none where it is taken
abbrev pub calls_in : Cell → PageCalls
calls_in (unmapped region) = region.calls
calls_in (unknown slot) = slot.region.calls
calls_in (previously_used slot) = slot.region.calls
calls_in taken = no_calls

-- a sum that stands still at the end of its type
abbrev pub sum_at_most : (PageCalls → ℕ) → List PageCalls → ℕ
sum_at_most of calls = min (sum_by of calls) (2 ^ 64 - 1)

-- the calls of several regions, together
abbrev pub all_calls : List PageCalls → PageCalls
all_calls calls = record {
  expose = sum_at_most (λ c. c.expose) calls;
  hide = sum_at_most (λ c. c.hide) calls;
  map_image = sum_at_most (λ c. c.map_image) calls;
  remap_zeros = sum_at_most (λ c. c.remap_zeros) calls;
  erase = sum_at_most (λ c. c.erase) calls;
  recolour = sum_at_most (λ c. c.recolour) calls;
  decommit = sum_at_most (λ c. c.decommit) calls;
}

-- what no call changes of the slot that is made of a region: it begins with the region, and has this colour
abbrev pub identity_made : Told → Option ℕ → ℕ → SlotIdentity
identity_made made colour static_size = record {
  base = count made.page 0;
  static_size = static_size;
  colour = colour;
  name = made.name;
  page = made.page;
  len = made.len;
  behaviour = made.behaviour;
  plan = made.plan;
  tells = is_some made.contents;
}

-- the slot that was made of this region, with this colour
pub record IsSlotOf (made : Told) (colour : Option ℕ) (static_size : ℕ) (s : Slot) : Type 0 where
  pub same : identity s ≡ identity_made made colour static_size

-- a slot that was used before is clean
abbrev pub IsCleanOnceUsed : Cell → Type 0
IsCleanOnceUsed (unmapped region) = Unit {0}
IsCleanOnceUsed (unknown slot) = Unit {0}
IsCleanOnceUsed (previously_used slot) = IsClean slot
IsCleanOnceUsed taken = Unit {0}

-- What the cell of a slot may hold: the region as it was made, or the slot that was made of it.
abbrev pub IsCell : Told → Option ℕ → ℕ → Cell → Type 0
IsCell made colour static_size (unmapped region) = region ≡ made
IsCell made colour static_size (unknown slot) = IsSlotOf made colour static_size slot
IsCell made colour static_size (previously_used slot) = IsSlotOf made colour static_size slot × IsClean slot
IsCell made colour static_size taken = Unit {0}

-- A linear memory: how many bytes it has and may have, where they lie, and what a write makes of it.
use Rattle.std.specs.Prelude.{◌≡◌, ℕ, ◌+◌, ◌-◌, ◌≤◌, List, [], take, replicate, slice_range, min, Bool, true, false, Option, None, IfSome, is_some, option_map}
use Rattle.pool_memory.specs.Imports.{put, count, no_calls, OnDemand, Zero, Slot, written_at}

-- in the slot of an image, or in storage of the memory's own: how many bytes of that can be reached and, where it tells
-- them, which those are
pub data Storage : Type 0 where
  in_slot : Slot → Storage
  stored : ℕ → Option (List ℕ) → Storage

-- How many bytes the memory has, how many it may have without moving, whether it can move to have more, how many it takes
-- beyond what it needs then, and where they lie.
pub record Linear : Type 0 where
  pub size : ℕ
  pub capacity : ℕ
  pub moves : Bool
  pub extra : ℕ
  pub storage : Storage

-- a slot of no pages, for a memory that lies in none
abbrev pub no_slot : Slot
no_slot = record {
  region = record { name = OnDemand 0; page = 16; len = 0; behaviour = Zero; contents = None; marks = []; plan = None; made = 0; calls = no_calls; faults = 0 };
  base = count 16 0;
  accessible = count 16 0;
  static_size = 0;
  image = None;
  dirty = false;
  colour = None;
}

-- the slot that a memory lies in
abbrev pub slot_in : Storage → Slot
slot_in (in_slot s) = s
slot_in (stored len bytes) = no_slot

-- it lies in a list, and not in a slot
abbrev pub is_listed : Storage → Bool
is_listed (in_slot s) = false
is_listed (stored len bytes) = true

-- how many bytes can be reached
abbrev pub reached : Storage → ℕ
reached (in_slot s) = s.accessible.bytes
reached (stored len bytes) = len

-- the first n bytes, where they are told
abbrev pub first_bytes : ℕ → Storage → Option (List ℕ)
first_bytes n (in_slot s) = option_map (λ c. slice_range c.bytes s.base.bytes (s.base.bytes + n)) s.region.contents
first_bytes n (stored len bytes) = option_map (λ b. take n b) bytes

-- an image is mapped in it
abbrev pub is_mapped : Storage → Bool
is_mapped (in_slot s) = is_some s.image
is_mapped (stored len bytes) = false

-- the storage after bytes of it were written
abbrev pub storage_written : ℕ → List ℕ → Storage → Storage
storage_written at new (in_slot s) = in_slot (written_at at new s)
storage_written at new (stored len bytes) = stored len (option_map (put at new) bytes)

-- how large the memory may become at once: that much can be reached, and isn't more than it may have
abbrev pub ready : Linear → ℕ
ready l = min (reached l.storage) l.capacity

-- the memory's bytes, where they are told
abbrev pub linear_bytes : Linear → Option (List ℕ)
linear_bytes l = first_bytes l.size l.storage

-- A memory once bytes were written at a place; its size and capacity stay.
abbrev pub linear_written : ℕ → List ℕ → Linear → Linear
linear_written at new l = record l { storage = storage_written at new l.storage }

-- the memory with more of what is ready
abbrev pub grown_into_ready : ℕ → Linear → Linear
grown_into_ready size l = record l { size = size }

-- what holds of every memory: all of it can be reached, and what can be reached behind it is zeros
pub record IsLinear (l : Linear) : Type 0 where
  pub within : l.size ≤ l.capacity
  pub reached : l.size ≤ reached l.storage
  pub zeros : IfSome (first_bytes (ready l) l.storage) (λ bytes. slice_range bytes l.size (ready l) ≡ replicate (ready l - l.size) 0)

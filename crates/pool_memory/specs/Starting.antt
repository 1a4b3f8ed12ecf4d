-- How a memory that was just made begins with an image.
use Rattle.std.specs.Prelude.{◌≡◌, ℕ, ◌%◌, ◌==◌, List, Bool, true, false, ◌&&◌, Option, Some, None, IfSome}
use Rattle.pool_memory.specs.Imports.{rounded_up, PageCall, MemoryTunables, MemoryType, Image, start, Follows, replacing, Slot, FitsInto, IsLeft, identity, hides}
use Rattle.pool_memory.specs.Linear.{Linear, Storage, in_slot, stored, slot_in, is_mapped, linear_bytes}

-- A memory in a region whose size is whole pages: it can begin with an image mapped.
abbrev pub has_whole_pages : ℕ → Storage → Bool
has_whole_pages size (in_slot s) = size % s.region.page == 0
has_whole_pages size (stored len bytes) = false

-- An image is mapped in it: it has whole pages of a region of its own. One that stays in its slot gets its image with that.
abbrev pub takes_image : Linear → Bool
takes_image l = l.moves && has_whole_pages l.size l.storage

-- the image has pages of the region's size, and ends within the memory
abbrev pub FitsIn : Image → ℕ → Storage → Type 0
FitsIn image size (in_slot s) = FitsInto s.region.page size image
FitsIn image size (stored len bytes) = Unit {0}

-- An image ends within a memory, and begins and ends at pages of its region.
abbrev pub ImageFits : Image → Linear → Type 0
ImageFits image l = FitsIn image l.size l.storage

-- the memory has the image: it holds the image's bytes at their offset, and zeros elsewhere
pub record HasStarted (image : Image) (old new : Linear) : Type 0 where
  pub same : new ≡ record old { storage = new.storage }
  pub slot : identity (slot_in new.storage) ≡ identity (slot_in old.storage)
  pub mapped : is_mapped new.storage ≡ true
  pub bytes : IfSome (linear_bytes new) (λ b. b ≡ start (Some image) old.size)

-- a call on its region failed, and nothing is known of what that holds: the memory has no bytes
pub record HasNotStarted (old new : Linear) : Type 0 where
  pub takes : takes_image old ≡ true
  pub same : new ≡ record old { size = 0; capacity = 0; storage = new.storage }
  pub left : IsLeft (slot_in old.storage) (slot_in new.storage)

-- The calls on its region for a start with an image, and how they end, where the region tells its plan and what it holds:
-- the bytes that the memory has and no others are made ones that can be reached, and then the image is mapped.
abbrev pub CallsFollow : List PageCall → Bool → Slot → Slot → Type 0
CallsFollow calls ok old new = IfSome old.region.contents (λ c. Follows calls ok old.region new.region)

-- The page calls by which a memory in a region takes an image; one in a list of bytes makes none.
abbrev pub PlaceStarts : MemoryType → MemoryTunables → Image → ℕ → Bool → Storage → Storage → Type 0
PlaceStarts ty tunables image size ok (in_slot s) new = CallsFollow (replacing (rounded_up s.region.page size) (hides ty tunables s.region.page) (Some image) s) ok s (slot_in new)
PlaceStarts ty tunables image size ok (stored len bytes) new = Unit {0}

-- A memory that may take its image by pages does so by these page calls, and fails where one fails.
abbrev pub StartsBy : MemoryType → MemoryTunables → Image → Bool → Linear → Linear → Type 0
StartsBy ty tunables image ok old new = takes_image old ≡ true → PlaceStarts ty tunables image old.size ok old.storage new.storage

-- the memory begins with an image, or as it was made
abbrev pub BeginsWith : Bool → Option Image → Linear → Linear → Type 0
BeginsWith takes None old new = new ≡ old
BeginsWith false (Some image) old new = new ≡ old
BeginsWith true (Some image) old new = HasStarted image old new

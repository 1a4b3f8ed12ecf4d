-- A slot for a memory: a region with at most one image mapped, what it reads as, and what each call makes of it.
use Rattle.std.specs.Prelude.{◌≡◌, ℕ, ◌+◌, ◌-◌, ◌*◌, ◌/◌, ◌%◌, ◌^◌, ◌<◌, ◌≤◌, ◌&&◌, ◌||◌, List, [], ◌∷◌, length, min, replicate, slice_range, slice_index_or, Bool, true, false, nat_lt, if◌then◌else◌, Option, Some, None, IfSome, is_some, option_map}
use Rattle.pool_types.specs.Count.{Count, count, IsPageSize, rounded_up}
use Rattle.pool_pages.specs.Contents.{Contents, IsShaped, CanReach, IsIn, page_origin, put}
use Rattle.pool_pages.specs.Told.{Told, PageCall, Faulted, succeeded, overwritten, restored, exposing, hiding, mapping, remapping, erasing, recolouring, decommitting}
use Rattle.pool_types.specs.Rising.{Rose}
use Rattle.pool_pages.specs.declared.pages.RegionName.{RegionName}
use Rattle.pool_types.specs.declared.decommit_behavior.DecommitBehavior.{DecommitBehavior}
use Rattle.pool_types.specs.declared.decommit_behavior.DecommitBehavior.TheVariants.{Zero, RestoreOriginalMapping}
use Rattle.pool_types.specs.MemoryTypes.{guard_size, can_use_virtual_memory}
use Rattle.pool_types.specs.declared.module_types.MemoryType.{MemoryType}
use Rattle.pool_types.specs.declared.module_types.MemoryTunables.{MemoryTunables}
use Rattle.pool_images.specs.Images.{Image, start}
use Rattle.pool_images.specs.declared.image_slot.ImageName.{ImageName}
use Rattle.pool_images.specs.declared.ranges.ByteRange.{ByteRange}

-- A region, where in it the slot begins, how much of the slot can be reached, how large it may become, which image is
-- mapped, whether it may have been written since it was last clean, and the colour of its pages.
pub record Slot : Type 0 where
  pub region : Told
  pub base : Count
  pub accessible : Count
  pub static_size : ℕ
  pub image : Option ImageName
  pub dirty : Bool
  pub colour : Option ℕ

-- What no call changes of a slot: where it begins in its region, how large it may become, its colour, and of the region
-- its name, page, length, behaviour and plan, and whether it tells what it holds.
pub record SlotIdentity : Type 0 where
  pub base : Count
  pub static_size : ℕ
  pub colour : Option ℕ
  pub name : RegionName
  pub page : ℕ
  pub len : ℕ
  pub behaviour : DecommitBehavior
  pub plan : Option (List ℕ)
  pub tells : Bool

-- What no call on a slot changes: where it lies, its region's name, page, length, behaviour and plan, and its colour.
abbrev pub identity : Slot → SlotIdentity
identity s = record {
  base = s.base;
  static_size = s.static_size;
  colour = s.colour;
  name = s.region.name;
  page = s.region.page;
  len = s.region.len;
  behaviour = s.region.behaviour;
  plan = s.region.plan;
  tells = is_some s.region.contents;
}

-- the bytes of the slot's pages
abbrev pub size_of : Slot → ℕ
size_of s = rounded_up s.region.page s.static_size

-- the name under which a slot keeps an image
abbrev pub name_of : Image → ImageName
name_of i = record { id = i.id; memory = i.memory; offset = i.offset; len = length i.bytes }

-- the bytes of a mapped image, of what the region goes back to
abbrev pub image_bytes : ℕ → ImageName → List ℕ → List ℕ
image_bytes base name origin = slice_range origin (base + name.offset) (base + name.offset + name.len)

-- what a region goes back to where its only image is this one, at its place: zeros elsewhere
abbrev pub placed : ℕ → Option ImageName → List ℕ → List ℕ
placed base None origin = replicate (length origin) 0
placed base (Some name) origin = put (base + name.offset) (image_bytes base name origin) (replicate (length origin) 0)

-- the image that pages go back to where one is mapped: that one, unless they go back to zeros
abbrev pub restored_image : Option ImageName → DecommitBehavior → Option ImageName
restored_image None behaviour = None
restored_image (Some name) RestoreOriginalMapping = Some name
restored_image (Some name) Zero = None

-- The image that a decommit of this slot brings back, if any.
abbrev pub origin_image : Slot → Option ImageName
origin_image s = restored_image s.image s.region.behaviour

-- the region has its shape, and its pages outside the slot go back to zeros
pub record IsSound (page len base size : ℕ) (c : Contents) : Type 0 where
  pub shaped : IsShaped page len c
  pub outside : (k : ℕ) → k < len / page → (IsIn base size page k → ⊥) → page_origin k c ≡ replicate page 0

-- the image is whole pages that can be reached
pub record IsPlaced (page accessible : ℕ) (name : ImageName) : Type 0 where
  pub offset : name.offset % page ≡ 0
  pub len : name.len % page ≡ 0
  pub inside : name.offset + name.len ≤ accessible

-- sizes of a slot and its region that fit one another
pub record SizesFit (page len : ℕ) (base accessible : Count) (static_size : ℕ) (mapped : Option ImageName) : Type 0 where
  pub page_size : IsPageSize page
  pub base_page : base.page ≡ page
  pub base_whole : base.bytes % page ≡ 0
  pub accessible_page : accessible.page ≡ page
  pub accessible_whole : accessible.bytes % page ≡ 0
  pub inside : base.bytes + rounded_up page static_size ≤ len
  pub bounded : len < 2 ^ 64
  pub roomy : static_size + page ≤ 2 ^ 64
  pub within : accessible.bytes ≤ rounded_up page static_size
  pub image : IfSome mapped (IsPlaced page accessible.bytes)

-- what holds of every slot, clean or not
pub record IsSlot (s : Slot) : Type 0 where
  pub sizes : SizesFit s.region.page s.region.len s.base s.accessible s.static_size s.image
  pub told : IfSome s.region.contents (IsSound s.region.page s.region.len s.base.bytes (size_of s))

-- what a slot keeps beside its value: its size in whole pages
pub record Keeps (whole : Count) (s : Slot) : Type 0 where
  pub size : whole ≡ count s.region.page (size_of s)
  pub fits : IsSlot s

-- the bytes from one place of the slot to another are what they go back to
abbrev pub Holds : Slot → ℕ → ℕ → Contents → Type 0
Holds s from to c = slice_range c.bytes (s.base.bytes + from) (s.base.bytes + to) ≡ slice_range c.origin (s.base.bytes + from) (s.base.bytes + to)

-- a colour as a page has it: 0 for none
abbrev pub colour_number : Option ℕ → ℕ
colour_number None = 0
colour_number (Some colour) = colour

-- each page of a range has this colour
abbrev pub HasColour : ℕ → ℕ → Option ℕ → Contents → Type 0
HasColour base size colour c = (k : ℕ) → IsIn base size c.page k → slice_index_or c.colour k 0 ≡ colour_number colour

-- The slot can be used: its accessible pages can be reached, the region goes back to the mapped image, or to zeros
-- where that is its behaviour, what can't be reached is what it goes back to, and each page has the slot's colour.
pub record IsReady (s : Slot) (c : Contents) : Type 0 where
  pub reach : CanReach s.base.bytes s.accessible.bytes c
  pub origin : c.origin ≡ placed s.base.bytes (origin_image s) c.origin
  pub beyond : Holds s s.accessible.bytes (size_of s) c
  pub colour : HasColour s.base.bytes (size_of s) s.colour c

-- The slot is clean: it can be used, wasn't written, and holds what it goes back to. Its image is what it goes back to,
-- so that it has none where pages go back to zeros.
pub record IsClean (s : Slot) : Type 0 where
  pub not_dirty : s.dirty ≡ false
  pub image : s.image ≡ origin_image s
  pub ready : IfSome s.region.contents (IsReady s)
  pub holds : IfSome s.region.contents (Holds s 0 (size_of s))

-- the slot is in use
pub record IsInUse (s : Slot) : Type 0 where
  pub dirty : s.dirty ≡ true
  pub ready : IfSome s.region.contents (IsReady s)

-- the first n bytes of the slot are these
abbrev pub Reads : Slot → ℕ → List ℕ → Type 0
Reads s n bytes = IfSome s.region.contents (λ c. slice_range c.bytes s.base.bytes (s.base.bytes + n) ≡ bytes)

-- the slot after a call on its region that succeeded
abbrev pub called : PageCall → Slot → Slot
called call s = record s { region = succeeded call s.region }

-- The slot with as much accessible as is wanted: more pages are exposed, and fewer hidden where that is wanted. What
-- is exposed and not wanted stays accessible otherwise.
abbrev pub resized : ℕ → Bool → Slot → Slot
resized size hides s =
    if nat_lt s.accessible.bytes size
    then record (called (exposing (s.base.bytes + s.accessible.bytes) (size - s.accessible.bytes)) s) { accessible = count s.region.page size }
    else (
    if hides && nat_lt size s.accessible.bytes
    then record (called (hiding (s.base.bytes + size) (s.accessible.bytes - size)) s) { accessible = count s.region.page size }
    else s
    )

-- The call that exposes what is missing up to a size.
abbrev pub raising : ℕ → Slot → PageCall
raising size s = exposing (s.base.bytes + s.accessible.bytes) (size - s.accessible.bytes)

-- The slot once its heap limit was raised to a size: the pages up to there can be reached.
abbrev pub raised : ℕ → Slot → Slot
raised size s = record (called (raising size s) s) { accessible = count s.region.page size }

-- the slot with so many bytes accessible, in whole pages, or more where more were
abbrev pub limited : ℕ → Slot → Slot
limited size s = if nat_lt s.accessible.bytes (rounded_up s.region.page size) then raised (rounded_up s.region.page size) s else s

-- Of the slot only pages were exposed: it has the same parts and bytes, and it is clean, or can be used, where it was.
pub record OnlyExposed (old new : Slot) : Type 0 where
  pub same : identity new ≡ identity old
  pub image : new.image ≡ old.image
  pub dirty : new.dirty ≡ old.dirty
  pub bytes : option_map (λ c. c.bytes) new.region.contents ≡ option_map (λ c. c.bytes) old.region.contents
  pub ready : IfSome old.region.contents (IsReady old) → IfSome new.region.contents (IsReady new)
  pub clean : IsClean old → IsClean new

-- what a region tells once pages of it got a colour, where there is one
abbrev pub coloured : Option ℕ → ℕ → ℕ → Told → Told
coloured None start len t = t
coloured (Some colour) start len t = succeeded (recolouring start len colour) t

-- the slot after a call on its region that takes the colour of its pages away, and the one right behind it that gives
-- them the slot's colour, where it has one
abbrev pub renewed : PageCall → Slot → Slot
renewed call s = record s { region = coloured s.colour call.start call.len (succeeded call s.region) }

-- the slot without its image, whose pages become zeros
abbrev pub without_mapped : Option ImageName → Slot → Slot
without_mapped None s = s
without_mapped (Some name) s = record (renewed (remapping (s.base.bytes + name.offset) name.len) s) { image = None }

-- The slot without its image: what it covered is remapped to zeros.
abbrev pub without_image : Slot → Slot
without_image s = without_mapped s.image s

-- the slot with an image mapped, if there is one
abbrev pub with_image : Option Image → Slot → Slot
with_image None s = s
with_image (Some i) s = record (renewed (mapping s.region.behaviour (s.base.bytes + i.offset) i.bytes) s) { image = Some (name_of i) }

-- The slot as a memory gets it that has the wanted image already: only its size changes.
abbrev pub reused : ℕ → Bool → Slot → Slot
reused size hides s = record (resized size hides s) { dirty = true }

-- The slot after it took over a new image, or none, with this size: it counts as dirty from now on.
abbrev pub replaced : ℕ → Bool → Option Image → Slot → Slot
replaced size hides image s = record (with_image image (resized size hides (without_image s))) { dirty = true }

-- the slot without anything: no page can be reached, and each is zeros
abbrev pub wiped : Slot → Slot
wiped s = record (renewed (erasing s.base.bytes (size_of s)) s) { accessible = count s.region.page 0; image = None; dirty = false }

-- The slot once nothing is known of it. It is wiped before anything else is asked of it, and a wipe reads none of this.
abbrev pub forgotten : Slot → Slot
forgotten s = record s { accessible = count s.region.page 0; image = None; dirty = false }

-- the slot after bytes of it were written
abbrev pub written_at : ℕ → List ℕ → Slot → Slot
written_at at new s = record s { region = overwritten (s.base.bytes + at) new s.region; dirty = true }

-- the slot after these ranges of it were decommitted
abbrev pub decommitted_all : List ByteRange → Slot → Slot
decommitted_all [] s = s
decommitted_all (r ∷ rs) s = decommitted_all rs (called (decommitting (s.base.bytes + r.start) r.len) s)

-- the range is whole pages of the slot
pub record IsPart (page size : ℕ) (r : ByteRange) : Type 0 where
  pub start : r.start % page ≡ 0
  pub len : r.len % page ≡ 0
  pub inside : r.start + r.len ≤ size

-- the slot has the wanted image: it has none where none is wanted, and else one of that name with the same bytes
abbrev pub HasImage : Slot → Option Image → Contents → Type 0
HasImage s None c = s.image ≡ None
HasImage s (Some i) c = (s.image ≡ Some (name_of i)) × (image_bytes s.base.bytes (name_of i) c.origin ≡ i.bytes)

-- the image is whole pages of the region's size, and ends within the memory's initial size
pub record FitsInto (page initial : ℕ) (i : Image) : Type 0 where
  pub same_page : i.page ≡ page
  pub inside : i.offset + length i.bytes ≤ initial

-- a range of the slot: whole pages, counted from its base
pub record IsRangeOf (from len : Count) (s : Slot) : Type 0 where
  pub from_page : from.page ≡ s.region.page
  pub len_page : len.page ≡ s.region.page
  pub inside : from.bytes + len.bytes ≤ size_of s

-- a call on the slot's region failed, and nothing else of the slot changed
pub record CallFaulted (call : PageCall) (old new : Slot) : Type 0 where
  pub region : Faulted call old.region new.region
  pub same : new ≡ record old { region = new.region }

-- The slot after a fault: it is the same slot, and its region's count of faults rose, which only a call that the region's
-- plan lists does, where it tells one. Nothing is said of what it holds.
pub record IsLeft (old new : Slot) : Type 0 where
  pub same : identity new ≡ identity old
  pub rose : Rose old.region.faults new.region.faults
  pub listed : IfSome old.region.plan (λ plan. 0 < length plan)

-- the slot can be made of this region: its pages go back to zeros, and those of the slot hold zeros, can be reached
-- below `accessible`, and have this colour
pub record IsFresh (base accessible : Count) (static_size : ℕ) (colour : Option ℕ) (t : Told) : Type 0 where
  pub base_page : base.page ≡ t.page
  pub accessible_page : accessible.page ≡ t.page
  pub inside : base.bytes + rounded_up t.page static_size ≤ t.len
  pub bounded : static_size + t.page ≤ 2 ^ 64
  pub within : accessible.bytes ≤ rounded_up t.page static_size
  pub origin : IfSome t.contents (λ c. c.origin ≡ replicate t.len 0)
  pub zeros : IfSome t.contents (λ c. slice_range c.bytes base.bytes (base.bytes + rounded_up t.page static_size) ≡ replicate (rounded_up t.page static_size) 0)
  pub reach : IfSome t.contents (CanReach base.bytes accessible.bytes)
  pub has_colour : IfSome t.contents (HasColour base.bytes (rounded_up t.page static_size) colour)

-- The slot as a memory begins in it: in use, and its first bytes are the image at its offset and zeros elsewhere.
pub record IsBegun (image : Option Image) (s : Slot) : Type 0 where
  pub dirty : s.dirty ≡ true
  pub ready : IfSome s.region.contents (IsReady s)
  pub reads : Reads s s.static_size (start image s.static_size)

-- no page of the slot from `accessible` on can be reached
abbrev pub IsShut : Slot → Contents → Type 0
IsShut s c = (k : ℕ) → s.base.bytes + s.accessible.bytes ≤ k * s.region.page → k * s.region.page < s.base.bytes + size_of s → slice_index_or c.accessible k false ≡ false

-- the slot once its first bytes were set by hand to what they go back to, and it isn't in use any more
abbrev pub cleared : ℕ → Slot → Slot
cleared kept s = record s { region = restored s.base.bytes kept s.region; dirty = false }

-- the ranges that a reset leaves which keeps so many bytes: what could be reached past them, unless that is nothing
abbrev pub reset_ranges : ℕ → ℕ → List ByteRange
reset_ranges kept accessible = if nat_lt kept accessible then record { start = kept; len = accessible - kept } ∷ [] else []

-- What a reset makes of a slot depends on the region's behaviour: where pages go back to zeros, the slot is wiped
-- whatever is to be kept. How many bytes stay resident:
abbrev pub kept_bytes : DecommitBehavior → ℕ → ℕ → ℕ
kept_bytes RestoreOriginalMapping keep accessible = min keep accessible
kept_bytes Zero keep accessible = 0

-- the ranges that are left to be decommitted
abbrev pub left_ranges : DecommitBehavior → ℕ → ℕ → List ByteRange
left_ranges RestoreOriginalMapping keep accessible = reset_ranges keep accessible
left_ranges Zero keep accessible = []

-- the slot
abbrev pub reset_slot : DecommitBehavior → ℕ → Slot → Slot
reset_slot RestoreOriginalMapping keep s = cleared (min keep s.accessible.bytes) s
reset_slot Zero keep s = wiped s

-- what is accessible and not wanted is hidden: the memory has a guard, or its bounds rest on hidden pages
abbrev pub hides : MemoryType → MemoryTunables → ℕ → Bool
hides ty tunables page = nat_lt 0 (guard_size tunables) || can_use_virtual_memory ty tunables.tunables page

-- the slot after an instantiation: its parts but the region's pages are told by those before
pub record IsSized (initial : ℕ) (hide : Bool) (old new : Slot) : Type 0 where
  pub same : identity new ≡ identity old
  pub accessible : new.accessible ≡ (resized (rounded_up old.region.page initial) hide old).accessible
  pub faults : new.region.faults ≡ old.region.faults

-- The region of a table or a stack as a slot without image: what is written to it, and how it is reset.
use Rattle.std.specs.Prelude.{◌≡◌, ℕ, ◌+◌, ◌-◌, ◌*◌, ◌%◌, ◌≤◌, List, [], ◌∷◌, All, min, replicate, Bool, true, false, Option, None, Some, IfSome}
use Rattle.pool_types.specs.Count.{count}
use Rattle.pool_types.specs.declared.decommit_behavior.DecommitBehavior.TheVariants.{RestoreOriginalMapping}
use Rattle.pool_pages.specs.Contents.{CanReach}
use Rattle.pool_pages.specs.Told.{TellsMarks, TellsShaped}
use Rattle.pool_images.specs.ResetLaws.{bytes_of}
use Rattle.pool_images.specs.Resets.{IsSpan, given_marks, kept_by, left_by, marks_of, pages_by_hand, pages_restored, span_marks}
use Rattle.pool_images.specs.declared.image_slot.dirty_pages.PageSpan.{PageSpan}
use Rattle.pool_slots.specs.Imports.{overwritten, ByteRange, Slot, IsSlot, IsReady, IsClean, IsPart, Holds, Reads, size_of, reset_ranges, decommitted_all}
use Rattle.pool_slots.specs.SlotQueues.{CanBeZeroed, zeroed_slot}

-- It can be used: it is whole pages without image, all of which can be reached and go back to zeros.
pub record IsPlain (s : Slot) : Type 0 where
  pub fits : IsSlot s
  pub whole : size_of s ≡ s.static_size
  pub all : s.accessible.bytes ≡ s.static_size
  pub image : s.image ≡ None
  pub not_dirty : s.dirty ≡ false
  pub ready : IfSome s.region.contents (IsReady s)

-- the slot after bytes of it were written
abbrev pub plain_written : ℕ → List ℕ → Slot → Slot
plain_written at new s = record s { region = overwritten (s.base.bytes + at) new s.region }

-- How many bytes a stack keeps resident, at its top.
abbrev pub top_kept : ℕ → Slot → ℕ
top_kept keep s = min keep s.static_size

-- A stack once the bytes that it keeps resident, at its top, were zeroed by hand.
abbrev pub top_reset : ℕ → Slot → Slot
top_reset keep s = plain_written (s.static_size - top_kept keep s) (replicate (top_kept keep s) 0) s

-- A table's region once the bytes that it keeps resident, at its beginning, were zeroed by hand.
abbrev pub bottom_reset : ℕ → ℕ → Slot → Slot
bottom_reset keep used s = plain_written 0 (replicate (min keep used) 0) s

-- What a stack leaves to be decommitted: all below its top, also where that is nothing.
abbrev pub below_top : ℕ → Slot → List ByteRange
below_top keep s = record { start = 0; len = s.static_size - top_kept keep s } ∷ []

-- What a table leaves to be decommitted: what it used above the bytes that stay resident.
abbrev pub above_bottom : ℕ → ℕ → List ByteRange
above_bottom keep used = reset_ranges keep used

-- of what the slot holds, the bytes from one place on are what they go back to
abbrev pub IsUnusedFrom : ℕ → Slot → Type 0
IsUnusedFrom used s = IfSome s.region.contents (Holds s used (size_of s))

-- what a table used of its region, as what can be reached of a slot
abbrev pub used_part : ℕ → Slot → Slot
used_part used s = record s { accessible = count s.region.page used }

-- The dirty marks that a table's reset is given, as a memory's is: none, unless they are offered and the table used more than
-- one page. Below, where it is given none, it is the plain reset.
abbrev pub used_marks : Bool → ℕ → Slot → Option (List Bool)
used_marks offered used s = given_marks offered (used_part used s)

-- How many bytes a table keeps resident.
abbrev pub used_kept : Option (List Bool) → ℕ → ℕ → Slot → ℕ
used_kept marks keep used s = kept_by marks RestoreOriginalMapping keep (used_part used s)

-- What a table leaves to be decommitted.
abbrev pub used_left : Option (List Bool) → ℕ → ℕ → Slot → List ByteRange
used_left marks keep used s = left_by marks RestoreOriginalMapping keep (used_part used s)

-- A table's region once the bytes that it keeps resident were zeroed by hand: its first ones, or those of its first dirty
-- pages.
abbrev pub used_reset : Option (List Bool) → ℕ → ℕ → Slot → Slot
used_reset None keep used s = bottom_reset keep used s
used_reset (Some marks) keep used s = record s { region = pages_restored s.base.bytes (pages_by_hand s.region.page keep marks) s.region }

-- the bytes of its region once such a reset is done, and the decommits that it leaves are done too
abbrev pub used_after : Option (List Bool) → ℕ → ℕ → Slot → Option (List ℕ)
used_after marks keep used s = bytes_of (decommitted_all (used_left marks keep used s) (used_reset marks keep used s))

-- A table's region was reset, by these marks or none, with this answer and these ranges left: it is clean once they are
-- decommitted.
pub record IsTableReset (marks : Option (List Bool)) (keep used : ℕ) (old new : Slot) (answer : ℕ) (listed : List ByteRange) : Type 0 where
  pub resident : answer ≡ used_kept marks keep used old
  pub ranges : listed ≡ used_left marks keep used old
  pub value : new ≡ used_reset marks keep used old
  pub parts : All (IsPart new.region.page (size_of new)) listed
  pub clean_after : IsClean (decommitted_all listed new)
  pub unused : IsUnusedFrom used new
  pub plain : IsPlain new
  pub most : answer ≤ used

-- These are the pages that a table used, and their marks are told.
pub record IsUsedSpan (used : ℕ) (s : Slot) (pages : PageSpan) : Type 0 where
  pub span : IsSpan pages s.region
  pub base : pages.base ≡ s.base.bytes
  pub page : pages.page ≡ s.region.page
  pub bytes : pages.pages * pages.page ≡ used
  pub marks : span_marks pages s.region ≡ marks_of (used_part used s)
  pub reach : IfSome s.region.contents (CanReach pages.base (pages.pages * pages.page))
  pub shaped : TellsShaped s.region
  pub told : TellsMarks s.region
  pub whole : used % s.region.page ≡ 0
  pub within : used ≤ s.static_size
  pub plain : IsPlain s

-- A stack: its number, the slot that its usable bytes are, and whether it is given back zeroed.
pub record StackState : Type 0 where
  pub index : ℕ
  pub slot : Slot
  pub zeroing : Bool

-- What zeroing a stack by hand leaves of it.
abbrev pub stack_zeroed : Bool → ℕ → StackState → StackState
stack_zeroed false keep s = s
stack_zeroed true keep s = record s { slot = top_reset keep s.slot }

-- How many bytes a stack keeps resident: none where stacks aren't given back zeroed.
abbrev pub stack_kept : Bool → ℕ → StackState → ℕ
stack_kept false keep s = 0
stack_kept true keep s = top_kept keep s.slot

-- What a stack leaves to be decommitted: all below its top, or nothing where stacks aren't given back zeroed.
abbrev pub stack_ranges : Bool → ℕ → StackState → List ByteRange
stack_ranges false keep s = []
stack_ranges true keep s = below_top keep s.slot

-- A clean plain slot reads as zeros: that is how a table's and a zeroed stack's bytes begin each time.
abbrev pub CleanSlotsReadZeros : Type 0
CleanSlotsReadZeros = (s : Slot) → IsPlain s → IsClean s → Reads s s.static_size (replicate s.static_size 0)

-- A slot that is zeroed by hand is clean, whatever it held.
abbrev pub ZeroedSlotsAreClean : Type 0
ZeroedSlotsAreClean = (n : ℕ) (s : Slot) → CanBeZeroed n s → IsClean (zeroed_slot n s)

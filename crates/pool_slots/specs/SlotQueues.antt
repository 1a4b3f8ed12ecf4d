-- The decommit queue of slots of every kind: ranges of slots that are to be decommitted, and the slots that go back to their
-- pools once that is done.
use Rattle.std.specs.Prelude.{◌≡◌, ℕ, ◌+◌, ◌-◌, ◌^◌, ◌%◌, ◌≤◌, ◌==◌, ◌&&◌, ◌⊎◌, List, [], ◌∷◌, ◌++◌, length, map, filter, replicate, All, Bool, true, false, if◌then◌else◌, Option, None, Some, is_some, IfSome, not}
use Rattle.pool_slots.specs.Imports.{list_any, AllByRecursion, AllZip, SlotKind, count, IsIn, page_bytes, page_origin, Told, decommitting, overwritten, PageCalls, ByteRange, Slot, IsSlot, IsReady, IsClean, IsLeft, IsPart, CallFaulted, Holds, size_of, called, decommitted_all, forgotten_memory}
use Rattle.pool_hall.specs.declared.unit_name.SlotKind.TheVariants as of_slot
use Rattle.pool_slots.specs.Cells.{all_calls}
use Rattle.pool_slots.specs.SlotNames.{slot_kind}
use Rattle.pool_slots.specs.declared.queued_range.QueueKind.{QueueKind}
use Rattle.pool_slots.specs.declared.queued_range.QueuedRange.{QueuedRange}
use Rattle.pool_slots.specs.declared.slot_name.SlotName.{SlotName}
use Rattle.pool_slots.specs.declared.slot_name.RegionNumbers.{RegionNumbers}

-- A region without image, all of which can be reached from a place on, seen as a slot: as a table or a stack has it.
abbrev pub plain_slot : ℕ → Told → Slot
plain_slot base region = record {
  region = region;
  base = count region.page base;
  accessible = count region.page (region.len - base);
  static_size = region.len - base;
  image = None;
  dirty = false;
  colour = None;
}

-- A slot on its way back: its name, the slot, whether it is clean once its ranges are decommitted, how many bytes it keeps
-- resident, how many of its bytes are zeroed by hand where a decommit fails, if it is zeroed so, and the numbers that its
-- region went out with.
pub record Queued : Type 0 where
  pub name : SlotName
  pub slot : Slot
  pub known : Bool
  pub bytes : ℕ
  pub by_hand : Option ℕ
  pub numbers : RegionNumbers

-- ranges in order, and room for so many
pub record RangeList : Type 0 where
  pub items : List QueuedRange
  pub room : ℕ

-- such slots in order, and room for so many
pub record QueuedList : Type 0 where
  pub items : List Queued
  pub room : ℕ

-- The ranges in the order in which they were pushed, the slots kind by kind, those of a kind in the order in which they were
-- pushed, and room for so many of each. How often the whole queue was taken, and how many slots were ever pushed or appended,
-- both modulo 2 ^ 64.
pub record Queue : Type 0 where
  pub ranges : List QueuedRange
  pub slots : List Queued
  pub range_room : ℕ
  pub slot_room : ℕ
  pub takes : ℕ
  pub appended : ℕ

-- A queue without ranges and slots that has room for so many of each.
abbrev pub empty_queue : ℕ → ℕ → Queue
empty_queue ranges slots = record { ranges = []; slots = []; range_room = ranges; slot_room = slots; takes = 0; appended = 0 }

-- the queue without its ranges and slots
abbrev pub drained : Queue → Queue
drained q = record q { ranges = []; slots = [] }

-- The two kinds are one.
abbrev pub same_kind : SlotKind → SlotKind → Bool
same_kind of_slot.Memory of_slot.Memory = true
same_kind of_slot.Table of_slot.Table = true
same_kind of_slot.Stack of_slot.Stack = true
same_kind of_slot.Heap of_slot.Heap = true
same_kind _ _ = false

-- The two names are of one slot: the same kind, and the same number.
abbrev pub same_slot : SlotName → SlotName → Bool
same_slot a b = same_kind a.kind b.kind && a.slot == b.slot

-- the slot that a range is of
abbrev pub owner : QueuedRange → SlotName
owner r = record { kind = slot_kind r.kind; slot = r.slot.0 }

-- The range is one of this slot.
abbrev pub is_of : SlotName → QueuedRange → Bool
is_of name r = same_slot (owner r) name

-- the ranges of a slot, in order
abbrev pub ranges_of : SlotName → List QueuedRange → List ByteRange
ranges_of name ranges = map (λ r. r.range) (filter (is_of name) ranges)

-- the slot is among these
abbrev pub holds : SlotName → List Queued → Bool
holds name slots = list_any (λ m. same_slot name m.name) slots

-- each range is of a slot that the queue holds
abbrev pub HasOwners : Queue → Type 0
HasOwners q = AllByRecursion (λ r. holds (owner r) q.slots ≡ true) q.ranges

-- no two of the slots are one
abbrev pub AreDistinct : List Queued → Type 0
AreDistinct [] = Unit {0}
AreDistinct (m ∷ ms) = (holds m.name ms ≡ false) × AreDistinct ms

-- none of the slots is one of those
abbrev pub AreApart : List Queued → List Queued → Type 0
AreApart these those = AllByRecursion (λ m. holds m.name those ≡ false) these

-- A plain slot can be zeroed by hand: its pages go back to zeros and can all be reached, and those from `n` on hold zeros.
pub record CanBeZeroed (n : ℕ) (s : Slot) : Type 0 where
  pub fits : IsSlot s
  pub image : s.image ≡ None
  pub not_dirty : s.dirty ≡ false
  pub all : s.accessible.bytes ≡ s.static_size
  pub within : n ≤ s.accessible.bytes
  pub ready : IfSome s.region.contents (IsReady s)
  pub rest : IfSome s.region.contents (Holds s n (size_of s))

-- its first n bytes are zeroed by hand
abbrev pub zeroed_slot : ℕ → Slot → Slot
zeroed_slot n s = record s { region = overwritten s.base.bytes (replicate n 0) s.region }

-- a memory is never zeroed by hand
abbrev pub MayBeByHand : SlotKind → Option ℕ → Type 0
MayBeByHand of_slot.Memory by_hand = by_hand ≡ None
MayBeByHand _ by_hand = Unit {0}

-- The slot's ranges are whole pages of it, and once they are decommitted, a known slot is clean. A slot that is zeroed by
-- hand where a decommit fails can be, at all times.
pub record LeavesClean (ranges : List QueuedRange) (m : Queued) : Type 0 where
  pub fits : IsSlot m.slot
  pub parts : All (IsPart m.slot.region.page (size_of m.slot)) (ranges_of m.name ranges)
  pub clean : m.known ≡ true → IsClean (decommitted_all (ranges_of m.name ranges) m.slot)
  pub by_hand : MayBeByHand m.name.kind m.by_hand
  pub zeroed : IfSome m.by_hand (λ n. CanBeZeroed n m.slot)
  pub bytes : m.bytes ≤ 2 ^ 32

-- The same of a slot beside its own ranges, as a reset leaves them.
pub record IsReset (ranges : List ByteRange) (m : Queued) : Type 0 where
  pub fits : IsSlot m.slot
  pub parts : All (IsPart m.slot.region.page (size_of m.slot)) ranges
  pub clean : m.known ≡ true → IsClean (decommitted_all ranges m.slot)
  pub by_hand : MayBeByHand m.name.kind m.by_hand
  pub zeroed : IfSome m.by_hand (λ n. CanBeZeroed n m.slot)
  pub bytes : m.bytes ≤ 2 ^ 32

-- How a slot goes back: known, and so clean once its ranges are decommitted, unless it is a stack that isn't zeroed.
abbrev pub IsGivenBack : Queued → Type 0
IsGivenBack m = (m.known ≡ true) ⊎ ((m.name.kind ≡ of_slot.Stack) × (m.by_hand ≡ None))

-- what holds of every queue
pub record IsQueue (q : Queue) : Type 0 where
  pub range_room : length q.ranges ≤ q.range_room
  pub slot_room : length q.slots ≤ q.slot_room
  pub distinct : AreDistinct q.slots
  pub each : AllByRecursion (LeavesClean q.ranges) q.slots

-- page k is in one of the ranges, which are counted from a base
abbrev pub IsInSome : ℕ → ℕ → ℕ → List ByteRange → Type 0
IsInSome base page k [] = ⊥
IsInSome base page k (r ∷ rs) = IsIn (base + r.start) r.len page k ⊎ IsInSome base page k rs

-- each page of the slot holds what it goes back to, or is in a range of the slot
abbrev pub IsCovered : List QueuedRange → Queued → Type 0
IsCovered ranges m = IfSome m.slot.region.contents (λ c.
    (k : ℕ) → IsIn m.slot.base.bytes (size_of m.slot) m.slot.region.page k →
    (page_bytes k c ≡ page_origin k c) ⊎ IsInSome m.slot.base.bytes m.slot.region.page k (ranges_of m.name ranges))

-- Nothing of a known slot is forgotten: each of its pages that doesn't hold what it goes back to is in a range of that
-- slot in the same queue.
abbrev pub ForgetsNothing : Queue → Type 0
ForgetsNothing q = AllByRecursion (λ m. m.known ≡ true → IsCovered q.ranges m) q.slots

-- The queue with one range more.
abbrev pub with_range : QueuedRange → Queue → Queue
with_range r q = record q { ranges = q.ranges ++ r ∷ [] }

-- The queued slot is of this kind.
abbrev pub is_kind : SlotKind → Queued → Bool
is_kind kind m = same_kind kind m.name.kind

-- The queued slots of a kind, in order.
abbrev pub of_kind : SlotKind → List Queued → List Queued
of_kind kind ms = filter (is_kind kind) ms

-- The slots kind by kind, those of a kind in order.
abbrev pub by_kind : List Queued → List Queued
by_kind ms = of_kind of_slot.Memory ms ++ (of_kind of_slot.Table ms ++ (of_kind of_slot.Stack ms ++ of_kind of_slot.Heap ms))

-- The queue with one slot more, behind the last of its kind; it counts the slots that were added to it.
abbrev pub with_slot : Queued → Queue → Queue
with_slot m q = record q { slots = by_kind (q.slots ++ m ∷ []); appended = (q.appended + 1) % 2 ^ 64 }

-- The queue with the ranges of another behind its own, and with the other's slots of each kind behind its own of that kind; it
-- counts the slots that came in.
abbrev pub after_append : Queue → Queue → Queue
after_append q more = record q { ranges = q.ranges ++ more.ranges; slots = by_kind (q.slots ++ more.slots); appended = (q.appended + length more.slots) % 2 ^ 64 }

-- The queue once it was taken whole: empty, and the take is counted.
abbrev pub after_take : Queue → Queue
after_take q = record q { ranges = []; slots = []; takes = (q.takes + 1) % 2 ^ 64 }

-- An empty queue once it took over another's ranges and slots; it keeps its own counts and room.
abbrev pub taken_into : Queue → Queue → Queue
taken_into spare q = record spare { ranges = q.ranges; slots = q.slots }

-- an empty queue with the room of another
pub record IsSpareOf (q spare : Queue) : Type 0 where
  pub no_ranges : spare.ranges ≡ []
  pub no_slots : spare.slots ≡ []
  pub range_room : spare.range_room ≡ q.range_room
  pub slot_room : spare.slot_room ≡ q.slot_room

-- the slot of the first range; where there is none, it doesn't matter which
abbrev pub first_slot : List QueuedRange → SlotName
first_slot [] = record { kind = of_slot.Memory; slot = 0 }
first_slot (r ∷ rs) = owner r

-- The elements up to the first that fails a test.
abbrev pub front : {X : Type 0} → (X → Bool) → List X → List X
front test [] = []
front test (x ∷ xs) = if test x then x ∷ front test xs else []

-- The elements from the first on that fails a test.
abbrev pub behind : {X : Type 0} → (X → Bool) → List X → List X
behind test [] = []
behind test (x ∷ xs) = if test x then behind test xs else x ∷ xs

-- the slots, of which the one with this name is changed
abbrev pub change_at : SlotName → (Slot → Slot) → Queued → Queued
change_at name change m = if same_slot name m.name then record m { slot = change m.slot } else m

-- the ranges of a slot at the front are decommitted, and leave
abbrev pub after_run_of : SlotName → Queue → Queue
after_run_of name q = record q {
  ranges = behind (is_of name) q.ranges;
  slots = map (change_at name (decommitted_all (map (λ r. r.range) (front (is_of name) q.ranges)))) q.slots;
}

-- the first run of ranges of one slot is decommitted
abbrev pub after_run : Queue → Queue
after_run q = after_run_of (first_slot q.ranges) q

-- A slot once nothing is known of it. A memory's is forgotten; a table's or a stack's region is the slot that it was.
abbrev pub forgotten_slot : SlotKind → Slot → Slot
forgotten_slot of_slot.Memory s = forgotten_memory s
forgotten_slot _ s = s

-- A queued slot of which nothing is known any more.
abbrev pub forgotten : Queued → Queued
forgotten m = record m { slot = forgotten_slot m.name.kind m.slot; known = false }

-- a fault in a call on this slot, or in none on it
abbrev pub IsSlotLeft : Bool → Slot → Slot → Type 0
IsSlotLeft true old new = IsLeft old new
IsSlotLeft false old new = new ≡ old

-- nothing is known of the slot any more, since a call on the slot with this name failed
pub record IsLeftBy (faulted : SlotName) (old new : Queued) : Type 0 where
  pub same : new ≡ record old { slot = forgotten_slot old.name.kind new.slot; known = false }
  pub slot : IsSlotLeft (same_slot faulted old.name) (forgotten_slot old.name.kind old.slot) new.slot

-- a decommit of the first run failed: all ranges are dropped, nothing is known of any slot, and each can still be zeroed by
-- hand that is zeroed so
pub record IsFaulted (old new : Queue) : Type 0 where
  pub ranges : new.ranges ≡ []
  pub slots : AllZip (IsLeftBy (first_slot old.ranges)) old.slots new.slots
  pub sound : IsQueue new
  pub range_room : new.range_room ≡ old.range_room
  pub slot_room : new.slot_room ≡ old.slot_room
  pub takes : new.takes ≡ old.takes
  pub appended : new.appended ≡ old.appended

-- A queued slot once its own ranges are decommitted.
abbrev pub settle : List QueuedRange → Queued → Queued
settle ranges m = record m { slot = decommitted_all (ranges_of m.name ranges) m.slot }

-- The slots of a queue once all its ranges are decommitted.
abbrev pub settled : Queue → List Queued
settled q = map (settle q.ranges) q.slots

-- a slot that goes back to its pool: it is clean where it is known
pub record IsSettled (m : Queued) : Type 0 where
  pub clean : m.known ≡ true → IsClean m.slot
  pub bytes : m.bytes ≤ 2 ^ 32

-- the slot once a range of it was decommitted, and after a fault in that
abbrev pub decommitted_at : ByteRange → Slot → Slot
decommitted_at r s = called (decommitting (s.base.bytes + r.start) r.len) s

-- A slot after a fault in the decommit of a range of it. What can be zeroed by hand still can be.
pub record IsLeftSlot (r : ByteRange) (old new : Slot) : Type 0 where
  pub left : IsLeft old new
  pub call : CallFaulted (decommitting (old.base.bytes + r.start) r.len) old new
  pub fits : IsSlot new
  pub zeroed : (n : ℕ) → CanBeZeroed n old → CanBeZeroed n new

-- A queued slot after the decommit of a range of it failed: all but the slot itself stays.
pub record IsLeftItem (r : ByteRange) (old new : Queued) : Type 0 where
  pub same : new ≡ record old { slot = new.slot }
  pub slot : IsLeftSlot r old.slot new.slot

-- the queue with more ranges of a slot
abbrev pub with_ranges : QueueKind → ℕ → List ByteRange → Queue → Queue
with_ranges kind slot ranges q = record q { ranges = q.ranges ++ map (λ r. record { kind = kind; slot = record { 0 = slot }; range = r }) ranges }

-- the calls on the regions of slots, together
abbrev pub calls_held : List Queued → PageCalls
calls_held slots = all_calls (map (λ m. m.slot.region.calls) slots)

-- The first queued slot of a kind.
abbrev pub first_of_kind : SlotKind → List Queued → Option Queued
first_of_kind kind [] = None
first_of_kind kind (m ∷ ms) = if same_kind kind m.name.kind then Some m else first_of_kind kind ms

-- The queued slots without the first one of a kind.
abbrev pub others_of_kind : SlotKind → List Queued → List Queued
others_of_kind kind [] = []
others_of_kind kind (m ∷ ms) = if same_kind kind m.name.kind then ms else m ∷ others_of_kind kind ms

-- the slot is still to be zeroed by hand: a decommit failed, and nothing is known of it
abbrev pub is_unzeroed : Queued → Bool
is_unzeroed m = is_some m.by_hand && not m.known

-- Unless it is noted that one of the slots may be still to be zeroed by hand, none is.
abbrev pub AreNoted : Bool → List Queued → Type 0
AreNoted noted ms = noted ≡ false → AllByRecursion (λ m. is_unzeroed m ≡ false) ms

-- it is one of a kind that is still to be zeroed by hand
abbrev pub is_to_zero : SlotKind → Queued → Bool
is_to_zero kind m = same_kind kind m.name.kind && is_unzeroed m

-- A queued slot once so many of its bytes are zeroed by hand: it is known and clean then.
abbrev pub zeroed_by : Option ℕ → Queued → Queued
zeroed_by None m = m
zeroed_by (Some n) m = record m { slot = zeroed_slot n m.slot; known = true }

-- A queued slot once it was zeroed by hand, if it is one that may be: it is known and clean.
abbrev pub zeroed : Queued → Queued
zeroed m = zeroed_by m.by_hand m

-- the first such slot of a kind is zeroed
abbrev pub first_zeroed : SlotKind → List Queued → List Queued
first_zeroed kind [] = []
first_zeroed kind (m ∷ ms) = if is_to_zero kind m then zeroed m ∷ ms else m ∷ first_zeroed kind ms

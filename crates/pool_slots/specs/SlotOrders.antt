-- The decommits that a queue makes, in their order, and how they end under a plan.
use Rattle.std.specs.Prelude.{◌≡◌, ℕ, ◌+◌, List, [], ◌∷◌, map, Bool}
use Rattle.pool_slots.specs.Imports.{AllZip, PageCall, decommitting, ByteRange, Follows}
use Rattle.pool_slots.specs.declared.slot_name.SlotName.{SlotName}
use Rattle.pool_slots.specs.declared.queued_range.QueuedRange.{QueuedRange}
use Rattle.pool_slots.specs.SlotQueues.{Queued, front, is_of}

-- the decommits of ranges that are counted from a base
abbrev pub decommits : ℕ → List ByteRange → List PageCall
decommits base ranges = map (λ r. decommitting (base + r.start) r.len) ranges

-- the ranges at the front that are of this slot
abbrev pub run_of : SlotName → List QueuedRange → List ByteRange
run_of name ranges = map (λ r. r.range) (front (is_of name) ranges)

-- the first range
abbrev pub first_of : List QueuedRange → List ByteRange
first_of [] = []
first_of (r ∷ rs) = r.range ∷ []

-- The slot with this name: where its region tells its plan, these ranges were decommitted, each in its turn and no
-- other, up to the first that failed, and they ended so.
abbrev pub FollowsAt : SlotName → List ByteRange → Bool → Queued → Queued → Type 0
FollowsAt name ranges ok old new = old.name ≡ name → Follows (decommits old.slot.base.bytes ranges) ok old.slot.region new.slot.region

-- The decommits of the slot with this name were made in their order, and ended so.
abbrev pub AreInOrder : SlotName → List ByteRange → Bool → List Queued → List Queued → Type 0
AreInOrder name ranges ok old new = AllZip (FollowsAt name ranges ok) old new

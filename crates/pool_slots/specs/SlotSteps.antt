-- What the parts of a queue's calls do.
use Rattle.std.specs.Prelude.{List, [], ◌∷◌, map, Bool, false}
use Rattle.pool_slots.specs.declared.slot_name.SlotName.{SlotName}
use Rattle.pool_slots.specs.declared.queued_range.QueuedRange.{QueuedRange}
use Rattle.pool_slots.specs.SlotQueues.{decommitted_at, Queue, is_of, owner, change_at}

-- the first range is of this slot
abbrev pub begins_with : SlotName → List QueuedRange → Bool
begins_with name [] = false
begins_with name (r ∷ rs) = is_of name r

-- the first range is decommitted, and leaves
abbrev pub after_first_of : List QueuedRange → Queue → Queue
after_first_of [] q = q
after_first_of (r ∷ rs) q = record q { ranges = rs; slots = map (change_at (owner r) (decommitted_at r.range)) q.slots }

-- The queue once its first range was decommitted.
abbrev pub after_first : Queue → Queue
after_first q = after_first_of q.ranges q

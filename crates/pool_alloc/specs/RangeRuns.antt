-- Ranges of one slot that lie together in a queue.
use Rattle.std.specs.Prelude.{ℕ, ◌+◌, ◌≤◌, List, [], ◌∷◌, length, if◌then◌else◌}
use Rattle.pool_alloc.specs.Imports.{Queue, is_of, owner, SlotName, QueuedRange}

-- How many runs of ranges of one slot there are in a list, where a range of this slot stands before it. A flush decommits
-- a run with each step.
abbrev pub runs_after : SlotName → List QueuedRange → ℕ
runs_after name [] = 0
runs_after name (r ∷ rs) = (if is_of name r then 0 else 1) + runs_after (owner r) rs

-- How many runs of ranges of one slot the list has, each of which is decommitted in one step.
abbrev pub runs : List QueuedRange → ℕ
runs [] = 0
runs (r ∷ rs) = 1 + runs_after (owner r) rs

-- the ranges of each slot lie together, so there are no more runs than slots
abbrev pub IsGrouped : Queue → Type 0
IsGrouped q = runs q.ranges ≤ length q.slots

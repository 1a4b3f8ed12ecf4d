-- The units that parts have given out, and those that they keep.
use Rattle.std.specs.Prelude.{◌≡◌, ℕ, ◌+◌, List, [], ◌∷◌, ◌++◌, Option, IsSome, option_map}
use Rattle.pool_slots.specs.Imports.{one_if, total, same, times, slot_unit, shard_units, found_units, ShardState, IsShard, use_of, slot_number, pick_answer, after_pick, after_free, MemoryInModule, SlotId, UnitName}
use Rattle.pool_slots.specs.Cells.{Cell, taken}
use Rattle.pool_slots.specs.RegionCells.{CellState, cell_numbers, cell_emptied, cell_filled, cell_away, region_of, right_to}
use Rattle.pool_slots.specs.HeapLists.{heaps_away}
use Rattle.pool_slots.specs.SlotQueues.{Queued, Queue, after_append, drained, taken_into, after_take}
use Rattle.pool_slots.specs.declared.part.PoolPart.{PoolPart}
use Rattle.pool_slots.specs.declared.part.PoolPart.TheVariants as part

-- the units that a queue keeps for a slot: the right to it, and its region
abbrev pub slot_units : Queued → List UnitName
slot_units m = right_to m.name ∷ region_of m.name m.numbers ∷ []

-- The units of queued slots: for each its right and its region.
abbrev pub units_of_slots : List Queued → List UnitName
units_of_slots [] = []
units_of_slots (m ∷ ms) = slot_units m ++ units_of_slots ms

-- The units that a queue keeps: those of the slots in it.
abbrev pub queue_kept : Queue → List UnitName
queue_kept q = units_of_slots q.slots

-- what a part has given out, and what it keeps: a shard its used slots, a cell its region, a list of heaps its slots that are out,
-- and a queue what it holds
module _ {P H : Type 0} where
  -- The units that a part has given out: used slots of a shard, the region of an empty cell, the heaps that are out.
  abbrev pub part_away : PoolPart P H → List UnitName
  part_away (part.Shard s) = shard_units s
  part_away (part.Memory cell) = cell_away cell
  part_away (part.Table cell) = cell_away cell
  part_away (part.Stack cell) = cell_away cell
  part_away (part.Queue q) = []
  part_away (part.Heaps heaps) = heaps_away heaps

  -- The units that a part keeps for others, which queues alone do.
  abbrev pub part_kept : PoolPart P H → List UnitName
  part_kept (part.Queue q) = queue_kept q
  part_kept _ = []

-- A pick gives out the right to the slot that it answers, and no other.
abbrev pub PicksCount : Type 0
PicksCount = (u : UnitName) (want : Option MemoryInModule) (s : ShardState) → IsShard s →
    times u (shard_units (after_pick want s)) ≡ times u (shard_units s) + times u (found_units s.kind (option_map (λ p. slot_number s p.0.0) (pick_answer want s)))

-- A free takes back the unit of the slot that is freed, and no other.
abbrev pub FreesCount : Type 0
FreesCount = (u : UnitName) (slot : SlotId) (bytes : ℕ) (s : ShardState) → IsSome (use_of s slot.0) → times u (shard_units (after_free slot bytes s)) + one_if (same u (slot_unit s slot.0)) ≡ times u (shard_units s)

-- A region that goes out of its cell is given out, and no other.
abbrev pub TakesCount : Type 0
TakesCount = (w : UnitName → ℕ) (c : CellState) → (c.holds ≡ taken → ⊥) → total w (cell_away (cell_emptied c)) ≡ total w (cell_away c) + w (region_of c.name (cell_numbers c))

-- A region that comes back to its cell is taken back, and no other.
abbrev pub PutsCount : Type 0
PutsCount = (w : UnitName → ℕ) (held : Cell) (c : CellState) → c.holds ≡ taken → (held ≡ taken → ⊥) → total w (cell_away (cell_filled held c)) + w (region_of c.name c.out) ≡ total w (cell_away c)

-- Two queues that are appended keep together what they kept apart.
abbrev pub AppendsCount : Type 0
AppendsCount = (w : UnitName → ℕ) (q more : Queue) → total w (queue_kept (after_append q more)) + total w (queue_kept (drained more)) ≡ total w (queue_kept q) + total w (queue_kept more)

-- What a queue and an empty one keep together stays as the one is taken into the other.
abbrev pub QueueTakesCount : Type 0
QueueTakesCount = (w : UnitName → ℕ) (q spare : Queue) → spare.slots ≡ [] → total w (queue_kept (after_take q)) + total w (queue_kept (taken_into spare q)) ≡ total w (queue_kept q) + total w (queue_kept spare)

-- The parts of a pool, and their places.
use Rattle.std.specs.Prelude.{ℕ, ◌<◌, List, length, slice_index_or, slice_set}
use Rattle.pool_hall.specs.declared.unit_name.SlotKind.TheVariants as of_slot
use Rattle.pool_slots.specs.Cells.{taken}
use Rattle.pool_slots.specs.RegionCells.{CellState, cell_made}
use Rattle.pool_slots.specs.declared.part.PoolPart.{PoolPart}
use Rattle.pool_slots.specs.declared.part.PoolPart.TheVariants.{Shard, Memory, Table, Stack}

module _ {P H : Type 0} where
  -- The part is a shard.
  abbrev pub IsShardPart : PoolPart P H → Type 0
  IsShardPart (Shard s) = Unit {0}
  IsShardPart _ = ⊥

  -- The part is the cell of a slot.
  abbrev pub IsCellPart : PoolPart P H → Type 0
  IsCellPart (Memory cell) = Unit {0}
  IsCellPart (Table cell) = Unit {0}
  IsCellPart (Stack cell) = Unit {0}
  IsCellPart _ = ⊥

  -- The cell that a part is; an empty one where it is none.
  abbrev pub cell_of_part : PoolPart P H → CellState
  cell_of_part (Memory cell) = cell
  cell_of_part (Table cell) = cell
  cell_of_part (Stack cell) = cell
  cell_of_part _ = cell_made (record { kind = of_slot.Memory; slot = 0 }) taken

  -- The part at a place; past the end it doesn't matter which.
  abbrev pub part_at : ℕ → List (PoolPart P H) → PoolPart P H
  part_at place parts = slice_index_or parts place (Memory (cell_made (record { kind = of_slot.Memory; slot = 0 }) taken))

  -- The parts with the one at a place changed.
  abbrev pub with_part : ℕ → (PoolPart P H → PoolPart P H) → List (PoolPart P H) → List (PoolPart P H)
  with_part place change parts = slice_set parts place (change (part_at place parts))

  -- a call on the part at a place can be made
  pub record IsAt (can : PoolPart P H → Type 0) (place : ℕ) (parts : List (PoolPart P H)) : Type 0 where
    pub inside : place < length parts
    pub part : can (part_at place parts)

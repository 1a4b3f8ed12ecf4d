-- Slots taken out of the warm ones.
use Rattle.std.specs.Prelude.{ℕ, List}
use Rattle.pool_index.specs.declared.ids.SlotId.{SlotId}

-- the slots in the order in which they were taken, each with the bytes that it keeps resident; there may be as many as
-- there is room for
pub record TakenState : Type 0 where
  pub items : List (SlotId × ℕ)
  pub room : ℕ

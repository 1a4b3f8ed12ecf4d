-- Stacks that were granted.
use Rattle.std.specs.Prelude.{ℕ}
use Rattle.pool_alloc.specs.Imports.{StackState, RegionNumbers, SlotName}
use Rattle.pool_hall.specs.declared.unit_name.SlotKind.TheVariants as slot_kind
use Rattle.pool_alloc.specs.declared.frame.TakenSlot.{TakenSlot}

-- a stack that was granted, and the numbers that its region went out with
pub record LeasedStack : Type 0 where
  pub stack : StackState
  pub numbers : RegionNumbers

-- The name of a stack's slot.
abbrev pub stack_slot : ℕ → SlotName
stack_slot slot = record { kind = slot_kind.Stack; slot = slot }

-- The slot of a stack's lease, with the numbers of its region.
abbrev pub stack_taken : LeasedStack → TakenSlot
stack_taken l = record { name = stack_slot l.stack.index; numbers = l.numbers }

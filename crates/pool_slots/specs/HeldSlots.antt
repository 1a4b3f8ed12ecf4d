-- What a queue holds of a slot, as plain data.
use Rattle.std.specs.Prelude.{ℕ, Option, Some, None, if◌then◌else◌}
use Rattle.pool_slots.specs.Imports.{Slot, SlotKind}
use Rattle.pool_hall.specs.declared.unit_name.SlotKind.TheVariants as of_slot
use Rattle.pool_slots.specs.PlainSlots.{StackState}
use Rattle.pool_slots.specs.SlotQueues.{Queued, plain_slot}
use Rattle.pool_slots.specs.declared.slot_name.RegionNumbers.{RegionNumbers}
use Rattle.pool_slots.specs.declared.queued_slot.HeldSlot.{HeldSlot}
use Rattle.pool_slots.specs.declared.queued_slot.HeldSlot.TheVariants.{Memory, Table, Stack}

-- The slot that a queue holds; a table's or a stack's region counts as a slot without image.
abbrev pub held_slot : {P : Type 0} → HeldSlot P → Slot
held_slot (Memory slot) = slot
held_slot (Table held) = plain_slot held.base.bytes held.region
held_slot (Stack held) = plain_slot held.base.bytes held.region

-- The kind of a slot that a queue holds.
abbrev pub held_kind : {P : Type 0} → HeldSlot P → SlotKind
held_kind (Memory slot) = of_slot.Memory
held_kind (Table held) = of_slot.Table
held_kind (Stack held) = of_slot.Stack

-- How many bytes are zeroed by hand should a decommit fail; never any of a memory.
abbrev pub by_hand_of : {P : Type 0} → HeldSlot P → Option ℕ
by_hand_of (Memory slot) = None
by_hand_of (Table held) = held.by_hand
by_hand_of (Stack held) = held.by_hand

-- a stack on its way back to its pool
abbrev pub stack_item : StackState → ℕ → RegionNumbers → Queued
stack_item s bytes numbers = record {
  name = record { kind = of_slot.Stack; slot = s.index };
  slot = s.slot;
  known = s.zeroing;
  bytes = bytes;
  by_hand = if s.zeroing then Some s.slot.static_size else None;
  numbers = numbers;
}

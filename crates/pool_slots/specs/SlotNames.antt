-- Names of slots, and numbers for each kind of slot.
use Rattle.std.specs.Prelude.{ℕ}
use Rattle.pool_hall.specs.declared.unit_name.SlotKind.{SlotKind}
use Rattle.pool_hall.specs.declared.unit_name.SlotKind.TheVariants as of_slot
use Rattle.pool_slots.specs.declared.queued_range.QueueKind.{QueueKind}
use Rattle.pool_slots.specs.declared.queued_range.QueueKind.TheVariants as of_queue
use Rattle.pool_slots.specs.declared.slot_name.OfKinds.{OfKinds}

-- the number for a kind
abbrev pub of_kind : SlotKind → OfKinds → ℕ
of_kind of_slot.Memory n = n.memory
of_kind of_slot.Table n = n.table
of_kind of_slot.Stack n = n.stack
of_kind of_slot.Heap n = n.heap

-- what a queued slot is a slot for
abbrev pub slot_kind : QueueKind → SlotKind
slot_kind of_queue.Memory = of_slot.Memory
slot_kind of_queue.Table = of_slot.Table
slot_kind of_queue.Stack = of_slot.Stack

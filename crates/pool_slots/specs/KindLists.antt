-- The slots of a queue in a list for each kind.
use Rattle.std.specs.Prelude.{◌≡◌, ◌+◌, ◌≤◌, List, length}
use Rattle.pool_slots.specs.Imports.{AllByRecursion, SlotKind}
use Rattle.pool_hall.specs.declared.unit_name.SlotKind.TheVariants as of_slot
use Rattle.pool_slots.specs.SlotQueues.{Queued, QueuedList}

-- each of the slots is of this kind
abbrev pub AreOfKind : SlotKind → List Queued → Type 0
AreOfKind kind ms = AllByRecursion (λ m. m.name.kind ≡ kind) ms

-- The lists of the memories, the tables and the stacks of one queue: each has room for as many as all hold together.
pub record AreKindLists (memories tables stacks : QueuedList) : Type 0 where
  pub only_memories : AreOfKind of_slot.Memory memories.items
  pub only_tables : AreOfKind of_slot.Table tables.items
  pub only_stacks : AreOfKind of_slot.Stack stacks.items
  pub table_room : tables.room ≡ memories.room
  pub stack_room : stacks.room ≡ memories.room
  pub within : length memories.items + (length tables.items + length stacks.items) ≤ memories.room

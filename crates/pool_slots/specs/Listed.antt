-- Where a region tells its plan, no more of its calls failed than that lists. So it is of the regions that lie in cells and in queues.
use Rattle.std.specs.List.{AllByRecursion}
use Rattle.pool_pages.specs.Told.{FailsAsListed}
use Rattle.pool_slots.specs.Cells.{Cell, unmapped, unknown, previously_used, taken}
use Rattle.pool_slots.specs.SlotQueues.{Queued, Queue}
use Rattle.pool_slots.specs.declared.part.PoolPart.{PoolPart}
use Rattle.pool_slots.specs.declared.part.PoolPart.TheVariants as part

-- So it is of the region in a cell, where there is one.
abbrev pub CellFailsAsListed : Cell → Type 0
CellFailsAsListed (unmapped region) = FailsAsListed region
CellFailsAsListed (unknown slot) = FailsAsListed slot.region
CellFailsAsListed (previously_used slot) = FailsAsListed slot.region
CellFailsAsListed taken = Unit {0}

-- So it is of the region of a queued slot.
abbrev pub SlotFailsAsListed : Queued → Type 0
SlotFailsAsListed m = FailsAsListed m.slot.region

-- So it is of the region of each slot in a queue.
abbrev pub QueueFailsAsListed : Queue → Type 0
QueueFailsAsListed q = AllByRecursion SlotFailsAsListed q.slots

-- So it is of each region that lies in a part.
abbrev pub PartFailsAsListed : {P H : Type 0} → PoolPart P H → Type 0
PartFailsAsListed (part.Memory cell) = CellFailsAsListed cell.holds
PartFailsAsListed (part.Table cell) = CellFailsAsListed cell.holds
PartFailsAsListed (part.Stack cell) = CellFailsAsListed cell.holds
PartFailsAsListed (part.Queue q) = QueueFailsAsListed q
PartFailsAsListed _ = Unit {0}

-- What the code's cells hold, as plain data.
use Rattle.pool_slots.specs.Cells.{Cell, unmapped, unknown, previously_used, taken}
use Rattle.pool_slots.specs.declared.cells.ImageSlot.{ImageSlot}
use Rattle.pool_slots.specs.declared.cells.ImageSlot.TheVariants.{Unmapped, Unknown, PreviouslyUsed, Taken}

-- What the code's cell holds, as plain data.
abbrev pub cell_of : {P : Type 0} → ImageSlot P → Cell
cell_of (Unmapped region) = unmapped region
cell_of (Unknown slot) = unknown slot
cell_of (PreviouslyUsed slot) = previously_used slot
cell_of Taken = taken

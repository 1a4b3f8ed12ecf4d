-- The units of a grant, in a list: each of its slots has two, the right to use the slot and the slot's region.
use Rattle.std.specs.Prelude.{List, [], ◌∷◌, ◌++◌}
use Rattle.pool_hall.specs.declared.unit_name.UnitName.{UnitName}
use Rattle.pool_slots.specs.RegionCells.{right_to as unit_right, region_of as unit_region}
use Rattle.pool_slots.specs.declared.slot_name.RegionNumbers.{RegionNumbers}
use Rattle.pool_slots.specs.declared.slot_name.SlotName.{SlotName}
use Rattle.pool_alloc.specs.HeapLeases.{heap_slot_taken}
use Rattle.pool_alloc.specs.Leases.{Lease, memory_slot, slot_taken}
use Rattle.pool_alloc.specs.StackLeases.{stack_taken}
use Rattle.pool_alloc.specs.TableLeases.{LeasedTable, table_slot, table_taken}
use Rattle.pool_alloc.specs.declared.frame.Grant.{Grant}
use Rattle.pool_alloc.specs.declared.frame.Grant.TheVariants.{Instance, Component, Memory, Table, Stack, Heap, HeapOver}
use Rattle.pool_alloc.specs.declared.frame.TakenSlot.{TakenSlot}

-- The units of a slot that is out.
abbrev pub both_units : SlotName → RegionNumbers → List UnitName
both_units name numbers = unit_right name ∷ unit_region name numbers ∷ []

abbrev pub taken_units : TakenSlot → List UnitName
taken_units at = both_units at.name at.numbers

-- The units of memories.
abbrev pub memory_units : List Lease → List UnitName
memory_units [] = []
memory_units (lease ∷ leases) = both_units (memory_slot lease.index) lease.numbers ++ memory_units leases

-- The units of tables.
abbrev pub table_units : List LeasedTable → List UnitName
table_units [] = []
table_units (lease ∷ leases) = both_units (table_slot lease.index) lease.numbers ++ table_units leases

-- The units of a grant. A component has none.
abbrev pub grant_units : {P H : Type 0} → Grant P H → List UnitName
grant_units (Instance lease) = memory_units lease.memories.items ++ table_units lease.tables.items
grant_units Component = []
grant_units (Memory lease) = taken_units (slot_taken lease)
grant_units (Table lease) = taken_units (table_taken lease)
grant_units (Stack lease) = taken_units (stack_taken lease)
grant_units (Heap lease memory) = taken_units (heap_slot_taken lease) ++ taken_units (slot_taken memory)
grant_units (HeapOver lease) = taken_units (heap_slot_taken lease)

-- What is allocated for a request: its objects, one after the other.
use Rattle.std.specs.Prelude.{ℕ, ◌+◌, length}
use Rattle.pool_alloc.specs.declared.frame.Asked.{Asked}
use Rattle.pool_alloc.specs.Leases.{slot_taken}
use Rattle.pool_alloc.specs.Reserved.{no_room}
use Rattle.pool_alloc.specs.StepReads.{memories_wanted, tables_wanted, stacks_wanted, heaps_wanted}
use Rattle.pool_alloc.specs.StackLeases.{stack_taken}
use Rattle.pool_alloc.specs.TableLeases.{table_taken}
use Rattle.pool_alloc.specs.declared.frame.Object.{Object}
use Rattle.pool_alloc.specs.declared.frame.Object.TheVariants.{Memory, Table, Stack}
use Rattle.pool_alloc.specs.declared.frame.TakenSlot.{TakenSlot}
use Rattle.pool_alloc.specs.declared.leases.instance.InstanceLease.{InstanceLease}

-- how many objects a request is for
abbrev pub objects_wanted : Asked → ℕ
objects_wanted asked = length (memories_wanted asked) + length (tables_wanted asked) + stacks_wanted asked + heaps_wanted asked

module _ {P : Type 0} where
  -- How many objects an instance's leases are.
  abbrev pub objects_in : InstanceLease P → ℕ
  objects_in lease = length lease.memories.items + length lease.tables.items

  -- The objects of a call that was granted nothing.
  abbrev pub no_objects : InstanceLease P
  no_objects = record { memories = no_room; tables = no_room }

  -- the slot of an object, and the numbers that its region went out with
  abbrev pub slot_of_object : Object P → TakenSlot
  slot_of_object (Memory lease) = slot_taken lease
  slot_of_object (Table lease) = table_taken lease
  slot_of_object (Stack lease) = stack_taken lease

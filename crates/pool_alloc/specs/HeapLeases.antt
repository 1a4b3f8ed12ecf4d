-- Heaps that were granted.
use Rattle.std.specs.Prelude.{ℕ, ◌<◌, ◌%◌, ◌^◌, List}
use Rattle.pool_alloc.specs.Imports.{heap_slot, Plan, RegionNumbers}
use Rattle.pool_alloc.specs.Leases.{Lease, first_index}
use Rattle.pool_alloc.specs.declared.frame.Asked.{Asked}
use Rattle.pool_alloc.specs.declared.frame.Asked.TheVariants.{HeapOver as heap_over_asked}
use Rattle.pool_alloc.specs.declared.frame.TakenSlot.{TakenSlot}

-- a heap that was granted, the number of its slot, and what the unit of that tells since it is out
pub record LeasedHeap (H : Type 0) : Type 0 where
  pub index : ℕ
  pub heap : H
  pub numbers : RegionNumbers

-- The numbers that a heap's unit tells: its slot notes the memory with this index.
abbrev pub heap_numbers : ℕ → RegionNumbers
heap_numbers memory = record { faults = memory; erases = 0 }

-- The index of the memory over which a heap is: the one that was asked for with it, or that of the memory that was granted for it.
abbrev pub memory_under : Asked → List Lease → ℕ
memory_under (heap_over_asked memory) granted = memory.0
memory_under _ granted = first_index granted

-- The index of the memory that a heap's slot notes. It is a number of 32 bits.
abbrev pub memory_noted : {H : Type 0} → LeasedHeap H → ℕ
memory_noted l = l.numbers.faults % 2 ^ 32

-- the slot with the numbers
abbrev pub heap_slot_taken : {H : Type 0} → LeasedHeap H → TakenSlot
heap_slot_taken l = record { name = heap_slot l.index; numbers = l.numbers }

-- The lease of a heap is one of the pool.
abbrev pub IsHeapLease : {H : Type 0} → Plan → LeasedHeap H → Type 0
IsHeapLease plan l = l.index < plan.totals.heap

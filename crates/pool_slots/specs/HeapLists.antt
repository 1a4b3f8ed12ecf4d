-- The list of a pool's heaps: one entry for each slot, which holds the slot's heap or notes its memory while it is out.
use Rattle.std.specs.Prelude.{◌≡◌, ℕ, suc, ◌^◌, ◌<◌, Bool, true, false, List, [], ◌∷◌, Option, Some, None, IfSome, IsTrue, IsFalse, replicate, slice_index_or, slice_set}
use Rattle.pool_slots.specs.Imports.{UnitName, region_unit}
use Rattle.pool_hall.specs.declared.unit_name.SlotKind.TheVariants as of_slot
use Rattle.pool_slots.specs.declared.allocation_index.MemoryAllocationIndex.{MemoryAllocationIndex}
use Rattle.pool_slots.specs.declared.heap_list.HeapEntry.{HeapEntry}
use Rattle.pool_slots.specs.declared.heap_list.HeapEntry.TheVariants as entry

-- the region unit of a heap's slot while it is out: it tells the index of the memory that the slot notes
abbrev pub heap_unit : ℕ → MemoryAllocationIndex → UnitName
heap_unit slot memory = region_unit of_slot.Heap slot memory.0 0

-- the index of a memory that is in no slot
abbrev pub no_memory : MemoryAllocationIndex
no_memory = record { 0 = 4294967295 }

module _ {H : Type 0} where
  -- The entry's slot is out.
  abbrev pub is_out : HeapEntry H → Bool
  is_out (entry.Here heap) = false
  is_out (entry.Out memory) = true

  -- The heap of an entry; none where the slot is out, or no heap was made yet.
  abbrev pub heap_of : HeapEntry H → Option H
  heap_of (entry.Here heap) = heap
  heap_of (entry.Out memory) = None

  -- The memory that an entry notes, which it does while its slot is out.
  abbrev pub noted_by : HeapEntry H → MemoryAllocationIndex
  noted_by (entry.Here heap) = no_memory
  noted_by (entry.Out memory) = memory

  -- The entry of a slot of the list; past the last one it is here and holds no heap.
  abbrev pub heap_entry : ℕ → List (HeapEntry H) → HeapEntry H
  heap_entry slot entries = slice_index_or entries slot (entry.Here None)

  -- The heap that lies at a slot.
  abbrev pub heap_in : ℕ → List (HeapEntry H) → Option H
  heap_in slot entries = heap_of (heap_entry slot entries)

  -- The memory that a slot's entry notes.
  abbrev pub memory_of : ℕ → List (HeapEntry H) → MemoryAllocationIndex
  memory_of slot entries = noted_by (heap_entry slot entries)

  -- The slot's entry is in the list's hands: no party has its heap.
  abbrev pub IsHere : ℕ → List (HeapEntry H) → Type 0
  IsHere slot entries = IsFalse (is_out (heap_entry slot entries))

  -- The slot is out: a party has its heap.
  abbrev pub IsOut : ℕ → List (HeapEntry H) → Type 0
  IsOut slot entries = IsTrue (is_out (heap_entry slot entries))

  -- the list as it is made: each slot is here, and no heap was made yet
  abbrev pub heaps_made : ℕ → List (HeapEntry H)
  heaps_made total = replicate total (entry.Here None)

  -- the slot's heap is taken out, and the slot notes the memory
  abbrev pub heap_taken : ℕ → MemoryAllocationIndex → List (HeapEntry H) → List (HeapEntry H)
  heap_taken slot memory entries = slice_set entries slot (entry.Out memory)

  -- a heap comes back to the slot, or nothing does
  abbrev pub heap_returned : ℕ → Option H → List (HeapEntry H) → List (HeapEntry H)
  heap_returned slot heap entries = slice_set entries slot (entry.Here heap)

  -- the units that entries have given out, where the first has the slot n: those of the entries that are out
  abbrev pub away_from : ℕ → List (HeapEntry H) → List UnitName
  away_from n [] = []
  away_from n (entry.Here heap ∷ entries) = away_from (suc n) entries
  away_from n (entry.Out memory ∷ entries) = heap_unit n memory ∷ away_from (suc n) entries

  -- The units of the slots that are out, each with the memory that its entry notes.
  abbrev pub heaps_away : List (HeapEntry H) → List UnitName
  heaps_away entries = away_from 0 entries

-- What holds of every list of heaps: no store uses a heap that lies in it, and what its entries note are indices.
pub record IsSoundHeapList (H : Type 0) (attached : H → Bool) (entries : List (HeapEntry H)) : Type 0 where
  pub detached : (slot : ℕ) → IfSome (heap_in slot entries) (λ heap. attached heap ≡ false)
  pub noted : (slot : ℕ) → (memory_of slot entries).0 < 2 ^ 32

-- What calls on the list of heaps do to its entries, and to the units that it has given out.
use Rattle.std.specs.Prelude.{◌≡◌, ◌≢◌, ℕ, ◌+◌, ◌<◌, List, [], length, Option}
use Rattle.pool_slots.specs.Imports.{one_if, total, times, UnitName}
use Rattle.pool_hall.specs.declared.unit_name.SlotKind.TheVariants as of_slot
use Rattle.pool_slots.specs.HeapLists.{heap_unit, is_out, heap_entry, heap_in, memory_of, IsHere, IsOut, heaps_made, heap_taken, heap_returned, heaps_away}
use Rattle.pool_slots.specs.ListUnits.{is_right, is_region}
use Rattle.pool_slots.specs.declared.allocation_index.MemoryAllocationIndex.{MemoryAllocationIndex}
use Rattle.pool_slots.specs.declared.heap_list.HeapEntry.{HeapEntry}
use Rattle.pool_slots.specs.declared.slot_name.SlotName.{SlotName}

-- the name of a heap's slot
abbrev pub heap_slot : ℕ → SlotName
heap_slot slot = record { kind = of_slot.Heap; slot = slot }

-- A take changes one entry alone: the slot is out and notes the memory; the list stays as long.
pub record TakesOneHeap (H : Type 0) (slot : ℕ) (memory : MemoryAllocationIndex) (entries : List (HeapEntry H)) : Type 0 where
  pub taken : slot < length entries → IsOut slot (heap_taken slot memory entries) × (memory_of slot (heap_taken slot memory entries) ≡ memory)
  pub size : length (heap_taken slot memory entries) ≡ length entries
  pub others : (other : ℕ) → other ≢ slot → heap_entry other (heap_taken slot memory entries) ≡ heap_entry other entries

-- A return changes one entry alone: the slot is here again, with the heap that came back, or with none.
pub record ReturnsOneHeap (H : Type 0) (slot : ℕ) (heap : Option H) (entries : List (HeapEntry H)) : Type 0 where
  pub returned : slot < length entries → IsHere slot (heap_returned slot heap entries) × (heap_in slot (heap_returned slot heap entries) ≡ heap)
  pub size : length (heap_returned slot heap entries) ≡ length entries
  pub others : (other : ℕ) → other ≢ slot → heap_entry other (heap_returned slot heap entries) ≡ heap_entry other entries

-- A take and a return change the entry of their own slot and no other.
abbrev pub HeapsKeepToTheirSlots : Type 0 → Type 0
HeapsKeepToTheirSlots H = (slot : ℕ) (memory : MemoryAllocationIndex) (heap : Option H) (entries : List (HeapEntry H)) → TakesOneHeap H slot memory entries × ReturnsOneHeap H slot heap entries

-- A take gives out the one unit that tells the slot and the memory noted there, whatever weight units have.
abbrev pub HeapTakesCount : Type 0 → Type 0
HeapTakesCount H = (w : UnitName → ℕ) (slot : ℕ) (memory : MemoryAllocationIndex) (entries : List (HeapEntry H)) → slot < length entries → IsHere slot entries
    → total w (heaps_away (heap_taken slot memory entries)) ≡ total w (heaps_away entries) + w (heap_unit slot memory)

-- A return takes back the one unit that tells the slot and the memory noted there.
abbrev pub HeapReturnsCount : Type 0 → Type 0
HeapReturnsCount H = (w : UnitName → ℕ) (slot : ℕ) (heap : Option H) (entries : List (HeapEntry H)) → IsOut slot entries
    → total w (heaps_away (heap_returned slot heap entries)) + w (heap_unit slot (memory_of slot entries)) ≡ total w (heaps_away entries)

-- A list gives out none as it is made.
abbrev pub NoHeapsOutAtFirst : Type 0 → Type 0
NoHeapsOutAtFirst H = (slots : ℕ) → heaps_away {H = H} (heaps_made slots) ≡ []

-- The unit is that of an entry that is out, and tells the memory that it notes.
pub record IsOfOutHeap (H : Type 0) (u : UnitName) (entries : List (HeapEntry H)) : Type 0 where
  pub slot : ℕ
  pub out : IsOut slot entries
  pub is : u ≡ heap_unit slot (memory_of slot entries)

-- A unit that is away is that of an entry that is out, and the region of a slot is away once where the slot's entry is out,
-- and else not at all, whatever numbers its unit tells. No right to a slot is ever away, and no region of another kind.
pub record HeapsAwayAreOut (H : Type 0) (entries : List (HeapEntry H)) : Type 0 where
  pub named : (u : UnitName) → 0 < times u (heaps_away entries) → IsOfOutHeap H u entries
  pub once : (slot : ℕ) → total (is_region (heap_slot slot)) (heaps_away entries) ≡ one_if (is_out (heap_entry slot entries))
  pub no_rights : (name : SlotName) → total (is_right name) (heaps_away entries) ≡ 0
  pub no_others : (name : SlotName) → name.kind ≢ of_slot.Heap → total (is_region name) (heaps_away entries) ≡ 0

-- In every list, the units that are away are those of the slots that are out.
abbrev pub HeapUnitsAreOfOutSlots : Type 0 → Type 0
HeapUnitsAreOfOutSlots H = (entries : List (HeapEntry H)) → HeapsAwayAreOut H entries

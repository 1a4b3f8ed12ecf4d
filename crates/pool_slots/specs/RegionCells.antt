-- The cell of a slot's region: what it holds, and what it counts.
use Rattle.std.specs.Prelude.{◌≡◌, ℕ, ◌^◌, ◌<◌, List, [], ◌∷◌, true}
use Rattle.pool_slots.specs.Imports.{RegionName, SlotKind, UnitName, pick_unit, region_unit, risen}
use Rattle.pool_hall.specs.declared.unit_name.SlotKind.TheVariants as of_slot
use Rattle.pool_pages.specs.declared.pages.RegionName.TheVariants as of_region
use Rattle.pool_slots.specs.Cells.{Cell, unmapped, unknown, previously_used, taken, is_taken, IsCleanOnceUsed}
use Rattle.pool_slots.specs.declared.slot_name.SlotName.{SlotName}
use Rattle.pool_slots.specs.declared.slot_name.RegionNumbers.{RegionNumbers}

-- Whose it is, what it holds, how often a region was put there of which nothing was known, and the numbers that the
-- region went out with when it left last.
pub record CellState : Type 0 where
  pub name : SlotName
  pub holds : Cell
  pub unknown_puts : ℕ
  pub out : RegionNumbers

-- How often calls on the region in a cell have failed.
abbrev pub faults_in : Cell → ℕ
faults_in (unmapped region) = region.faults
faults_in (unknown slot) = slot.region.faults
faults_in (previously_used slot) = slot.region.faults
faults_in taken = 0

-- How often the region in a cell was erased; once more where nothing is known of it, as it is erased before its next
-- use.
abbrev pub erases_in : Cell → ℕ
erases_in (unmapped region) = region.calls.erase
erases_in (unknown slot) = risen slot.region.calls.erase
erases_in (previously_used slot) = slot.region.calls.erase
erases_in taken = 0

-- a memory's region tells how often it was erased
abbrev pub erases_told : SlotKind → Cell → ℕ
erases_told of_slot.Memory held = erases_in held
erases_told of_slot.Table held = 0
erases_told of_slot.Stack held = 0
erases_told of_slot.Heap held = 0

-- the numbers that a region goes out with
abbrev pub numbers_of : SlotKind → Cell → RegionNumbers
numbers_of kind held = record { faults = faults_in held; erases = erases_told kind held }

-- the numbers of a cell: those of the region that is there, or those that it went out with
abbrev pub numbers_by : RegionNumbers → SlotKind → Cell → RegionNumbers
numbers_by out kind taken = out
numbers_by out kind held = numbers_of kind held

-- The numbers of a cell's region: as it lies there, or as it went out.
abbrev pub cell_numbers : CellState → RegionNumbers
cell_numbers c = numbers_by c.out c.name.kind c.holds

-- the cell of a slot as it is made, with this in it
abbrev pub cell_made : SlotName → Cell → CellState
cell_made name held = record { name = name; holds = held; unknown_puts = 0; out = record { faults = 0; erases = 0 } }

-- The cell of memory slot i as it is made, with this in it.
abbrev pub memory_cell : ℕ → Cell → CellState
memory_cell i held = cell_made (record { kind = of_slot.Memory; slot = i }) held

-- what it holds is taken out, and goes with its numbers
abbrev pub cell_emptied : CellState → CellState
cell_emptied c = record c { holds = taken; out = cell_numbers c }

-- one more region of which nothing is known
abbrev pub puts_with : Cell → ℕ → ℕ
puts_with (unknown slot) n = risen n
puts_with _ n = n

-- this is put in, where the cell is empty
abbrev pub cell_filled : Cell → CellState → CellState
cell_filled held c = record c { holds = held; unknown_puts = puts_with held c.unknown_puts }

-- The region was made for the slot of this kind with this number. None is made for a heap's.
abbrev pub IsMadeFor : SlotKind → ℕ → RegionName → Type 0
IsMadeFor of_slot.Memory i region = region ≡ of_region.Memory i
IsMadeFor of_slot.Table i region = region ≡ of_region.Table i
IsMadeFor of_slot.Stack i region = region ≡ of_region.Stack i
IsMadeFor of_slot.Heap i region = ⊥

-- This is the region of the slot with this name, in whatever state; not nothing.
abbrev pub IsRegionOf : SlotName → Cell → Type 0
IsRegionOf name (unmapped region) = IsMadeFor name.kind name.slot region.name
IsRegionOf name (unknown slot) = IsMadeFor name.kind name.slot slot.region.name
IsRegionOf name (previously_used slot) = IsMadeFor name.kind name.slot slot.region.name
IsRegionOf name taken = ⊥

-- The cell is empty, and this is the region of its slot, which it waits for.
pub record IsAwaited (held : Cell) (c : CellState) : Type 0 where
  pub empty : is_taken c.holds ≡ true
  pub own : IsRegionOf c.name held

-- What holds of every cell: a slot in it that was used before is clean, and its counts fit 64 bits.
pub record IsSoundCell (c : CellState) : Type 0 where
  pub clean : IsCleanOnceUsed c.holds
  pub faults : faults_in c.holds < 2 ^ 64
  pub erases : erases_in c.holds < 2 ^ 64
  pub told : (c.out.faults < 2 ^ 64) × (c.out.erases < 2 ^ 64)
  pub puts : c.unknown_puts < 2 ^ 64

-- The unit of a slot's region, with the numbers that it tells.
abbrev pub region_of : SlotName → RegionNumbers → UnitName
region_of name numbers = region_unit name.kind name.slot numbers.faults numbers.erases

-- The unit that is the right to a slot, which a pick gives and a free takes back.
abbrev pub right_to : SlotName → UnitName
right_to name = pick_unit name.kind name.slot

-- the units that a cell has given out: that of its region, where it is out
abbrev pub away_by : SlotName → RegionNumbers → Cell → List UnitName
away_by name out taken = region_of name out ∷ []
away_by name out held = []

-- The unit that a cell has given out: that of its region, while the cell is empty.
abbrev pub cell_away : CellState → List UnitName
cell_away c = away_by c.name c.out c.holds

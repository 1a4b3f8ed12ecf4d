-- Tables that were granted, and how their leases are changed.
use Rattle.std.specs.Prelude.{◌≡◌, ℕ, ◌+◌, ◌<◌, ◌≤◌, slice_get, Option, Some, None, IfSome, is_ok, Result, Ok, Err}
use Rattle.pool_alloc.specs.Imports.{TableType, Told, LimiterTold, Exchange, GrowFault, Trap, TableOutOfBounds, RegionNumbers, SlotName, uninitialised, func, gc_ref, cont, type_of, TableGrowsAsking, StoreTold, StoreCall, StoredFill, stored_answer, table_view, element_type_of, IsStatic, IsTable, TableView, FillsTable, LiesThere, state_in, GcTableError}
use Rattle.pool_hall.specs.declared.unit_name.SlotKind.TheVariants as slot_kind
use Rattle.pool_table.specs.Elements as elem
use Rattle.pool_table.specs.declared.gc_store.GcTableError.TheVariants as failed
use Rattle.pool_table.specs.declared.table.Table.{Table}
use Rattle.pool_types.specs.declared.module_types.IndexType.TheVariants.{I32}
use Rattle.pool_alloc.specs.declared.frame.TakenSlot.{TakenSlot}
use Rattle.pool_alloc.specs.declared.leases.element.Element.{Element}
use Rattle.pool_alloc.specs.declared.leases.element.Element.TheVariants as item

-- a table that was granted, the number of its slot, and the numbers that its region went out with
pub record LeasedTable : Type 0 where
  pub index : ℕ
  pub table : TableView
  pub numbers : RegionNumbers

-- The name of a table's slot.
abbrev pub table_slot : ℕ → SlotName
table_slot slot = record { kind = slot_kind.Table; slot = slot }

-- The slot of a table's lease, with the numbers of its region.
abbrev pub table_taken : LeasedTable → TakenSlot
table_taken l = record { name = table_slot l.index; numbers = l.numbers }

-- The type of a table as it stands: it begins with as many elements as the table has.
abbrev pub type_now : LeasedTable → TableType
type_now l = record { idx_type = I32; limits = record { min = l.table.size; max = None }; element = type_of l.table.kind }

-- its elements are of the type that its kind says
abbrev pub HasType : {P : Type 0} → Table P → Type 0
HasType table = element_type_of table ≡ type_of (table_view table).kind

-- The table lies in a region, and has elements of the type that its kind says.
pub record IsOverRegion {P : Type 0} (table : Table P) : Type 0 where
  pub static : IsStatic table
  pub element_type : HasType table

-- the element that a caller names
abbrev pub element_of : Element → elem.Element
element_of item.Uninitialised = uninitialised
element_of (item.Func f) = func f
element_of (item.Gc r) = gc_ref r
element_of (item.Cont c) = cont c

-- an element of a table of this kind can be set to it
abbrev pub CanBeSet : elem.ElementKind → elem.Element → Type 0
CanBeSet kind uninitialised = ⊥
CanBeSet kind e = elem.IsElement kind e

-- the answer to a look at one element
abbrev pub IsElementAt : TableView → ℕ → Result Element Trap → Type 0
IsElementAt t at (Ok e) = (at < t.size) × IfSome t.elements (λ es. slice_get es at ≡ Some (element_of e))
IsElementAt t at (Err trap) = (trap ≡ TableOutOfBounds) × (t.size ≤ at)

-- so many elements from a place on were set, or as many as the store let through; only of GC references it is told
abbrev pub SetsElements : {G : Type 0} → (G → StoreTold) → (G → StoreCall → G → Type 0) → ℕ → ℕ → elem.Element → TableView → TableView → G → G → Result (Unit {0}) GcTableError → Type 0
SetsElements told leads at count (gc_ref r) old new before after result =
    (result ≡ stored_answer (is_ok result)) × StoredFill told leads at count r old new before after (is_ok result)
SetsElements told leads at count e old new before after result = (result ≡ Ok tt) × FillsTable at count e old new × (after ≡ before)

-- the table lies in a region that holds it
pub record LiesInRegion (t : TableView) : Type 0 where
  pub region : Told
  pub is : t.region ≡ Some region
  pub holds : IsTable (state_in region t)
  pub lies : LiesThere t

-- so many elements of the table were set, or it is as before where they pass its size
pub record IsSet {G : Type 0} (told : G → StoreTold) (leads : G → StoreCall → G → Type 0) (at count : ℕ) (e : elem.Element) (old new : TableView) (before after : G) (result : Result (Unit {0}) GcTableError) : Type 0 where
  pub inside : at + count ≤ old.size → SetsElements told leads at count e old new before after result
  pub outside : old.size < at + count → (result ≡ Err (failed.Trap TableOutOfBounds)) × (new ≡ old) × (after ≡ before)

-- So many elements of a lease's table were set, and it still lies in its region.
pub record IsFilled {G : Type 0} (told : G → StoreTold) (leads : G → StoreCall → G → Type 0) (at count : ℕ) (e : elem.Element) (old new : LeasedTable) (before after : G) (result : Result (Unit {0}) GcTableError) : Type 0 where
  pub same : new ≡ record old { table = new.table }
  pub set : IsSet told leads at count e old.table new.table before after result
  pub region : LiesInRegion new.table

-- The table was asked to grow by so many elements, and this was the answer. The limiter was in the first of these states,
-- and is left in the other.
pub record IsLengthened {R : Type 0} (told : R → LimiterTold) (leads : R → Exchange → R → Type 0) (by : ℕ) (old new : LeasedTable) (before after : R) (answer : Result (Option ℕ) GrowFault) : Type 0 where
  pub same : new ≡ record old { table = new.table }
  pub growth : TableGrowsAsking told leads by old.table new.table (Some before) (Some after) answer
  pub region : LiesInRegion new.table

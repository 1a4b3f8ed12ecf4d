-- What the code's tables are, as plain data.
use Rattle.std.specs.Prelude.{Bool, true, false, IsTrue}
use Rattle.pool_types.specs.declared.table_type.TableElementType.{TableElementType}
use Rattle.pool_types.specs.declared.table_type.TableElementType.TheVariants as of_type
use Rattle.pool_table.specs.Tables.{TableState}
use Rattle.pool_table.specs.Views.{TableView, ListedTable, in_region, in_list}
use Rattle.pool_table.specs.declared.static_table.StaticTable.{StaticTable}
use Rattle.pool_table.specs.declared.static_table.StaticTable.TheVariants as over
use Rattle.pool_table.specs.declared.dynamic_table.DynamicTable.{DynamicTable}
use Rattle.pool_table.specs.declared.dynamic_table.DynamicTable.TheVariants as listed
use Rattle.pool_table.specs.declared.table.Table.{Table}
use Rattle.pool_table.specs.declared.table.Table.TheVariants.{Static, Dynamic}

-- A table over a region as plain data, whatever its elements are.
abbrev pub static_state : {P : Type 0} → StaticTable P → TableState
static_state (over.Func table) = table
static_state (over.GcRef table) = table
static_state (over.Cont table) = table

-- The type of element of a table over a region.
abbrev pub static_type : {P : Type 0} → StaticTable P → TableElementType
static_type (over.Func table) = of_type.Func
static_type (over.GcRef table) = of_type.GcRef
static_type (over.Cont table) = of_type.Cont

-- A table in a list as plain data, whatever its elements are.
abbrev pub listed_table : DynamicTable → ListedTable
listed_table (listed.Func table) = table
listed_table (listed.GcRef table) = table
listed_table (listed.Cont table) = table

-- The type of element of a table in a list.
abbrev pub listed_type : DynamicTable → TableElementType
listed_type (listed.Func table) = of_type.Func
listed_type (listed.GcRef table) = of_type.GcRef
listed_type (listed.Cont table) = of_type.Cont

-- A table as its callers see it: its elements, and the region in which they lie, if they lie in one.
abbrev pub table_view : {P : Type 0} → Table P → TableView
table_view (Static table) = in_region (static_state table)
table_view (Dynamic table) = in_list (listed_table table)

-- what its elements are
abbrev pub element_type_of : {P : Type 0} → Table P → TableElementType
element_type_of (Static table) = static_type table
element_type_of (Dynamic table) = listed_type table

-- its elements lie in a region that stays
abbrev pub is_static_table : {P : Type 0} → Table P → Bool
is_static_table (Static table) = true
is_static_table (Dynamic table) = false

-- This table lies in a region.
abbrev pub IsStatic : {P : Type 0} → Table P → Type 0
IsStatic table = IsTrue (is_static_table table)

-- How a table is made, over a region or in a list: what the limiter is asked, and what comes of its answer.
use Rattle.std.specs.Prelude.{◌≡◌, ℕ, ◌*◌, ◌-◌, ◌^◌, ◌/◌, ◌%◌, ◌<◌, ◌≤◌, max, min, nat_lt, replicate, Bool, true, false, Some, None, MatchResult, option_map, Result, Ok, Err}
use Rattle.pool_pages.specs.MakerTold.{fresh}
use Rattle.pool_pages.specs.Told.{Told}
use Rattle.pool_types.specs.declared.table_type.TableType.{TableType}
use Rattle.pool_types.specs.declared.table_type.TableElementType.{TableElementType}
use Rattle.pool_types.specs.declared.table_type.TableElementType.TheVariants as of_type
use Rattle.pool_types.specs.declared.unsupported.Unsupported.TheVariants.{TableSize, AddressSpace}
use Rattle.pool_limits.specs.Exchanges.{GrowthQuestion, question_of}
use Rattle.pool_limits.specs.declared.growing.Growable.TheVariants as growable
use Rattle.pool_limits.specs.declared.errors.LimiterError.{LimiterError}
use Rattle.pool_table.specs.Elements.{ElementKind, functions, gc_refs, continuations, empty, element_size}
use Rattle.pool_table.specs.Tables.{TableState, IsRoom, type_maximum}
use Rattle.pool_table.specs.Views.{in_region}
use Rattle.pool_table.specs.TableStates.{table_view, element_type_of, IsStatic}
use Rattle.pool_table.specs.declared.table.Table.{Table}
use Rattle.pool_table.specs.declared.table_error.TableError.{TableError}
use Rattle.pool_table.specs.declared.table_error.TableError.TheVariants as refused

-- The kind of a table with this type of element; whether functions are initialised at their first read is a setting.
abbrev pub kind_of : TableElementType → Bool → ElementKind
kind_of of_type.Func lazy = functions lazy
kind_of of_type.GcRef lazy = gc_refs
kind_of of_type.Cont lazy = continuations

-- how many elements of the type so many bytes hold
abbrev pub room_of : TableType → ℕ → ℕ
room_of ty bytes = bytes / element_size ty.element

-- what the limiter is asked: the greatest size is the type's
abbrev pub making_question : TableType → GrowthQuestion
making_question ty = question_of growable.Table 0 ty.limits.min (Some (type_maximum ty))

-- the table of this type over a region of which it has so many bytes
abbrev pub new_table : TableType → Bool → ℕ → Told → TableState
new_table ty lazy bytes region = record {
  kind = kind_of ty.element lazy;
  size = ty.limits.min;
  maximum = min (room_of ty bytes) (type_maximum ty);
  region = region;
}

-- a table as it is made: with its minimum of elements, which are empty
pub record IsNewTable {P : Type 0} (ty : TableType) (lazy : Bool) (bytes : ℕ) (region : Told) (table : Table P) : Type 0 where
  pub static : IsStatic table
  pub element_type : element_type_of table ≡ ty.element
  pub view : table_view table ≡ in_region (new_table ty lazy bytes region)
  pub elements : (table_view table).elements ≡ option_map (λ c. replicate ty.limits.min (empty (kind_of ty.element lazy))) region.contents

-- the table, unless its minimum exceeds the room
abbrev pub MakesWithin : {P : Type 0} → Bool → (P → Told) → TableType → Bool → ℕ → P → Result (Table P) (P × TableError) → Type 0
MakesWithin true told ty lazy bytes region result = result ≡ Err (region, refused.Unsupported (TableSize ty.limits.min (room_of ty bytes)))
MakesWithin {P} false told ty lazy bytes region result = (table : Table P) × ((result ≡ Ok table) × IsNewTable ty lazy bytes (told region) table)

-- What is made where the limiter gave this answer. A refusal hands the region back.
abbrev pub MakesTable : {P : Type 0} → Result Bool LimiterError → (P → Told) → TableType → Bool → ℕ → P → Result (Table P) (P × TableError) → Type 0
MakesTable (Err e) told ty lazy bytes region result = result ≡ Err (region, refused.LimiterFault e)
MakesTable (Ok false) told ty lazy bytes region result = result ≡ Err (region, refused.LimiterDenied ty.limits.min)
MakesTable (Ok true) told ty lazy bytes region result = MakesWithin (nat_lt (room_of ty bytes) ty.limits.min) told ty lazy bytes region result

-- a table as it is made in a list: with its minimum of elements, which are empty; it may have as many as its type allows,
-- and as it has
pub record IsNewList {P : Type 0} (ty : TableType) (lazy : Bool) (table : Table P) : Type 0 where
  pub element_type : element_type_of table ≡ ty.element
  pub view : table_view table ≡ record {
    kind = kind_of ty.element lazy;
    size = ty.limits.min;
    maximum = max ty.limits.min (type_maximum ty);
    elements = Some (replicate ty.limits.min (empty (kind_of ty.element lazy)));
    region = None;
  }

-- the table, unless its bytes leave the address space, or no memory was to be had
abbrev pub MakesList : {P : Type 0} → Bool → TableType → Bool → Result (Table P) TableError → Type 0
MakesList true ty lazy result = result ≡ Err (refused.Unsupported AddressSpace)
MakesList false ty lazy result = MatchResult result (IsNewList ty lazy) (λ e. e ≡ refused.Memory)

-- What is made in a list where the limiter gave this answer.
abbrev pub MakesDynamic : {P : Type 0} → Result Bool LimiterError → TableType → Bool → Result (Table P) TableError → Type 0
MakesDynamic (Err e) ty lazy result = result ≡ Err (refused.LimiterFault e)
MakesDynamic (Ok false) ty lazy result = result ≡ Err (refused.LimiterDenied ty.limits.min)
MakesDynamic (Ok true) ty lazy result = MakesList (nat_lt (2 ^ 64 - 1) (ty.limits.min * element_size ty.element)) ty lazy result

-- What the limiter answered where a making was refused with this.
abbrev pub answer_behind : TableError → Result Bool LimiterError
answer_behind refused.Memory = Ok true
answer_behind (refused.Unsupported u) = Ok true
answer_behind (refused.LimiterDenied min) = Ok false
answer_behind (refused.LimiterFault e) = Err e

-- What the limiter answered, read off how the making of a table over a region ended.
abbrev pub making_answer : {X P : Type 0} → Result X (P × TableError) → Result Bool LimiterError
making_answer (Ok x) = Ok true
making_answer (Err refusal) = answer_behind refusal.1

-- What the limiter answered, read off how the making of a table in a list ended.
abbrev pub listing_answer : {X : Type 0} → Result X TableError → Result Bool LimiterError
listing_answer (Ok x) = Ok true
listing_answer (Err refusal) = answer_behind refusal

-- A region as it is made has room for a table in the pages that can be reached.
abbrev pub MadeRegionsHaveRoom : Type 0
MadeRegionsHaveRoom = (page accessible len n : ℕ) → 0 < page → accessible % page ≡ 0 → len % page ≡ 0 → accessible ≤ len → n ≤ accessible → IsRoom page len 0 n (fresh page accessible len)

-- A table as it is made.
use Rattle.std.proofs.Common.{◌≡◌, ℕ, ◌+◌, ◌-◌, ◌*◌, ◌/◌, ◌^◌, ◌<◌, ◌≤◌, nat_lt, Bool, false, List, replicate, slice_range, Option, Some, None, refl, sym, ap, ◌∙◌, subst, arith, min, IfSome, option_map}
use Rattle.pool_table.proofs.Imports.{mul-le-mul_right, div-mul-le_self, nat_tests, zeros_within, Contents, Told, TableType, TableElementType, Func, GcRef, Cont}
use Rattle.pool_table.specs.Elements.{ElementKind, Element, width, empty, element_size}
use Rattle.pool_table.specs.Tables.{IsTable, IsRoom, elements_in, type_maximum}
use Rattle.pool_table.specs.Views.{TableView, in_region}
use Rattle.pool_table.specs.TableStates.{table_view, element_type_of, IsStatic}
use Rattle.pool_table.specs.Making.{kind_of, room_of, new_table, IsNewTable}
use Rattle.pool_table.specs.declared.table.Table.{Table}
use Rattle.pool_table.proofs.Listed.{elements_grown}
use Rattle.pool_table.proofs.Words.{zero_is_empty}

same_width : (element : TableElementType) (lazy : Bool) → width (kind_of element lazy) ≡ element_size element
same_width Func lazy = refl
same_width GcRef lazy = refl
same_width Cont lazy = refl

-- what it may have lies in the bytes that are given
pub made_inside : (ty : TableType) (lazy : Bool) (bytes : ℕ) → min (room_of ty bytes) (type_maximum ty) * width (kind_of ty.element lazy) ≤ bytes
made_inside ty lazy bytes =
    let w : ℕ = element_size ty.element in
    let most : ℕ = min (bytes / w) (type_maximum ty) in
    let below : most ≤ bytes / w = omega arith in
    let W : ℕ → Type 0 = λ n. most * n ≤ bytes in
    let order : most * w ≤ bytes / w * w = mul-le-mul_right w below in
    let inside : W w = omega (arith, order, div-mul-le_self bytes w) in
    subst W (sym (same_width ty.element lazy)) inside

room_shrunk : (page len bytes from to : ℕ) (o : Option Contents) → from ≤ to → to ≤ bytes → bytes ≤ len → IfSome o (IsRoom page len 0 bytes) → IfSome o (IsRoom page len from to)
room_shrunk page len bytes from to None order inside fits room = room
room_shrunk page len bytes from to (Some c) order inside fits room = record {
  shaped = room.shaped;
  reach = λ k first last. room.reach k first (omega (arith, last, inside));
  origin = room.origin;
  zeros = zeros_within c.bytes 0 bytes from to (omega (arith, fits, room.shaped.bytes)) (omega arith) order inside room.zeros;
}

pub made_is_table : (ty : TableType) (lazy : Bool) (bytes : ℕ) (region : Told) → ty.limits.min ≤ room_of ty bytes → ty.limits.min ≤ type_maximum ty → bytes ≤ region.len → 0 < region.page → region.len < 2 ^ 64 → IfSome region.contents (IsRoom region.page region.len 0 bytes) → IsTable (new_table ty lazy bytes region)
made_is_table ty lazy bytes region first second inside some bounded room =
    let w : ℕ = width (kind_of ty.element lazy) in
    let most : ℕ = min (room_of ty bytes) (type_maximum ty) in
    let within : ty.limits.min ≤ most = omega (arith, first, second) in
    let fits : most * w ≤ bytes = made_inside ty lazy bytes in
    record {
      within = within;
      room = omega (arith, fits, inside);
      bounded = bounded;
      page = some;
      contents = room_shrunk region.page region.len bytes (ty.limits.min * w) (most * w) region.contents (mul-le-mul_right w within) fits inside room;
    }

pub empty_by : (kind : ElementKind) (size page len bytes : ℕ) (o : Option Contents) → size * width kind ≤ bytes → bytes ≤ len → IfSome o (IsRoom page len 0 bytes) → option_map (λ c. elements_in kind size c.bytes) o ≡ option_map (λ c. replicate size (empty kind)) o
empty_by kind size page len bytes None fits inside room = refl
empty_by kind size page len bytes (Some c) fits inside room =
    let n : ℕ = size * width kind in
    let zeros : slice_range c.bytes (0 * width kind) n ≡ replicate (n - 0 * width kind) 0 = zeros_within c.bytes 0 bytes (0 * width kind) n (omega (arith, inside, room.shaped.bytes)) (omega arith) (omega arith) fits room.zeros in
    let sum : 0 + size ≡ size = omega arith in
    let E : ℕ → Type 0 = λ m. elements_in kind m c.bytes ≡ replicate size (empty kind) in
    ap (λ (es : List Element). Some es) (subst E sum (elements_grown kind 0 size size c.bytes zero_is_empty (omega arith) (omega (arith, fits, inside, room.shaped.bytes)) zeros))

pub made_new : {P : Type 0} (ty : TableType) (lazy : Bool) (bytes : ℕ) (region : Told) (table : Table P) → ty.limits.min ≤ room_of ty bytes → ty.limits.min ≤ type_maximum ty → bytes ≤ region.len → IfSome region.contents (IsRoom region.page region.len 0 bytes) → IsStatic table → element_type_of table ≡ ty.element → table_view table ≡ in_region (new_table ty lazy bytes region) → IsNewTable ty lazy bytes region table
made_new ty lazy bytes region table first second inside room static same view =
    let w : ℕ = width (kind_of ty.element lazy) in
    let most : ℕ = min (room_of ty bytes) (type_maximum ty) in
    let within : ty.limits.min ≤ most = omega (arith, first, second) in
    let fits : ty.limits.min * w ≤ bytes = omega (arith, mul-le-mul_right w within, made_inside ty lazy bytes) in
    record {
      static = static;
      element_type = same;
      view = view;
      elements = ap (λ (t : TableView). t.elements) view ∙ empty_by (kind_of ty.element lazy) ty.limits.min region.page region.len bytes region.contents fits inside room;
    }

pub has_room : (room least : ℕ) → least ≤ room → nat_lt room least ≡ false
has_room room least below = grind (arith, nat_tests)

-- The values to which commands set elements of tables, and the elements that replies tell.
use Rattle.std.specs.Prelude.{ℕ, ◌%◌, ◌^◌, ◌==◌, ◌&&◌, ◌||◌, nat_lt, Bool, true, false, if◌then◌else◌, Option, Some, None, is_some}
use Rattle.pool_run.specs.Imports.{TableElementType, Element, func, gc_ref, cont, VMContObj}
use Rattle.pool_types.specs.declared.table_type.TableElementType.TheVariants as of_type
use Rattle.pool_run.specs.declared.command.TableValue.{TableValue}
use Rattle.pool_run.specs.declared.command.TableValue.TheVariants.{Null, Number, Continuation}

-- The number can be a function: an even one above zero.
abbrev pub is_function : ℕ → Bool
is_function n = nat_lt 0 n && n % 2 == 0

-- The number can be a reference to a collected object: above zero, in 32 bits.
abbrev pub is_reference : ℕ → Bool
is_reference n = nat_lt 0 n && nat_lt n (2 ^ 32)

-- The function that a command's value is, or null. A value of another kind makes the input invalid.
abbrev pub function_of : TableValue → Option ℕ
function_of (Number n) = if is_function n then Some n else None
function_of _ = None

-- The reference that a command's value is, or null.
abbrev pub reference_of : TableValue → Option ℕ
reference_of (Number n) = if is_reference n then Some n else None
reference_of _ = None

-- The continuation that a command's value is, or null.
abbrev pub continuation_of : TableValue → Option VMContObj
continuation_of (Continuation object) = if nat_lt 0 object.contref then Some object else None
continuation_of _ = None

-- the element that a value is in a table with elements of this type
abbrev pub element_for : TableElementType → TableValue → Element
element_for of_type.Func value = func (function_of value)
element_for of_type.GcRef value = gc_ref (reference_of value)
element_for of_type.Cont value = cont (continuation_of value)

-- The value is null.
abbrev pub is_null : TableValue → Bool
is_null Null = true
is_null _ = false

-- the value is null or one of this kind
abbrev pub is_value_of : TableElementType → TableValue → Bool
is_value_of of_type.Func value = is_null value || is_some (function_of value)
is_value_of of_type.GcRef value = is_null value || is_some (reference_of value)
is_value_of of_type.Cont value = is_null value || is_some (continuation_of value)

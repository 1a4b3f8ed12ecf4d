-- The texts of the errors of byte counts.
use Rattle.std.specs.Prelude.{ℕ, List, ◌++◌, codes}
use Rattle.pool_types.specs.Numerals.{hexadecimal}
use Rattle.pool_types.specs.declared.byte_count_errors.ByteCountNotAligned.{ByteCountNotAligned}
use Rattle.pool_types.specs.declared.byte_count_errors.ByteCountOutOfBounds.{ByteCountOutOfBounds}
use Rattle.pool_types.specs.declared.byte_count_errors.ByteCountOutOfBounds.TheVariants.{RoundUp, ConvertU64, Add, Sub, Mul, Div, Rem}

-- The text of a byte count that is no multiple of the page: the count in hexadecimal.
abbrev pub not_aligned_text : ByteCountNotAligned → List ℕ
not_aligned_text e = codes "byte count not page-aligned: " ++ hexadecimal e.0

-- The text of an overflow, an underflow or a division by zero, by the operation that met it.
abbrev pub out_of_bounds_text : ByteCountOutOfBounds → List ℕ
out_of_bounds_text RoundUp = codes "byte count overflow rounding up"
out_of_bounds_text ConvertU64 = codes "byte count overflow converting u64"
out_of_bounds_text Add = codes "byte count overflow during addition"
out_of_bounds_text Sub = codes "byte count underflow during subtraction"
out_of_bounds_text Mul = codes "byte count overflow during multiplication"
out_of_bounds_text Div = codes "division by zero"
out_of_bounds_text Rem = codes "remainder by zero"

-- Sizes of tables in their slots.
use Rattle.std.specs.Prelude.{ℕ, ◌*◌, ◌/◌, min}
use Rattle.pool_slots.specs.Imports.{TableElementType, element_size}

-- as many elements as each table may have, or as fit in the slot where those are fewer
abbrev pub data_size : ℕ → ℕ → TableElementType → ℕ
data_size table_elements table_size element = min table_elements (table_size / element_size element) * element_size element

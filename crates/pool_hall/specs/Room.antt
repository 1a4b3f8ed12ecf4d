-- The list that a hall keeps for its closing.
use Rattle.std.specs.Prelude.{◌≡◌, ℕ, ◌≤◌, [], Vec, vec_items, vec_capacity}
use mathlib.Core.Option.{some}
use lib.ListN.{get_elem?}
use Rattle.std.specs.Global.{Global}
use Rattle.atomic_table.specs.Table.{State}

-- the one slot has an empty list with room for n parts
abbrev pub IsVacant : {T : Type 0} → ℕ → State (Vec T Global) (Unit {0}) → Type 0
IsVacant {T} n s = (l : Vec T Global) × (get_elem? s.homes 0 ≡ some (some l)) × (vec_items l ≡ []) × (n ≤ vec_capacity l)

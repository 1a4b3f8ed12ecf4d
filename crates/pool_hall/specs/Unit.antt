-- Units as plain data. A list of units counts each as often as it stands there.
use Rattle.std.specs.Prelude.{◌≡◌, ℕ, ◌<◌, ◌==◌, ◌&&◌, if◌then◌else◌, Bool, true, false, List, [], ◌∷◌}
use Rattle.pool_hall.specs.declared.unit_name.SlotKind.{SlotKind}
use Rattle.pool_hall.specs.declared.unit_name.SlotKind.TheVariants.{Memory, Table, Stack, Heap}
use Rattle.pool_hall.specs.declared.unit_name.UnitName.{UnitName}
use Rattle.pool_hall.specs.Sum.{one_if, total}

-- the kinds, numbered
abbrev pub kind_number : SlotKind → ℕ
kind_number Memory = 0
kind_number Table = 1
kind_number Stack = 2
kind_number Heap = 3

-- the two names are one: they are compared whole
abbrev pub same : UnitName → UnitName → Bool
same u w = (kind_number u.kind == kind_number w.kind) && ((u.slot == w.slot) && ((one_if u.region == one_if w.region) && ((u.first == w.first) && (u.second == w.second))))

-- how often the unit stands in the list
abbrev pub times : UnitName → List UnitName → ℕ
times u us = total (λ w. one_if (same u w)) us

-- the list less one of the unit
abbrev pub without : UnitName → List UnitName → List UnitName
without w [] = []
without w (u ∷ us) = if same w u then us else u ∷ without w us

-- the list less one for each of the second
abbrev pub minus : List UnitName → List UnitName → List UnitName
minus us [] = us
minus us (w ∷ ws) = minus (without w us) ws

-- the pick unit of a slot
abbrev pub pick_unit : SlotKind → ℕ → UnitName
pick_unit kind slot = record { kind = kind; slot = slot; region = false; first = 0; second = 0 }

-- a region unit of a slot, with the two numbers that it tells
abbrev pub region_unit : SlotKind → ℕ → ℕ → ℕ → UnitName
region_unit kind slot first second = record { kind = kind; slot = slot; region = true; first = first; second = second }

-- the unit that a region unit needs: the pick unit of its slot
abbrev pub pick_of : UnitName → UnitName
pick_of u = pick_unit u.kind u.slot

-- each region unit of the list stands beside the unit that it needs
abbrev pub Beside : List UnitName → Type 0
Beside us = (u : UnitName) → u.region ≡ true → 0 < times u us → 0 < times (pick_of u) us

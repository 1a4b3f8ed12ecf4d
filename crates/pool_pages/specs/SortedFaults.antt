-- Lists of faults sorted by the numbers of regions and modules.
use Rattle.std.specs.Prelude.{◌≡◌, ℕ, List, Bool, ◌==◌}
use Rattle.std.specs.List.{filter}
use Rattle.std.specs.List.Sorted.{IsNonDecreasingBy}
use Rattle.pool_pages.specs.declared.pages.RegionName.{RegionName}
use Rattle.pool_pages.specs.declared.pages.RegionName.TheVariants.{Memory, Table, Stack, OnDemand}
use Rattle.pool_pages.specs.declared.fault_plan.Fault.{Fault}

-- the entry is for the regions, or the module, of this number
abbrev pub has_number : ℕ → Fault → Bool
has_number number fault = number == fault.slot

-- The number of a region within its kind.
abbrev pub number_of : RegionName → ℕ
number_of (Memory n) = n
number_of (Table n) = n
number_of (Stack n) = n
number_of (OnDemand n) = n

-- it rises by number, and has the entries of each number in their order
pub record IsByNumber (sorted faults : List Fault) : Type 0 where
  pub order : IsNonDecreasingBy (λ fault. fault.slot) sorted
  pub same : (number : ℕ) → filter (has_number number) sorted ≡ filter (has_number number) faults

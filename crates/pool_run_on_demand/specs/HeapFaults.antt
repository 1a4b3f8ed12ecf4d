-- How often the maker of heaps fails on demand.
use Rattle.std.specs.Prelude.{ℕ, ◌^◌, ◌<◌, List, length}
use Rattle.pool_run_on_demand.specs.Imports.{Terms, Command, Reply, FewHeapFaults}
use Rattle.pool_run_on_demand.specs.Faults.{IsRunOnDemand}

-- Of the replies of each run on demand, too, at most as many tell of a failure as the list says.
abbrev pub HeapFaultsAreListedOnDemand : Type 0
HeapFaultsAreListedOnDemand = (t : Terms) (commands : List Command) (replies : List Reply) (met : ℕ) → length commands < 2 ^ 64 → IsRunOnDemand t commands replies met → FewHeapFaults t.host.unmade commands replies

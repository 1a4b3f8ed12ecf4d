-- How the growth of a party's memories and tables is decided: by its limits, or always yes where it has none.
use Rattle.std.specs.Prelude.{ℕ, List, Option, Some, None}
use Rattle.pool_limits.specs.Growth.{GrowthLimits, GrowthRule, always, limited_by}
use Rattle.pool_run.specs.PrivateTables.{Host}
use Rattle.pool_run.specs.declared.input.Party.{Party}
use Rattle.pool_run.specs.declared.input.PartyLimits.{PartyLimits}

-- The limits of growth in an input's limits of a party.
abbrev pub growth_of : PartyLimits → GrowthLimits
growth_of l = record { memory_size = l.memory_size; table_elements = l.table_elements; trap_on_grow_failure = l.trap_on_grow_failure }

-- The rule by which a party's limiter answers: its limits, or always yes.
abbrev pub rule_of : Option PartyLimits → GrowthRule
rule_of None = always
rule_of (Some l) = limited_by (growth_of l)

-- what a party with these limits is answered, where these calls on its store fail, and these makings of heaps
abbrev pub host_of : Option PartyLimits → List ℕ → List ℕ → Host
host_of limits failing unmade = record { rule = rule_of limits; failing = failing; unmade = unmade }

-- What the host of a party answers it: by its limits, its store's faults and its heaps' faults.
abbrev pub host_for : Party → Host
host_for p = host_of p.limits p.gc_faults p.heap_faults

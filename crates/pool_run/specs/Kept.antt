-- Which faults of an input can come true.
use Rattle.std.specs.Prelude.{ℕ, ◌-◌, ◌^◌, ◌&&◌, nat_lt, Bool, true}
use Rattle.pool_pages.specs.declared.fault_plan.Fault.{Fault}
use Rattle.pool_pages.specs.declared.fault_plan.FaultKind.{FaultKind}
use Rattle.pool_pages.specs.declared.fault_plan.FaultKind.TheVariants.{Image, OnDemand}

-- An entry that has these is for a call before the last number that a count of calls can have, and on demand for a region before the last one.
-- No run gets to these numbers. The making of images has no such number.
abbrev pub comes_by : FaultKind → ℕ → ℕ → Bool
comes_by OnDemand slot call = nat_lt slot (2 ^ 32 - 1) && nat_lt call (2 ^ 64 - 1)
comes_by Image slot call = true
comes_by _ slot call = nat_lt call (2 ^ 64 - 1)

-- An entry of an input can come true.
abbrev pub can_come : Fault → Bool
can_come fault = comes_by fault.kind fault.slot fault.call

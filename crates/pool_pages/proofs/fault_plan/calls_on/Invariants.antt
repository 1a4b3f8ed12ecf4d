use Rattle.std.proofs.Common.{◌≡◌, take}
use Rattle.std.specs.List.{filter_map}
use Rattle.pool_pages.specs.FaultPlans.{planned_call}
use Rattle.pool_pages.proofs.fault_plan.calls_on.Given as goal

abbrev pub invariant-loop-fault : goal.invariant-loop-fault
invariant-loop-fault l = l.calls.items ≡ filter_map (planned_call l.name) (take l.fault-index l.faults)

use Rattle.pool_run_on_demand.proofs.HeapFaults.{heap_faults_listed_on_demand}
use Rattle.pool_run_on_demand.proofs.laws.heap_faults_on_demand_are_listed.Goals as goal

pub returns : goal.returns
returns c = heap_faults_listed_on_demand

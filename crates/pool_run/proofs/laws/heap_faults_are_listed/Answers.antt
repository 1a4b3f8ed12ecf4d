use Rattle.pool_run.proofs.HeapFaults.{heap_faults_listed}
use Rattle.pool_run.proofs.laws.heap_faults_are_listed.Goals as goal

pub returns : goal.returns
returns c = heap_faults_listed

use Rattle.pool_run_on_demand.proofs.Alike.{allocators_agree}
use Rattle.pool_run_on_demand.proofs.laws.allocators_agree.Goals as goal

pub returns : goal.returns
returns c = allocators_agree

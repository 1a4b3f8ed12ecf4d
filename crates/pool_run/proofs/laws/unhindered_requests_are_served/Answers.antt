use Rattle.pool_run.proofs.Unhindered.{unhindered_served}
use Rattle.pool_run.proofs.laws.unhindered_requests_are_served.Goals as goal

pub returns : goal.returns
returns g c = unhindered_served

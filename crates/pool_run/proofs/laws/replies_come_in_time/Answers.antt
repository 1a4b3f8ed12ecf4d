use Rattle.pool_run.proofs.InputsRun.{replies_in_time}
use Rattle.pool_run.proofs.laws.replies_come_in_time.Goals as goal

pub returns : goal.returns
returns g c = replies_in_time

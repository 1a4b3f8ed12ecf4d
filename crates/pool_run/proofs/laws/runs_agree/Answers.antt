use Rattle.pool_run.proofs.SameRuns.{runs_agree}
use Rattle.pool_run.proofs.laws.runs_agree.Goals as goal

pub returns : goal.returns
returns g c = runs_agree g.row.P.Denot

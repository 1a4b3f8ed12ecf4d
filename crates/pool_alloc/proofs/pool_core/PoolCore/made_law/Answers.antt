use Rattle.pool_alloc.proofs.Closings.{made_is_back}
use Rattle.pool_alloc.proofs.pool_core.PoolCore.made_law.Goals as goal

pub returns : goal.returns
returns g c = λ made. made_is_back c.args.self.now made

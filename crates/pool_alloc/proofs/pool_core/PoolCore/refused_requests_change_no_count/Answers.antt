use Rattle.pool_alloc.proofs.UninterruptedCalls.{refused_same}
use Rattle.pool_alloc.proofs.pool_core.PoolCore.refused_requests_change_no_count.Goals as goal

pub returns : goal.returns
returns g c maker asks before a e is can may steps refused = refused_same maker c.args.self.now c.args.frame.now asks before a e is can may steps refused

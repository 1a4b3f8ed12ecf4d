use Rattle.pool_alloc.proofs.GrantedRequests.{are_granted}
use Rattle.pool_alloc.proofs.pool_core.PoolCore.unhindered_requests_are_granted.Goals as goal

pub returns : goal.returns
returns g c maker request before a o is can may has rules made well ends = are_granted maker c.args.self.now c.args.frame.now request before a o is can may has rules made well ends

use Rattle.pool_alloc.proofs.UnhinderedRequests.{never_for_room}
use Rattle.pool_alloc.proofs.pool_core.PoolCore.unhindered_requests_find_room.Goals as goal

pub returns : goal.returns
returns g c maker request before a e is can may has steps refused = never_for_room maker c.args.self.now c.args.frame.now request before a e is can may has steps refused

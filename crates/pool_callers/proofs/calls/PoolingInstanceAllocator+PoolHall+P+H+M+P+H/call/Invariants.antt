use Rattle.pool_hall.specs.Seat.{view}
use Rattle.pool_callers.specs.Callers.{about_shared, given_for}
use Rattle.pool_callers.proofs.calls.PoolingInstanceAllocator+PoolHall+P+H+M+P+H.call.Given as goal

abbrev pub ghost-call : goal.ghost-call
ghost-call g a = given_for (about_shared g.M.PageMaker.told a.self.now) a.call (view a.seat.now)

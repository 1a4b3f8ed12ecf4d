use Rattle.pool_callers.proofs.Stripes.{caller_in}
use Rattle.pool_callers.proofs.others.PoolingInstanceAllocator+PoolHall+P+H+M+P+H.set_stripe.Goals as goal

pub returns-clause-seat : goal.returns-clause-seat
returns-clause-seat g c = caller_in g.M.PageMaker.told c.args.self.now c.args.seat.now c.requires.pool c.requires.seat c.args.stripe c.requires.stripe

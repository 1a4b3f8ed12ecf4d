use Rattle.pool_alloc.proofs.StripesOfGrants.{keeps_on}
use Rattle.pool_alloc.proofs.pool_core.PoolCore.memories_lie_in_their_stripe.Goals as goal

pub returns : goal.returns
returns g c maker old new after can key steps keeps = keeps_on maker old new c.args.self.now c.args.frame.now after can key steps keeps

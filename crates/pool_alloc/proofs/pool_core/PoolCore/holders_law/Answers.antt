use Rattle.pool_alloc.proofs.PoolAndHolders.{whole_fits, slots_apart, held_not_warm, call_has_slots}
use Rattle.pool_alloc.proofs.pool_core.PoolCore.holders_law.Goals as goal

pub returns-clause-slots : goal.returns-clause-slots
returns-clause-slots g c = call_has_slots c.args.frame.now

pub returns-clause-fits : goal.returns-clause-fits
returns-clause-fits g c = λ holders i d rest whole slots below is more. whole_fits c.args.self.now c.args.frame.now holders i d rest whole slots below is more

pub returns-clause-apart : goal.returns-clause-apart
returns-clause-apart g c = λ maker holders i j k d core whole below also other. slots_apart maker c.args.self.now holders i j k d core whole below also other

pub returns-clause-warm : goal.returns-clause-warm
returns-clause-warm g c = λ maker holders k core whole some. held_not_warm maker c.args.self.now holders k core whole some

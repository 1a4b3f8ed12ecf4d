use Rattle.pool_slots.proofs.Planning.{slots_are_at_home as each_at_home}
use Rattle.pool_slots.proofs.plan.slots_are_at_home.Goals as goal

pub returns : goal.returns
returns c = each_at_home

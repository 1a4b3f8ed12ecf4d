use Rattle.pool_index.proofs.ComingBack.{come_back}
use Rattle.pool_index.proofs.laws.taken_slots_come_back.Goals as goal

pub returns : goal.returns
returns c = come_back

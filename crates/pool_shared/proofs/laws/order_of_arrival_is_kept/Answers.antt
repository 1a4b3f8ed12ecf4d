use Rattle.pool_shared.proofs.Lawful.{stay_in_order}
use Rattle.pool_shared.proofs.laws.order_of_arrival_is_kept.Goals as goal

pub returns-clause-ends : goal.returns-clause-ends
returns-clause-ends c = stay_in_order

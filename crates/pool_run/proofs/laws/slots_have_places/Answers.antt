use Rattle.pool_run.proofs.Placing.{slots_in_one_place, used_not_picked}
use Rattle.pool_run.proofs.laws.slots_have_places.Goals as goal

pub returns-clause-one : goal.returns-clause-one
returns-clause-one g c = slots_in_one_place g.row.P.Denot

pub returns-clause-picked : goal.returns-clause-picked
returns-clause-picked g c = used_not_picked g.row.P.Denot

use Rattle.pool_slots.proofs.AwayOnce.{away_once}
use Rattle.pool_slots.proofs.unit_laws.units_are_out_once.Goals as goal

pub returns : goal.returns
returns g c = away_once _ _

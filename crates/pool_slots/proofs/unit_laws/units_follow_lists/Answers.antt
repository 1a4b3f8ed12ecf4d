use Rattle.pool_slots.proofs.ListUnits.{away_follows, kept_follows}
use Rattle.pool_slots.proofs.unit_laws.units_follow_lists.Goals as goal

pub returns-clause-away : goal.returns-clause-away
returns-clause-away g c = away_follows _ _

pub returns-clause-kept : goal.returns-clause-kept
returns-clause-kept g c = kept_follows _ _

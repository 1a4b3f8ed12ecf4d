use Rattle.pool_slots.proofs.PartUnits.{picks_count, frees_count}
use Rattle.pool_slots.proofs.unit_laws.units_follow_parts.Goals as goal

pub returns-clause-picked : goal.returns-clause-picked
returns-clause-picked c = picks_count

pub returns-clause-freed : goal.returns-clause-freed
returns-clause-freed c = frees_count

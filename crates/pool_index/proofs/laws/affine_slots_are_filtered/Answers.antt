use Rattle.pool_index.proofs.LastPlaces.{affine_first, affine_filtered}
use Rattle.pool_index.proofs.laws.affine_slots_are_filtered.Goals as goal

pub returns-clause-first : goal.returns-clause-first
returns-clause-first c = affine_first

pub returns-clause-filtered : goal.returns-clause-filtered
returns-clause-filtered c = affine_filtered

use Rattle.std.proofs.Common.{ap, ◌∙◌}
use Rattle.pool_slots.specs.Parts.{cell_of_part}
use Rattle.pool_alloc.proofs.pool_parts.take_region.Goals as goal

pub take_region-requires-clause-fresh : goal.take_region-requires-clause-fresh
take_region-requires-clause-fresh g c region is = c.requires.fresh region (ap (λ x. (cell_of_part x).holds) c.in-Memory.is ∙ is)

pub take_region-requires-in-Table-clause-fresh : goal.take_region-requires-in-Table-clause-fresh
take_region-requires-in-Table-clause-fresh g c region is = c.requires.fresh region (ap (λ x. (cell_of_part x).holds) c.in-Table.is ∙ is)

pub take_region-requires-in-Stack-clause-fresh : goal.take_region-requires-in-Stack-clause-fresh
take_region-requires-in-Stack-clause-fresh g c region is = c.requires.fresh region (ap (λ x. (cell_of_part x).holds) c.in-Stack.is ∙ is)

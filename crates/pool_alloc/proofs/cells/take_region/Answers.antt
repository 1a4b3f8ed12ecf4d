use Rattle.std.proofs.Common.{◌∙◌, sym, ap}
use Rattle.pool_slots.specs.CellOf.{cell_of}
use Rattle.pool_alloc.proofs.cells.take_region.Goals as goal

pub unmapped_next-phase-requires : goal.unmapped_next-phase-requires
unmapped_next-phase-requires g c = c.requires.fresh c.in-Unmapped.region (sym c.take-held.ensures.value ∙ ap cell_of c.in-Unmapped.is)

use Rattle.std.proofs.Common.{is_ok}
use Rattle.pool_pages.specs.Told.{recolouring}
use Rattle.pool_pages.proofs.ZeroingCalls.{zeroing_planned}
use Rattle.pool_pages.proofs.zeroing_region.ZeroingRegionPages.recolour.Goals as goal

pub returns-clause-planned : goal.returns-clause-planned
returns-clause-planned c = zeroing_planned (is_ok c.recolour.result) (recolouring c.args.start.bytes c.args.len.bytes c.args.colour) c.self.inside.region c.args.self.now c.self.view_is c.recolour.ensures.planned

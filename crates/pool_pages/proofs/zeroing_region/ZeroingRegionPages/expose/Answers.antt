use Rattle.std.proofs.Common.{is_ok}
use Rattle.pool_pages.specs.Told.{exposing}
use Rattle.pool_pages.proofs.ZeroingCalls.{zeroing_planned}
use Rattle.pool_pages.proofs.zeroing_region.ZeroingRegionPages.expose.Goals as goal

pub returns-clause-planned : goal.returns-clause-planned
returns-clause-planned c = zeroing_planned (is_ok c.expose.result) (exposing c.args.start.bytes c.args.len.bytes) c.self.inside.region c.args.self.now c.self.view_is c.expose.ensures.planned

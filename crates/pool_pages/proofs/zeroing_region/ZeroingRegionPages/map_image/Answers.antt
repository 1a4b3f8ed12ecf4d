use Rattle.pool_pages.specs.Told.{mapping}
use Rattle.pool_pages.proofs.ZeroingCalls.{never_refused}
use Rattle.pool_pages.proofs.zeroing_region.ZeroingRegionPages.map_image.Goals as goal

pub returns-clause-planned : goal.returns-clause-planned
returns-clause-planned c = never_refused (mapping c.args.self.now.behaviour c.args.start.bytes c.args.image.now.bytes) c.self.inside.region c.args.self.now c.self.view_is c.copy_image.ensures.plan

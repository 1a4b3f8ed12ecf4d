use Rattle.std.proofs.Common.{◌≡◌, ◌∙◌, sym, refl}
use Rattle.pool_pages.specs.declared.maker.MakeFault.TheVariants.{PageFault}
use Rattle.pool_pages.specs.MakerTold.{fails_images}
use Rattle.pool_pages.specs.FaultPlans.{planned_faults}
use Rattle.pool_pages.proofs.FaultLists.{images_planned}
use Rattle.pool_pages.proofs.FailingMakers.{listed_fails, neither_fails, listed_stays, made_behind}
use Rattle.pool_pages.proofs.failing_maker.FailingMakerPageMaker.image.Goals as goal

pub returns-then-lists_images-clause-planned : goal.returns-then-lists_images-clause-planned
returns-then-lists_images-clause-planned g c =
    listed_fails (PageFault ≡ PageFault) (fails_images c.args.id) (g.M.PageMaker.told c.args.self.now.maker).plan (planned_faults c.args.self.now.plan) refl
    (images_planned c.args.id c.args.self.now.plan ∙ sym c.if-lists_images.ensures)

pub returns-in-Ok-clause-planned : goal.returns-in-Ok-clause-planned
returns-in-Ok-clause-planned g c =
    neither_fails (fails_images c.args.id) (g.M.PageMaker.told c.args.self.now.maker).plan (planned_faults c.args.self.now.plan)
    (images_planned c.args.id c.args.self.now.plan ∙ sym c.if-lists_images.ensures)
    c.in-Ok.ensures.planned

pub returns-then-lists_images-clause-behind : goal.returns-then-lists_images-clause-behind
returns-then-lists_images-clause-behind g c =
    listed_stays (fails_images c.args.id (planned_faults c.args.self.now.plan)) (g.M.PageMaker.told c.args.self.now.maker).faults PageFault
    (images_planned c.args.id c.args.self.now.plan ∙ sym c.if-lists_images.ensures)

pub returns-in-Ok-clause-listed : goal.returns-in-Ok-clause-listed
returns-in-Ok-clause-listed g c = images_planned c.args.id c.args.self.now.plan ∙ sym c.if-lists_images.ensures

pub returns-in-Err-PageFault-clause-behind : goal.returns-in-Err-PageFault-clause-behind
returns-in-Err-PageFault-clause-behind g c =
    made_behind (fails_images c.args.id (planned_faults c.args.self.now.plan)) (g.M.PageMaker.told c.args.self.now.maker).faults (g.M.PageMaker.told c.image.new.self).faults PageFault
    (images_planned c.args.id c.args.self.now.plan ∙ sym c.if-lists_images.ensures)
    (rw c.in-Err-PageFault.field-0-is at c.in-Err-PageFault.ensures.faults)

use Rattle.std.proofs.Common.{◌≡◌, ◌∙◌, sym, refl}
use Rattle.pool_pages.specs.declared.maker.MakeFault.TheVariants.{PageFault}
use Rattle.pool_pages.specs.MakerTold.{fails_making}
use Rattle.pool_pages.specs.FailingTold.{no_counts}
use Rattle.pool_pages.specs.FaultPlans.{planned_faults}
use Rattle.pool_pages.proofs.FaultLists.{calls_planned, making_planned}
use Rattle.pool_pages.proofs.FailingMakers.{listed_fails, neither_fails, made_failing, listed_stays, made_behind}
use Rattle.pool_pages.proofs.failing_maker.FailingMakerPageMaker.make.Goals as goal

pub returns-then-has_making-clause-planned : goal.returns-then-has_making-clause-planned
returns-then-has_making-clause-planned g c =
    listed_fails (PageFault ≡ PageFault) (fails_making c.args.name) (g.M.PageMaker.told c.args.self.now.maker).plan (planned_faults c.args.self.now.plan) refl
    (making_planned c.args.name c.args.self.now.plan c.in-Ok.calls c.as_slice.result.now _ c.in-Ok.ensures.calls c.as_slice.ensures (sym c.if-has_making.ensures))

pub returns-in-Ok-new-clause-region : goal.returns-in-Ok-new-clause-region
returns-in-Ok-new-clause-region g c =
    c.in-Ok-new.ensures
    ∙ made_failing c.args.name c.args.behaviour c.args.accessible c.args.len (g.M.PageMaker.told c.args.self.now.maker) c.args.self.now.page c.args.self.now.next c.args.self.now.faults (planned_faults c.args.self.now.plan) _ c.in-Ok.calls no_counts c.in-Ok-make.ensures.region
    (c.in-Ok.ensures.calls ∙ sym (calls_planned c.args.name c.args.self.now.plan))
    refl

pub returns-in-Ok-new-clause-planned : goal.returns-in-Ok-new-clause-planned
returns-in-Ok-new-clause-planned g c =
    neither_fails (fails_making c.args.name) (g.M.PageMaker.told c.args.self.now.maker).plan (planned_faults c.args.self.now.plan)
    (making_planned c.args.name c.args.self.now.plan c.in-Ok.calls c.as_slice.result.now _ c.in-Ok.ensures.calls c.as_slice.ensures (sym c.if-has_making.ensures))
    c.in-Ok-make.ensures.planned

pub returns-then-has_making-clause-behind : goal.returns-then-has_making-clause-behind
returns-then-has_making-clause-behind g c =
    listed_stays (fails_making c.args.name (planned_faults c.args.self.now.plan)) (g.M.PageMaker.told c.args.self.now.maker).faults PageFault
    (making_planned c.args.name c.args.self.now.plan c.in-Ok.calls c.as_slice.result.now _ c.in-Ok.ensures.calls c.as_slice.ensures (sym c.if-has_making.ensures))

pub returns-in-Ok-new-clause-listed : goal.returns-in-Ok-new-clause-listed
returns-in-Ok-new-clause-listed g c = making_planned c.args.name c.args.self.now.plan c.in-Ok.calls c.as_slice.result.now _ c.in-Ok.ensures.calls c.as_slice.ensures (sym c.if-has_making.ensures)

pub returns-in-Err-PageFault-clause-behind : goal.returns-in-Err-PageFault-clause-behind
returns-in-Err-PageFault-clause-behind g c =
    made_behind (fails_making c.args.name (planned_faults c.args.self.now.plan)) (g.M.PageMaker.told c.args.self.now.maker).faults (g.M.PageMaker.told c.make.new.self).faults PageFault
    (making_planned c.args.name c.args.self.now.plan c.in-Ok.calls c.as_slice.result.now _ c.in-Ok.ensures.calls c.as_slice.ensures (sym c.if-has_making.ensures))
    (rw c.in-Err-PageFault.field-0-is at c.in-Err-PageFault.ensures.faults)

use Rattle.std.proofs.Common.{ap, ◌∙◌}
use Rattle.std.specs.List.{filter, list_any}
use Rattle.pool_pages.specs.FaultPlans.{plans_images}
use Rattle.pool_pages.specs.SortedFaults.{IsByNumber, has_number}
use Rattle.pool_pages.proofs.SortedFaults.{images_by_number}
use Rattle.pool_pages.proofs.fault_index.FaultIndex.lists_images.Goals as goal

pub returns-in-Some : goal.returns-in-Some
returns-in-Some c =
    let sorted : IsByNumber c.in-Some.sorted.items c.self.inside.plan.now = rw c.in-Some.is at c.self.invariant in
    c.lists_images.ensures
    ∙ images_by_number c.args.id c.with_number.result.now c.self.inside.plan.now (c.with_number.ensures ∙ ap (filter (has_number c.args.id)) c.as_slice.ensures.value ∙ sorted.same c.args.id)
    ∙ ap (list_any (plans_images c.args.id)) c.self.view_is

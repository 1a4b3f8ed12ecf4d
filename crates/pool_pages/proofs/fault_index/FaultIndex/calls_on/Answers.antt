use Rattle.std.proofs.Common.{◌≡◌, ap, ◌∙◌, subst}
use Rattle.pool_pages.proofs.Imports.{filter, filter_map, IfOk}
use Rattle.pool_pages.specs.FaultPlans.{planned_call}
use Rattle.pool_pages.specs.SortedFaults.{IsByNumber, has_number, number_of}
use Rattle.pool_pages.proofs.SortedFaults.{calls_by_number}
use Rattle.pool_pages.proofs.fault_index.FaultIndex.calls_on.Goals as goal

pub returns-in-Some-clause-calls : goal.returns-in-Some-clause-calls
returns-in-Some-clause-calls c =
    let sorted : IsByNumber c.in-Some.sorted.items c.self.inside.plan.now = rw c.in-Some.is at c.self.invariant in
    subst (λ xs. IfOk c.calls_in.result (λ calls. calls ≡ xs))
    (calls_by_number c.args.name c.as_slice.result.now c.self.inside.plan.now (ap (filter (has_number (number_of c.args.name))) c.as_slice.ensures.value ∙ sorted.same (number_of c.args.name))
    ∙ ap (filter_map (planned_call c.args.name)) c.self.view_is)
    c.calls_in.ensures

pub returns-clause-calls : goal.returns-clause-calls
returns-clause-calls c =
    c.in_ok-calls.ensures
    ∙ calls_by_number c.args.name c.as_slice-2.result.now c.self.inside.plan.now (ap (filter (has_number (number_of c.args.name))) c.as_slice-2.ensures.value ∙ c.in_ok-sorted.ensures.same (number_of c.args.name))
    ∙ ap (filter_map (planned_call c.args.name)) c.self.view_is

use Rattle.std.proofs.Common.{rules, List, ap, filter, ◌∙◌}
use Rattle.pool_run_on_demand.proofs.Imports.{MakerTold, Planned, failing_maker, planned_faults}
use Rattle.pool_run.specs.Kept.{can_come}
use Rattle.pool_run.proofs.Makings.{made_with_faults}
use Rattle.pool_run_on_demand.specs.Faults.{ends_before_last}
use Rattle.pool_run_on_demand.proofs.Reached.{coming_ends, faulted_all, kept_planned, run_all}
use Rattle.pool_run_on_demand.proofs.run.run_over_faults.Goals as goal

pub run_seated-answer-requires-clause-listed : goal.run_seated-answer-requires-clause-listed
run_seated-answer-requires-clause-listed g c =
    let maker : MakerTold = g.M.PageMaker.told c.args.pages.now in
    let input = c.args.input.now in
    let before =
    made_with_faults (record input { faults = filter can_come input.faults }) maker _ _ _ c.new-maker.ensures.told c.requires.page c.requires.faults
    ∙ ap (λ (plan : List Planned). failing_maker maker input.page plan maker.next maker.faults) (kept_planned input.faults) in
    ap (λ (m : MakerTold). ends_before_last m.listed) before ∙ coming_ends (planned_faults input.faults)

pub returns-clause-ok : goal.returns-clause-ok
returns-clause-ok g c =
    let maker : MakerTold = g.M.PageMaker.told c.args.pages.now in
    let input = c.args.input.now in
    let before =
    made_with_faults (record input { faults = filter can_come input.faults }) maker _ _ _ c.new-maker.ensures.told c.requires.page c.requires.faults
    ∙ ap (λ (plan : List Planned). failing_maker maker input.page plan maker.next maker.faults) (kept_planned input.faults) in
    run_all input maker _ _ before c.run_seated-answer.ensures.ok

pub returns-clause-fault : goal.returns-clause-fault
returns-clause-fault g c is =
    let maker : MakerTold = g.M.PageMaker.told c.args.pages.now in
    let input = c.args.input.now in
    let before =
    made_with_faults (record input { faults = filter can_come input.faults }) maker _ _ _ c.new-maker.ensures.told c.requires.page c.requires.faults
    ∙ ap (λ (plan : List Planned). failing_maker maker input.page plan maker.next maker.faults) (kept_planned input.faults) in
    faulted_all input maker _ _ _ before (c.run_seated-answer.ensures.fault is) (search rules)

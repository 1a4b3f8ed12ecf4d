use Rattle.std.proofs.Common.{rules, subst}
use Rattle.std.specs.Prelude.{IfOk, OnOk}
use Rattle.pool_pages.specs.MakerTold.{MakerTold}
use Rattle.pool_run.proofs.Makings.{fault_of_run, made_with_faults}
use Rattle.pool_workers.specs.Listed.{coming}
use Rattle.pool_workers.specs.Threads.{HaveRunBeside, IsUnlisted}
use Rattle.pool_workers.proofs.Coming.{few_of_run, making_of_coming}
use Rattle.pool_workers.proofs.threads.run_over_faults.Goals as goal

pub returns-clause-ran : goal.returns-clause-ran
returns-clause-ran g c =
    let maker : MakerTold = g.M.PageMaker.told c.args.pages.now in
    let input = c.args.input.now in
    let before = made_with_faults (coming input) maker _ _ _ c.new-maker.ensures.told c.requires.page c.requires.faults in
    subst (λ (m : MakerTold). IfOk c.run_with-answer.result (λ output. HaveRunBeside input m output.replies)) before c.run_with-answer.ensures.ran

pub returns-clause-few : goal.returns-clause-few
returns-clause-few g c =
    let maker : MakerTold = g.M.PageMaker.told c.args.pages.now in
    let input = c.args.input.now in
    let before = made_with_faults (coming input) maker _ _ _ c.new-maker.ensures.told c.requires.page c.requires.faults in
    few_of_run input maker c.run_with-answer.result (subst (λ (m : MakerTold). IfOk c.run_with-answer.result (λ output. HaveRunBeside input m output.replies)) before c.run_with-answer.ensures.ran)

pub returns-clause-unlisted : goal.returns-clause-unlisted
returns-clause-unlisted g c =
    let maker : MakerTold = g.M.PageMaker.told c.args.pages.now in
    let input = c.args.input.now in
    let before = made_with_faults (coming input) maker _ _ _ c.new-maker.ensures.told c.requires.page c.requires.faults in
    subst (λ (m : MakerTold). OnOk c.run_with-answer.result (IsUnlisted input m)) before c.run_with-answer.ensures.unlisted

pub returns-clause-fault : goal.returns-clause-fault
returns-clause-fault g c is =
    let maker : MakerTold = g.M.PageMaker.told c.args.pages.now in
    let input = c.args.input.now in
    let before = made_with_faults (coming input) maker _ _ _ c.new-maker.ensures.told c.requires.page c.requires.faults in
    fault_of_run _ (coming input) maker _ _ _ before (making_of_coming _ input _ _ (c.run_with-answer.ensures.fault is)) (search rules)

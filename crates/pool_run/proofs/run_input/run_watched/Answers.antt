use Rattle.std.proofs.Common.{rules, ◌≡◌, true, false, refl, sym}
use Rattle.pool_run.proofs.Imports.{MakerTold}
use Rattle.pool_run.specs.Runs.{with_faults}
use Rattle.pool_run.proofs.Makings.{fault_of_run, made_with_faults}
use Rattle.pool_run.proofs.RulesNamed.{page_named}
use Rattle.pool_run.proofs.SameRuns.{only_ok, holds_ok}
use Rattle.pool_run.proofs.Unhindered.{serves_ok}
use Rattle.pool_run.proofs.Watched.{run_of_watched}
use Rattle.pool_run.proofs.run_input.run_watched.Goals as goal

pub returns-in-Ok-clause-fault : goal.returns-in-Ok-clause-fault
returns-in-Ok-clause-fault g c is =
    let maker : MakerTold = g.M.PageMaker.told c.args.pages.now in
    let before = made_with_faults c.args.input.now maker _ _ _ c.new-maker.ensures.told c.in-Ok.ensures.ok c.as_slice.ensures in
    fault_of_run _ c.args.input.now maker _ _ _ before (c.run_with-answer.ensures.fault is) (search rules)

pub returns-in-Err-clause-bad_config : goal.returns-in-Err-clause-bad_config
returns-in-Err-clause-bad_config g c e = page_named c.args.input.now c.in-Err.rule e (sym c.if-not-is_valid.ensures) c.in-Err.ensures.err (λ sized. let wrong : false ≡ true = c.in-Err.ensures.valid.1 sized in absurd cc)

pub returns-in-Ok-clause-only : goal.returns-in-Ok-clause-only
returns-in-Ok-clause-only g c =
    let maker : MakerTold = g.M.PageMaker.told c.args.pages.now in
    let before = made_with_faults c.args.input.now maker _ _ _ c.new-maker.ensures.told c.in-Ok.ensures.ok c.as_slice.ensures in
    only_ok _ c.args.input.now (with_faults c.args.input.now maker) _ c.run_with-answer.result before refl c.requires.built c.run_with-answer.ensures.rules (run_of_watched _ _ _ _ _ c.run_with-answer.result c.run_with-answer.ensures.watched)

pub returns-in-Ok-clause-throughout : goal.returns-in-Ok-clause-throughout
returns-in-Ok-clause-throughout g c = holds_ok _ c.args.input.now (with_faults c.args.input.now (g.M.PageMaker.told c.args.pages.now)) c.run_with-answer.result refl c.requires.built c.run_with-answer.ensures.rules

pub returns-in-Ok-clause-served : goal.returns-in-Ok-clause-served
returns-in-Ok-clause-served g c = serves_ok _ c.args.input.now (with_faults c.args.input.now (g.M.PageMaker.told c.args.pages.now)) c.run_with-answer.result refl c.requires.built c.run_with-answer.ensures.rules

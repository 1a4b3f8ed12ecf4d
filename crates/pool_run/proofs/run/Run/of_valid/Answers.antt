use Rattle.std.proofs.Common.{rules, ◌≡◌, List, Err, Some, true, false, sym, ap, ◌∙◌, subst, IfSome}
use Rattle.pool_run.proofs.Imports.{list_all, list_any, MakerTold, ModuleInfo, IsCore}
use Rattle.pool_run.specs.Built.{is_built_module, broken_rule}
use Rattle.pool_run.specs.Folds.{RunParts}
use Rattle.pool_run.specs.Made.{calls_made}
use Rattle.pool_run.specs.Runs.{IsMadeRun, FaultsInMaking, region_unmade, region_listed, makings_for, images_listed}
use Rattle.pool_run.specs.RunsMade.{parties_made}
use Rattle.pool_run.specs.declared.input.Input.{Input}
use Rattle.pool_run.specs.declared.output.RunFault.TheVariants.{PageFault}
use Rattle.pool_run.proofs.Makings.{images_fault, nothing_listed}
use Rattle.pool_run.proofs.RulesNamed.{names_none}
use Rattle.pool_run.proofs.InputsRun.{homes_below, few_places}
use Rattle.pool_run.proofs.BuiltInputs.{built_modules}
use Rattle.pool_run.specs.Validity.{is_valid_module}
use Rattle.pool_run.proofs.Valid.{valid_modules}
use Rattle.pool_run.proofs.run.Run.of_valid.Goals as goal

pub make_calls-requires-clause-valid : goal.make_calls-requires-clause-valid
make_calls-requires-clause-valid g c =
    let Valid : List ModuleInfo → Type 0 = λ modules. list_all is_valid_module modules ≡ true in
    subst Valid (sym c.as_slice.ensures) (valid_modules c.args.input.now c.requires.1.1.1.1.0)

pub make_calls-requires-clause-built : goal.make_calls-requires-clause-built
make_calls-requires-clause-built g c =
    let Built : List ModuleInfo → Type 0 = λ modules. list_all is_built_module modules ≡ true in
    subst Built (sym c.as_slice.ensures) (built_modules c.args.input.now c.requires.1.1.1.0)

pub returns-in-Err-make_calls-clause-fault : goal.returns-in-Err-make_calls-clause-fault
returns-in-Err-make_calls-clause-fault g c is =
    let fault : c.in-Err-make_calls.fault ≡ PageFault = cc in
    let told : g.M.PageMaker.told c.make_pool.new.pages ≡ g.maker = c.in-Ok.ensures.same ∙ c.requires.1.1.0 in
    let page : (g.M.PageMaker.told c.make_pool.new.pages).page ≡ c.args.input.now.page = ap (λ (m : MakerTold). m.page) c.in-Ok.ensures.same ∙ c.requires.1.1.1.1.1 in
    let Faults : MakerTold → Type 0 = λ old. FaultsInMaking g.P.Pages.told c.args.input.now old (g.M.PageMaker.told c.make_calls.new.maker) in
    subst Faults told
    (images_fault g.P.Pages.told c.args.input.now c.as_slice.result.now (g.M.PageMaker.told c.make_pool.new.pages).page (g.M.PageMaker.told c.make_pool.new.pages) (g.M.PageMaker.told c.make_calls.new.maker) c.as_slice.ensures page (c.in-Err-make_calls.ensures.fault (ap (λ e. Err e) fault)))

pub returns-in-Err-make_calls-clause-refused : goal.returns-in-Err-make_calls-clause-refused
returns-in-Err-make_calls-clause-refused g c = names_none (broken_rule c.args.input.now) c.in-Err-make_calls.fault c.in-Ok.ensures.rules c.in-Err-make_calls.ensures.accepted

pub over-requires : goal.over-requires
over-requires g c κs within =
    let P : Type 0 = g.row.P.Denot in
    let Core : MakerTold → Type 0 = λ maker. IsCore maker c.in-Ok.core in
    let core : Core g.maker = subst Core c.requires.1.1.0 c.in-Ok.ensures.core in
    let valid = c.requires.1.1.1.1.0 in
    (search rules, (core, (c.in-Ok.ensures.untouched, (homes_below c.args.input.now c.as_slice-parties.result.now c.as_slice-parties.ensures valid, few_places {P = P} c.args.input.now c.in-Ok.core c.as_slice-parties.result.now c.as_slice-parties.ensures valid))))

pub returns-in-Ok-over-clause-made : goal.returns-in-Ok-over-clause-made
returns-in-Ok-over-clause-made g c =
    let P : Type 0 = g.row.P.Denot in
    let input : Input = c.args.input.now in
    let old : MakerTold = g.M.PageMaker.told c.args.pages.now in
    let Calls : MakerTold → List ModuleInfo → Type 0 = λ maker modules. c.in-Ok-make_calls.calls.items ≡ calls_made input.tunables maker.page 0 modules in
    let Own : MakerTold → Type 0 = λ m. images_listed input.tunables m.page 0 m.listed c.as_slice.result.now ≡ false in
    let own : Own old = subst Own c.in-Ok.ensures.same c.in-Ok-make_calls.ensures.own in
    let Regions : MakerTold → Type 0 = λ m. IfSome m.plan (λ p. list_any (region_listed p) (makings_for input) ≡ false) in
    let Images : MakerTold → Type 0 = λ m. IfSome m.plan (λ p. images_listed input.tunables m.page 0 p c.as_slice.result.now ≡ false) in
    let regions : Regions old = c.in-Ok.ensures.unlisted in
    let images : Images old = subst Images c.in-Ok.ensures.same c.in-Ok-make_calls.ensures.unlisted in
    let Made : RunParts P → Type 0 = λ run. IsMadeRun input old run in
    let made : Made (record { core = c.in-Ok.core; modules = c.in-Ok-make_calls.calls.items; parties = parties_made c.in-Ok.core.settings c.as_slice-parties.result.now }) =
    record {
      made = c.in-Ok.ensures.made;
      calls = subst (λ maker. Calls maker input.modules) c.in-Ok.ensures.same (subst (Calls (g.M.PageMaker.told c.make_pool.new.pages)) c.as_slice.ensures c.in-Ok-make_calls.ensures.calls);
      own = nothing_listed region_unmade input c.as_slice.result.now old.page (Some old.listed) c.as_slice.ensures c.requires.1.1.1.1.1 c.in-Ok.ensures.own own;
      unlisted = nothing_listed region_listed input c.as_slice.result.now old.page old.plan c.as_slice.ensures c.requires.1.1.1.1.1 regions images;
      parties = ap (parties_made {P = P} c.in-Ok.core.settings) c.as_slice-parties.ensures;
    } in
    let Run : MakerTold → RunParts P → Type 0 = λ maker run. IsMadeRun input maker run in
    subst (λ maker. Run maker c.in-Ok-over.run') c.requires.1.1.0 (subst (Run old) (sym c.in-Ok-over.ensures) made)

pub returns-in-Ok-over-clause-same : goal.returns-in-Ok-over-clause-same
returns-in-Ok-over-clause-same g c = c.in-Ok-make_calls.ensures.same ∙ c.in-Ok.ensures.same ∙ c.requires.1.1.0

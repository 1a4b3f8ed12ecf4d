use Rattle.std.proofs.Common.{rules, ◌≡◌, ◌+◌, ◌^◌, ◌<◌, ℕ, List, Err, Some, None, true, false, length, refl, sym, ap, ◌∙◌, subst, IfSome}
use Rattle.pool_pages.specs.MakerTold.{MakerTold}
use Rattle.pool_hall.specs.Seat.{view}
use Rattle.pool_slots.specs.declared.listed_heaps.PlainHeap.{PlainHeap}
use Rattle.pool_alloc.specs.Made.{IsMadeCore}
use Rattle.pool_alloc.specs.declared.pool_core.PoolCore.{PoolCore}
use Rattle.pool_alloc.specs.BetweenSteps.{IsCore}
use Rattle.pool_driver.specs.Placed.{About}
use Rattle.pool_driver.specs.Pools.{IsOpen, about_core}
use Rattle.pool_driver.proofs.FewParts.{few_parts}
use Rattle.pool_callers.specs.Callers.{about_shared}
use Rattle.std.specs.List.{list_all, list_any}
use Rattle.pool_types.specs.SettingsRules.{IsWithinRules}
use Rattle.pool_types.specs.declared.module_types.ModuleInfo.{ModuleInfo}
use Rattle.pool_types.proofs.ConfigRules.{within_rules}
use Rattle.pool_run.specs.Built.{is_built, is_built_module, broken_rule}
use Rattle.pool_run.specs.Made.{calls_made}
use Rattle.pool_run.specs.Runs.{FaultsInMaking, is_refused, region_unmade, region_listed, makings_for, images_listed}
use Rattle.pool_run.specs.Validity.{is_valid, is_valid_module}
use Rattle.pool_run.specs.declared.input.Input.{Input}
use Rattle.pool_run.specs.declared.output.RunFault.{RunFault}
use Rattle.pool_run.specs.declared.output.RunFault.TheVariants.{PageFault, Memory}
use Rattle.pool_run.proofs.BuiltInputs.{built_modules}
use Rattle.pool_run.proofs.Makings.{images_fault, nothing_listed}
use Rattle.pool_run.proofs.RulesNamed.{names_none, page_sized}
use Rattle.pool_run.proofs.Valid.{valid_modules}
use Rattle.pool_workers.specs.Threads.{IsUnlisted}
use Rattle.pool_workers.proofs.Grounding.{drives_workers, ground_made, ground_maker, shared_is}
use Rattle.pool_workers.proofs.threads.run_by.Goals as goal

pub make_calls-requires-clause-valid : goal.make_calls-requires-clause-valid
make_calls-requires-clause-valid g c =
    let valid : is_valid c.args.input.now ≡ true = search rules in
    subst (λ (ms : List ModuleInfo). list_all is_valid_module ms ≡ true) (sym c.as_slice.ensures) (valid_modules c.args.input.now valid)

pub make_calls-requires-clause-built : goal.make_calls-requires-clause-built
make_calls-requires-clause-built g c =
    let built : is_built c.args.input.now ≡ true = search rules in
    subst (λ (ms : List ModuleInfo). list_all is_built_module ms ≡ true) (sym c.as_slice.ensures) (built_modules c.args.input.now built)

pub returns-in-Err-make_calls-clause-fault : goal.returns-in-Err-make_calls-clause-fault
returns-in-Err-make_calls-clause-fault g c is =
    let fault : c.in-Err-make_calls.fault ≡ PageFault = cc in
    let first : g.M.PageMaker.told c.args.pages.now ≡ g.maker = search rules in
    let sized : g.maker.page ≡ c.args.input.now.page = search rules in
    let told : g.M.PageMaker.told c.make_pool.new.pages ≡ g.maker = c.in-Ok.ensures.same ∙ first in
    let page : (g.M.PageMaker.told c.make_pool.new.pages).page ≡ c.args.input.now.page = ap (λ (m : MakerTold). m.page) told ∙ sized in
    subst (λ (old : MakerTold). FaultsInMaking g.P.Pages.told c.args.input.now old (g.M.PageMaker.told c.make_calls.new.maker)) told
    (images_fault g.P.Pages.told c.args.input.now c.as_slice.result.now (g.M.PageMaker.told c.make_pool.new.pages).page (g.M.PageMaker.told c.make_pool.new.pages) (g.M.PageMaker.told c.make_calls.new.maker) c.as_slice.ensures page (c.in-Err-make_calls.ensures.fault (ap (λ (e : RunFault). Err e) fault)))

pub returns-in-Err-make_calls-clause-refused : goal.returns-in-Err-make_calls-clause-refused
returns-in-Err-make_calls-clause-refused g c = names_none (broken_rule c.args.input.now) c.in-Err-make_calls.fault c.in-Ok.ensures.rules c.in-Err-make_calls.ensures.accepted

-- The pool is opened over the maker that made it.
pub new-requires-clause-made : goal.new-requires-clause-made
new-requires-clause-made g c =
    let input : Input = c.args.input.now in
    let told : g.M.PageMaker.told c.make_calls.new.maker ≡ g.M.PageMaker.told c.args.pages.now = c.in-Ok-make_calls.ensures.same ∙ c.in-Ok.ensures.same in (
      record { config = input.config; tunables = input.tunables; offered = input.offered; shards = input.shards },
      subst (λ (m : MakerTold). IsMadeCore m input.config input.tunables input.offered input.shards c.in-Ok.core) (sym told) c.in-Ok.ensures.made,
    )

pub new-requires-clause-core : goal.new-requires-clause-core
new-requires-clause-core g c =
    let told : g.M.PageMaker.told c.make_calls.new.maker ≡ g.M.PageMaker.told c.args.pages.now = c.in-Ok-make_calls.ensures.same ∙ c.in-Ok.ensures.same in
    subst (λ (m : MakerTold). IsCore m c.in-Ok.core) (sym told) c.in-Ok.ensures.core

pub new-requires-clause-untouched : goal.new-requires-clause-untouched
new-requires-clause-untouched g c = c.in-Ok.ensures.untouched

pub new-requires-clause-few : goal.new-requires-clause-few
new-requires-clause-few g c =
    let maker : MakerTold = g.M.PageMaker.told c.args.pages.now in
    let input : Input = c.args.input.now in
    let first : maker ≡ g.maker = search rules in
    let sized : g.maker.page ≡ input.page = search rules in
    let page : maker.page ≡ input.page = ap (λ (m : MakerTold). m.page) first ∙ sized in
    let rules_kept : IsWithinRules input.config input.tunables maker.page input.shards input.offered =
    subst (λ (n : ℕ). IsWithinRules input.config input.tunables n input.shards input.offered) (sym page) (within_rules input.config input.tunables input.page input.shards input.offered (page_sized input c.in-Ok.ensures.rules) c.in-Ok.ensures.rules) in
    few_parts maker input.config input.tunables input.offered input.shards c.in-Ok.core rules_kept c.in-Ok.ensures.made c.in-Ok.ensures.core

pub run_over-requires : goal.run_over-requires
run_over-requires g c κs within =
    let told = g.M.PageMaker.told in
    let input : Input = c.args.input.now in
    let core : PoolCore g.row.P.Denot PlainHeap = c.in-Ok.core in
    let pool = c.in-Ok-new.open.pool in
    let a : About = about_core (told c.make_calls.new.maker) core in
    let is_open : IsOpen {R = g.row.P.Denot} told a c.in-Ok-new.open = c.in-Ok-new.ensures.open in
    let same : about_shared told pool ≡ a = shared_is told a pool is_open.pool in
    let here : IsOpen {R = g.row.P.Denot} told (about_shared told pool) c.in-Ok-new.open = subst (λ (x : About). IsOpen {R = g.row.P.Denot} told x c.in-Ok-new.open) (sym same) is_open in
    let valid : is_valid input ≡ true = search rules in
    let built : is_built input ≡ true = search rules in
    let first : told c.args.pages.now ≡ g.maker = search rules in
    let now : told c.make_calls.new.maker ≡ g.maker = c.in-Ok-make_calls.ensures.same ∙ c.in-Ok.ensures.same ∙ first in
    let made : IsMadeCore (told c.make_calls.new.maker) input.config input.tunables input.offered input.shards core = subst (λ (m : MakerTold). IsMadeCore m input.config input.tunables input.offered input.shards core) (sym (c.in-Ok-make_calls.ensures.same ∙ c.in-Ok.ensures.same)) c.in-Ok.ensures.made in
    let sound : IsCore (told c.make_calls.new.maker) core = subst (λ (m : MakerTold). IsCore m core) (sym (c.in-Ok-make_calls.ensures.same ∙ c.in-Ok.ensures.same)) c.in-Ok.ensures.core in
    let calls : c.as_slice-calls.result.now ≡ calls_made input.tunables (told c.make_calls.new.maker).page 0 input.modules =
    c.as_slice-calls.ensures.value ∙ c.in-Ok-make_calls.ensures.calls
    ∙ ap (λ (m : MakerTold). calls_made input.tunables m.page 0 c.as_slice.result.now) (sym c.in-Ok-make_calls.ensures.same)
    ∙ ap (λ (ms : List ModuleInfo). calls_made input.tunables (told c.make_calls.new.maker).page 0 ms) c.as_slice.ensures in
    let ground = ground_made told input (told c.make_calls.new.maker) core c.as_slice-calls.result.now pool valid built sound made calls is_open.pool in
    let drives = drives_workers told input pool (view c.in-Ok-new.open.seat) c.in-Ok-new.ensures.view (c.in-Ok-new.ensures.drives (about_shared told pool) here) in
    let maker = ground_maker told input (told c.make_calls.new.maker) core c.as_slice-calls.result.now pool valid built sound made calls is_open.pool ∙ now in
    let all_calls : c.as_slice-calls.result.now ≡ calls_made input.tunables g.maker.page 0 input.modules = calls ∙ ap (λ (m : MakerTold). calls_made input.tunables m.page 0 input.modules) now in
    let view_is = c.in-Ok-new.ensures.view in
    (search rules, (search rules, (search rules, (search rules, (search rules, (search rules, (search rules, (search rules, (here, (ground, (drives, (view_is, (maker, all_calls)))))))))))))

pub returns-in-Ok-run_over-clause-same : goal.returns-in-Ok-run_over-clause-same
returns-in-Ok-run_over-clause-same g c =
    let first : g.M.PageMaker.told c.args.pages.now ≡ g.maker = search rules in
    c.in-Ok-make_calls.ensures.same ∙ c.in-Ok.ensures.same ∙ first

pub returns-in-Ok-run_over-clause-unlisted : goal.returns-in-Ok-run_over-clause-unlisted
returns-in-Ok-run_over-clause-unlisted g c =
    let input : Input = c.args.input.now in
    let old : MakerTold = g.M.PageMaker.told c.args.pages.now in
    let first : old ≡ g.maker = search rules in
    let sized : g.maker.page ≡ input.page = search rules in
    let page : old.page ≡ input.page = ap (λ (m : MakerTold). m.page) first ∙ sized in
    let own : images_listed input.tunables old.page 0 old.listed c.as_slice.result.now ≡ false = subst (λ (m : MakerTold). images_listed input.tunables m.page 0 m.listed c.as_slice.result.now ≡ false) c.in-Ok.ensures.same c.in-Ok-make_calls.ensures.own in
    let regions : IfSome old.plan (λ p. list_any (region_listed p) (makings_for input) ≡ false) = c.in-Ok.ensures.unlisted in
    let images : IfSome old.plan (λ p. images_listed input.tunables old.page 0 p c.as_slice.result.now ≡ false) = subst (λ (m : MakerTold). IfSome m.plan (λ p. images_listed input.tunables m.page 0 p c.as_slice.result.now ≡ false)) c.in-Ok.ensures.same c.in-Ok-make_calls.ensures.unlisted in
    subst (λ (m : MakerTold). IsUnlisted input m) first
    (record {
      own = nothing_listed region_unmade input c.as_slice.result.now old.page (Some old.listed) c.as_slice.ensures page c.in-Ok.ensures.own own;
      planned = nothing_listed region_listed input c.as_slice.result.now old.page old.plan c.as_slice.ensures page regions images;
    })

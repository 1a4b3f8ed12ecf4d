use Rattle.std.proofs.Common.{◌≡◌, sym, ◌∙◌, subst}
use Rattle.pool_types.specs.Count.{IsPageSize}
use Rattle.pool_types.specs.SettingsRules.{IsWithinRules}
use Rattle.pool_pages.specs.MakerTold.{MakerTold}
use Rattle.pool_types.proofs.ConfigRules.{within_rules}
use Rattle.pool_alloc.specs.BetweenSteps.{IsCore}
use Rattle.pool_alloc.specs.Made.{IsMadeCore, fails_slots}
use Rattle.pool_driver.specs.Pools.{IsOpen, about_core}
use Rattle.pool_driver.proofs.FewParts.{few_parts}
use Rattle.pool_driver.proofs.Makers.{same_maker, memory_unlisted}
use Rattle.pool_driver.proofs.open_pool.OpenPool.make.Goals as goal

pub new-requires-2-clause-made : goal.new-requires-2-clause-made
new-requires-2-clause-made g c =
    let old : MakerTold = g.M.PageMaker.told c.args.maker.now in
    let new : MakerTold = g.M.PageMaker.told c.new.new.maker in
    let same : new ≡ old = same_maker old new c.in-Ok.ensures.maker c.in-Ok.ensures.behind c.in-Ok.ensures.faults in (
      record { config = c.args.config.now; tunables = c.args.tunables.now; offered = c.args.offered.now; shards = c.args.shards },
      subst (λ (m : MakerTold). IsMadeCore m c.args.config.now c.args.tunables.now c.args.offered.now c.args.shards c.in-Ok.core) (sym same) c.in-Ok.ensures.made,
    )

pub new-requires-2-clause-core : goal.new-requires-2-clause-core
new-requires-2-clause-core g c =
    let old : MakerTold = g.M.PageMaker.told c.args.maker.now in
    let new : MakerTold = g.M.PageMaker.told c.new.new.maker in
    subst (λ (m : MakerTold). IsCore m c.in-Ok.core) (sym (same_maker old new c.in-Ok.ensures.maker c.in-Ok.ensures.behind c.in-Ok.ensures.faults)) c.in-Ok.ensures.core

pub new-requires-2-clause-few : goal.new-requires-2-clause-few
new-requires-2-clause-few g c =
    let old : MakerTold = g.M.PageMaker.told c.args.maker.now in
    let core = c.in-Ok.ensures.core in
    let sized : IsPageSize c.args.page = subst IsPageSize (core.page ∙ sym c.requires.page) core.settings.page in
    let within : IsWithinRules c.args.config.now c.args.tunables.now old.page c.args.shards c.args.offered.now =
    subst (λ n. IsWithinRules c.args.config.now c.args.tunables.now n c.args.shards c.args.offered.now) c.requires.page (within_rules c.args.config.now c.args.tunables.now c.args.page c.args.shards c.args.offered.now sized c.in-Ok.ensures.rules) in
    few_parts old c.args.config.now c.args.tunables.now c.args.offered.now c.args.shards c.in-Ok.core within c.in-Ok.ensures.made core

pub returns-in-Ok-new-clause-made : goal.returns-in-Ok-new-clause-made
returns-in-Ok-new-clause-made g c =
    let old : MakerTold = g.M.PageMaker.told c.args.maker.now in
    let new : MakerTold = g.M.PageMaker.told c.new.new.maker in
    record {
      core = c.in-Ok.core;
      made = c.in-Ok.ensures.made;
      is_open = subst (λ (m : MakerTold). IsOpen g.M.PageMaker.told (about_core m c.in-Ok.core) c.in-Ok-new.pool) (same_maker old new c.in-Ok.ensures.maker c.in-Ok.ensures.behind c.in-Ok.ensures.faults) c.in-Ok-new.ensures.open;
      parts = c.in-Ok-new.ensures.parts;
      view = c.in-Ok-new.ensures.view;
    }

pub returns-in-Err-new-clause-planned : goal.returns-in-Err-new-clause-planned
returns-in-Err-new-clause-planned g c =
    memory_unlisted (g.M.PageMaker.told c.args.maker.now).plan (fails_slots c.args.page c.args.config.now c.args.tunables.now c.args.offered.now c.args.shards)

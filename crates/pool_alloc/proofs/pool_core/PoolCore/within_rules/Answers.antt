use Rattle.std.proofs.Common.{ℕ, ◌<◌, ◌≤◌, refl, sym, ap, subst, ◌∙◌, arith, false, Some}
use Rattle.pool_alloc.proofs.Imports.{MakerTold, IsWithinRules, HaveGuards, PartSettings, StripedPlanSettings}
use Rattle.pool_alloc.specs.declared.frame.FrameLists.{FrameLists}
use Rattle.pool_alloc.specs.Made.{settings_of}
use Rattle.pool_alloc.proofs.MadeNumbers.{fails_in, fault_in, listed_as, raises_in, behind_in, plan_in, few_in, parts_in}
use Rattle.pool_alloc.proofs.MadePools.{made_core, made_untouched}
use Rattle.pool_alloc.proofs.StepsAsRows.{told_of_none}
use Rattle.pool_alloc.proofs.Striping.{slab_kept}
use Rattle.pool_alloc.proofs.pool_core.PoolCore.within_rules.Goals as goal

pub num_stripes-stripes-requires-clause-slab : goal.num_stripes-stripes-requires-clause-slab
num_stripes-stripes-requires-clause-slab g c = slab_kept c.args.config.now c.args.tunables.now c.args.page c.args.shards c.args.offered.now c.requires.rules

pub make_parts-requires-clause-stripes : goal.make_parts-requires-clause-stripes
make_parts-requires-clause-stripes g c =
    subst (λ (z : StripedPlanSettings). (0 < z.num_stripes) × (z.num_stripes < 256)) (sym c.plan_settings-numbers.ensures) (c.num_stripes-stripes.ensures.some, c.num_stripes-stripes.ensures.few)

pub make_parts-requires-clause-guards : goal.make_parts-requires-clause-guards
make_parts-requires-clause-guards g c = subst (λ (z : StripedPlanSettings). HaveGuards z c.part_settings-parts.result) (sym c.plan_settings-numbers.ensures)
    (λ some. subst (λ (s : PartSettings). s.stack_len.page ≤ s.stack_len.bytes) (sym c.part_settings-parts.ensures) (omega arith))

pub returns-in-Err-clause-faults : goal.returns-in-Err-clause-faults
returns-in-Err-clause-faults g c = raises_in c.args.page c.args.config.now c.args.tunables.now c.args.offered.now c.args.shards c.num_stripes-stripes.result c.plan_settings-numbers.result c.part_settings-parts.result c.num_stripes-stripes.ensures.value c.plan_settings-numbers.ensures c.part_settings-parts.ensures (g.M.PageMaker.told c.args.maker.now) c.requires.page g.P.Pages.told (g.M.PageMaker.told c.args.maker.now).faults (g.M.PageMaker.told c.make_parts.new.maker).faults c.in-Err.refusal c.in-Err.ensures.faults

pub returns-in-Err-clause-behind : goal.returns-in-Err-clause-behind
returns-in-Err-clause-behind g c = behind_in c.args.page c.args.config.now c.args.tunables.now c.args.offered.now c.args.shards c.num_stripes-stripes.result c.plan_settings-numbers.result c.part_settings-parts.result c.num_stripes-stripes.ensures.value c.plan_settings-numbers.ensures c.part_settings-parts.ensures (g.M.PageMaker.told c.args.maker.now) c.requires.page g.P.Pages.told (g.M.PageMaker.told c.args.maker.now).listed (g.M.PageMaker.told c.args.maker.now).behind (g.M.PageMaker.told c.make_parts.new.maker).behind c.in-Err.refusal c.in-Err.ensures.behind

pub returns-in-Err-clause-planned : goal.returns-in-Err-clause-planned
returns-in-Err-clause-planned g c = fault_in c.args.page c.args.config.now c.args.tunables.now c.args.offered.now c.args.shards c.num_stripes-stripes.result c.plan_settings-numbers.result c.part_settings-parts.result c.num_stripes-stripes.ensures.value c.plan_settings-numbers.ensures c.part_settings-parts.ensures c.in-Err.refusal (g.M.PageMaker.told c.args.maker.now).plan c.in-Err.ensures.planned

pub returns-in_default-frame_lists-clause-planned : goal.returns-in_default-frame_lists-clause-planned
returns-in_default-frame_lists-clause-planned g c = told_of_none (g.M.PageMaker.told c.args.maker.now).plan

pub returns-clause-listed : goal.returns-clause-listed
returns-clause-listed g c = sym (listed_as c.args.page c.args.config.now c.args.tunables.now c.args.offered.now c.args.shards c.num_stripes-stripes.result c.plan_settings-numbers.result c.part_settings-parts.result c.num_stripes-stripes.ensures.value c.plan_settings-numbers.ensures c.part_settings-parts.ensures (g.M.PageMaker.told c.args.maker.now).listed) ∙ c.in-Ok-make_parts.ensures.listed

pub returns-clause-planned : goal.returns-clause-planned
returns-clause-planned g c = fails_in c.args.page c.args.config.now c.args.tunables.now c.args.offered.now c.args.shards c.num_stripes-stripes.result c.plan_settings-numbers.result c.part_settings-parts.result c.num_stripes-stripes.ensures.value c.plan_settings-numbers.ensures c.part_settings-parts.ensures false (g.M.PageMaker.told c.args.maker.now).plan c.in-Ok-make_parts.ensures.planned

pub returns-clause-made : goal.returns-clause-made
returns-clause-made g c = record {
  settings = c.settings_of-settings.ensures ∙ ap (λ (n : ℕ). settings_of n c.args.config.now c.args.tunables.now c.args.offered.now) c.requires.page;
  plan = plan_in c.args.page c.args.config.now c.args.tunables.now c.args.offered.now c.args.shards c.num_stripes-stripes.result c.plan_settings-numbers.result c.part_settings-parts.result c.num_stripes-stripes.ensures.value c.plan_settings-numbers.ensures c.part_settings-parts.ensures (g.M.PageMaker.told c.args.maker.now) c.requires.page c.in-Ok.plan c.in-Ok.ensures.plan;
  few = few_in c.args.page c.args.config.now c.args.tunables.now c.args.offered.now c.args.shards c.num_stripes-stripes.result c.plan_settings-numbers.result c.part_settings-parts.result c.num_stripes-stripes.ensures.value c.plan_settings-numbers.ensures c.part_settings-parts.ensures (g.M.PageMaker.told c.args.maker.now) c.requires.page c.in-Ok.ensures.bounded;
  parts = rw c.new.ensures (parts_in c.args.page c.args.config.now c.args.tunables.now c.args.offered.now c.args.shards c.num_stripes-stripes.result c.plan_settings-numbers.result c.part_settings-parts.result c.num_stripes-stripes.ensures.value c.plan_settings-numbers.ensures c.part_settings-parts.ensures (g.M.PageMaker.told c.args.maker.now) c.requires.page c.in-Ok.plan c.in-Ok-make_parts.list.items c.in-Ok-make_parts.ensures.made);
  spare = ap (λ (x : FrameLists g.row.P.Denot). Some x) c.in-Ok-frame_lists.ensures;
  counters = refl;
}

pub returns-clause-core : goal.returns-clause-core
returns-clause-core g c =
    let maker : MakerTold = (g.M.PageMaker.told c.args.maker.now) in
    let within : IsWithinRules c.args.config.now c.args.tunables.now maker.page c.args.shards c.args.offered.now = subst (λ (n : ℕ). IsWithinRules c.args.config.now c.args.tunables.now n c.args.shards c.args.offered.now) c.requires.page c.requires.within in
    made_core maker c.args.config.now c.args.tunables.now c.args.offered.now c.args.shards _ within (returns-clause-made g c)

pub returns-clause-untouched : goal.returns-clause-untouched
returns-clause-untouched g c = made_untouched (g.M.PageMaker.told c.args.maker.now) c.args.config.now c.args.tunables.now c.args.offered.now c.args.shards _ (returns-clause-made g c)

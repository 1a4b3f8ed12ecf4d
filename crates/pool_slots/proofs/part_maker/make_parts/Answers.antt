use Rattle.std.proofs.Common.{rules, ◌≡◌, ◌+◌, ◌<◌, ◌^◌, ◌++◌, false, sym, subst, arith}
use Rattle.pool_slots.proofs.Imports.{AllByRecursion, IfOk-weaker, SlotKind, MakerTold}
use Rattle.pool_hall.specs.declared.unit_name.SlotKind.TheVariants as of_slot
use Rattle.pool_slots.specs.PartsMade.{fails_some_slot, lists_some_making, SomeGivenUp, heaps_parts, HaveNumbers, AreMadeTo}
use Rattle.pool_slots.specs.Plans.{allocators_of}
use Rattle.pool_slots.specs.PlansMade.{heaps_from, places_planned, shards_planned}
use Rattle.pool_slots.specs.SlotNames.{of_kind}
use Rattle.pool_slots.specs.StripedPlans.{divided, IsStripedPlanOf}
use Rattle.pool_slots.specs.declared.plan.Plan.{Plan}
use Rattle.pool_slots.specs.declared.part_maker.PartSettings.{PartSettings}
use Rattle.pool_slots.specs.declared.striped_plan.StripedPlanSettings.{StripedPlanSettings}
use Rattle.pool_slots.proofs.PartPlaces.{shards_made, queues_made, heaps_behind, listed_once, faults_once, behind_once}
use Rattle.pool_slots.proofs.StripedPlans.{have_numbers}
use Rattle.pool_slots.proofs.part_maker.make_parts.Goals as goal

few : (z : StripedPlanSettings) → z.totals.memory < 2 ^ 32 → z.totals.table < 2 ^ 32 → z.totals.stack < 2 ^ 32 → z.totals.heap < 2 ^ 32 → (kind : SlotKind) → of_kind kind z.totals < 2 ^ 32
few z memories tables stacks heaps of_slot.Memory = memories
few z memories tables stacks heaps of_slot.Table = tables
few z memories tables stacks heaps of_slot.Stack = stacks
few z memories tables stacks heaps of_slot.Heap = heaps

-- the numbers of each allocator fit
abbrev fit : (z : StripedPlanSettings) (plan : Plan) → (0 < z.num_stripes) × (z.num_stripes < 256) → IsStripedPlanOf z plan → ((kind : SlotKind) → of_kind kind z.totals < 2 ^ 32) → (kind : SlotKind) → AllByRecursion HaveNumbers (allocators_of plan kind)
fit z plan stripes is small kind = let below = stripes.1 in have_numbers z plan stripes.0 (omega (arith, below)) small is kind

pub make_shards-requires : goal.make_shards-requires
make_shards-requires g c =
    let z : StripedPlanSettings = c.args.numbers.now in
    let memories : z.totals.memory < 2 ^ 32 = search rules in
    let tables : z.totals.table < 2 ^ 32 = search rules in
    let stacks : z.totals.stack < 2 ^ 32 = search rules in
    let heaps : z.totals.heap < 2 ^ 32 = search rules in
    record { fit = fit z c.args.plan.now c.requires.stripes c.requires.plan (few z memories tables stacks heaps) }

pub with_cells-requires-clause-shards : goal.with_cells-requires-clause-shards
with_cells-requires-clause-shards g c =
    let z : StripedPlanSettings = c.args.numbers.now in
    let maker : MakerTold = g.M.PageMaker.told c.args.maker.now in
    let memories : z.totals.memory < 2 ^ 32 = search rules in
    let tables : z.totals.table < 2 ^ 32 = search rules in
    let stacks : z.totals.stack < 2 ^ 32 = search rules in
    let heaps : z.totals.heap < 2 ^ 32 = search rules in
    subst (AreMadeTo c.args.plan.now z.num_stripes maker c.args.settings.now (shards_planned (divided z))) (sym c.in_ok-parts.ensures.made)
    (shards_made z c.args.plan.now maker c.args.settings.now c.requires.stripes.0 c.requires.plan (fit z c.args.plan.now c.requires.stripes c.requires.plan (few z memories tables stacks heaps)))

pub returns-clause-made : goal.returns-clause-made
returns-clause-made g c =
    let z : StripedPlanSettings = c.args.numbers.now in
    let plan : Plan = c.args.plan.now in
    let s : PartSettings = c.args.settings.now in
    let maker : MakerTold = g.M.PageMaker.told c.args.maker.now in
    let queues = subst (AreMadeTo plan z.num_stripes maker s (heaps_from (divided z))) (sym c.in_ok-parts-3.ensures.made)
    (queues_made z plan maker s c.in_ok-parts-2.parts.items c.requires.stripes.0 c.requires.plan c.in_ok-parts-2.ensures.made) in
    let all = heaps_behind z plan maker s c.in_ok-parts-3.parts.items c.requires.stripes.0 c.requires.plan queues in
    IfOk-weaker c.with_heaps.result (λ v. v.items ≡ c.in_ok-parts-3.parts.items ++ heaps_parts z.totals.heap) (λ v. AreMadeTo plan z.num_stripes maker s (places_planned (divided z)) v.items)
    (λ v is. subst (AreMadeTo plan z.num_stripes maker s (places_planned (divided z))) (sym is) all) c.with_heaps.ensures.made

pub returns-clause-planned : goal.returns-clause-planned
returns-clause-planned g c =
    let maker : MakerTold = g.M.PageMaker.told c.args.maker.now in
    listed_once c.with_heaps.result maker.plan (λ plan. fails_some_slot c.args.numbers.now c.args.settings.now plan) c.in_ok-parts-2.ensures.planned c.with_heaps.ensures.memory

pub returns-clause-faults : goal.returns-clause-faults
returns-clause-faults g c =
    let maker : MakerTold = g.M.PageMaker.told c.args.maker.now in
    faults_once c.with_heaps.result (SomeGivenUp g.P.Pages.told c.args.numbers.now c.args.settings.now maker) maker.faults _ c.in_ok-parts-2.ensures.faults c.with_heaps.ensures.memory

pub returns-clause-behind : goal.returns-clause-behind
returns-clause-behind g c =
    let maker : MakerTold = g.M.PageMaker.told c.args.maker.now in
    behind_once c.with_heaps.result (SomeGivenUp g.P.Pages.told c.args.numbers.now c.args.settings.now maker) (lists_some_making c.args.numbers.now.totals maker.listed) maker.behind _ c.in_ok-parts-2.ensures.behind c.with_heaps.ensures.memory

pub returns-clause-listed : goal.returns-clause-listed
returns-clause-listed g c =
    let listed = (g.M.PageMaker.told c.args.maker.now).listed in
    IfOk-weaker c.with_heaps.result (λ v. v.items ≡ c.in_ok-parts-3.parts.items ++ heaps_parts c.args.numbers.now.totals.heap) (λ v. lists_some_making c.args.numbers.now.totals listed ≡ false) (λ v is. c.in_ok-parts-2.ensures.listed) c.with_heaps.ensures.made

use Rattle.std.proofs.Common.{◌≡◌, ◌<◌, ◌^◌, List, subst, arith, IfOk}
use Rattle.pool_slots.proofs.Imports.{AllByRecursion, IfOk-weaker, SlotKind}
use Rattle.pool_slots.specs.SlotNames.{of_kind}
use Rattle.pool_slots.specs.Plans.{allocators_of, home_of, IsPlacedAllocator, IsPlanned, IsAtHome}
use Rattle.pool_slots.specs.PlansMade.{IsPlanWith, places_planned}
use Rattle.pool_slots.specs.StripedPlans.{divided, IsStripedPlanOf, FollowInStripes}
use Rattle.pool_slots.specs.declared.slot_name.SlotName.{SlotName}
use Rattle.pool_slots.specs.declared.plan.Allocator.{Allocator}
use Rattle.pool_slots.specs.declared.plan_maker.PlanSettings.{PlanSettings}
use Rattle.pool_slots.specs.declared.striped_plan.StripedPlanSettings.{StripedPlanSettings}
use Rattle.pool_slots.proofs.Planning.{allocators_placed}
use Rattle.pool_slots.proofs.StripedPlans.{planned, at_home, follow}
use Rattle.pool_slots.proofs.striped_plan.make_striped_plan.Goals as goal

is : (c : goal.After-lay_out) → IfOk c.lay_out.result (IsStripedPlanOf c.args.settings.now)
is c =
    let one : IfOk c.lay_out.result (IsPlanWith (divided c.args.settings.now) c.in_ok-memories.memories) =
    subst (λ (s : PlanSettings). IfOk c.lay_out.result (IsPlanWith s c.in_ok-memories.memories)) c.in_ok-divided.ensures c.lay_out.ensures.plan in
    subst (λ (l : List Allocator). IfOk c.lay_out.result (IsPlanWith (divided c.args.settings.now) l)) c.in_ok-memories.ensures.list one

pub returns-clause-planned : goal.returns-clause-planned
returns-clause-planned c =
    let z : StripedPlanSettings = c.args.settings.now in
    IfOk-weaker c.lay_out.result (IsStripedPlanOf z) (λ plan. IsPlanned plan (places_planned (divided z))) (λ plan so. planned z plan c.requires so) (is c)

pub returns-clause-placed : goal.returns-clause-placed
returns-clause-placed c =
    let z : StripedPlanSettings = c.args.settings.now in
    let few : places_planned (divided z) < 2 ^ 32 = subst (λ (s : PlanSettings). places_planned s < 2 ^ 32) c.in_ok-divided.ensures (omega (arith, c.if-places.false, c.places.ensures)) in
    IfOk-weaker c.lay_out.result (IsStripedPlanOf z) (λ plan. (kind : SlotKind) → AllByRecursion IsPlacedAllocator (allocators_of plan kind))
    (λ plan so kind. allocators_placed plan (places_planned (divided z)) (planned z plan c.requires so) few kind) (is c)

pub returns-clause-at_home : goal.returns-clause-at_home
returns-clause-at_home c =
    let z : StripedPlanSettings = c.args.settings.now in
    IfOk-weaker c.lay_out.result (IsStripedPlanOf z) (λ plan. (name : SlotName) → name.slot < of_kind name.kind z.totals → IsAtHome plan name (home_of plan name)) (λ plan so. at_home z plan c.requires so) (is c)

pub returns-clause-follow : goal.returns-clause-follow
returns-clause-follow c =
    let z : StripedPlanSettings = c.args.settings.now in
    IfOk-weaker c.lay_out.result (IsStripedPlanOf z) (FollowInStripes z) (λ plan so. follow z plan c.requires so) (is c)

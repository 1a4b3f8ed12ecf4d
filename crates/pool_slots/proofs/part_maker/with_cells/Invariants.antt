use Rattle.std.proofs.Common.{◌≡◌, ℕ, ◌+◌, IfSome}
use Rattle.pool_pages.specs.MakerTold.{fails_making}
use Rattle.pool_slots.proofs.Plans.{NoneOf}
use Rattle.pool_slots.specs.PartsMade.{nth_region, region_name, fails_slot, AreMadeTo}
use Rattle.pool_slots.specs.PlansMade.{shards_planned}
use Rattle.pool_slots.specs.StripedPlans.{divided}
use Rattle.pool_slots.specs.declared.striped_plan.StripedPlanSettings.{StripedPlanSettings}
use Rattle.pool_slots.proofs.part_maker.with_cells.Given as goal

-- the parts so far are made, by a maker that tells what it told
abbrev pub invariant-loop-number : goal.invariant-loop-number
invariant-loop-number g l =
    let z : StripedPlanSettings = l.numbers in
    let nth = nth_region z.totals in
    record {
      made : AreMadeTo l.plan z.num_stripes (g.M.PageMaker.told l.fn.maker) l.settings (shards_planned (divided z) + l.number) l.parts.items;
      maker : g.M.PageMaker.told l.maker ≡ g.M.PageMaker.told l.fn.maker;
      borrows : g.M.PageMaker.borrows l.maker ≡ g.M.PageMaker.borrows l.fn.maker;
      listed : NoneOf (λ n. fails_making (region_name (nth n).0 (nth n).1) (g.M.PageMaker.told l.fn.maker).listed) l.number;
      planned : IfSome (g.M.PageMaker.told l.fn.maker).plan (λ plan. NoneOf (λ n. fails_slot z.num_stripes l.settings (nth n).0 (nth n).1 plan) l.number);
    }

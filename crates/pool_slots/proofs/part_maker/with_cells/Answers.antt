use Rattle.std.proofs.Common.{◌≡◌, ℕ, ◌+◌, ◌<◌, ◌∷◌, [], ◌++◌, ◌∙◌, List, Bool, false, sym, subst, ap, refl, arith, IfSome}
use Rattle.pool_slots.proofs.Imports.{told_weaker, told_both, MakerTold, Planned, fails_making}
use Rattle.pool_slots.specs.Colourings.{RaisesUnlessGivenUp, RaisesBehindUnlessGivenUp}
use Rattle.pool_slots.specs.Makings.{IsListedPoolFault}
use Rattle.pool_slots.specs.PartsMade.{region_count, nth_region, region_name, slot_region, cell_part, cell_part_made, fails_slot, fails_some_slot, IsGivenUp, SomeGivenUp, AreMadeTo}
use Rattle.pool_slots.specs.PlansMade.{shards_planned, queues_from}
use Rattle.pool_slots.specs.StripedPlans.{divided}
use Rattle.pool_slots.specs.declared.queued_range.QueueKind.{QueueKind}
use Rattle.pool_slots.specs.declared.part.PoolPart.{PoolPart}
use Rattle.pool_slots.specs.declared.part_maker.PartSettings.{PartSettings}
use Rattle.pool_slots.specs.declared.striped_plan.StripedPlanSettings.{StripedPlanSettings}
use Rattle.pool_slots.proofs.PartPlaces.{stacks_some, cell_behind}
use Rattle.pool_slots.proofs.Plans.{NoneOf, none_of, behind_of, faults_of, none_more, any_told, listed_of, same_maker}
use Rattle.pool_slots.proofs.part_maker.with_cells.Goals as goal

pub make_slot_region-made-requires-clause-guard : goal.make_slot_region-made-requires-clause-guard
make_slot_region-made-requires-clause-guard g c is = c.requires.guards (stacks_some c.args.numbers.now.totals c.loop-number.number (subst (λ m. c.loop-number.number < m) c.region_count-number-end.ensures c.loop-number-test.true) (ap (λ p. p.0) (sym c.nth_region-kind.ensures) ∙ is))

pub returns-in-Err-clause-planned : goal.returns-in-Err-clause-planned
returns-in-Err-clause-planned g c =
    let z : StripedPlanSettings = c.args.numbers.now in
    let s : PartSettings = c.args.settings.now in
    let n : ℕ = c.loop-number.number in
    let first : MakerTold = g.M.PageMaker.told c.args.maker.now in
    let inside : c.loop-number.number < region_count z.totals = subst (λ m. c.loop-number.number < m) c.region_count-number-end.ensures c.loop-number-test.true in
    let F : QueueKind × ℕ → MakerTold → Type 0 = λ p m. IfSome m.plan (λ plan. IsListedPoolFault (fails_slot z.num_stripes s p.0 p.1 plan) c.in-Err.refusal) in
    let told : F (nth_region z.totals n) first = subst (λ p. F p first) c.nth_region-kind.ensures (subst (F c.nth_region-kind.result) c.loop-number.invariant.maker c.in-Err.ensures.planned) in
    listed_of (λ plan k. fails_slot z.num_stripes s (nth_region z.totals k).0 (nth_region z.totals k).1 plan) first.plan (region_count z.totals) n c.in-Err.refusal inside told

pub returns-in-Err-clause-faults : goal.returns-in-Err-clause-faults
returns-in-Err-clause-faults g c =
    let z : StripedPlanSettings = c.args.numbers.now in
    let s : PartSettings = c.args.settings.now in
    let n : ℕ = c.loop-number.number in
    let first : MakerTold = g.M.PageMaker.told c.args.maker.now in
    let inside : c.loop-number.number < region_count z.totals = subst (λ m. c.loop-number.number < m) c.region_count-number-end.ensures c.loop-number-test.true in
    let new : ℕ = (g.M.PageMaker.told c.make_slot_region-made.new.maker).faults in
    let F : QueueKind × ℕ → MakerTold → Type 0 = λ p m. RaisesUnlessGivenUp (IsGivenUp g.P.Pages.told z.num_stripes s p.0 p.1 m) m.faults new c.in-Err.refusal in
    let told : F (nth_region z.totals n) first = subst (λ p. F p first) c.nth_region-kind.ensures (subst (F c.nth_region-kind.result) c.loop-number.invariant.maker c.in-Err.ensures.faults) in
    faults_of (IsGivenUp g.P.Pages.told z.num_stripes s (nth_region z.totals n).0 (nth_region z.totals n).1 first) (SomeGivenUp g.P.Pages.told z s first) first.faults new c.in-Err.refusal (λ u. (n, inside, u)) told

pub returns-in-Err-clause-behind : goal.returns-in-Err-clause-behind
returns-in-Err-clause-behind g c =
    let z : StripedPlanSettings = c.args.numbers.now in
    let s : PartSettings = c.args.settings.now in
    let n : ℕ = c.loop-number.number in
    let first : MakerTold = g.M.PageMaker.told c.args.maker.now in
    let inside : c.loop-number.number < region_count z.totals = subst (λ m. c.loop-number.number < m) c.region_count-number-end.ensures c.loop-number-test.true in
    let new : ℕ = (g.M.PageMaker.told c.make_slot_region-made.new.maker).behind in
    let f : ℕ → Bool = λ k. fails_making (region_name (nth_region z.totals k).0 (nth_region z.totals k).1) first.listed in
    let F : QueueKind × ℕ → MakerTold → Type 0 = λ p m. RaisesBehindUnlessGivenUp (IsGivenUp g.P.Pages.told z.num_stripes s p.0 p.1 m) (fails_making (region_name p.0 p.1) m.listed) m.behind new c.in-Err.refusal in
    let told : F (nth_region z.totals n) first = subst (λ p. F p first) c.nth_region-kind.ensures (subst (F c.nth_region-kind.result) c.loop-number.invariant.maker c.in-Err.ensures.behind) in
    behind_of (IsGivenUp g.P.Pages.told z.num_stripes s (nth_region z.totals n).0 (nth_region z.totals n).1 first) (SomeGivenUp g.P.Pages.told z s first) f (region_count z.totals) n first.behind new c.in-Err.refusal inside (λ u. (n, inside, u)) told

pub returns-in_default-clause-planned : goal.returns-in_default-clause-planned
returns-in_default-clause-planned g c = any_told _ (g.M.PageMaker.told c.args.maker.now).plan (λ plan. tt)

pub loop-number-init : goal.loop-number-init
loop-number-init g c =
    let z : StripedPlanSettings = c.args.numbers.now in
    let first : MakerTold = g.M.PageMaker.told c.args.maker.now in
    let none : shards_planned (divided z) ≡ shards_planned (divided z) + 0 = omega arith in
    record {
      made = subst (λ n. AreMadeTo c.args.plan.now z.num_stripes first c.args.settings.now n c.args.parts.items) none c.requires.shards;
      maker = refl;
      borrows = refl;
      listed = λ i below. absurd (omega (arith, below));
      planned = any_told _ first.plan (λ plan i below. absurd (omega (arith, below)));
    }

pub loop-number-preserved : goal.loop-number-preserved
loop-number-preserved g c =
    let z : StripedPlanSettings = c.args.numbers.now in
    let s : PartSettings = c.args.settings.now in
    let n : ℕ = c.loop-number.number in
    let nth = nth_region z.totals in
    let first : MakerTold = g.M.PageMaker.told c.args.maker.now in
    let inside : c.loop-number.number < region_count z.totals = subst (λ m. c.loop-number.number < m) c.region_count-number-end.ensures c.loop-number-test.true in
    let region = c.in-Ok.region in
    let R : QueueKind × ℕ → MakerTold → Type 0 = λ p m. c.cell_part.result ≡ cell_part_made z.num_stripes m s p.0 p.1 in
    let F : QueueKind × ℕ → MakerTold → Type 0 = λ p m. IfSome m.plan (λ plan. fails_slot z.num_stripes s p.0 p.1 plan ≡ false) in
    let O : QueueKind × ℕ → MakerTold → Type 0 = λ p m. fails_making (region_name p.0 p.1) m.listed ≡ false in
    let pair = c.nth_region-kind.result in
    let own : R pair (g.M.PageMaker.told c.loop-number.maker) = c.cell_part.ensures ∙ ap (cell_part pair.0 pair.1) c.in-Ok.ensures.region in
    let cell : R (nth n) first = subst (λ p. R p first) c.nth_region-kind.ensures (subst (R pair) c.loop-number.invariant.maker own) in
    let passed : F (nth n) first = subst (λ p. F p first) c.nth_region-kind.ensures (subst (F pair) c.loop-number.invariant.maker c.in-Ok.ensures.planned) in
    let unlisted : O (nth n) first = subst (λ p. O p first) c.nth_region-kind.ensures (subst (O pair) c.loop-number.invariant.maker c.in-Ok.ensures.listed) in
    let f : List Planned → ℕ → Bool = λ plan k. fails_slot z.num_stripes s (nth k).0 (nth k).1 plan in
    record {
      made = subst (AreMadeTo c.args.plan.now z.num_stripes first s (shards_planned (divided z) + (n + 1))) (sym c.in-Ok-push.ensures.items) (cell_behind z c.args.plan.now first s n c.loop-number.parts.items c.cell_part.result c.requires.stripes.0 c.requires.plan inside cell c.loop-number.invariant.made);
      maker = same_maker (g.M.PageMaker.told c.loop-number.maker) (g.M.PageMaker.told c.make_slot_region-made.new.maker) c.in-Ok.ensures.maker c.in-Ok.ensures.behind c.in-Ok.ensures.faults ∙ c.loop-number.invariant.maker;
      borrows = c.in-Ok.ensures.borrows ∙ c.loop-number.invariant.borrows;
      listed = none_more (λ k. fails_making (region_name (nth k).0 (nth k).1) first.listed) n c.loop-number.invariant.listed unlisted;
      planned = told_both (λ plan. NoneOf (f plan) n) (λ plan. f plan n ≡ false) (λ plan. NoneOf (f plan) (n + 1)) first.plan (λ plan none now. none_more (f plan) n none now) c.loop-number.invariant.planned passed;
    }

pub returns-clause-made : goal.returns-clause-made
returns-clause-made g c =
    let z : StripedPlanSettings = c.args.numbers.now in
    let ends : shards_planned (divided z) + c.loop-number.number ≡ queues_from (divided z) = omega (arith, c.loop-number-test.false, c.loop-number.auto.number-end, c.region_count-number-end.ensures) in
    subst (λ k. AreMadeTo c.args.plan.now z.num_stripes (g.M.PageMaker.told c.args.maker.now) c.args.settings.now k c.loop-number.parts.items) ends c.loop-number.invariant.made

pub returns-clause-planned : goal.returns-clause-planned
returns-clause-planned g c =
    let z : StripedPlanSettings = c.args.numbers.now in
    let s : PartSettings = c.args.settings.now in
    let first : MakerTold = g.M.PageMaker.told c.args.maker.now in
    let f : List Planned → ℕ → Bool = λ plan k. fails_slot z.num_stripes s (nth_region z.totals k).0 (nth_region z.totals k).1 plan in
    let last : c.loop-number.number ≡ region_count z.totals = omega (arith, c.loop-number-test.false, c.loop-number.auto.number-end, c.region_count-number-end.ensures) in
    told_weaker (λ plan. NoneOf (f plan) c.loop-number.number) (λ plan. fails_some_slot z s plan ≡ false) first.plan (λ plan none. none_of (f plan) (region_count z.totals) (subst (NoneOf (f plan)) last none)) c.loop-number.invariant.planned

pub returns-clause-listed : goal.returns-clause-listed
returns-clause-listed g c =
    let z : StripedPlanSettings = c.args.numbers.now in
    let f : ℕ → Bool = λ k. fails_making (region_name (nth_region z.totals k).0 (nth_region z.totals k).1) (g.M.PageMaker.told c.args.maker.now).listed in
    let last : c.loop-number.number ≡ region_count z.totals = omega (arith, c.loop-number-test.false, c.loop-number.auto.number-end, c.region_count-number-end.ensures) in
    none_of f (region_count z.totals) (subst (NoneOf f) last c.loop-number.invariant.listed)

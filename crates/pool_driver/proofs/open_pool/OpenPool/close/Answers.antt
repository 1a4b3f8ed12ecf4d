use Rattle.std.proofs.Common.{◌≡◌, List, map, subst, ap, sym, ◌∙◌, rules, Some}
use Rattle.std.specs.List.{AllByRecursion}
use Rattle.pool_hall.specs.Ending.{AllTold}
use Rattle.pool_hall.specs.Seat.{made_with, limits_of, view}
use Rattle.pool_hall.specs.declared.view.View.{View}
use Rattle.pool_alloc.specs.Calls.{lists_made}
use Rattle.pool_alloc.specs.Closing.{ArePartsOf}
use Rattle.pool_alloc.specs.declared.pool_core.PoolCore.{PoolCore}
use Rattle.pool_alloc.specs.declared.pool_core.Settings.{Settings}
use Rattle.pool_slots.specs.Listed.{PartFailsAsListed}
use Rattle.pool_slots.specs.declared.part.PoolPart.{PoolPart}
use Rattle.pool_slots.specs.declared.plan.Plan.{Plan}
use Rattle.pool_driver.specs.Counts.{counts_in}
use Rattle.pool_driver.specs.Origins.{about_of, inner_of}
use Rattle.pool_driver.specs.Placed.{pool_meaning}
use Rattle.pool_driver.specs.Pools.{core_of}
use Rattle.pool_driver.specs.declared.part.HallPart.{HallPart}
use Rattle.pool_driver.proofs.GivenBack.{closes}
use Rattle.pool_driver.proofs.Noted.{has_noted}
use Rattle.pool_driver.proofs.open_pool.OpenPool.close.Goals as goal

pub close-requires-2 : goal.close-requires-2
close-requires-2 g c κs within =
    let pool = c.requires.1.1.1.1.0 in
    let self = c.args.self in
    let xs = c.close.result.items in
    let core : PoolCore g.row.P.Denot g.row.H.Denot = record { parts = c.new.result; counters = c.counts_in-counters.result; settings = self.pool.settings; plan = self.pool.plan; spare = Some self.lists } in
    let is : core ≡ core_of g.about (counts_in (view self.seat)) (Some self.lists) (map inner_of xs) =
    (λ i. record {
      parts = (c.new.ensures ∙ c.without_origin-list.ensures) i;
      counters = (c.counts_in-counters.ensures.counts c.requires.1.1.1.1.1.0) i;
      settings = pool.pool.settings i;
      plan = pool.pool.plan i;
      spare = Some self.lists;
    }) in
    let closed = closes (about_of g.M.PageMaker.told) inner_of (made_with self.pool.hall) (limits_of self.pool.hall) xs c.close.ensures.all c.close.ensures.stand c.close.ensures.units g.about (Some self.lists) pool.pool.hall.made pool.pool.hall.pool (view self.seat) c.requires.1.1.1.1.1.1.1 core is in
    (search rules, (search rules, (closed.0, (ap (λ l. Some l) (pool.lists ∙ ap lists_made (sym pool.pool.settings)), closed.1))))

pub returns-clause-noted : goal.returns-clause-noted
returns-clause-noted g c =
    let pool = c.requires.1.1.1.1.0 in
    let self = c.args.self in
    has_noted (about_of g.M.PageMaker.told) inner_of (made_with self.pool.hall) (limits_of self.pool.hall) c.close.result.items c.close.ensures.all c.close.ensures.stand c.close.ensures.units
    (subst (λ (xs : List (PoolPart g.row.P.Denot g.row.H.Denot)). AllByRecursion PartFailsAsListed xs) (c.as_slice.ensures.value ∙ c.without_origin-list.ensures) c.failures_law.ensures) (view self.seat)
    (subst (λ (v : View (HallPart g.row.P.Denot g.row.H.Denot g.row.M.Denot)). AllTold (pool_meaning (about_of g.M.PageMaker.told) inner_of) (limits_of self.pool.hall) v c.close.result.items) c.counts_in-counters.ensures.view c.close.ensures.told)
    g.about pool.pool.hall.made pool.pool.hall.pool pool.pool.hall.limits

pub returns-clause-parts : goal.returns-clause-parts
returns-clause-parts g c =
    let pool = c.requires.1.1.1.1.0 in
    let S : Settings → Type 0 = λ s. ArePartsOf g.about.maker s c.args.self.pool.plan c.close-2.result in
    let Q : Plan → Type 0 = λ q. ArePartsOf g.about.maker g.about.settings q c.close-2.result in
    subst Q pool.pool.plan (subst S pool.pool.settings c.close-2.ensures.parts)

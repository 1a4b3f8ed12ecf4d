use Rattle.std.proofs.Common.{◌≡◌, length, rules, None}
use Rattle.pool_hall.specs.Seat.{made_with, limits_of, view}
use Rattle.pool_alloc.specs.Targets.{next_target}
use Rattle.pool_alloc.specs.declared.step.targets.Target.TheVariants.{Up}
use Rattle.pool_driver.specs.Driving.{IsDriven}
use Rattle.pool_driver.specs.Origins.{about_of, inner_of}
use Rattle.pool_driver.specs.Pools.{IsSharedOf}
use Rattle.pool_driver.proofs.SeatsDriven.{can_up_here, driven_after_up, sees_after_up, beside_after_up}
use Rattle.pool_driver.proofs.steps.SharedPool+PoolHall+P+H+M.step_up.Goals as goal

pub step_counted-requires-clause-can : goal.step_counted-requires-clause-can
step_counted-requires-clause-can g c =
    let pool : IsSharedOf g.M.PageMaker.told g.given.about c.args.self.now = search rules in
    let driven : IsDriven (length (made_with c.args.self.now.hall)) g.given (view c.args.seat.now) c.args.frame.now None = search rules in
    let target : next_target g.given.about.settings g.given.about.plan c.args.frame.now.phase c.args.frame.now ≡ Up c.args.name = search rules in
    can_up_here (about_of g.M.PageMaker.told) inner_of (made_with c.args.self.now.hall) (limits_of c.args.self.now.hall) g.given pool.hall.made pool.hall.pool (view c.args.seat.now) c.args.frame.now driven c.add-found.ensures.moment c.args.name c.args.self.now.settings c.args.self.now.plan pool.settings pool.plan c.counter_number.result c.counter_number.ensures target

pub returns-clause-driven : goal.returns-clause-driven
returns-clause-driven g c =
    let pool : IsSharedOf g.M.PageMaker.told g.given.about c.args.self.now = search rules in
    let driven : IsDriven (length (made_with c.args.self.now.hall)) g.given (view c.args.seat.now) c.args.frame.now None = search rules in
    let target : next_target g.given.about.settings g.given.about.plan c.args.frame.now.phase c.args.frame.now ≡ Up c.args.name = search rules in
    driven_after_up (about_of g.M.PageMaker.told) inner_of (made_with c.args.self.now.hall) (limits_of c.args.self.now.hall) g.given pool.hall.made pool.hall.pool (view c.args.seat.now) c.args.frame.now driven c.add-found.ensures.moment c.args.name c.args.self.now.settings c.args.self.now.plan pool.settings pool.plan c.counter_number.result c.counter_number.ensures target c.add-found.result c.step_counted.new.frame c.step_counted.new.outcome c.step_counted.ensures.row (view c.add-found.new.seat) c.add-found.ensures.view

pub returns-clause-sees : goal.returns-clause-sees
returns-clause-sees g c =
    let pool : IsSharedOf g.M.PageMaker.told g.given.about c.args.self.now = search rules in
    let driven : IsDriven (length (made_with c.args.self.now.hall)) g.given (view c.args.seat.now) c.args.frame.now None = search rules in
    let target : next_target g.given.about.settings g.given.about.plan c.args.frame.now.phase c.args.frame.now ≡ Up c.args.name = search rules in
    sees_after_up (about_of g.M.PageMaker.told) inner_of (made_with c.args.self.now.hall) (limits_of c.args.self.now.hall) g.given pool.hall.made pool.hall.pool (view c.args.seat.now) c.args.frame.now driven c.add-found.ensures.moment c.args.name c.args.self.now.settings c.args.self.now.plan pool.settings pool.plan c.counter_number.result c.counter_number.ensures target c.add-found.result c.step_counted.new.frame c.step_counted.new.outcome c.step_counted.ensures.row (view c.add-found.new.seat) c.add-found.ensures.view

pub returns-clause-beside : goal.returns-clause-beside
returns-clause-beside g c =
    let pool : IsSharedOf g.M.PageMaker.told g.given.about c.args.self.now = search rules in
    let driven : IsDriven (length (made_with c.args.self.now.hall)) g.given (view c.args.seat.now) c.args.frame.now None = search rules in
    let target : next_target g.given.about.settings g.given.about.plan c.args.frame.now.phase c.args.frame.now ≡ Up c.args.name = search rules in
    beside_after_up (about_of g.M.PageMaker.told) inner_of (made_with c.args.self.now.hall) (limits_of c.args.self.now.hall) g.given pool.hall.made pool.hall.pool (view c.args.seat.now) c.args.frame.now driven c.add-found.ensures.moment c.args.name c.args.self.now.settings c.args.self.now.plan pool.settings pool.plan c.counter_number.result c.counter_number.ensures target c.add-found.result c.step_counted.new.frame c.step_counted.new.outcome c.step_counted.ensures.row (view c.add-found.new.seat) c.add-found.ensures.view

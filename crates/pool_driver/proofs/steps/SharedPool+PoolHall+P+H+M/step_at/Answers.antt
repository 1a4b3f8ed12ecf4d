use Rattle.std.proofs.Common.{◌≡◌, length, refl, rules, None}
use Rattle.pool_hall.specs.Seat.{made_with, view}
use Rattle.pool_alloc.specs.Targets.{next_target}
use Rattle.pool_alloc.specs.declared.step.targets.Target.TheVariants.{Part}
use Rattle.pool_driver.specs.Driving.{IsDriven}
use Rattle.pool_driver.specs.Origins.{about_of, inner_of}
use Rattle.pool_driver.specs.Pools.{IsSharedOf}
use Rattle.pool_driver.proofs.Finding.{place_inside}
use Rattle.pool_driver.proofs.SeatsDriven.{can_hold, can_put_back, driven_after, beside_after, sees_after}
use Rattle.pool_driver.proofs.steps.SharedPool+PoolHall+P+H+M.step_at.Goals as goal

pub take-requires-clause-place : goal.take-requires-clause-place
take-requires-clause-place g c =
    let driven : IsDriven (length (made_with c.args.self.now.hall)) g.given (view c.args.seat.now) c.args.frame.now None = search rules in
    place_inside (length (made_with c.args.self.now.hall)) g.given (view c.args.seat.now) c.args.frame.now driven c.args.place (search rules)

pub step_part-requires-clause-can : goal.step_part-requires-clause-can
step_part-requires-clause-can g c =
    let pool : IsSharedOf g.M.PageMaker.told g.given.about c.args.self.now = search rules in
    let driven : IsDriven (length (made_with c.args.self.now.hall)) g.given (view c.args.seat.now) c.args.frame.now None = search rules in
    let target : next_target g.given.about.settings g.given.about.plan c.args.frame.now.phase c.args.frame.now ≡ Part c.args.place = search rules in
    can_hold (about_of g.M.PageMaker.told) inner_of c.args.self.now.hall g.given pool.hall.made pool.hall.pool c.args.seat.now c.take.new.seat c.take.ensures.taken c.args.frame.now driven c.args.place c.take.ensures.place target c.part-held.result.now c.part-held.ensures.value c.args.self.now.settings c.args.self.now.plan pool.settings pool.plan

pub put-requires-clause-may : goal.put-requires-clause-may
put-requires-clause-may g c =
    let pool : IsSharedOf g.M.PageMaker.told g.given.about c.args.self.now = search rules in
    let driven : IsDriven (length (made_with c.args.self.now.hall)) g.given (view c.args.seat.now) c.args.frame.now None = search rules in
    let target : next_target g.given.about.settings g.given.about.plan c.args.frame.now.phase c.args.frame.now ≡ Part c.args.place = search rules in
    can_put_back (about_of g.M.PageMaker.told) inner_of c.args.self.now.hall g.given pool.hall.made pool.hall.pool c.args.seat.now c.take.new.seat c.take.ensures.taken c.args.frame.now driven c.args.place c.take.ensures.place target c.part-held.result.now c.part-held.ensures.value c.args.self.now.settings c.args.self.now.plan pool.settings pool.plan (record { part = c.step_part.new.part; origin = c.part-held.result.now.origin }) refl c.step_part.new.frame c.step_part.new.outcome c.step_part.ensures.row c.counts_fit.ensures

pub returns-clause-driven : goal.returns-clause-driven
returns-clause-driven g c =
    let pool : IsSharedOf g.M.PageMaker.told g.given.about c.args.self.now = search rules in
    let driven : IsDriven (length (made_with c.args.self.now.hall)) g.given (view c.args.seat.now) c.args.frame.now None = search rules in
    let target : next_target g.given.about.settings g.given.about.plan c.args.frame.now.phase c.args.frame.now ≡ Part c.args.place = search rules in
    driven_after (about_of g.M.PageMaker.told) inner_of c.args.self.now.hall g.given pool.hall.made pool.hall.pool c.args.seat.now c.take.new.seat c.take.ensures.taken c.args.frame.now driven c.args.place c.take.ensures.place target c.part-held.result.now c.part-held.ensures.value c.args.self.now.settings c.args.self.now.plan pool.settings pool.plan (record { part = c.step_part.new.part; origin = c.part-held.result.now.origin }) refl c.step_part.new.frame c.step_part.new.outcome c.step_part.ensures.row c.counts_fit.ensures c.put.new.seat c.put.ensures.view

pub returns-clause-sees : goal.returns-clause-sees
returns-clause-sees g c =
    let pool : IsSharedOf g.M.PageMaker.told g.given.about c.args.self.now = search rules in
    let driven : IsDriven (length (made_with c.args.self.now.hall)) g.given (view c.args.seat.now) c.args.frame.now None = search rules in
    let target : next_target g.given.about.settings g.given.about.plan c.args.frame.now.phase c.args.frame.now ≡ Part c.args.place = search rules in
    sees_after (about_of g.M.PageMaker.told) inner_of c.args.self.now.hall g.given pool.hall.made pool.hall.pool c.args.seat.now c.take.new.seat c.take.ensures.taken c.args.frame.now driven c.args.place c.take.ensures.place target c.part-held.result.now c.part-held.ensures.value c.args.self.now.settings c.args.self.now.plan pool.settings pool.plan (record { part = c.step_part.new.part; origin = c.part-held.result.now.origin }) refl c.step_part.new.frame c.step_part.new.outcome c.step_part.ensures.row c.counts_fit.ensures c.put.new.seat c.put.ensures.view

pub returns-clause-beside : goal.returns-clause-beside
returns-clause-beside g c =
    let pool : IsSharedOf g.M.PageMaker.told g.given.about c.args.self.now = search rules in
    let driven : IsDriven (length (made_with c.args.self.now.hall)) g.given (view c.args.seat.now) c.args.frame.now None = search rules in
    let target : next_target g.given.about.settings g.given.about.plan c.args.frame.now.phase c.args.frame.now ≡ Part c.args.place = search rules in
    beside_after (about_of g.M.PageMaker.told) inner_of c.args.self.now.hall g.given pool.hall.made pool.hall.pool c.args.seat.now c.take.new.seat c.take.ensures.taken c.args.frame.now driven c.args.place c.take.ensures.place target c.part-held.result.now c.part-held.ensures.value c.args.self.now.settings c.args.self.now.plan pool.settings pool.plan (record { part = c.step_part.new.part; origin = c.part-held.result.now.origin }) refl c.step_part.new.frame c.step_part.new.outcome c.step_part.ensures.row c.counts_fit.ensures c.put.new.seat c.put.ensures.view

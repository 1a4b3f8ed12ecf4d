use Rattle.std.proofs.Common.{◌≡◌, length, refl, rules, ap, None}
use Rattle.pool_limits.specs.Exchanges.{Exchanged}
use Rattle.pool_hall.specs.Seat.{made_with, view}
use Rattle.pool_alloc.specs.Targets.{next_target}
use Rattle.pool_alloc.specs.declared.step.targets.Target.TheVariants.{Part, Up, Down, Alone}
use Rattle.pool_driver.specs.Driving.{IsDriven}
use Rattle.pool_driver.specs.Origins.{about_of, inner_of}
use Rattle.pool_driver.specs.Pools.{IsSharedOf}
use Rattle.pool_driver.proofs.Finding.{can_find_next, can_find_over, target_is}
use Rattle.pool_driver.proofs.Hearing.{is_alone, sees_for}
use Rattle.pool_driver.proofs.MomentsBeside.{beside_for}
use Rattle.pool_driver.proofs.SeatsDriven.{can_step_alone, driven_after_alone, beside_after_alone, sees_after_alone}
use Rattle.pool_driver.proofs.steps.SharedPool+PoolHall+P+H+M.step.Goals as goal

pub next_target-requires : goal.next_target-requires
next_target-requires g c =
    let pool : IsSharedOf g.M.PageMaker.told g.given.about c.args.self.now = search rules in
    let driven : IsDriven (length (made_with c.args.self.now.hall)) g.given (view c.args.seat.now) c.args.frame.now None = search rules in
    record { can = can_find_over g.given.about c.args.frame.now c.args.self.now.settings c.args.self.now.plan pool.settings pool.plan (can_find_next (length (made_with c.args.self.now.hall)) g.given (view c.args.seat.now) c.args.frame.now driven) }

pub step_alone-requires-clause-can : goal.step_alone-requires-clause-can
step_alone-requires-clause-can g c =
    let pool : IsSharedOf g.M.PageMaker.told g.given.about c.args.self.now = search rules in
    let driven : IsDriven (length (made_with c.args.self.now.hall)) g.given (view c.args.seat.now) c.args.frame.now None = search rules in
    let target : next_target g.given.about.settings g.given.about.plan c.args.frame.now.phase c.args.frame.now ≡ Alone = target_is g.given.about c.args.frame.now c.args.self.now.settings c.args.self.now.plan pool.settings pool.plan c.next_target.result _ c.next_target.ensures.value c.in-Alone.is in
    can_step_alone (length (made_with c.args.self.now.hall)) g.given (view c.args.seat.now) c.args.frame.now driven c.args.self.now.settings c.args.self.now.plan pool.settings pool.plan target

pub returns-in-Part-clause-sees : goal.returns-in-Part-clause-sees
returns-in-Part-clause-sees g c =
    let pool : IsSharedOf g.M.PageMaker.told g.given.about c.args.self.now = search rules in
    let target : next_target g.given.about.settings g.given.about.plan c.args.frame.now.phase c.args.frame.now ≡ Part c.in-Part.place = target_is g.given.about c.args.frame.now c.args.self.now.settings c.args.self.now.plan pool.settings pool.plan c.next_target.result _ c.next_target.ensures.value c.in-Part.is in
    sees_for (about_of g.M.PageMaker.told) inner_of _ refl _ g.given.about (view c.args.seat.now) (view c.step_at.new.seat) c.args.frame.now c.step_at.new.frame c.step_at.new.outcome (ap is_alone target) c.step_at.ensures.sees

pub returns-in-Up-clause-sees : goal.returns-in-Up-clause-sees
returns-in-Up-clause-sees g c =
    let pool : IsSharedOf g.M.PageMaker.told g.given.about c.args.self.now = search rules in
    let target : next_target g.given.about.settings g.given.about.plan c.args.frame.now.phase c.args.frame.now ≡ Up c.in-Up.name = target_is g.given.about c.args.frame.now c.args.self.now.settings c.args.self.now.plan pool.settings pool.plan c.next_target.result _ c.next_target.ensures.value c.in-Up.is in
    sees_for (about_of g.M.PageMaker.told) inner_of _ refl _ g.given.about (view c.args.seat.now) (view c.step_up.new.seat) c.args.frame.now c.step_up.new.frame c.step_up.new.outcome (ap is_alone target) c.step_up.ensures.sees

pub returns-in-Down-clause-sees : goal.returns-in-Down-clause-sees
returns-in-Down-clause-sees g c =
    let pool : IsSharedOf g.M.PageMaker.told g.given.about c.args.self.now = search rules in
    let target : next_target g.given.about.settings g.given.about.plan c.args.frame.now.phase c.args.frame.now ≡ Down c.in-Down.name = target_is g.given.about c.args.frame.now c.args.self.now.settings c.args.self.now.plan pool.settings pool.plan c.next_target.result _ c.next_target.ensures.value c.in-Down.is in
    sees_for (about_of g.M.PageMaker.told) inner_of _ refl _ g.given.about (view c.args.seat.now) (view c.step_down.new.seat) c.args.frame.now c.step_down.new.frame c.step_down.new.outcome (ap is_alone target) c.step_down.ensures.sees

pub returns-in-Alone-clause-driven : goal.returns-in-Alone-clause-driven
returns-in-Alone-clause-driven g c =
    let pool : IsSharedOf g.M.PageMaker.told g.given.about c.args.self.now = search rules in
    let driven : IsDriven (length (made_with c.args.self.now.hall)) g.given (view c.args.seat.now) c.args.frame.now None = search rules in
    let target : next_target g.given.about.settings g.given.about.plan c.args.frame.now.phase c.args.frame.now ≡ Alone = target_is g.given.about c.args.frame.now c.args.self.now.settings c.args.self.now.plan pool.settings pool.plan c.next_target.result _ c.next_target.ensures.value c.in-Alone.is in
    driven_after_alone (length (made_with c.args.self.now.hall)) g.given (view c.args.seat.now) c.args.frame.now driven c.args.self.now.settings c.args.self.now.plan pool.settings pool.plan target (λ passed. Exchanged g.L.ResourceLimiter.leads passed c.args.limiter.now c.step_alone.new.limiter) _ _ c.step_alone.new.frame c.step_alone.new.outcome c.step_alone.ensures.row

pub returns-in-Alone-clause-sees : goal.returns-in-Alone-clause-sees
returns-in-Alone-clause-sees g c =
    let pool : IsSharedOf g.M.PageMaker.told g.given.about c.args.self.now = search rules in
    let driven : IsDriven (length (made_with c.args.self.now.hall)) g.given (view c.args.seat.now) c.args.frame.now None = search rules in
    let target : next_target g.given.about.settings g.given.about.plan c.args.frame.now.phase c.args.frame.now ≡ Alone = target_is g.given.about c.args.frame.now c.args.self.now.settings c.args.self.now.plan pool.settings pool.plan c.next_target.result _ c.next_target.ensures.value c.in-Alone.is in
    sees_after_alone (length (made_with c.args.self.now.hall)) g.given (view c.args.seat.now) c.args.frame.now driven c.args.self.now.settings c.args.self.now.plan pool.settings pool.plan target _ _ _ c.step_alone.new.frame c.step_alone.new.outcome c.step_alone.ensures.row (about_of g.M.PageMaker.told) inner_of

pub returns-in-Part-clause-beside : goal.returns-in-Part-clause-beside
returns-in-Part-clause-beside g c =
    let pool : IsSharedOf g.M.PageMaker.told g.given.about c.args.self.now = search rules in
    let target : next_target g.given.about.settings g.given.about.plan c.args.frame.now.phase c.args.frame.now ≡ Part c.in-Part.place = target_is g.given.about c.args.frame.now c.args.self.now.settings c.args.self.now.plan pool.settings pool.plan c.next_target.result _ c.next_target.ensures.value c.in-Part.is in
    beside_for _ refl _ g.given c.args.frame.now c.step_at.new.frame c.step_at.new.outcome (ap is_alone target) c.step_at.ensures.beside

pub returns-in-Up-clause-beside : goal.returns-in-Up-clause-beside
returns-in-Up-clause-beside g c =
    let pool : IsSharedOf g.M.PageMaker.told g.given.about c.args.self.now = search rules in
    let target : next_target g.given.about.settings g.given.about.plan c.args.frame.now.phase c.args.frame.now ≡ Up c.in-Up.name = target_is g.given.about c.args.frame.now c.args.self.now.settings c.args.self.now.plan pool.settings pool.plan c.next_target.result _ c.next_target.ensures.value c.in-Up.is in
    beside_for _ refl _ g.given c.args.frame.now c.step_up.new.frame c.step_up.new.outcome (ap is_alone target) c.step_up.ensures.beside

pub returns-in-Down-clause-beside : goal.returns-in-Down-clause-beside
returns-in-Down-clause-beside g c =
    let pool : IsSharedOf g.M.PageMaker.told g.given.about c.args.self.now = search rules in
    let target : next_target g.given.about.settings g.given.about.plan c.args.frame.now.phase c.args.frame.now ≡ Down c.in-Down.name = target_is g.given.about c.args.frame.now c.args.self.now.settings c.args.self.now.plan pool.settings pool.plan c.next_target.result _ c.next_target.ensures.value c.in-Down.is in
    beside_for _ refl _ g.given c.args.frame.now c.step_down.new.frame c.step_down.new.outcome (ap is_alone target) c.step_down.ensures.beside

pub returns-in-Alone-clause-beside : goal.returns-in-Alone-clause-beside
returns-in-Alone-clause-beside g c =
    let pool : IsSharedOf g.M.PageMaker.told g.given.about c.args.self.now = search rules in
    let driven : IsDriven (length (made_with c.args.self.now.hall)) g.given (view c.args.seat.now) c.args.frame.now None = search rules in
    let target : next_target g.given.about.settings g.given.about.plan c.args.frame.now.phase c.args.frame.now ≡ Alone = target_is g.given.about c.args.frame.now c.args.self.now.settings c.args.self.now.plan pool.settings pool.plan c.next_target.result _ c.next_target.ensures.value c.in-Alone.is in
    beside_after_alone (length (made_with c.args.self.now.hall)) g.given (view c.args.seat.now) c.args.frame.now driven c.args.self.now.settings c.args.self.now.plan pool.settings pool.plan target (λ passed. Exchanged g.L.ResourceLimiter.leads passed c.args.limiter.now c.step_alone.new.limiter) _ _ c.step_alone.new.frame c.step_alone.new.outcome c.step_alone.ensures.row

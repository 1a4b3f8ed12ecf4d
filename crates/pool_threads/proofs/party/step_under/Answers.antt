use Rattle.std.proofs.Common.{◌≡◌, Option, Some, None, length, refl, rules, sym, ap, subst}
use Rattle.pool_limits.specs.Growth.{GrowthLimits, always, limited_by}
use Rattle.pool_driver.specs.Origins.{about_of, inner_of}
use Rattle.pool_hall.specs.Seat.{made_with, view, IsFree, IsSeatOf}
use Rattle.pool_driver.specs.Driving.{IsDriven}
use Rattle.pool_driver.specs.Pools.{IsSharedOf}
use Rattle.pool_run.specs.PartyRules.{growth_of, rule_of}
use Rattle.pool_run.specs.declared.input.PartyLimits.{PartyLimits}
use Rattle.pool_threads.specs.Working.{StandsSomewhere, StepsHere}
use Rattle.pool_threads.proofs.StepsHere.{steps_here, tells_on}
use Rattle.pool_threads.proofs.party.step_under.Goals as goal

pub step-requires : goal.step-requires
step-requires g c κs within =
    let pool : IsSharedOf g.M.PageMaker.told g.given.about c.args.pool.now = search rules in
    let own : IsSeatOf c.args.pool.now.hall c.args.seat.now = search rules in
    let free : IsFree c.args.seat.now = search rules in
    let driven : IsDriven (length (made_with c.args.pool.now.hall)) g.given (view c.args.seat.now) c.args.frame.now None = search rules in
    search rules

pub step-requires-in-Some : goal.step-requires-in-Some
step-requires-in-Some g c κs within =
    let pool : IsSharedOf g.M.PageMaker.told g.given.about c.args.pool.now = search rules in
    let own : IsSeatOf c.args.pool.now.hall c.args.seat.now = search rules in
    let free : IsFree c.args.seat.now = search rules in
    let driven : IsDriven (length (made_with c.args.pool.now.hall)) g.given (view c.args.seat.now) c.args.frame.now None = search rules in
    let none : c.args.outcome.now ≡ None = search rules in
    (search rules, (search rules, (search rules, (search rules, (search rules, (search rules, (search rules, (pool, (own, (free, (driven, none)))))))))))

pub returns-in-None-clause-steps : goal.returns-in-None-clause-steps
returns-in-None-clause-steps g c =
    let somewhere : StandsSomewhere g.given c.args.frame.now = search rules in
    subst (λ (l : Option PartyLimits). StepsHere g.given (rule_of l) c.args.heaps.now c.step.new.heaps c.args.frame.now c.step.new.frame c.step.new.outcome) (sym c.in-None.is)
    (steps_here _ g.given always c.args.heaps.now c.step.new.heaps _ _ c.args.frame.now c.step.new.frame c.step.new.outcome somewhere c.step.ensures.beside refl refl refl)

pub returns-in-None-clause-tells : goal.returns-in-None-clause-tells
returns-in-None-clause-tells g c =
    let driven : IsDriven (length (made_with c.args.pool.now.hall)) g.given (view c.args.seat.now) c.args.frame.now None = search rules in
    tells_on (about_of g.M.PageMaker.told) inner_of _ _ _ g.given.about (view c.args.seat.now) (view c.step.new.seat) c.args.frame.now c.step.new.frame c.step.new.outcome c.step.ensures.sees driven.keeps

pub returns-in-Some-clause-steps : goal.returns-in-Some-clause-steps
returns-in-Some-clause-steps g c =
    let somewhere : StandsSomewhere g.given c.args.frame.now = search rules in
    subst (λ (l : Option PartyLimits). StepsHere g.given (rule_of l) c.args.heaps.now c.step-in-Some.new.heaps c.args.frame.now c.step-in-Some.new.frame c.step-in-Some.new.outcome) (sym c.in-Some.is)
    (steps_here _ g.given (limited_by (growth_of c.in-Some.limits)) c.args.heaps.now c.step-in-Some.new.heaps _ _ c.args.frame.now c.step-in-Some.new.frame c.step-in-Some.new.outcome somewhere c.step-in-Some.ensures.beside (ap (λ (x : GrowthLimits). Some (limited_by x)) c.limiter_of-limiter.ensures) refl refl)

pub returns-in-Some-clause-tells : goal.returns-in-Some-clause-tells
returns-in-Some-clause-tells g c =
    let driven : IsDriven (length (made_with c.args.pool.now.hall)) g.given (view c.args.seat.now) c.args.frame.now None = search rules in
    tells_on (about_of g.M.PageMaker.told) inner_of _ _ _ g.given.about (view c.args.seat.now) (view c.step-in-Some.new.seat) c.args.frame.now c.step-in-Some.new.frame c.step-in-Some.new.outcome c.step-in-Some.ensures.sees driven.keeps

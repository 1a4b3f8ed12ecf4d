use Rattle.std.proofs.Common.{◌≡◌, length, rules, subst, sym, ◌∙◌, Option, None}
use Rattle.pool_hall.specs.Seat.{made_with, view}
use Rattle.pool_limits.specs.Exchanges.{Exchanged}
use Rattle.pool_alloc.specs.CallStages.{stage_of}
use Rattle.pool_alloc.specs.PartyTold.{PartyTold}
use Rattle.pool_alloc.specs.declared.frame.Outcome.{Outcome}
use Rattle.pool_driver.specs.Calling.{Becomes, CallKind, GoesOnSince, kind_at}
use Rattle.pool_driver.specs.Driving.{IsDriven}
use Rattle.pool_driver.specs.Origins.{about_of, inner_of}
use Rattle.pool_driver.specs.Pools.{IsSharedOf}
use Rattle.pool_driver.proofs.Appending.{asks_has}
use Rattle.pool_driver.proofs.Asking.{call_asks_on, call_has_asked, call_has_wanted}
use Rattle.pool_driver.proofs.Calling.{goes_on, has_ended}
use Rattle.pool_driver.proofs.calls.SharedPool+PoolHall+P+H+M.run.Goals as goal

pub step-requires : goal.step-requires
step-requires g c κs within =
    let pool : IsSharedOf g.M.PageMaker.told g.given.about c.args.self.now = search rules in
    let own = c.loop.invariant.own in
    let free = c.loop.invariant.free in
    let driven = c.loop.invariant.driven in
    let none = c.loop.invariant.unanswered in
    search rules

pub returns-in-Some-take-clause-ended : goal.returns-in-Some-take-clause-ended
returns-in-Some-take-clause-ended g c =
    has_ended (about_of g.M.PageMaker.told) inner_of _ _ _ g.given.about (view c.args.seat.now) (view c.loop.seat) (view c.step.new.seat) c.args.frame.now c.loop.frame c.step.new.frame c.step.new.outcome c.loop.invariant.goes c.step.ensures.sees c.loop.invariant.driven.keeps c.in-Some-take.answer (sym c.take.ensures.value ∙ c.in-Some-take.is)

pub returns-in-Some-take-clause-asked : goal.returns-in-Some-take-clause-asked
returns-in-Some-take-clause-asked g c =
    call_has_asked (about_of g.M.PageMaker.told) inner_of g.L.ResourceLimiter.leads c.args.limiter.now c.loop.limiter c.step.new.limiter _ _ _ g.given.about (view c.loop.seat) (view c.step.new.seat) c.args.frame.now c.loop.frame c.step.new.frame c.step.new.outcome c.loop.invariant.asked c.step.ensures.sees c.in-Some-take.answer (sym c.take.ensures.value ∙ c.in-Some-take.is) c.loop.invariant.goes.asked

pub returns-in-Some-take-clause-wants : goal.returns-in-Some-take-clause-wants
returns-in-Some-take-clause-wants g c = λ was.
    let k : CallKind = kind_at (stage_of c.loop.frame) in
    let has = asks_has k (subst (λ (z : CallKind). Becomes z k) was c.loop.invariant.goes.kind) in
    call_has_wanted (about_of g.M.PageMaker.told) inner_of g.L.ResourceLimiter.leads c.args.limiter.now c.loop.limiter c.step.new.limiter _ _ _ g.given.about (view c.loop.seat) (view c.step.new.seat) c.args.frame.now c.loop.frame c.step.new.frame c.step.new.outcome c.loop.invariant.asked c.step.ensures.sees c.in-Some-take.answer (sym c.take.ensures.value ∙ c.in-Some-take.is) c.loop.invariant.goes.asked
    c.loop.invariant.goes.sort has.1

pub loop-preserved : goal.loop-preserved
loop-preserved g c =
    let none : c.take.result ≡ None = search rules in
    let left : c.step.new.outcome ≡ None = sym c.take.ensures.value ∙ none in
    let first : PartyTold = record { limiter = g.L.ResourceLimiter.told c.args.limiter.now; heaps = g.K.HeapMaker.told c.args.heaps.now } in
    let before : PartyTold = record { limiter = g.L.ResourceLimiter.told c.loop.limiter; heaps = g.K.HeapMaker.told c.loop.heaps } in
    let after : PartyTold = record { limiter = g.L.ResourceLimiter.told c.step.new.limiter; heaps = g.K.HeapMaker.told c.step.new.heaps } in
    let goes : GoesOnSince g.given.about (view c.args.seat.now) (view c.step.new.seat) c.args.frame.now c.step.new.frame =
    goes_on (about_of g.M.PageMaker.told) inner_of (λ passed. Exchanged g.L.ResourceLimiter.leads passed c.loop.limiter c.step.new.limiter) before after g.given.about (view c.args.seat.now) (view c.loop.seat) (view c.step.new.seat) c.args.frame.now c.loop.frame c.step.new.frame c.step.new.outcome c.loop.invariant.goes c.step.ensures.sees c.loop.invariant.driven.keeps left in
    record {
      own = c.step.ensures.own;
      free = c.step.ensures.free;
      unanswered = c.take.ensures.after;
      driven = subst (λ (o : Option (Outcome g.row.P.Denot g.row.H.Denot)). IsDriven (length (made_with c.args.self.now.hall)) g.given (view c.step.new.seat) c.step.new.frame o) left c.step.ensures.driven;
      goes = goes;
      asked = call_asks_on (about_of g.M.PageMaker.told) inner_of g.L.ResourceLimiter.leads c.args.limiter.now c.loop.limiter c.step.new.limiter first before after g.given.about (view c.loop.seat) (view c.step.new.seat) c.args.frame.now c.loop.frame c.step.new.frame c.step.new.outcome c.loop.invariant.asked c.step.ensures.sees left (goes.asked ∙ sym c.loop.invariant.goes.asked) c.loop.invariant.goes.sort;
    }

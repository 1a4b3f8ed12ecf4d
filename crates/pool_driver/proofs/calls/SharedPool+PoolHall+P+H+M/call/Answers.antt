use Rattle.std.proofs.Common.{◌≡◌, length, rules, ap, subst, sym, ◌∙◌, None}
use Rattle.pool_hall.specs.Seat.{made_with, view, IsSeatOf}
use Rattle.pool_alloc.specs.CallStages.{stage_of}
use Rattle.pool_alloc.specs.Calls.{MayBegin}
use Rattle.pool_alloc.specs.PartyTold.{PartyTold}
use Rattle.pool_alloc.specs.StepReads.{heaps_wanted}
use Rattle.pool_alloc.specs.declared.frame.Frame.{Frame}
use Rattle.pool_driver.specs.Asking.{AnsweredAfter, AskedSince, AsksNobody, HasAsked, IfRefused, WantsOfMaker}
use Rattle.pool_driver.specs.Calling.{CallKind, GoesOnSince, MayAnswer, asks_for, brought, kind_at, kind_of}
use Rattle.pool_driver.specs.Driving.{IsDriven}
use Rattle.pool_driver.specs.Pools.{IsSharedOf}
use Rattle.pool_driver.specs.Refusing.{MayEnd}
use Rattle.pool_driver.proofs.Asking.{asked_begun, call_asked}
use Rattle.pool_driver.proofs.OverWants.{call_wants}
use Rattle.pool_driver.proofs.Calling.{answers_call, begun_kind, driven_begun, goes_begun, none_had, rested}
use Rattle.pool_driver.proofs.calls.SharedPool+PoolHall+P+H+M.call.Goals as goal

pub run-requires : goal.run-requires
run-requires g c κs within =
    let pool : IsSharedOf g.M.PageMaker.told g.given.about c.args.self.now = search rules in
    let own : IsSeatOf c.args.self.now.hall c.args.seat.now = search rules in
    let may : MayBegin g.given.about.maker g.given.about.settings g.given.about.plan c.args.call c.args.frame.now = search rules in
    let had : IsDriven (length (made_with c.args.self.now.hall)) g.given (view c.args.seat.now) c.args.frame.now (brought c.args.call) = search rules in
    let driven : IsDriven (length (made_with c.args.self.now.hall)) g.given (view c.args.seat.now) c.begin.new.self None =
    subst (λ (f : Frame g.row.P.Denot g.row.H.Denot). IsDriven (length (made_with c.args.self.now.hall)) g.given (view c.args.seat.now) f None) (sym c.begin.ensures.value) (driven_begun (length (made_with c.args.self.now.hall)) g.given (view c.args.seat.now) c.args.frame.now c.args.call had may) in
    let goes : GoesOnSince g.given.about (view c.args.seat.now) (view c.args.seat.now) c.begin.new.self c.begin.new.self =
    subst (λ (f : Frame g.row.P.Denot g.row.H.Denot). GoesOnSince g.given.about (view c.args.seat.now) (view c.args.seat.now) f f) (sym c.begin.ensures.value) (goes_begun g.given.about (view c.args.seat.now) c.args.call c.args.frame.now (own.limits ∙ pool.hall.limits) (rested (length (made_with c.args.self.now.hall)) g.given (view c.args.seat.now) c.args.frame.now c.args.call had may)) in
    let told : PartyTold = record { limiter = g.L.ResourceLimiter.told c.args.limiter.now; heaps = g.K.HeapMaker.told c.args.heaps.now } in
    let unasked : AskedSince g.L.ResourceLimiter.leads c.args.limiter.now c.args.limiter.now told told c.begin.new.self c.begin.new.self =
    subst (λ (f : Frame g.row.P.Denot g.row.H.Denot). AskedSince g.L.ResourceLimiter.leads c.args.limiter.now c.args.limiter.now told told f f) (sym c.begin.ensures.value) (asked_begun g.L.ResourceLimiter.leads c.args.limiter.now told c.args.call c.args.frame.now (none_had (length (made_with c.args.self.now.hall)) g.given (view c.args.seat.now) c.args.frame.now c.args.call had may)) in
    search rules

pub returns-clause-kind : goal.returns-clause-kind
returns-clause-kind g c =
    let start : kind_at (stage_of c.begin.new.self) ≡ kind_of c.args.call = ap (λ (f : Frame g.row.P.Denot g.row.H.Denot). kind_at (stage_of f)) c.begin.ensures.value ∙ begun_kind c.args.call c.args.frame.now in
    subst (λ (k : CallKind). MayAnswer k c.run.result) start c.run.ensures.ended.kind

pub returns-clause-answers : goal.returns-clause-answers
returns-clause-answers g c =
    let start : kind_at (stage_of c.begin.new.self) ≡ kind_of c.args.call = ap (λ (f : Frame g.row.P.Denot g.row.H.Denot). kind_at (stage_of f)) c.begin.ensures.value ∙ begun_kind c.args.call c.args.frame.now in
    answers_call g.given.about.settings g.given.about.plan c.args.call c.args.frame.now c.run.result
    (subst (λ (k : CallKind). MayAnswer k c.run.result) start c.run.ensures.ended.kind)
    (subst (λ (f : Frame g.row.P.Denot g.row.H.Denot). MayEnd g.given.about.settings g.given.about.plan f.asked (stage_of f) c.run.result) {x = c.begin.new.self} c.begin.ensures.value c.run.ensures.ended.ends)

pub returns-clause-asked : goal.returns-clause-asked
returns-clause-asked g c =
    let old : PartyTold = record { limiter = g.L.ResourceLimiter.told c.args.limiter.now; heaps = g.K.HeapMaker.told c.args.heaps.now } in
    let new : PartyTold = record { limiter = g.L.ResourceLimiter.told c.run.new.limiter; heaps = g.K.HeapMaker.told c.run.new.heaps } in
    call_asked g.L.ResourceLimiter.leads c.args.limiter.now c.run.new.limiter old new c.args.call c.args.frame.now c.run.result
    (subst (λ (f : Frame g.row.P.Denot g.row.H.Denot). HasAsked g.L.ResourceLimiter.leads (AsksNobody (stage_of f)) (heaps_wanted f.asked ≡ 1) (AnsweredAfter f.asked c.run.result) c.args.limiter.now c.run.new.limiter old new c.run.result) {x = c.begin.new.self} c.begin.ensures.value c.run.ensures.asked)

pub returns-clause-wants : goal.returns-clause-wants
returns-clause-wants g c =
    call_wants c.args.call c.args.frame.now c.run.result (g.K.HeapMaker.told c.args.heaps.now) (g.K.HeapMaker.told c.run.new.heaps)
    (subst (λ (f : Frame g.row.P.Denot g.row.H.Denot). kind_at (stage_of f) ≡ asks_for → IfRefused (WantsOfMaker g.row.H.Denot f.asked (g.K.HeapMaker.told c.args.heaps.now) (g.K.HeapMaker.told c.run.new.heaps)) c.run.result) {x = c.begin.new.self} c.begin.ensures.value c.run.ensures.wants)

use Rattle.std.proofs.Common.{◌≡◌, length, rules, refl, ap, subst, sym, ◌∙◌, None, Some}
use Rattle.pool_hall.specs.Seat.{made_with, view, IsFree, IsSeatOf}
use Rattle.pool_slots.specs.declared.listed_heaps.PlainHeap.{PlainHeap}
use Rattle.pool_alloc.specs.CallStages.{stage_of}
use Rattle.pool_alloc.specs.Calls.{IsGrant, IsIdle}
use Rattle.pool_alloc.specs.declared.frame.Call.TheVariants as call
use Rattle.pool_alloc.specs.declared.frame.Frame.{Frame}
use Rattle.pool_alloc.specs.declared.frame.Outcome.TheVariants.{Granted}
use Rattle.pool_alloc.proofs.BegunFrames.{at_rest}
use Rattle.pool_driver.specs.Calling.{CallKind, GoesOnSince, MayAnswer, gives_back, kind_at}
use Rattle.pool_driver.specs.Driving.{IsDriven}
use Rattle.pool_driver.specs.Pools.{IsSharedOf}
use Rattle.pool_driver.proofs.Calling.{begun_kind, driven_begun, goes_begun}
use Rattle.pool_threads.specs.Working.{about_job, given_by}
use Rattle.pool_workers.proofs.Driving.{driven_returned}
use Rattle.pool_workers.proofs.Sparing.{back_spares}
use Rattle.pool_workers.proofs.joins.give_back.Goals as goal

pub finish_call-requires : goal.finish_call-requires
finish_call-requires g c κs within =
    let pool : IsSharedOf g.M.PageMaker.told (about_job g.job) c.args.pool.now = search rules in
    let own : IsSeatOf c.args.pool.now.hall c.args.seat.now = search rules in
    let free : IsFree c.args.seat.now = search rules in
    let idle : IsIdle c.args.party.now.frame = search rules in
    let is : IsGrant g.job.world.maker g.job.settings g.job.plan c.args.grant = search rules in
    let had : IsDriven (length (made_with c.args.pool.now.hall)) (given_by g.job c.args.party.now.live) (view c.args.seat.now) c.args.party.now.frame (Some (Granted c.args.grant)) = search rules in
    let driven : IsDriven (length (made_with c.args.pool.now.hall)) (given_by g.job c.args.party.now.live) (view c.args.seat.now) c.begin.new.self None =
    subst (λ (f : Frame g.row.P.Denot PlainHeap). IsDriven (length (made_with c.args.pool.now.hall)) (given_by g.job c.args.party.now.live) (view c.args.seat.now) f None) (sym c.begin.ensures.value)
    (driven_begun (length (made_with c.args.pool.now.hall)) (given_by g.job c.args.party.now.live) (view c.args.seat.now) c.args.party.now.frame (call.GiveBack c.args.grant) had (idle, is)) in
    let begun : GoesOnSince (about_job g.job) (view c.args.seat.now) (view c.args.seat.now) c.begin.new.self c.begin.new.self =
    subst (λ (f : Frame g.row.P.Denot PlainHeap). GoesOnSince (about_job g.job) (view c.args.seat.now) (view c.args.seat.now) f f) (sym c.begin.ensures.value)
    (goes_begun (about_job g.job) (view c.args.seat.now) (call.GiveBack c.args.grant) c.args.party.now.frame (own.limits ∙ pool.hall.limits) (at_rest g.job.world.maker g.job.settings g.job.plan c.args.party.now.frame had.frame idle)) in
    (search rules, (search rules, (search rules, (search rules, (pool, (own, (free, (driven, begun))))))))

pub returns-clause-idle : goal.returns-clause-idle
returns-clause-idle g c =
    c.finish_call.ensures.ended.idle

pub returns-clause-driven : goal.returns-clause-driven
returns-clause-driven g c =
    let start : kind_at (stage_of c.begin.new.self) ≡ gives_back = ap (λ (f : Frame g.row.P.Denot PlainHeap). kind_at (stage_of f)) c.begin.ensures.value ∙ begun_kind (call.GiveBack c.args.grant) c.args.party.now.frame in
    driven_returned (length (made_with c.args.pool.now.hall)) (given_by g.job c.args.party.now.live) (view c.finish_call.new.seat) c.finish_call.new.party.frame c.finish_call.result
    (subst (λ (k : CallKind). MayAnswer k c.finish_call.result) start c.finish_call.ensures.ended.kind) c.finish_call.ensures.driven

pub returns-clause-spares : goal.returns-clause-spares
returns-clause-spares g c =
    let start : kind_at (stage_of c.begin.new.self) ≡ gives_back = ap (λ (f : Frame g.row.P.Denot PlainHeap). kind_at (stage_of f)) c.begin.ensures.value ∙ begun_kind (call.GiveBack c.args.grant) c.args.party.now.frame in
    back_spares (about_job g.job) (view c.args.seat.now) (view c.finish_call.new.seat) c.begin.new.self c.finish_call.new.party.frame c.finish_call.result start c.finish_call.ensures.ended c.finish_call.ensures.grows

use Rattle.std.proofs.Common.{◌≡◌, length, rules, refl, ap, subst, sym, ◌∙◌, All, IfSome, List, Option, None, Some, slice_index_or, slice_set}
use Rattle.pool_hall.specs.Seat.{made_with, view, IsFree, IsSeatOf}
use Rattle.pool_slots.specs.declared.listed_heaps.PlainHeap.{PlainHeap}
use Rattle.pool_alloc.specs.Calls.{IsGrant, IsIdle}
use Rattle.pool_alloc.specs.declared.frame.Grant.{Grant}
use Rattle.pool_alloc.specs.declared.frame.Outcome.TheVariants.{Granted}
use Rattle.pool_driver.specs.Driving.{IsDriven}
use Rattle.pool_driver.specs.Faults.{GrantKeeps}
use Rattle.pool_driver.specs.Pools.{IsSharedOf}
use Rattle.pool_run.proofs.Parties.{live_grant}
use Rattle.pool_threads.specs.Working.{about_job, given_by}
use Rattle.pool_workers.proofs.Driving.{brought_back, set_none}
use Rattle.pool_workers.proofs.Sparing.{spares_still}
use Rattle.pool_workers.proofs.joins.give_back_at.Goals as goal

pub give_back-requires : goal.give_back-requires
give_back-requires g c κs within =
    let pool : IsSharedOf g.M.PageMaker.told (about_job g.job) c.args.pool.now = search rules in
    let own : IsSeatOf c.args.pool.now.hall c.args.seat.now = search rules in
    let free : IsFree c.args.seat.now = search rules in
    let idle : IsIdle c.args.party.now.frame = search rules in
    let has : slice_index_or c.args.party.now.live c.args.at None ≡ Some c.in-Some.grant = sym c.take.ensures.value ∙ c.in-Some.is in
    let grants : All (λ x. IfSome x (IsGrant g.job.world.maker g.job.settings g.job.plan)) c.args.party.now.live = search rules in
    let keeps : All (λ x. IfSome x GrantKeeps) c.args.party.now.live = search rules in
    let driven : IsDriven (length (made_with c.args.pool.now.hall)) (given_by g.job c.args.party.now.live) (view c.args.seat.now) c.args.party.now.frame None = search rules in
    let had : IsDriven (length (made_with c.args.pool.now.hall)) (given_by g.job c.take.new.self) (view c.args.seat.now) c.args.party.now.frame (Some (Granted c.in-Some.grant)) =
    subst (λ (live : List (Option (Grant g.row.P.Denot PlainHeap))). IsDriven (length (made_with c.args.pool.now.hall)) (given_by g.job live) (view c.args.seat.now) c.args.party.now.frame (Some (Granted c.in-Some.grant))) (sym c.take.ensures.rest)
    (brought_back g.job (length (made_with c.args.pool.now.hall)) (view c.args.seat.now) c.args.party.now.frame c.args.party.now.live c.args.at c.in-Some.grant has keeps driven) in
    (search rules, (search rules, (search rules, (search rules, (pool, (own, (free, (idle, (live_grant g.job.world.maker g.job.settings g.job.plan c.args.party.now.live c.args.at c.in-Some.grant grants has, had)))))))))

pub returns-in-None-clause-driven : goal.returns-in-None-clause-driven
returns-in-None-clause-driven g c =
    let none : slice_index_or c.args.party.now.live c.args.at None ≡ None = sym c.take.ensures.value ∙ c.in-None.is in
    let driven : IsDriven (length (made_with c.args.pool.now.hall)) (given_by g.job c.args.party.now.live) (view c.args.seat.now) c.args.party.now.frame None = search rules in
    subst (λ (live : List (Option (Grant g.row.P.Denot PlainHeap))). IsDriven (length (made_with c.args.pool.now.hall)) (given_by g.job live) (view c.args.seat.now) c.args.party.now.frame None)
    (sym (c.take.ensures.rest ∙ set_none c.args.party.now.live c.args.at none)) driven

pub returns-in-None-clause-spares : goal.returns-in-None-clause-spares
returns-in-None-clause-spares g c =
    spares_still g.job.plan (view c.args.seat.now)

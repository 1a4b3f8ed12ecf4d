use Rattle.std.proofs.Common.{◌≡◌, ℕ, ◌+◌, ◌≤◌, [], length, rules, refl, ap, subst, sym, ◌∙◌, All, IfSome, List, Option, None, Some}
use Rattle.pool_hall.specs.Seat.{made_with, view, IsFree, IsSeatOf}
use Rattle.pool_hall.specs.Step.{joined}
use Rattle.pool_hall.specs.Tally.{additions, low_additions, number}
use Rattle.pool_hall.specs.declared.view.View.{View}
use Rattle.pool_slots.specs.declared.listed_heaps.PlainHeap.{PlainHeap}
use Rattle.pool_alloc.specs.Calls.{IsGrant, IsIdle}
use Rattle.pool_driver.specs.Counts.{IsEven}
use Rattle.pool_driver.specs.Driving.{IsDriven}
use Rattle.pool_driver.specs.Faults.{GrantKeeps}
use Rattle.pool_driver.specs.declared.part.HallPart.{HallPart}
use Rattle.pool_run.specs.declared.reply.Reply.{Reply}
use Rattle.pool_threads.specs.Sharing.{IsGround, job_of}
use Rattle.pool_threads.specs.Working.{Job, given_by}
use Rattle.pool_workers.specs.Joined.{Joins}
use Rattle.pool_workers.specs.Sparing.{Spares}
use Rattle.pool_workers.specs.Workers.{HasWorked, IsBack}
use Rattle.pool_workers.proofs.Driving.{driven_joined, even_each}
use Rattle.pool_workers.proofs.JoinedOne.{joins_made}
use Rattle.pool_workers.proofs.joins.join_one.Goals as goal

pub give_back_all-requires : goal.give_back_all-requires
give_back_all-requires g c κs within =
    let told = g.M.PageMaker.told in
    let pool = c.args.pool.now in
    let j : Job = job_of told g.all.input pool in
    let ground : IsGround told g.all.input g.all.modules pool = search rules in
    let free : IsFree c.args.seat.now = search rules in
    let back : IsBack told g.all.input g.all.modules pool c.args.worker = search rules in
    let units : (view c.args.seat.now).units ≡ [] = search rules in
    let even : IsEven (view c.args.seat.now) = search rules in
    let worked : HasWorked told g.all.input g.all.modules pool c.args.worker c.in-Some.told = subst (λ (r : Option (List Reply)). IfSome r (HasWorked told g.all.input g.all.modules pool c.args.worker)) c.in-Some.is back.worked in
    let driven : IsDriven (length (made_with pool.hall)) (given_by j c.args.worker.party.live) (joined (view c.args.seat.now) (view c.args.worker.seat)) c.args.worker.party.frame None =
    driven_joined (length (made_with pool.hall)) (given_by j c.args.worker.party.live) (view c.args.seat.now) (view c.args.worker.seat) c.args.worker.party.frame None units (even_each (view c.args.seat.now) even) worked.work.driven in
    let here : IsDriven (length (made_with pool.hall)) (given_by j c.args.worker.party.live) (view c.join.new.seat) c.args.worker.party.frame None =
    subst (λ (v : View (HallPart g.row.P.Denot PlainHeap g.row.M.Denot)). IsDriven (length (made_with pool.hall)) (given_by j c.args.worker.party.live) v c.args.worker.party.frame None) (sym c.join.ensures.view) driven in
    (search rules, (search rules, (search rules, (search rules, (ground.shared, (c.join.ensures.own, (c.join.ensures.still_free free, (worked.idle, (here, (worked.work.keeps, worked.work.party.sound.grants))))))))))

pub returns-clause-joins : goal.returns-clause-joins
returns-clause-joins g c =
    let told = g.M.PageMaker.told in
    let pool = c.args.pool.now in
    let back : IsBack told g.all.input g.all.modules pool c.args.worker = search rules in
    let lower : (k : ℕ) → number (low_additions k) (view c.args.seat.now) ≤ number (additions k) (view c.args.seat.now) = search rules in
    let worked : HasWorked told g.all.input g.all.modules pool c.args.worker c.in-Some.told = subst (λ (r : Option (List Reply)). IfSome r (HasWorked told g.all.input g.all.modules pool c.args.worker)) c.in-Some.is back.worked in
    let spares : Spares pool.plan (joined (view c.args.seat.now) (view c.args.worker.seat)) (view c.give_back_all.new.seat) =
    subst (λ (v : View (HallPart g.row.P.Denot PlainHeap g.row.M.Denot)). Spares pool.plan v (view c.give_back_all.new.seat)) c.join.ensures.view c.give_back_all.ensures.spares in
    joins_made told g.all pool (view c.args.seat.now) (view c.give_back_all.new.seat) c.args.worker c.in-Some.told worked spares lower c.give_back_all.ensures.units c.give_back_all.ensures.even

use Rattle.std.proofs.Common.{◌≡◌, ◌+◌, ◌<◌, false, [], length, Option, None, refl, rules, sym, subst, ◌∙◌, arith, slice_get, true≢false}
use Rattle.pool_hall.specs.Seat.{made_with, view, IsFree, IsSeatOf}
use Rattle.pool_alloc.specs.Calls.{IsIdle}
use Rattle.pool_driver.specs.Pools.{IsSharedOf}
use Rattle.pool_run.specs.Turns.{with_reply}
use Rattle.pool_run.specs.Worlds.{AreCallsFor}
use Rattle.pool_run.specs.declared.reply.Reply.{Reply}
use Rattle.pool_threads.specs.Working.{IsAtWork, IsJob, IsToldSoFar, about_job}
use Rattle.pool_threads.proofs.Begins.{begins_call, ends_at_once, some_begins}
use Rattle.pool_threads.proofs.Performs.{drawn_notes, none_is}
use Rattle.pool_threads.proofs.party.draw_stripe.Goals as goal

pub unreachable-requires : goal.unreachable-requires
unreachable-requires g c =
    let calls : AreCallsFor g.job.world.terms g.job.settings c.args.modules.now = search rules in
    let idle : IsIdle c.args.party.now.frame = search rules in
    let work : IsAtWork g.job (length (made_with c.args.pool.now.hall)) (view c.args.seat.now) c.args.party.now = search rules in
    let told : IsToldSoFar g.job c.args.commands.now [] c.args.party.now = search rules in
    let undrawn : c.args.party.now.keyed ≡ false = search rules in
    let below : c.args.party.now.done < length c.args.commands.now = search rules in
    let room = told.room in
    let fresh = told.fresh in
    some_begins c.args.party.now c.args.modules.now c.args.commands.now c.begin_next.new.party c.begin_next.result c.begin_next.ensures.begins below c.in-Rests.is

pub unreachable-requires-in-Replies : goal.unreachable-requires-in-Replies
unreachable-requires-in-Replies g c =
    let calls : AreCallsFor g.job.world.terms g.job.settings c.args.modules.now = search rules in
    let idle : IsIdle c.args.party.now.frame = search rules in
    let work : IsAtWork g.job (length (made_with c.args.pool.now.hall)) (view c.args.seat.now) c.args.party.now = search rules in
    let told : IsToldSoFar g.job c.args.commands.now [] c.args.party.now = search rules in
    let undrawn : c.args.party.now.keyed ≡ false = search rules in
    let below : c.args.party.now.done < length c.args.commands.now = search rules in
    let room = told.room in
    let fresh = told.fresh in
    let replied = ends_at_once g.job (length (made_with c.args.pool.now.hall)) (view c.args.seat.now) c.args.modules.now c.args.commands.now c.args.party.now calls idle work room fresh c.in-Replies.field-0 c.begin_next.new.party c.begin_next.result c.begin_next.ensures.begins c.in-Replies.is in
    absurd (true≢false (sym replied.keyed.0 ∙ undrawn))

pub run_call-requires : goal.run_call-requires
run_call-requires g c κs within =
    let calls : AreCallsFor g.job.world.terms g.job.settings c.args.modules.now = search rules in
    let idle : IsIdle c.args.party.now.frame = search rules in
    let work : IsAtWork g.job (length (made_with c.args.pool.now.hall)) (view c.args.seat.now) c.args.party.now = search rules in
    let told : IsToldSoFar g.job c.args.commands.now [] c.args.party.now = search rules in
    let undrawn : c.args.party.now.keyed ≡ false = search rules in
    let below : c.args.party.now.done < length c.args.commands.now = search rules in
    let room = told.room in
    let fresh = told.fresh in
    let begun = begins_call g.job (length (made_with c.args.pool.now.hall)) (view c.args.seat.now) c.args.modules.now c.args.commands.now c.args.party.now calls idle work room fresh c.begin_next.new.party c.begin_next.result c.begin_next.ensures.begins c.in-Calls.is in
    let own : IsSeatOf c.args.pool.now.hall c.args.seat.now = search rules in
    let pool : IsSharedOf g.M.PageMaker.told (about_job g.job) c.args.pool.now = search rules in
    let free : IsFree c.args.seat.now = search rules in
    let job : IsJob g.row.P.Denot g.job = search rules in
    let small : c.args.party.now.done + 1 < 18446744073709551616 = search rules in
    let next : c.begin_next.new.party.done + 1 < 18446744073709551616 = omega (arith, begun.done, small) in
    (search rules, (search rules, (search rules, (search rules, (pool, (job, (own, (free, (begun.at_work, (refl, (begun.keyed, (begun.goes (own.limits ∙ pool.hall.limits), (next, c.begin_next.ensures.reserved)))))))))))))

pub returns-clause-told : goal.returns-clause-told
returns-clause-told g c =
    let calls : AreCallsFor g.job.world.terms g.job.settings c.args.modules.now = search rules in
    let idle : IsIdle c.args.party.now.frame = search rules in
    let work : IsAtWork g.job (length (made_with c.args.pool.now.hall)) (view c.args.seat.now) c.args.party.now = search rules in
    let told : IsToldSoFar g.job c.args.commands.now [] c.args.party.now = search rules in
    let undrawn : c.args.party.now.keyed ≡ false = search rules in
    let below : c.args.party.now.done < length c.args.commands.now = search rules in
    let room = told.room in
    let fresh = told.fresh in
    let begun = begins_call g.job (length (made_with c.args.pool.now.hall)) (view c.args.seat.now) c.args.modules.now c.args.commands.now c.args.party.now calls idle work room fresh c.begin_next.new.party c.begin_next.result c.begin_next.ensures.begins c.in-Calls.is in
    let none : c.run_call.result ≡ None = none_is c.run_call.result (c.run_call.ensures.replied ∙ begun.same ∙ undrawn) in
    subst (λ (o : Option Reply). IsToldSoFar g.job c.args.commands.now (with_reply o []) c.run_call.new.party) none (c.run_call.ensures.told c.args.commands.now [] (begun.told [] told))

pub returns-clause-host : goal.returns-clause-host
returns-clause-host g c =
    let calls : AreCallsFor g.job.world.terms g.job.settings c.args.modules.now = search rules in
    let idle : IsIdle c.args.party.now.frame = search rules in
    let work : IsAtWork g.job (length (made_with c.args.pool.now.hall)) (view c.args.seat.now) c.args.party.now = search rules in
    let told : IsToldSoFar g.job c.args.commands.now [] c.args.party.now = search rules in
    let undrawn : c.args.party.now.keyed ≡ false = search rules in
    let below : c.args.party.now.done < length c.args.commands.now = search rules in
    let room = told.room in
    let fresh = told.fresh in
    let begun = begins_call g.job (length (made_with c.args.pool.now.hall)) (view c.args.seat.now) c.args.modules.now c.args.commands.now c.args.party.now calls idle work room fresh c.begin_next.new.party c.begin_next.result c.begin_next.ensures.begins c.in-Calls.is in
    c.run_call.ensures.stays.host ∙ begun.stays.host

pub returns-clause-home : goal.returns-clause-home
returns-clause-home g c =
    let calls : AreCallsFor g.job.world.terms g.job.settings c.args.modules.now = search rules in
    let idle : IsIdle c.args.party.now.frame = search rules in
    let work : IsAtWork g.job (length (made_with c.args.pool.now.hall)) (view c.args.seat.now) c.args.party.now = search rules in
    let told : IsToldSoFar g.job c.args.commands.now [] c.args.party.now = search rules in
    let undrawn : c.args.party.now.keyed ≡ false = search rules in
    let below : c.args.party.now.done < length c.args.commands.now = search rules in
    let room = told.room in
    let fresh = told.fresh in
    let begun = begins_call g.job (length (made_with c.args.pool.now.hall)) (view c.args.seat.now) c.args.modules.now c.args.commands.now c.args.party.now calls idle work room fresh c.begin_next.new.party c.begin_next.result c.begin_next.ensures.begins c.in-Calls.is in
    c.run_call.ensures.home ∙ begun.home

pub returns-clause-notes : goal.returns-clause-notes
returns-clause-notes g c =
    let calls : AreCallsFor g.job.world.terms g.job.settings c.args.modules.now = search rules in
    let idle : IsIdle c.args.party.now.frame = search rules in
    let work : IsAtWork g.job (length (made_with c.args.pool.now.hall)) (view c.args.seat.now) c.args.party.now = search rules in
    let told : IsToldSoFar g.job c.args.commands.now [] c.args.party.now = search rules in
    let undrawn : c.args.party.now.keyed ≡ false = search rules in
    let below : c.args.party.now.done < length c.args.commands.now = search rules in
    let room = told.room in
    let fresh = told.fresh in
    let begun = begins_call g.job (length (made_with c.args.pool.now.hall)) (view c.args.seat.now) c.args.modules.now c.args.commands.now c.args.party.now calls idle work room fresh c.begin_next.new.party c.begin_next.result c.begin_next.ensures.begins c.in-Calls.is in
    drawn_notes g.job.plan c.begin_next.new.party.frame.home c.args.party.now.frame.home c.run_call.new.party.frame.stripe c.args.modules.now (slice_get c.args.commands.now c.args.party.now.done) c.args.party.now.keyed c.begin_next.new.party.frame (view c.args.seat.now) (view c.run_call.new.seat) begun.home begun.asks c.run_call.result undrawn c.run_call.ensures.notes

use Rattle.std.proofs.Common.{◌≡◌, ◌+◌, ◌<◌, true, false, length, Option, is_some, refl, rules, sym, ap, subst, ◌∙◌, arith, slice_get, true≢false}
use Rattle.pool_hall.specs.Seat.{made_with, view, IsFree, IsSeatOf}
use Rattle.pool_alloc.specs.Calls.{IsIdle}
use Rattle.pool_driver.specs.Pools.{IsSharedOf}
use Rattle.pool_run.specs.Turns.{with_reply}
use Rattle.pool_run.specs.Worlds.{AreCallsFor}
use Rattle.pool_run.specs.declared.reply.Reply.{Reply}
use Rattle.pool_threads.specs.Working.{IsAtWork, IsJob, IsToldSoFar, about_job}
use Rattle.pool_threads.proofs.Begins.{begins_call, ends_at_once, some_begins}
use Rattle.pool_threads.proofs.CallEnds.{same_on}
use Rattle.pool_threads.proofs.Performs.{command_notes, quiet_notes}
use Rattle.pool_threads.proofs.party.run_command.Goals as goal

pub unreachable-requires : goal.unreachable-requires
unreachable-requires g c =
    let calls : AreCallsFor g.job.world.terms g.job.settings c.args.modules.now = search rules in
    let idle : IsIdle c.args.party.now.frame = search rules in
    let work : IsAtWork g.job (length (made_with c.args.pool.now.hall)) (view c.args.seat.now) c.args.party.now = search rules in
    let keyed : c.args.party.now.keyed ≡ true = search rules in
    let below : c.args.party.now.done < length c.args.commands.now = search rules in
    let room : length c.args.party.now.live ≡ length c.args.commands.now = search rules in
    let fresh : c.args.party.now.keyed ≡ false → c.args.party.now.done ≡ 0 = λ none. absurd (true≢false (sym keyed ∙ none)) in
    some_begins c.args.party.now c.args.modules.now c.args.commands.now c.begin_next.new.party c.begin_next.result c.begin_next.ensures.begins below c.in-Rests.is

pub run_call-requires : goal.run_call-requires
run_call-requires g c κs within =
    let calls : AreCallsFor g.job.world.terms g.job.settings c.args.modules.now = search rules in
    let idle : IsIdle c.args.party.now.frame = search rules in
    let work : IsAtWork g.job (length (made_with c.args.pool.now.hall)) (view c.args.seat.now) c.args.party.now = search rules in
    let keyed : c.args.party.now.keyed ≡ true = search rules in
    let below : c.args.party.now.done < length c.args.commands.now = search rules in
    let room : length c.args.party.now.live ≡ length c.args.commands.now = search rules in
    let fresh : c.args.party.now.keyed ≡ false → c.args.party.now.done ≡ 0 = λ none. absurd (true≢false (sym keyed ∙ none)) in
    let begun = begins_call g.job (length (made_with c.args.pool.now.hall)) (view c.args.seat.now) c.args.modules.now c.args.commands.now c.args.party.now calls idle work room fresh c.begin_next.new.party c.begin_next.result c.begin_next.ensures.begins c.in-Calls.is in
    let own : IsSeatOf c.args.pool.now.hall c.args.seat.now = search rules in
    let pool : IsSharedOf g.M.PageMaker.told (about_job g.job) c.args.pool.now = search rules in
    let free : IsFree c.args.seat.now = search rules in
    let job : IsJob g.row.P.Denot g.job = search rules in
    let small : c.args.party.now.done + 1 < 18446744073709551616 = search rules in
    let next : c.begin_next.new.party.done + 1 < 18446744073709551616 = omega (arith, begun.done, small) in
    (search rules, (search rules, (search rules, (search rules, (pool, (job, (own, (free, (begun.at_work, (refl, (begun.keyed, (begun.goes (own.limits ∙ pool.hall.limits), (next, c.begin_next.ensures.reserved)))))))))))))

pub unreachable-requires-in-None : goal.unreachable-requires-in-None
unreachable-requires-in-None g c =
    let calls : AreCallsFor g.job.world.terms g.job.settings c.args.modules.now = search rules in
    let idle : IsIdle c.args.party.now.frame = search rules in
    let work : IsAtWork g.job (length (made_with c.args.pool.now.hall)) (view c.args.seat.now) c.args.party.now = search rules in
    let keyed : c.args.party.now.keyed ≡ true = search rules in
    let below : c.args.party.now.done < length c.args.commands.now = search rules in
    let room : length c.args.party.now.live ≡ length c.args.commands.now = search rules in
    let fresh : c.args.party.now.keyed ≡ false → c.args.party.now.done ≡ 0 = λ none. absurd (true≢false (sym keyed ∙ none)) in
    let begun = begins_call g.job (length (made_with c.args.pool.now.hall)) (view c.args.seat.now) c.args.modules.now c.args.commands.now c.args.party.now calls idle work room fresh c.begin_next.new.party c.begin_next.result c.begin_next.ensures.begins c.in-Calls.is in
    absurd (true≢false (sym (begun.same ∙ keyed) ∙ (sym c.run_call.ensures.replied ∙ ap (λ (o : Option Reply). is_some o) c.in-None.is)))

pub returns-in-Replies-clause-work : goal.returns-in-Replies-clause-work
returns-in-Replies-clause-work g c =
    let calls : AreCallsFor g.job.world.terms g.job.settings c.args.modules.now = search rules in
    let idle : IsIdle c.args.party.now.frame = search rules in
    let work : IsAtWork g.job (length (made_with c.args.pool.now.hall)) (view c.args.seat.now) c.args.party.now = search rules in
    let keyed : c.args.party.now.keyed ≡ true = search rules in
    let below : c.args.party.now.done < length c.args.commands.now = search rules in
    let room : length c.args.party.now.live ≡ length c.args.commands.now = search rules in
    let fresh : c.args.party.now.keyed ≡ false → c.args.party.now.done ≡ 0 = λ none. absurd (true≢false (sym keyed ∙ none)) in
    let replied = ends_at_once g.job (length (made_with c.args.pool.now.hall)) (view c.args.seat.now) c.args.modules.now c.args.commands.now c.args.party.now calls idle work room fresh c.in-Replies.reply c.begin_next.new.party c.begin_next.result c.begin_next.ensures.begins c.in-Replies.is in
    replied.at_work

pub returns-in-Replies-clause-told : goal.returns-in-Replies-clause-told
returns-in-Replies-clause-told g c =
    let calls : AreCallsFor g.job.world.terms g.job.settings c.args.modules.now = search rules in
    let idle : IsIdle c.args.party.now.frame = search rules in
    let work : IsAtWork g.job (length (made_with c.args.pool.now.hall)) (view c.args.seat.now) c.args.party.now = search rules in
    let keyed : c.args.party.now.keyed ≡ true = search rules in
    let below : c.args.party.now.done < length c.args.commands.now = search rules in
    let room : length c.args.party.now.live ≡ length c.args.commands.now = search rules in
    let fresh : c.args.party.now.keyed ≡ false → c.args.party.now.done ≡ 0 = λ none. absurd (true≢false (sym keyed ∙ none)) in
    let replied = ends_at_once g.job (length (made_with c.args.pool.now.hall)) (view c.args.seat.now) c.args.modules.now c.args.commands.now c.args.party.now calls idle work room fresh c.in-Replies.reply c.begin_next.new.party c.begin_next.result c.begin_next.ensures.begins c.in-Replies.is in
    λ before told. replied.told before told

pub returns-in-Replies-clause-idle : goal.returns-in-Replies-clause-idle
returns-in-Replies-clause-idle g c =
    let calls : AreCallsFor g.job.world.terms g.job.settings c.args.modules.now = search rules in
    let idle : IsIdle c.args.party.now.frame = search rules in
    let work : IsAtWork g.job (length (made_with c.args.pool.now.hall)) (view c.args.seat.now) c.args.party.now = search rules in
    let keyed : c.args.party.now.keyed ≡ true = search rules in
    let below : c.args.party.now.done < length c.args.commands.now = search rules in
    let room : length c.args.party.now.live ≡ length c.args.commands.now = search rules in
    let fresh : c.args.party.now.keyed ≡ false → c.args.party.now.done ≡ 0 = λ none. absurd (true≢false (sym keyed ∙ none)) in
    let replied = ends_at_once g.job (length (made_with c.args.pool.now.hall)) (view c.args.seat.now) c.args.modules.now c.args.commands.now c.args.party.now calls idle work room fresh c.in-Replies.reply c.begin_next.new.party c.begin_next.result c.begin_next.ensures.begins c.in-Replies.is in
    replied.settled

pub returns-in-Replies-clause-keyed : goal.returns-in-Replies-clause-keyed
returns-in-Replies-clause-keyed g c =
    let calls : AreCallsFor g.job.world.terms g.job.settings c.args.modules.now = search rules in
    let idle : IsIdle c.args.party.now.frame = search rules in
    let work : IsAtWork g.job (length (made_with c.args.pool.now.hall)) (view c.args.seat.now) c.args.party.now = search rules in
    let keyed : c.args.party.now.keyed ≡ true = search rules in
    let below : c.args.party.now.done < length c.args.commands.now = search rules in
    let room : length c.args.party.now.live ≡ length c.args.commands.now = search rules in
    let fresh : c.args.party.now.keyed ≡ false → c.args.party.now.done ≡ 0 = λ none. absurd (true≢false (sym keyed ∙ none)) in
    let replied = ends_at_once g.job (length (made_with c.args.pool.now.hall)) (view c.args.seat.now) c.args.modules.now c.args.commands.now c.args.party.now calls idle work room fresh c.in-Replies.reply c.begin_next.new.party c.begin_next.result c.begin_next.ensures.begins c.in-Replies.is in
    replied.keyed.1

pub returns-in-Replies-clause-stays : goal.returns-in-Replies-clause-stays
returns-in-Replies-clause-stays g c =
    let calls : AreCallsFor g.job.world.terms g.job.settings c.args.modules.now = search rules in
    let idle : IsIdle c.args.party.now.frame = search rules in
    let work : IsAtWork g.job (length (made_with c.args.pool.now.hall)) (view c.args.seat.now) c.args.party.now = search rules in
    let keyed : c.args.party.now.keyed ≡ true = search rules in
    let below : c.args.party.now.done < length c.args.commands.now = search rules in
    let room : length c.args.party.now.live ≡ length c.args.commands.now = search rules in
    let fresh : c.args.party.now.keyed ≡ false → c.args.party.now.done ≡ 0 = λ none. absurd (true≢false (sym keyed ∙ none)) in
    let replied = ends_at_once g.job (length (made_with c.args.pool.now.hall)) (view c.args.seat.now) c.args.modules.now c.args.commands.now c.args.party.now calls idle work room fresh c.in-Replies.reply c.begin_next.new.party c.begin_next.result c.begin_next.ensures.begins c.in-Replies.is in
    replied.stays

pub returns-in-Replies-clause-home : goal.returns-in-Replies-clause-home
returns-in-Replies-clause-home g c =
    let calls : AreCallsFor g.job.world.terms g.job.settings c.args.modules.now = search rules in
    let idle : IsIdle c.args.party.now.frame = search rules in
    let work : IsAtWork g.job (length (made_with c.args.pool.now.hall)) (view c.args.seat.now) c.args.party.now = search rules in
    let keyed : c.args.party.now.keyed ≡ true = search rules in
    let below : c.args.party.now.done < length c.args.commands.now = search rules in
    let room : length c.args.party.now.live ≡ length c.args.commands.now = search rules in
    let fresh : c.args.party.now.keyed ≡ false → c.args.party.now.done ≡ 0 = λ none. absurd (true≢false (sym keyed ∙ none)) in
    let replied = ends_at_once g.job (length (made_with c.args.pool.now.hall)) (view c.args.seat.now) c.args.modules.now c.args.commands.now c.args.party.now calls idle work room fresh c.in-Replies.reply c.begin_next.new.party c.begin_next.result c.begin_next.ensures.begins c.in-Replies.is in
    replied.home

pub returns-in-Replies-clause-notes : goal.returns-in-Replies-clause-notes
returns-in-Replies-clause-notes g c =
    let calls : AreCallsFor g.job.world.terms g.job.settings c.args.modules.now = search rules in
    let idle : IsIdle c.args.party.now.frame = search rules in
    let work : IsAtWork g.job (length (made_with c.args.pool.now.hall)) (view c.args.seat.now) c.args.party.now = search rules in
    let keyed : c.args.party.now.keyed ≡ true = search rules in
    let below : c.args.party.now.done < length c.args.commands.now = search rules in
    let room : length c.args.party.now.live ≡ length c.args.commands.now = search rules in
    let fresh : c.args.party.now.keyed ≡ false → c.args.party.now.done ≡ 0 = λ none. absurd (true≢false (sym keyed ∙ none)) in
    let replied = ends_at_once g.job (length (made_with c.args.pool.now.hall)) (view c.args.seat.now) c.args.modules.now c.args.commands.now c.args.party.now calls idle work room fresh c.in-Replies.reply c.begin_next.new.party c.begin_next.result c.begin_next.ensures.begins c.in-Replies.is in
    quiet_notes g.job.plan c.args.party.now.frame.home c.begin_next.new.party.frame.stripe c.args.modules.now c.args.commands.now (slice_get c.args.commands.now c.args.party.now.done) c.in-Replies.reply (view c.args.seat.now) replied.quiet.0 replied.quiet.1

pub returns-in-Some-clause-told : goal.returns-in-Some-clause-told
returns-in-Some-clause-told g c =
    let calls : AreCallsFor g.job.world.terms g.job.settings c.args.modules.now = search rules in
    let idle : IsIdle c.args.party.now.frame = search rules in
    let work : IsAtWork g.job (length (made_with c.args.pool.now.hall)) (view c.args.seat.now) c.args.party.now = search rules in
    let keyed : c.args.party.now.keyed ≡ true = search rules in
    let below : c.args.party.now.done < length c.args.commands.now = search rules in
    let room : length c.args.party.now.live ≡ length c.args.commands.now = search rules in
    let fresh : c.args.party.now.keyed ≡ false → c.args.party.now.done ≡ 0 = λ none. absurd (true≢false (sym keyed ∙ none)) in
    let begun = begins_call g.job (length (made_with c.args.pool.now.hall)) (view c.args.seat.now) c.args.modules.now c.args.commands.now c.args.party.now calls idle work room fresh c.begin_next.new.party c.begin_next.result c.begin_next.ensures.begins c.in-Calls.is in
    λ before told. subst (λ (o : Option Reply). IsToldSoFar g.job c.args.commands.now (with_reply o before) c.run_call.new.party) c.in-Some.is (c.run_call.ensures.told c.args.commands.now before (begun.told before told))

pub returns-in-Some-clause-stays : goal.returns-in-Some-clause-stays
returns-in-Some-clause-stays g c =
    let calls : AreCallsFor g.job.world.terms g.job.settings c.args.modules.now = search rules in
    let idle : IsIdle c.args.party.now.frame = search rules in
    let work : IsAtWork g.job (length (made_with c.args.pool.now.hall)) (view c.args.seat.now) c.args.party.now = search rules in
    let keyed : c.args.party.now.keyed ≡ true = search rules in
    let below : c.args.party.now.done < length c.args.commands.now = search rules in
    let room : length c.args.party.now.live ≡ length c.args.commands.now = search rules in
    let fresh : c.args.party.now.keyed ≡ false → c.args.party.now.done ≡ 0 = λ none. absurd (true≢false (sym keyed ∙ none)) in
    let begun = begins_call g.job (length (made_with c.args.pool.now.hall)) (view c.args.seat.now) c.args.modules.now c.args.commands.now c.args.party.now calls idle work room fresh c.begin_next.new.party c.begin_next.result c.begin_next.ensures.begins c.in-Calls.is in
    same_on c.args.party.now c.begin_next.new.party c.run_call.new.party (λ drawn. begun.same ∙ drawn) begun.stays c.run_call.ensures.stays

pub returns-in-Some-clause-home : goal.returns-in-Some-clause-home
returns-in-Some-clause-home g c =
    let calls : AreCallsFor g.job.world.terms g.job.settings c.args.modules.now = search rules in
    let idle : IsIdle c.args.party.now.frame = search rules in
    let work : IsAtWork g.job (length (made_with c.args.pool.now.hall)) (view c.args.seat.now) c.args.party.now = search rules in
    let keyed : c.args.party.now.keyed ≡ true = search rules in
    let below : c.args.party.now.done < length c.args.commands.now = search rules in
    let room : length c.args.party.now.live ≡ length c.args.commands.now = search rules in
    let fresh : c.args.party.now.keyed ≡ false → c.args.party.now.done ≡ 0 = λ none. absurd (true≢false (sym keyed ∙ none)) in
    let begun = begins_call g.job (length (made_with c.args.pool.now.hall)) (view c.args.seat.now) c.args.modules.now c.args.commands.now c.args.party.now calls idle work room fresh c.begin_next.new.party c.begin_next.result c.begin_next.ensures.begins c.in-Calls.is in
    c.run_call.ensures.home ∙ begun.home

pub returns-in-Some-clause-notes : goal.returns-in-Some-clause-notes
returns-in-Some-clause-notes g c =
    let calls : AreCallsFor g.job.world.terms g.job.settings c.args.modules.now = search rules in
    let idle : IsIdle c.args.party.now.frame = search rules in
    let work : IsAtWork g.job (length (made_with c.args.pool.now.hall)) (view c.args.seat.now) c.args.party.now = search rules in
    let keyed : c.args.party.now.keyed ≡ true = search rules in
    let below : c.args.party.now.done < length c.args.commands.now = search rules in
    let room : length c.args.party.now.live ≡ length c.args.commands.now = search rules in
    let fresh : c.args.party.now.keyed ≡ false → c.args.party.now.done ≡ 0 = λ none. absurd (true≢false (sym keyed ∙ none)) in
    let begun = begins_call g.job (length (made_with c.args.pool.now.hall)) (view c.args.seat.now) c.args.modules.now c.args.commands.now c.args.party.now calls idle work room fresh c.begin_next.new.party c.begin_next.result c.begin_next.ensures.begins c.in-Calls.is in
    command_notes g.job.plan c.begin_next.new.party.frame.home c.args.party.now.frame.home c.run_call.new.party.frame.stripe c.args.modules.now (slice_get c.args.commands.now c.args.party.now.done) c.args.party.now.keyed c.begin_next.new.party.frame (view c.args.seat.now) (view c.run_call.new.seat) begun.home begun.asks c.run_call.result c.in-Some.reply keyed c.in-Some.is c.run_call.ensures.notes

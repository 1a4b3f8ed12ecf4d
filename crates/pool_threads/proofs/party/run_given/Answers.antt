use Rattle.std.proofs.Common.{◌≡◌, ◌<◌, false, List, [], length, None, refl, rules, sym, ap, subst, ◌∙◌}
use Rattle.pool_hall.specs.Seat.{made_with, view, IsFree, IsSeatOf}
use Rattle.pool_alloc.specs.Calls.{IsIdle}
use Rattle.pool_driver.specs.Driving.{IsDriven, alone_of}
use Rattle.pool_driver.specs.Pools.{IsSharedOf}
use Rattle.pool_run.specs.PartyRules.{host_for}
use Rattle.pool_run.specs.Rooms.{IsPooledRun, in_stripe, under}
use Rattle.pool_run.specs.RunsMade.{party_made_for}
use Rattle.pool_run.specs.Ties.{IsReserved}
use Rattle.pool_run.specs.Turns.{host_of_party, no_lists}
use Rattle.pool_run.specs.Worlds.{AreCallsFor, NameModules}
use Rattle.pool_run.specs.declared.command.Command.{Command}
use Rattle.pool_run.specs.declared.reply.Reply.{Reply}
use Rattle.pool_run.specs.declared.running_party.RunningParty.{RunningParty}
use Rattle.pool_run.specs.declared.slot_lists.SlotLists.{SlotLists}
use Rattle.pool_threads.specs.Asked.{asked, faulted, refused}
use Rattle.pool_threads.specs.GrowthFaults.{AreGrowthsPlanned}
use Rattle.pool_threads.specs.Noted.{Notes}
use Rattle.pool_threads.specs.Working.{IsAtWork, IsJob, IsToldSoFar, NamesLive, about_job}
use Rattle.pool_threads.proofs.Performs.{party_notes}
use Rattle.pool_threads.proofs.Starts.{planned_run, pooled_run, starts_idle, starts_reserved, starts_untold, starts_work}
use Rattle.pool_threads.proofs.party.run_given.Goals as goal

pub start-requires : goal.start-requires
start-requires g c κs within =
    let pool : IsSharedOf g.M.PageMaker.told (about_job g.job) c.args.pool.now = search rules in
    let job : IsJob g.row.P.Denot g.job = search rules in
    let calls : AreCallsFor g.job.world.terms g.job.settings c.args.modules.now = search rules in
    let own : IsSeatOf c.args.pool.now.hall c.args.seat.now = search rules in
    let free : IsFree c.args.seat.now = search rules in
    let made : c.args.party.now ≡ party_made_for g.job.settings c.args.given.now = search rules in
    let read : c.args.given.now.commands ≡ c.as_slice-commands.result.now = sym c.as_slice-commands.ensures in
    let named : NameModules (length c.args.modules.now) c.args.given.now.commands = search rules in
    let few : length c.args.given.now.commands < 4294967296 = search rules in
    let first : IsDriven (length (made_with c.args.pool.now.hall)) (alone_of (about_job g.job)) (view c.args.seat.now) c.args.party.now.frame None = search rules in
    let driven : IsDriven (length (made_with c.args.pool.now.hall)) (alone_of (about_job g.job)) (view c.args.seat.now) (party_made_for {P = g.row.P.Denot} g.job.settings c.args.given.now).frame None =
    subst (λ (p : RunningParty g.row.P.Denot). IsDriven (length (made_with c.args.pool.now.hall)) (alone_of (about_job g.job)) (view c.args.seat.now) p.frame None) made first in
    let work : IsAtWork g.job (length (made_with c.args.pool.now.hall)) (view c.args.seat.now) c.args.party.now =
    subst (λ (p : RunningParty g.row.P.Denot). IsAtWork g.job (length (made_with c.args.pool.now.hall)) (view c.args.seat.now) p) (sym made) (starts_work g.job (length (made_with c.args.pool.now.hall)) (view c.args.seat.now) c.args.given.now driven) in
    let untold : IsToldSoFar g.job c.args.given.now.commands [] c.args.party.now =
    subst (λ (p : RunningParty g.row.P.Denot). IsToldSoFar g.job c.args.given.now.commands [] p) (sym made) (starts_untold g.job (length (made_with c.args.pool.now.hall)) (view c.args.seat.now) c.args.given.now) in
    let idle : IsIdle c.args.party.now.frame = subst (λ (p : RunningParty g.row.P.Denot). IsIdle p.frame) (sym made) (starts_idle g.job (length (made_with c.args.pool.now.hall)) (view c.args.seat.now) c.args.given.now) in
    let undrawn : c.args.party.now.keyed ≡ false = subst (λ (p : RunningParty g.row.P.Denot). p.keyed ≡ false) (sym made) refl in
    let reserved : IsReserved c.args.party.now.frame no_lists = subst (λ (p : RunningParty g.row.P.Denot). IsReserved p.frame no_lists) (sym made) (starts_reserved g.job (length (made_with c.args.pool.now.hall)) (view c.args.seat.now) c.args.given.now) in (
      search rules,
      (
        search rules,
        (
          search rules,
          (
            search rules,
            (
              pool,
              (
                job,
                (
                  calls,
                  (
                    subst (λ (xs : List Command). NameModules (length c.args.modules.now) xs) read named,
                    (
                      subst (λ (xs : List Command). length xs < 4294967296) read few,
                      (
                        own,
                        (
                          free,
                          (
                            work,
                            (
                              subst (λ (xs : List Command). IsToldSoFar g.job xs [] c.args.party.now) read untold,
                              (idle, (undrawn, subst (λ (x : SlotLists). IsReserved c.args.party.now.frame x) (sym c.none-slots.ensures) reserved)),
                            ),
                          ),
                        ),
                      ),
                    ),
                  ),
                ),
              ),
            ),
          ),
        ),
      ),
    )

pub returns-clause-told : goal.returns-clause-told
returns-clause-told g c =
    let made : c.args.party.now ≡ party_made_for g.job.settings c.args.given.now = search rules in
    let host : host_of_party c.perform.new.party ≡ host_for c.args.given.now = c.perform.ensures.host ∙ c.start.ensures.host ∙ ap (λ (p : RunningParty g.row.P.Denot). host_of_party p) made in
    let told : IsToldSoFar g.job c.args.given.now.commands c.perform.new.replies.items c.perform.new.party =
    subst (λ (xs : List Command). IsToldSoFar g.job xs c.perform.new.replies.items c.perform.new.party) c.as_slice-commands.ensures c.perform.ensures.told in
    subst (λ (rs : List Reply). IsPooledRun (in_stripe c.perform.new.party.frame.stripe (under (host_for c.args.given.now) g.job.world)) c.args.given.now.commands rs) (sym c.from_vec.ensures)
    (pooled_run g.job c.args.given.now.commands c.perform.new.replies.items c.perform.new.party (host_for c.args.given.now) host told)

pub returns-clause-growths : goal.returns-clause-growths
returns-clause-growths g c =
    let made : c.args.party.now ≡ party_made_for g.job.settings c.args.given.now = search rules in
    let host : host_of_party c.perform.new.party ≡ host_for c.args.given.now = c.perform.ensures.host ∙ c.start.ensures.host ∙ ap (λ (p : RunningParty g.row.P.Denot). host_of_party p) made in
    let told : IsToldSoFar g.job c.args.given.now.commands c.perform.new.replies.items c.perform.new.party =
    subst (λ (xs : List Command). IsToldSoFar g.job xs c.perform.new.replies.items c.perform.new.party) c.as_slice-commands.ensures c.perform.ensures.told in
    subst (λ (rs : List Reply). AreGrowthsPlanned (in_stripe c.perform.new.party.frame.stripe (under (host_for c.args.given.now) g.job.world)) c.args.given.now.commands rs) (sym c.from_vec.ensures)
    (planned_run g.job c.args.given.now.commands c.perform.new.replies.items c.perform.new.party (host_for c.args.given.now) host told)

pub returns-clause-named : goal.returns-clause-named
returns-clause-named g c =
    subst (λ (rs : List Reply). NamesLive rs c.perform.new.party.live) (sym c.from_vec.ensures) c.perform.ensures.told.named

pub returns-clause-notes : goal.returns-clause-notes
returns-clause-notes g c =
    let made : c.args.party.now ≡ party_made_for g.job.settings c.args.given.now = search rules in
    let home : c.start.new.party.frame.home ≡ c.args.given.now.home = c.start.ensures.home ∙ ap (λ (p : RunningParty g.row.P.Denot). p.frame.home) made in
    subst (λ (rs : List Reply). Notes g.job.plan c.args.given.now.home c.perform.new.party.frame.stripe (λ k. asked k c.args.modules.now c.args.given.now.commands rs) (λ k. refused k c.args.given.now.commands rs) (faulted c.args.given.now.commands rs) (view c.args.seat.now) (view c.perform.new.seat)) (sym c.from_vec.ensures)
    (subst (λ (xs : List Command). Notes g.job.plan c.args.given.now.home c.perform.new.party.frame.stripe (λ k. asked k c.args.modules.now xs c.perform.new.replies.items) (λ k. refused k xs c.perform.new.replies.items) (faulted xs c.perform.new.replies.items) (view c.args.seat.now) (view c.perform.new.seat)) c.as_slice-commands.ensures
    (party_notes g.job.plan c.args.given.now.home c.perform.new.party.frame.stripe c.args.modules.now c.as_slice-commands.result.now c.perform.new.replies.items c.args.party.now.frame.home c.start.new.party.frame.home c.start.new.party.frame.stripe (view c.args.seat.now) (view c.start.new.seat) (view c.perform.new.seat) (ap (λ (p : RunningParty g.row.P.Denot). p.frame.home) made) home (sym c.perform.ensures.stripe) c.start.ensures.notes c.perform.ensures.notes))

use Rattle.std.proofs.Common.{◌≡◌, ◌<◌, true, length, None, rules, sym, subst}
use Rattle.std.specs.Prelude.{IfOk}
use Rattle.pool_hall.specs.Seat.{made_with, view, IsFree, IsSeatOf}
use Rattle.pool_driver.specs.Driving.{IsDriven, alone_of}
use Rattle.pool_driver.specs.Pools.{IsSharedOf}
use Rattle.pool_run.specs.Rooms.{IsPooledRun}
use Rattle.pool_run.specs.RunsMade.{party_made_for}
use Rattle.pool_run.specs.Validity.{is_valid}
use Rattle.pool_run.specs.Worlds.{AreCallsFor, NameModules}
use Rattle.pool_run.specs.declared.input.Party.{Party}
use Rattle.pool_threads.specs.GrowthFaults.{AreGrowthsPlanned}
use Rattle.pool_threads.specs.Sharing.{NotesOf, party_in, party_world}
use Rattle.pool_threads.specs.Working.{IsJob, about_job}
use Rattle.pool_threads.proofs.Grounds.{ground_few, ground_named}
use Rattle.pool_threads.proofs.party.run_numbered.Goals as goal

pub run_given-requires : goal.run_given-requires
run_given-requires g c κs within =
    let pool : IsSharedOf g.M.PageMaker.told (about_job g.job) c.args.pool.now = search rules in
    let job : IsJob g.row.P.Denot g.job = search rules in
    let calls : AreCallsFor g.job.world.terms g.job.settings c.args.modules.now = search rules in
    let valid : is_valid c.args.input.now ≡ true = search rules in
    let count : length c.args.modules.now ≡ length c.args.input.now.modules = search rules in
    let below : c.args.number < length c.args.input.now.parties = search rules in
    let own : IsSeatOf c.args.pool.now.hall c.args.seat.now = search rules in
    let free : IsFree c.args.seat.now = search rules in
    let made : c.args.party.now ≡ party_made_for g.job.settings (party_in c.args.input.now c.args.number) = search rules in
    let nothing : IsDriven (length (made_with c.args.pool.now.hall)) (alone_of (about_job g.job)) (view c.args.seat.now) c.args.party.now.frame None = search rules in
    let is : party_in c.args.input.now c.args.number ≡ c.party_at-given.result.now = sym c.party_at-given.ensures in (
      search rules,
      (
        search rules,
        (
          search rules,
          (
            search rules,
            (
              search rules,
              (
                pool,
                (
                  job,
                  (
                    calls,
                    (
                      subst (λ (q : Party). NameModules (length c.args.modules.now) q.commands) is (ground_named c.args.input.now (length c.args.modules.now) valid count c.args.number below),
                      (
                        subst (λ (q : Party). length q.commands < 4294967296) is (ground_few c.args.input.now valid c.args.number below),
                        (own, (free, (subst (λ (q : Party). c.args.party.now ≡ party_made_for g.job.settings q) is made, nothing))),
                      ),
                    ),
                  ),
                ),
              ),
            ),
          ),
        ),
      ),
    )

pub returns-clause-told : goal.returns-clause-told
returns-clause-told g c =
    subst (λ (q : Party). IfOk c.run_given.result (λ replies. IsPooledRun (party_world g.job q c.run_given.new.party.frame.stripe) q.commands replies)) c.party_at-given.ensures c.run_given.ensures.told

pub returns-clause-all : goal.returns-clause-all
returns-clause-all g c =
    subst (λ (q : Party). IfOk c.run_given.result (λ replies. length replies ≡ length q.commands)) c.party_at-given.ensures c.run_given.ensures.all

pub returns-clause-growths : goal.returns-clause-growths
returns-clause-growths g c =
    subst (λ (q : Party). IfOk c.run_given.result (λ replies. AreGrowthsPlanned (party_world g.job q c.run_given.new.party.frame.stripe) q.commands replies)) c.party_at-given.ensures c.run_given.ensures.growths

pub returns-clause-notes : goal.returns-clause-notes
returns-clause-notes g c =
    subst (λ (q : Party). IfOk c.run_given.result (λ replies. NotesOf g.job.plan c.args.modules.now q c.run_given.new.party.frame.stripe replies (view c.args.seat.now) (view c.run_given.new.seat))) c.party_at-given.ensures c.run_given.ensures.notes

use Rattle.std.proofs.Common.{◌≡◌, ◌<◌, length, None, rules}
use Rattle.pool_hall.specs.Seat.{made_with, view, IsFree, IsSeatOf}
use Rattle.pool_driver.specs.Driving.{IsDriven, alone_of}
use Rattle.pool_callers.specs.Callers.{about_shared}
use Rattle.pool_run.specs.RunsMade.{party_made_for}
use Rattle.pool_threads.specs.Sharing.{IsGround, party_in}
use Rattle.pool_threads.proofs.party.run_party.Goals as goal

pub run_numbered-requires : goal.run_numbered-requires
run_numbered-requires g c κs within =
    let ground : IsGround g.M.PageMaker.told c.args.input.now c.args.modules.now c.args.pool.now = search rules in
    let below : c.args.party < length c.args.input.now.parties = search rules in
    let own : IsSeatOf c.args.pool.now.hall c.args.seat.now = search rules in
    let free : IsFree c.args.seat.now = search rules in
    let made : c.args.running.now ≡ party_made_for c.args.pool.now.settings (party_in c.args.input.now c.args.party) = search rules in
    let nothing : IsDriven (length (made_with c.args.pool.now.hall)) (alone_of (about_shared g.M.PageMaker.told c.args.pool.now)) (view c.args.seat.now) c.args.running.now.frame None = search rules in
    (search rules, (search rules, (search rules, (search rules, (search rules, (ground.shared, (ground.job, (ground.calls, (ground.valid, (ground.count, (below, (own, (free, (made, nothing))))))))))))))

pub returns-clause-told : goal.returns-clause-told
returns-clause-told g c =
    c.run_numbered.ensures.told

pub returns-clause-growths : goal.returns-clause-growths
returns-clause-growths g c =
    c.run_numbered.ensures.growths

pub returns-clause-notes : goal.returns-clause-notes
returns-clause-notes g c =
    c.run_numbered.ensures.notes

pub returns-clause-work : goal.returns-clause-work
returns-clause-work g c =
    c.run_numbered.ensures.work

use Rattle.std.proofs.Common.{◌≡◌, ◌<◌, true, length, rules, refl, ap, subst, sym, ◌∙◌}
use Rattle.pool_hall.specs.Seat.{IsSeatOf}
use Rattle.pool_run.specs.RunsMade.{party_made_for}
use Rattle.pool_run.specs.Validity.{is_valid}
use Rattle.pool_run.specs.declared.input.Party.{Party}
use Rattle.pool_run.proofs.InputsRun.{homes_below}
use Rattle.pool_threads.specs.Sharing.{no_party, party_in}
use Rattle.pool_workers.specs.Workers.{DrivesWorkers}
use Rattle.pool_workers.proofs.Grounding.{newcomer_is, worker_ready}
use Rattle.pool_workers.proofs.workers.make_worker.Goals as goal

pub make_party-requires-clause-home : goal.make_party-requires-clause-home
make_party-requires-clause-home g c =
    let valid : is_valid c.args.input.now ≡ true = search rules in
    let below : c.args.number < length c.args.input.now.parties = search rules in
    subst (λ (q : Party). q.home < 4294967296) (sym c.party_at.ensures) (homes_below c.args.input.now c.args.input.now.parties refl valid c.args.number no_party below)

pub returns-clause-ready : goal.returns-clause-ready
returns-clause-ready g c =
    let own : IsSeatOf c.args.pool.now.hall c.args.seat.now = search rules in
    let below : c.args.number < length c.args.input.now.parties = search rules in
    let drives : DrivesWorkers g.M.PageMaker.told c.args.input.now c.args.pool.now = search rules in
    let made : c.in_ok-party.party ≡ party_made_for {P = g.row.P.Denot} c.args.pool.now.settings (party_in c.args.input.now c.args.number) = c.in_ok-party.ensures ∙ ap (λ (q : Party). party_made_for {P = g.row.P.Denot} c.args.pool.now.settings q) c.party_at.ensures in
    worker_ready g.M.PageMaker.told c.args.input.now c.args.pool.now c.args.number c.split-cut.result c.in_ok-party.party below c.split-cut.ensures.own.1 c.split-cut.ensures.free (c.split-cut.ensures.given ∙ newcomer_is g.M.PageMaker.told c.args.input.now c.args.pool.now c.args.seat.now own) made drives

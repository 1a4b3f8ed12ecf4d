use Rattle.std.proofs.Common.{◌+◌, ◌<◌, List, length, drop, sym, ap, ◌∙◌, arith, fold}
use Rattle.pool_run.proofs.Imports.{at_drop_more, at_drop_all, PageCalls}
use Rattle.pool_run.specs.Numbers.{with_party}
use Rattle.pool_run.specs.declared.running_party.RunningParty.{RunningParty}
use Rattle.pool_run.proofs.run.add_parties.Goals as goal

pub loop-party-preserved : goal.loop-party-preserved
loop-party-preserved g c =
    let P : Type 0 = g.row.P.Denot in
    let xs : List (RunningParty P) = c.args.parties.now in
    let i = c.loop-party.party-index in
    let x : RunningParty P = c.party-item.result in
    let below : i < length xs = c.loop-party-test.true in
    ap (λ (calls : PageCalls). fold with_party calls (drop (i + 1) xs)) c.add_party-total.ensures
    ∙ ap (λ (p : RunningParty P). fold with_party (with_party c.loop-party.total p) (drop (i + 1) xs)) c.party-item.is
    ∙ sym (at_drop_more (fold with_party c.loop-party.total) xs i x below)
    ∙ c.loop-party.invariant

pub returns : goal.returns
returns g c =
    let P : Type 0 = g.row.P.Denot in
    let xs : List (RunningParty P) = c.args.parties.now in
    sym (at_drop_all (fold with_party c.loop-party.total) xs c.loop-party.party-index (omega (arith, c.loop-party-test.false))) ∙ c.loop-party.invariant

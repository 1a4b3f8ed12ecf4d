use Rattle.std.proofs.Common.{refl, sym, ap, subst}
use Rattle.pool_run.proofs.Imports.{Frame, PlainHeap}
use Rattle.pool_run.specs.Ties.{IsReserved}
use Rattle.pool_run.specs.Turns.{makes_step}
use Rattle.pool_run.specs.declared.running_party.RunningParty.{RunningParty}
use Rattle.pool_run.proofs.Reserving.{plain_reserved}
use Rattle.pool_run.proofs.begin.begin_plain.Goals as goal

pub returns-clause-begins : goal.returns-clause-begins
returns-clause-begins g c =
    let p : RunningParty g.row.P.Denot = c.args.party.now in
    (makes_step _ p.live, refl, (ap (λ (f : Frame g.row.P.Denot PlainHeap). record p { frame = f }) c.begin.ensures.value, refl))

pub returns-clause-reserved : goal.returns-clause-reserved
returns-clause-reserved g c = λ slots reserved.
    let R : Frame g.row.P.Denot PlainHeap → Type 0 = λ f. IsReserved f slots in
    subst R (sym c.begin.ensures.value) (plain_reserved c.args.call c.args.party.now.frame slots c.requires.plain reserved)

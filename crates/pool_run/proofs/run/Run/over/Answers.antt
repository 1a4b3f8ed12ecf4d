use Rattle.std.proofs.Common.{List, refl, sym, subst}
use Rattle.pool_run.proofs.Imports.{PoolCore, PlainHeap}
use Rattle.pool_run.specs.RunsMade.{IsKept, AreReserved}
use Rattle.pool_run.specs.declared.running_party.RunningParty.{RunningParty}
use Rattle.pool_run.proofs.Reserving.{made_reserved}
use Rattle.pool_run.proofs.RunMade.{kept_at_start}
use Rattle.pool_run.proofs.run.Run.over.Goals as goal

pub invariant_of-result : goal.invariant_of-result
invariant_of-result g c =
    let P : Type 0 = g.row.P.Denot in
    let core : PoolCore P PlainHeap = c.args.core in
    let To : List (RunningParty P) → Type 0 = λ parties. IsKept core parties × AreReserved parties c.in_ok-slots.slots.items in
    let so = subst To (sym c.in_ok-made.ensures) (kept_at_start g.maker core c.args.parties.now c.requires.1.0 c.requires.1.1.0 c.requires.1.1.1.1, made_reserved core.settings c.args.parties.now c.in_ok-slots.slots.items c.in_ok-slots.ensures) in
    (so.0, so.1, refl)

use Rattle.std.proofs.Common.{refl, subst, sym}
use Rattle.pool_run.specs.AtOnce.{given_act}
use Rattle.pool_run.specs.Turns.{replies, BeginsFrom, OpensAct}
use Rattle.pool_run.specs.declared.act.Act.{Act}
use Rattle.pool_run.specs.declared.running_party.RunningParty.{RunningParty}
use Rattle.pool_run.proofs.begin.begin.Goals as goal

pub returns-in-OnMemory-clause-begins : goal.returns-in-OnMemory-clause-begins
returns-in-OnMemory-clause-begins g c =
    let p : RunningParty g.row.P.Denot = c.args.party.now in
    let B : Act → Type 0 = λ act. BeginsFrom (OpensAct c.args.modules.now (given_act act) p) p c.end_at_once.new.party c.end_at_once.result in
    subst B (sym c.in-OnMemory.is) (
      replies c.act_on_bytes-reply.result c.act_on_bytes-reply.new.live p.store,
      (c.act_on_bytes-reply.result, c.act_on_bytes-reply.new.live, c.act_on_bytes-reply.ensures, refl),
      (c.end_at_once.ensures.party, c.end_at_once.ensures.replies),
    )

pub returns-in-OnTable-clause-begins : goal.returns-in-OnTable-clause-begins
returns-in-OnTable-clause-begins g c =
    let p : RunningParty g.row.P.Denot = c.args.party.now in
    let B : Act → Type 0 = λ act. BeginsFrom (OpensAct c.args.modules.now (given_act act) p) p c.end_at_once-in-OnTable.new.party c.end_at_once-in-OnTable.result in
    subst B (sym c.in-OnTable.is) (
      replies c.act_on_table-reply.result c.act_on_table-reply.new.live c.act_on_table-reply.new.store,
      (c.act_on_table-reply.result, c.act_on_table-reply.new.live, c.act_on_table-reply.new.store, c.act_on_table-reply.ensures.moves, c.act_on_table-reply.ensures.unasked, refl),
      (c.end_at_once-in-OnTable.ensures.party, c.end_at_once-in-OnTable.ensures.replies),
    )

pub returns-in-Drop-clause-reserved : goal.returns-in-Drop-clause-reserved
returns-in-Drop-clause-reserved g c = c.give_back.ensures.reserved c.args.slots.now c.requires.reserved

use Rattle.std.proofs.Common.{◌∙◌, Bool, true, false, refl, sym, subst}
use Rattle.pool_alloc.specs.Stepping.{is_idle}
use Rattle.pool_run.specs.Turns.{Turned, makes_step, OpensAt, TurnsFrom}
use Rattle.pool_run.specs.declared.running_party.RunningParty.{RunningParty}
use Rattle.pool_run.proofs.turn.turn_of.Goals as goal

pub returns-then-is_idle-clause-turn : goal.returns-then-is_idle-clause-turn
returns-then-is_idle-clause-turn g c =
    let P : Type 0 = g.row.P.Denot in
    let p : RunningParty P = c.args.party.now in
    let t : Turned P = record { core = c.begin_turn.new.core; party = c.begin_turn.new.party; reply = c.begin_turn.result } in
    let T : Bool → Type 0 = λ b. TurnsFrom (OpensAt b c.args.modules.now c.args.commands.now p) c.args.core.now p t in
    subst T {x = true} {y = is_idle p.frame.phase} (sym (sym c.is_idle.ensures ∙ c.if-is_idle.true)) c.begin_turn.ensures.turn

pub returns-else-is_idle-clause-turn : goal.returns-else-is_idle-clause-turn
returns-else-is_idle-clause-turn g c =
    let P : Type 0 = g.row.P.Denot in
    let p : RunningParty P = c.args.party.now in
    let t : Turned P = record { core = c.step_call.new.core; party = c.step_call.new.party; reply = c.step_call.result } in
    let T : Bool → Type 0 = λ b. TurnsFrom (OpensAt b c.args.modules.now c.args.commands.now p) c.args.core.now p t in
    subst T {x = false} {y = is_idle p.frame.phase} (sym (sym c.is_idle.ensures ∙ c.if-is_idle.false)) (makes_step p.frame p.live, refl, c.step_call.ensures.steps)

use Rattle.std.proofs.Common.{rules, sym, subst}
use Rattle.pool_run.specs.Turns.{Turned}
use Rattle.pool_run.specs.declared.running_party.RunningParty.{RunningParty}
use Rattle.pool_run.proofs.BegunTurns.{begun_can, ends_turn, rests_turn, steps_turn}
use Rattle.pool_run.proofs.turn.begin_turn.Goals as goal

pub step_call-requires : goal.step_call-requires
step_call-requires g c κs within =
    let can = begun_can g.maker c.args.modules.now c.args.commands.now c.args.core.now c.args.party.now c.begin_next.new.party c.begin_next.result c.requires.1.1.1.0 c.requires.1.0 c.requires.1.1.1.1.1.1.1.0 c.requires.1.1.1.1.1.0 c.begin_next.ensures.begins c.in-Calls.is in
    search rules

pub returns-in-Rests-clause-turn : goal.returns-in-Rests-clause-turn
returns-in-Rests-clause-turn g c = rests_turn _ c.args.core.now c.args.party.now c.begin_next.new.party c.begin_next.result c.begin_next.ensures.begins c.in-Rests.is

pub returns-in-Replies-clause-turn : goal.returns-in-Replies-clause-turn
returns-in-Replies-clause-turn g c = ends_turn _ c.args.core.now c.args.party.now c.begin_next.new.party c.in-Replies.reply c.begin_next.result c.begin_next.ensures.begins c.in-Replies.is

pub returns-in-Calls-clause-turn : goal.returns-in-Calls-clause-turn
returns-in-Calls-clause-turn g c = steps_turn _ c.args.core.now c.args.party.now c.begin_next.new.party (record { core = c.step_call.new.core; party = c.step_call.new.party; reply = c.step_call.result }) c.begin_next.result c.begin_next.ensures.begins c.in-Calls.is c.step_call.ensures.steps

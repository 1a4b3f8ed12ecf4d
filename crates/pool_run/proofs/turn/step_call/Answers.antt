use Rattle.std.proofs.Common.{rules}
use Rattle.pool_run.proofs.Imports.{After, PlainHeap}
use Rattle.pool_run.proofs.Parties.{can_step}
use Rattle.pool_run.proofs.Reserving.{memories_granted, tables_granted, step_reserved, reserved_there}
use Rattle.pool_run.proofs.Stepped.{stepped}
use Rattle.pool_run.proofs.TurnsMade.{place_for, steps_made}
use Rattle.pool_run.proofs.turn.step_call.Goals as goal

pub step_under-requires : goal.step_under-requires
step_under-requires g c κs within =
    let can = can_step g.maker c.args.core.now c.args.party.now c.requires.1.0 in
    (search rules, (can, (c.requires.1.1.0, c.requires.1.1.1.1.1)))

pub answer-requires-clause-place : goal.answer-requires-clause-place
answer-requires-clause-place g c =
    let a : After g.row.P.Denot PlainHeap = record { core = c.step_under.new.core; frame = c.step_under.new.frame; outcome = c.step_under.new.outcome } in
    let row = c.step_under.ensures in
    place_for g.maker c.args.core.now c.args.party.now a c.requires.1.0 (stepped g.maker row.0 row.1 c.args.core.now c.args.party.now.frame a (can_step g.maker c.args.core.now c.args.party.now c.requires.1.0) row.3)

pub answer-requires-clause-memories : goal.answer-requires-clause-memories
answer-requires-clause-memories g c =
    let a : After g.row.P.Denot PlainHeap = record { core = c.step_under.new.core; frame = c.step_under.new.frame; outcome = c.step_under.new.outcome } in
    let row = c.step_under.ensures in
    memories_granted g.maker c.args.core.now c.args.party.now.frame a c.args.slots.now c.requires.1.1.1.1.0 (stepped g.maker row.0 row.1 c.args.core.now c.args.party.now.frame a (can_step g.maker c.args.core.now c.args.party.now c.requires.1.0) row.3)

pub answer-requires-clause-tables : goal.answer-requires-clause-tables
answer-requires-clause-tables g c =
    let a : After g.row.P.Denot PlainHeap = record { core = c.step_under.new.core; frame = c.step_under.new.frame; outcome = c.step_under.new.outcome } in
    let row = c.step_under.ensures in
    tables_granted g.maker c.args.core.now c.args.party.now.frame a c.args.slots.now c.requires.1.1.1.1.0 (stepped g.maker row.0 row.1 c.args.core.now c.args.party.now.frame a (can_step g.maker c.args.core.now c.args.party.now c.requires.1.0) row.3)

pub returns-clause-steps : goal.returns-clause-steps
returns-clause-steps g c =
    let a : After g.row.P.Denot PlainHeap = record { core = c.step_under.new.core; frame = c.step_under.new.frame; outcome = c.step_under.new.outcome } in
    steps_made c.step_under.new.heaps c.args.core.now c.args.party.now a _ c.step_under.ensures (c.answer.ensures.answered a.core)

pub returns-clause-reserved : goal.returns-clause-reserved
returns-clause-reserved g c =
    let P : Type 0 = g.row.P.Denot in
    let a : After P PlainHeap = record { core = c.step_under.new.core; frame = c.step_under.new.frame; outcome = c.step_under.new.outcome } in
    let row = c.step_under.ensures in
    reserved_there a.outcome a.core (record c.args.party.now { frame = a.frame; heaps = c.step_under.new.heaps }) c.answer.new.party c.answer.result c.answer.new.slots (c.answer.ensures.answered a.core)
    (step_reserved g.maker c.args.core.now c.args.party.now.frame a c.args.slots.now c.answer.new.slots c.requires.1.1.1.1.0 (stepped g.maker row.0 row.1 c.args.core.now c.args.party.now.frame a (can_step g.maker c.args.core.now c.args.party.now c.requires.1.0) row.3) c.answer.ensures.slots)

use Rattle.std.proofs.Common.{arith}
use Rattle.pool_shared.proofs.First.{so_far_none, so_far_more, so_far_all, so_far_enough}
use Rattle.pool_shared.proofs.spot_state.SpotState.notify.Goals as goal

pub loop-marked-init : goal.loop-marked-init
loop-marked-init c = so_far_none c.args.addr c.args.n c.args.self.now

pub returns-then-not-mark_first-clause-answer : goal.returns-then-not-mark_first-clause-answer
returns-then-not-mark_first-clause-answer c =
    (so_far_all c.args.addr c.args.n c.loop-marked.marked c.args.self.now c.loop-marked.self c.mark_first.new.self c.loop-marked.invariant c.if-not-mark_first.ensures.answer c.mark_first.ensures.after).0

pub returns-then-not-mark_first-clause-after : goal.returns-then-not-mark_first-clause-after
returns-then-not-mark_first-clause-after c =
    (so_far_all c.args.addr c.args.n c.loop-marked.marked c.args.self.now c.loop-marked.self c.mark_first.new.self c.loop-marked.invariant c.if-not-mark_first.ensures.answer c.mark_first.ensures.after).1

pub loop-marked-preserved : goal.loop-marked-preserved
loop-marked-preserved c =
    so_far_more c.args.addr c.args.n c.loop-marked.marked c.args.self.now c.loop-marked.self c.mark_first.new.self c.loop-marked.invariant c.loop-marked-test.true c.mark_first.ensures.distinct c.if-not-mark_first.ensures.answer c.mark_first.ensures.after

pub returns-clause-answer : goal.returns-clause-answer
returns-clause-answer c =
    (so_far_enough c.args.addr c.args.n c.loop-marked.marked c.args.self.now c.loop-marked.self c.loop-marked.invariant (omega arith)).0

pub returns-clause-after : goal.returns-clause-after
returns-clause-after c =
    (so_far_enough c.args.addr c.args.n c.loop-marked.marked c.args.self.now c.loop-marked.self c.loop-marked.invariant (omega arith)).1

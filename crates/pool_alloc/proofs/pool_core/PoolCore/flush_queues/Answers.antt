use Rattle.std.proofs.Common.{rules, refl, ap, ◌∙◌, arith}
use Rattle.pool_slots.specs.declared.plan.Plan.{Plan}
use Rattle.pool_alloc.specs.StepReads.{queues_searched}
use Rattle.pool_alloc.proofs.Closings.{closed_at_home, closed_by, parts_of}
use Rattle.pool_alloc.proofs.pool_core.PoolCore.flush_queues.Goals as goal

pub loop-at-init : goal.loop-at-init
loop-at-init g c = record { closed = c.requires.1.1; settings = refl; plan = refl; last = c.queues_for-at-end.ensures }

pub flush_queue-requires : goal.flush_queue-requires
flush_queue-requires g c κs within = (search rules, (search rules, (c.loop-at.invariant.closed, (refl, omega (arith, c.loop-at-test.true, c.loop-at.invariant.last, ap (λ (p : Plan). queues_searched p) c.loop-at.invariant.plan)))))

pub loop-at-preserved : goal.loop-at-preserved
loop-at-preserved g c = record { closed = c.flush_queue.ensures.closed; settings = c.flush_queue.ensures.settings ∙ c.loop-at.invariant.settings; plan = c.flush_queue.ensures.plan ∙ c.loop-at.invariant.plan; last = c.loop-at.invariant.last }

pub returns-clause-home : goal.returns-clause-home
returns-clause-home g c = closed_at_home g.maker c.loop-at.self c.loop-at.frame (closed_by g.maker c.loop-at.at c.loop-at.self c.loop-at.frame (omega (arith, c.loop-at-test.false, c.loop-at.invariant.last, ap (λ (p : Plan). queues_searched p) c.loop-at.invariant.plan)) c.loop-at.invariant.closed)

pub returns-clause-parts : goal.returns-clause-parts
returns-clause-parts g c = parts_of g.maker c.args.self.now.settings c.args.self.now.plan c.loop-at.self c.loop-at.invariant.closed.0.core c.loop-at.invariant.settings c.loop-at.invariant.plan

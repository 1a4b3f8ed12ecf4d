use Rattle.std.proofs.Common.{inl, inr, arith}
use Rattle.pool_slots.proofs.Flushing.{flush_begins, flush_step, flush_smaller, flush_over, flush_failed, flush_same, fault_same, no_ranges}
use Rattle.pool_slots.proofs.decommit_queue.DecommitQueue.decommit_all.Goals as goal

pub loop-self-init : goal.loop-self-init
loop-self-init g c = flush_begins c.args.self.now c.requires.owners

pub loop-self-smaller : goal.loop-self-smaller
loop-self-smaller g c = flush_smaller c.loop-self.self c.decommit_run.new.self (omega (arith, c.loop-self-test.true, c.raw_len.ensures.value)) c.in-Ok.ensures.ok

pub loop-self-preserved : goal.loop-self-preserved
loop-self-preserved g c = flush_step c.args.self.now c.loop-self.self c.decommit_run.new.self c.loop-self.invariant c.in-Ok.ensures.ok c.in-Ok.ensures.owners c.in-Ok.ensures.order

pub returns-in_default-clause-slots : goal.returns-in_default-clause-slots
returns-in_default-clause-slots g c = inr (flush_failed c.args.self.now c.loop-self.self c.decommit_run.new.self c.loop-self.invariant (omega (arith, c.loop-self-test.true, c.raw_len.ensures.value)) c.in_default.ensures.err c.in_default.ensures.order)

pub returns-in_default-clause-same : goal.returns-in_default-clause-same
returns-in_default-clause-same g c = fault_same c.args.self.now c.loop-self.self c.decommit_run.new.self c.loop-self.invariant c.in_default.ensures.err

pub returns-clause-slots : goal.returns-clause-slots
returns-clause-slots g c = inl (flush_over c.args.self.now c.loop-self.self c.loop-self.invariant (no_ranges c.loop-self.self.ranges (λ some. omega (arith, some, c.loop-self-test.false, c.raw_len.ensures.value))))

pub returns-clause-same : goal.returns-clause-same
returns-clause-same g c = flush_same c.args.self.now c.loop-self.self c.loop-self.invariant (no_ranges c.loop-self.self.ranges (λ some. omega (arith, some, c.loop-self-test.false, c.raw_len.ensures.value)))

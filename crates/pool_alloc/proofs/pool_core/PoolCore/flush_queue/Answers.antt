use Rattle.std.proofs.Common.{rules, ℕ, refl, sym, subst, ◌∙◌, arith}
use Rattle.pool_alloc.specs.Closing.{IsClosing}
use Rattle.pool_alloc.proofs.Closings.{can_take, begun_closing, not_idle, is_over}
use Rattle.pool_alloc.proofs.pool_core.PoolCore.flush_queue.Goals as goal

pub begin_flush-requires-clause-queues : goal.begin_flush-requires-clause-queues
begin_flush-requires-clause-queues g c = (can_take g.of.maker c.args.at c.args.self.now c.args.frame.now c.requires.1.1.0).0

pub begin_flush-requires-clause-queue : goal.begin_flush-requires-clause-queue
begin_flush-requires-clause-queue g c = (can_take g.of.maker c.args.at c.args.self.now c.args.frame.now c.requires.1.1.0).1

pub begin_flush-requires-clause-spare : goal.begin_flush-requires-clause-spare
begin_flush-requires-clause-spare g c = (can_take g.of.maker c.args.at c.args.self.now c.args.frame.now c.requires.1.1.0).2

pub begin_flush-requires-clause-counts : goal.begin_flush-requires-clause-counts
begin_flush-requires-clause-counts g c = (can_take g.of.maker c.args.at c.args.self.now c.args.frame.now c.requires.1.1.0).3

pub loop-alloc-init : goal.loop-alloc-init
loop-alloc-init g c = record {
  closing = rw (c.begin_flush.ensures.core, c.begin_flush.ensures.frame, c.requires.1.1.1.0) (begun_closing g.of.maker c.args.at c.args.self.now c.args.frame.now c.requires.1.1.0);
  settings = rw c.begin_flush.ensures.core refl;
  plan = rw c.begin_flush.ensures.core refl;
}

pub closing_step-requires : goal.closing_step-requires
closing_step-requires g c κs within = (search rules, (search rules, (c.loop-alloc.invariant.closing, not_idle c.loop-alloc.frame.phase (sym c.is_busy.ensures ∙ c.loop-alloc-test.true))))

pub loop-alloc-smaller : goal.loop-alloc-smaller
loop-alloc-smaller g c = omega (arith, c.closing_step.ensures.fewer)

pub loop-alloc-preserved : goal.loop-alloc-preserved
loop-alloc-preserved g c = record { closing = c.closing_step.ensures.closing; settings = c.closing_step.ensures.settings ∙ c.loop-alloc.invariant.settings; plan = c.closing_step.ensures.plan ∙ c.loop-alloc.invariant.plan }

pub returns-clause-closed : goal.returns-clause-closed
returns-clause-closed g c =
    let C : ℕ → Type 0 = λ n. IsClosing g.of.maker n c.loop-alloc.self c.loop-alloc.frame in
    (subst C c.requires.1.1.1.0 c.loop-alloc.invariant.closing, is_over c.loop-alloc.frame.phase (sym c.is_busy.ensures ∙ c.loop-alloc-test.false))

pub returns-clause-settings : goal.returns-clause-settings
returns-clause-settings g c = c.loop-alloc.invariant.settings

pub returns-clause-plan : goal.returns-clause-plan
returns-clause-plan g c = c.loop-alloc.invariant.plan

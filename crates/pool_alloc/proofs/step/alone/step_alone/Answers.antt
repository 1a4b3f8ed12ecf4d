use Rattle.std.proofs.Common.{refl, subst}
use Rattle.pool_limits.specs.Exchanges.{Exchanged}
use Rattle.pool_alloc.specs.StepReads.{under}
use Rattle.pool_alloc.specs.StepTable.{flush_step}
use Rattle.pool_alloc.specs.Turns.{resting}
use Rattle.pool_alloc.specs.declared.frame.Frame.{Frame}
use Rattle.pool_alloc.specs.declared.frame.Phase.TheVariants.{Idle, Validate, TestStack, TestHeap, MakeHeap, Flush, ValidateComponent}
use Rattle.pool_alloc.proofs.FlushCalls.{FlushesTo}
use Rattle.pool_alloc.proofs.StepsAlone.{alone_row, emptied}
use Rattle.pool_alloc.proofs.StepsAsRows.{nothing_told}
use Rattle.pool_alloc.proofs.step.alone.step_alone.Goals as goal

pub returns-in-Idle-clause-row : goal.returns-in-Idle-clause-row
returns-in-Idle-clause-row g c = alone_row (λ passed. Exchanged g.L.ResourceLimiter.leads passed c.args.limiter.now c.args.limiter.now) _ _ nothing_told Idle c.args.settings.now c.args.plan.now c.args.frame.now c.args.frame.now _ _ c.in-Idle.is (emptied c.args.frame.now c.args.frame.now.phase c.in-Idle.is) tt tt refl refl refl (λ core. rw c.requires.unanswered refl)

pub returns-in-Validate-clause-row : goal.returns-in-Validate-clause-row
returns-in-Validate-clause-row g c = alone_row (λ passed. Exchanged g.L.ResourceLimiter.leads passed c.args.limiter.now c.args.limiter.now) _ _ (record nothing_told { wants = c.validate.ensures.0 }) Validate c.args.settings.now c.args.plan.now c.args.frame.now c.rest.new.self _ _ c.in-Validate.is c.rest.ensures tt tt refl refl refl (λ core. c.validate.ensures.1 core)

pub returns-in-TestStack-clause-row : goal.returns-in-TestStack-clause-row
returns-in-TestStack-clause-row g c = alone_row (λ passed. Exchanged g.L.ResourceLimiter.leads passed c.args.limiter.now c.args.limiter.now) _ _ nothing_told TestStack c.args.settings.now c.args.plan.now c.args.frame.now c.rest-in-TestStack.new.self _ _ c.in-TestStack.is c.rest-in-TestStack.ensures tt tt refl refl refl (λ core. c.test_stack.ensures (under c.args.settings.now c.args.plan.now core))

pub returns-in-TestHeap-clause-row : goal.returns-in-TestHeap-clause-row
returns-in-TestHeap-clause-row g c = alone_row (λ passed. Exchanged g.L.ResourceLimiter.leads passed c.args.limiter.now c.args.limiter.now) _ _ (record nothing_told { wants = c.test_heap.ensures.0 }) TestHeap c.args.settings.now c.args.plan.now c.args.frame.now c.rest-in-TestHeap.new.self _ _ c.in-TestHeap.is c.rest-in-TestHeap.ensures tt tt refl refl refl (λ core. c.test_heap.ensures.1 (under c.args.settings.now c.args.plan.now core))

pub returns-in-MakeHeap-clause-row : goal.returns-in-MakeHeap-clause-row
returns-in-MakeHeap-clause-row g c = alone_row (λ passed. Exchanged g.L.ResourceLimiter.leads passed c.args.limiter.now c.args.limiter.now) _ _ (record nothing_told { heap = c.make_heap.ensures.0 }) (MakeHeap c.in-MakeHeap.at) c.args.settings.now c.args.plan.now c.args.frame.now c.rest-in-MakeHeap.new.self _ _ c.in-MakeHeap.is c.rest-in-MakeHeap.ensures tt tt refl c.make_heap.ensures.1 refl (λ core. rw c.requires.unanswered (c.make_heap.ensures.2 (under c.args.settings.now c.args.plan.now core)))

pub returns-in-Flush-clause-row : goal.returns-in-Flush-clause-row
returns-in-Flush-clause-row g c =
    let F : Frame g.row.P.Denot g.row.H.Denot → Type 0 = λ f. FlushesTo (flush_step f.local f.freed.items) f c.flush_alone.new.frame c.flush_alone.new.outcome in
    let flushes : F (resting c.args.frame.now) = subst F c.rest-in-Flush.ensures c.flush_alone.ensures in
    alone_row (λ passed. Exchanged g.L.ResourceLimiter.leads passed c.args.limiter.now c.args.limiter.now) _ _ flushes.0 Flush c.args.settings.now c.args.plan.now c.args.frame.now (resting c.args.frame.now) _ _ c.in-Flush.is refl flushes.1 flushes.2 refl refl refl (λ core. flushes.3 (under c.args.settings.now c.args.plan.now core))

pub returns-in-ValidateComponent-clause-row : goal.returns-in-ValidateComponent-clause-row
returns-in-ValidateComponent-clause-row g c = alone_row (λ passed. Exchanged g.L.ResourceLimiter.leads passed c.args.limiter.now c.args.limiter.now) _ _ nothing_told (ValidateComponent c.in-ValidateComponent.info) c.args.settings.now c.args.plan.now c.args.frame.now c.rest-in-ValidateComponent.new.self _ _ c.in-ValidateComponent.is c.rest-in-ValidateComponent.ensures tt tt refl refl refl (λ core. c.test_component.ensures (under c.args.settings.now c.args.plan.now core))

pub returns-in_default-clause-row : goal.returns-in_default-clause-row
returns-in_default-clause-row g c = c.step_alone_holding.ensures _

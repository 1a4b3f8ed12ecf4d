use Rattle.std.proofs.Common.{refl, subst, sym, ◌∙◌}
use Rattle.pool_limits.specs.Exchanges.{Exchanged}
use Rattle.pool_alloc.specs.StepReads.{under}
use Rattle.pool_alloc.specs.StepsAlone.{CanPurgeAlone, CanStepAlone}
use Rattle.pool_alloc.specs.declared.frame.Phase.{Phase}
use Rattle.pool_alloc.specs.declared.frame.Phase.TheVariants.{Empty, Instantiate, MakeMemory, MakeTable, Reset, Purge, Release}
use Rattle.pool_alloc.proofs.StepsAlone.{alone_row, emptied}
use Rattle.pool_alloc.proofs.StepsAsRows.{nothing_told}
use Rattle.pool_alloc.proofs.step.alone.step_alone_holding.Goals as goal

pub purge_alone-requires-clause-can : goal.purge_alone-requires-clause-can
purge_alone-requires-clause-can g c =
    let C : Phase g.row.P.Denot g.row.H.Denot → Type 0 = λ p. CanStepAlone c.args.settings.now c.args.plan.now p c.args.frame.now in
    (c.args.settings.now, c.args.plan.now, subst C (sym c.replace-phase.ensures.value ∙ c.in-Purge.is) c.requires.can)

pub returns-in-Empty : goal.returns-in-Empty
returns-in-Empty g c heaps = alone_row (λ passed. Exchanged g.L.ResourceLimiter.leads passed c.args.limiter.now c.args.limiter.now) _ _ (record nothing_told { fault = c.empty.ensures.0; slot = c.empty.ensures.1 }) (Empty c.in-Empty.at c.in-Empty.held) c.args.settings.now c.args.plan.now c.args.frame.now (record c.args.frame.now { phase = c.replace-phase.new.dest }) _ _ (sym c.replace-phase.ensures.value ∙ c.in-Empty.is) (emptied c.args.frame.now c.replace-phase.new.dest c.replace-phase.ensures.after) c.empty.ensures.2 c.empty.ensures.3 refl refl refl (λ core. rw c.requires.unanswered (c.empty.ensures.4 (under c.args.settings.now c.args.plan.now core)))

pub returns-in-Instantiate : goal.returns-in-Instantiate
returns-in-Instantiate g c heaps = alone_row (λ passed. Exchanged g.L.ResourceLimiter.leads passed c.args.limiter.now c.args.limiter.now) _ _ (record nothing_told { fault = c.instantiate.ensures.0; slot = c.instantiate.ensures.1 }) (Instantiate c.in-Instantiate.at c.in-Instantiate.held) c.args.settings.now c.args.plan.now c.args.frame.now (record c.args.frame.now { phase = c.replace-phase.new.dest }) _ _ (sym c.replace-phase.ensures.value ∙ c.in-Instantiate.is) (emptied c.args.frame.now c.replace-phase.new.dest c.replace-phase.ensures.after) c.instantiate.ensures.2 c.instantiate.ensures.3 refl refl refl (λ core. rw c.requires.unanswered (c.instantiate.ensures.4 (under c.args.settings.now c.args.plan.now core)))

pub returns-in-MakeMemory : goal.returns-in-MakeMemory
returns-in-MakeMemory g c heaps = alone_row (λ passed. Exchanged g.L.ResourceLimiter.leads passed c.args.limiter.now c.make_memory.new.limiter) _ _ (record nothing_told { limiter = c.make_memory.ensures.0 }) (MakeMemory c.in-MakeMemory.at c.in-MakeMemory.held) c.args.settings.now c.args.plan.now c.args.frame.now (record c.args.frame.now { phase = c.replace-phase.new.dest }) _ _ (sym c.replace-phase.ensures.value ∙ c.in-MakeMemory.is) (emptied c.args.frame.now c.replace-phase.new.dest c.replace-phase.ensures.after) tt tt c.make_memory.ensures.1 refl c.make_memory.ensures.2 (λ core. rw c.requires.unanswered (c.make_memory.ensures.3 (under c.args.settings.now c.args.plan.now core)))

pub returns-in-MakeTable : goal.returns-in-MakeTable
returns-in-MakeTable g c heaps = alone_row (λ passed. Exchanged g.L.ResourceLimiter.leads passed c.args.limiter.now c.make_table.new.limiter) _ _ (record nothing_told { limiter = c.make_table.ensures.0 }) (MakeTable c.in-MakeTable.at c.in-MakeTable.region) c.args.settings.now c.args.plan.now c.args.frame.now (record c.args.frame.now { phase = c.replace-phase.new.dest }) _ _ (sym c.replace-phase.ensures.value ∙ c.in-MakeTable.is) (emptied c.args.frame.now c.replace-phase.new.dest c.replace-phase.ensures.after) tt tt c.make_table.ensures.1 refl c.make_table.ensures.2 (λ core. rw c.requires.unanswered (c.make_table.ensures.3 (under c.args.settings.now c.args.plan.now core)))

pub returns-in-Reset : goal.returns-in-Reset
returns-in-Reset g c heaps = alone_row (λ passed. Exchanged g.L.ResourceLimiter.leads passed c.args.limiter.now c.args.limiter.now) _ _ c.reset.ensures.0 (Reset c.in-Reset.object) c.args.settings.now c.args.plan.now c.args.frame.now (record c.args.frame.now { phase = c.replace-phase.new.dest }) _ _ (sym c.replace-phase.ensures.value ∙ c.in-Reset.is) (emptied c.args.frame.now c.replace-phase.new.dest c.replace-phase.ensures.after) c.reset.ensures.1 c.reset.ensures.2 refl refl refl (λ core. c.reset.ensures.3 (under c.args.settings.now c.args.plan.now core))

pub returns-in-Purge : goal.returns-in-Purge
returns-in-Purge g c heaps =
    let C : Phase g.row.P.Denot g.row.H.Denot → Type 0 = λ p. CanStepAlone c.args.settings.now c.args.plan.now p c.args.frame.now in
    let can : CanPurgeAlone c.args.settings.now c.args.plan.now c.in-Purge.step = subst C (sym c.replace-phase.ensures.value ∙ c.in-Purge.is) c.requires.can in
    alone_row (λ passed. Exchanged g.L.ResourceLimiter.leads passed c.args.limiter.now c.args.limiter.now) _ _ c.purge_alone.ensures.0 (Purge c.in-Purge.cursor c.in-Purge.step) c.args.settings.now c.args.plan.now c.args.frame.now (record c.args.frame.now { phase = c.replace-phase.new.dest }) _ _ (sym c.replace-phase.ensures.value ∙ c.in-Purge.is) (emptied c.args.frame.now c.replace-phase.new.dest c.replace-phase.ensures.after) c.purge_alone.ensures.1 c.purge_alone.ensures.2 refl refl refl (λ core. c.purge_alone.ensures.3 (under c.args.settings.now c.args.plan.now core) can)

pub returns-in-Release : goal.returns-in-Release
returns-in-Release g c heaps = alone_row (λ passed. Exchanged g.L.ResourceLimiter.leads passed c.args.limiter.now c.args.limiter.now) _ _ c.release_alone.ensures.0 (Release c.in-Release.step) c.args.settings.now c.args.plan.now c.args.frame.now (record c.args.frame.now { phase = c.replace-phase.new.dest }) _ _ (sym c.replace-phase.ensures.value ∙ c.in-Release.is) (emptied c.args.frame.now c.replace-phase.new.dest c.replace-phase.ensures.after) c.release_alone.ensures.1 c.release_alone.ensures.2 refl refl refl (λ core. c.release_alone.ensures.3 core)

-- The steps that change no part and count nothing: what each needs, and that it is one of the step table on every pool. So
-- whoever has the frame makes the step.
use Rattle.std.specs.Prelude.{◌≡◌, ◌^◌, ◌<◌, List, [], length, false, Option}
use Rattle.pool_alloc.specs.Imports.{cell_of, is_taken, Exchange, HasOwners, IsClean, Plan}
use Rattle.pool_alloc.specs.CanStep.{CanForget, CanDrain, CanValidate, CanResetObject, CanBegin, CanMake, CanMakeTable, HasNext, HasTableNext}
use Rattle.pool_alloc.specs.Modules.{IfAllocated, IfTable}
use Rattle.pool_alloc.specs.PartyTold.{PartyTold}
use Rattle.pool_alloc.specs.Purges.{has_turns}
use Rattle.pool_alloc.specs.StepTable.{FlushStep, run, zero, flush_step}
use Rattle.pool_alloc.specs.StepReads.{IsHeapAsked, image_wanted, memories_wanted}
use Rattle.pool_alloc.specs.Stepping.{StepsAsking}
use Rattle.pool_alloc.specs.declared.frame.Frame.{Frame}
use Rattle.pool_alloc.specs.declared.frame.Outcome.{Outcome}
use Rattle.pool_alloc.specs.declared.frame.Phase.{Phase}
use Rattle.pool_alloc.specs.declared.frame.Phase.TheVariants.{Idle, Validate, TestStack, TestHeap, Empty, Instantiate, MakeMemory, MakeTable, MakeHeap, Reset, Flush, ValidateComponent, Purge, Release}
use Rattle.pool_alloc.specs.declared.pool_core.PoolCore.{PoolCore}
use Rattle.pool_alloc.specs.declared.pool_core.Settings.{Settings}
use Rattle.pool_alloc.specs.declared.purge.PurgeStep.{PurgeStep}
use Rattle.pool_alloc.specs.declared.purge.PurgeStep.TheVariants as purging_step
use Rattle.pool_alloc.specs.declared.release.ReleaseStep.{ReleaseStep}
use Rattle.pool_alloc.specs.declared.release.ReleaseStep.TheVariants as releasing_step

module _ {P : Type 0} where
  -- A purge without turns needs nothing, and what a slot holds can be forgotten.
  abbrev pub CanPurgeAlone : Settings → Plan → PurgeStep P → Type 0
  CanPurgeAlone s plan (purging_step.Pick tried) = has_turns s.max_memories_per_module plan ≡ false
  CanPurgeAlone s plan (purging_step.Forget at held) = CanForget held × (is_taken (cell_of held) ≡ false)
  CanPurgeAlone s plan _ = ⊥

  -- Room for the slots of all stripes can be computed, and the region of a slot can be decommitted.
  abbrev pub CanReleaseAlone : Settings → Plan → ReleaseStep P → Type 0
  CanReleaseAlone s plan releasing_step.Reserve = length plan.memories < 2 ^ 32
  CanReleaseAlone s plan (releasing_step.Decommit r k at held) = CanDrain s held × (is_taken (cell_of held) ≡ false)
  CanReleaseAlone s plan _ = ⊥

module _ {P H : Type 0} where
  -- The next ranges of one slot can be decommitted, or a slot can be zeroed by hand.
  abbrev pub CanFlushAlone : FlushStep → Frame P H → Type 0
  CanFlushAlone run f = (0 < length f.local.ranges) × HasOwners f.local
  CanFlushAlone (zero kind) f = f.local.ranges ≡ []
  CanFlushAlone _ f = ⊥

  -- What the code of such a step needs, in each phase. Other phases have another step.
  abbrev pub CanStepAlone : Settings → Plan → Phase P H → Frame P H → Type 0
  CanStepAlone s plan Idle f = Unit {0}
  CanStepAlone s plan Validate f = CanValidate (memories_wanted f.asked)
  CanStepAlone s plan TestStack f = Unit {0}
  CanStepAlone s plan TestHeap f = IsHeapAsked f.asked
  CanStepAlone s plan (Empty at held) f = Unit {0}
  CanStepAlone s plan (Instantiate at held) f = HasNext f.asked (length f.objects.memories.items) × IsClean held × IfAllocated f (CanBegin held (image_wanted f))
  CanStepAlone s plan (MakeMemory at held) f = HasNext f.asked (length f.objects.memories.items) × IfAllocated f (CanMake s held)
  CanStepAlone s plan (MakeTable at region) f = HasTableNext f.asked (length f.objects.tables.items) × IfTable f (CanMakeTable s region)
  CanStepAlone s plan (MakeHeap at) f = Unit {0}
  CanStepAlone s plan (Reset object) f = CanResetObject s object f.local
  CanStepAlone s plan Flush f = CanFlushAlone (flush_step f.local f.freed.items) f
  CanStepAlone s plan (ValidateComponent info) f = Unit {0}
  CanStepAlone s plan (Purge p step) f = CanPurgeAlone s plan step
  CanStepAlone s plan (Release step) f = CanReleaseAlone s plan step
  CanStepAlone s plan _ f = ⊥

  -- On each pool with these settings and this plan the step is one of the table, which leaves the pool as it is.
  abbrev pub StepsAlone : (List Exchange → Type 0) → PartyTold → PartyTold → Settings → Plan → Frame P H → Frame P H → Option (Outcome P H) → Type 0
  StepsAlone Passes old new s plan f next o = (c : PoolCore P H) → c.settings ≡ s → c.plan ≡ plan → StepsAsking Passes old new c f (record { core = c; frame = next; outcome = o })

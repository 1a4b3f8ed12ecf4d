-- What a frame's next step changes can be found: its place is a number of 32 bits.
use Rattle.std.proofs.Common.{◌≡◌, ℕ, ◌<◌, Bool, true, false, List, sym, ap, ◌∙◌, subst, refl, arith, true≢false, Option, Some, None}
use Rattle.std.specs.Prelude.{if◌then◌else◌}
use Rattle.pool_hall.specs.declared.view.View.{View}
use Rattle.pool_slots.specs.SlotQueues.{Queued, first_of_kind}
use Rattle.pool_slots.specs.declared.plan.Plan.{Plan}
use Rattle.pool_alloc.specs.Purges.{has_turns}
use Rattle.pool_alloc.specs.StepTable.{FlushStep, run, zero, put, free, flush_step}
use Rattle.pool_alloc.specs.Targets.{CanFindTarget, next_target, flush_target, put_target, purge_target, release_target}
use Rattle.pool_alloc.specs.declared.frame.Frame.{Frame}
use Rattle.pool_alloc.specs.declared.frame.FreedSlot.{FreedSlot}
use Rattle.pool_alloc.specs.declared.frame.Phase.{Phase}
use Rattle.pool_alloc.specs.declared.frame.Phase.TheVariants.{Pick, TakeQueue, TakeRegion, PutBack, FreeOne, FreeHeap, Merge, Flush, Purge, Release}
use Rattle.pool_alloc.specs.declared.pool_core.Settings.{Settings}
use Rattle.pool_alloc.specs.declared.purge.PurgeCursor.{PurgeCursor}
use Rattle.pool_alloc.specs.declared.purge.PurgeStep.{PurgeStep}
use Rattle.pool_alloc.specs.declared.purge.PurgeStep.TheVariants as purging_step
use Rattle.pool_alloc.specs.declared.release.ReleaseStep.{ReleaseStep}
use Rattle.pool_alloc.specs.declared.release.ReleaseStep.TheVariants as releasing_step
use Rattle.pool_alloc.specs.declared.step.targets.Target.{Target}
use Rattle.pool_alloc.specs.declared.step.targets.Target.TheVariants.{Part, Up, Down, Alone}
use Rattle.pool_alloc.proofs.NextTargets.{can_find, can_on}
use Rattle.pool_driver.specs.Driving.{Given, IsDriven, StandsOn, StandsFor}
use Rattle.pool_driver.specs.Placed.{About}
use Rattle.pool_driver.specs.Pools.{core_of}
use Rattle.pool_driver.proofs.Driven.{recounted, steps_at}

-- the step counts
abbrev counts : Target → Bool
counts (Up name) = true
counts (Down name) = true
counts _ = false

flush_none : (plan : Plan) (step : FlushStep) (slots : List Queued) (freed : List FreedSlot) → counts (flush_target plan step slots freed) ≡ false
flush_none plan run slots freed = refl
flush_none plan (zero kind) slots freed = refl
flush_none plan free slots freed = refl
flush_none plan (put kind) slots freed = first (first_of_kind kind slots)
  where
    first : (o : Option Queued) → counts (put_target plan o) ≡ false
    first None = refl
    first (Some m) = refl

turn_none : (b : Bool) (p : ℕ) → counts (if b then Part p else Alone) ≡ false
turn_none true p = refl
turn_none false p = refl

purge_none : {P : Type 0} (s : Settings) (plan : Plan) (p : PurgeCursor) (step : PurgeStep P) → counts (purge_target s plan p step) ≡ false
purge_none s plan p (purging_step.Pick tried) = turn_none (has_turns s.max_memories_per_module plan) _
purge_none s plan p (purging_step.TakeRegion name) = refl
purge_none s plan p (purging_step.Forget at held) = refl
purge_none s plan p (purging_step.PutRegion at held) = refl
purge_none s plan p (purging_step.Free name) = refl

release_none : {P : Type 0} (plan : Plan) (step : ReleaseStep P) → counts (release_target plan step) ≡ false
release_none plan releasing_step.Reserve = refl
release_none plan (releasing_step.TakeWarm r j) = refl
release_none plan (releasing_step.TakeRegion r k) = refl
release_none plan (releasing_step.Decommit r k at held) = refl
release_none plan (releasing_step.PutRegion r k at held) = refl
release_none plan (releasing_step.Free r x) = refl

module _ {P H : Type 0} (s : Settings) (plan : Plan) (f : Frame P H) where
  -- a step that counts has no place
  found_counting : (p : Phase P H) → counts (next_target s plan p f) ≡ true → CanFindTarget s plan p f
  found_counting (Pick tried) is = absurd (true≢false (sym is))
  found_counting TakeQueue is = absurd (true≢false (sym is))
  found_counting (TakeRegion name) is = absurd (true≢false (sym is))
  found_counting (PutBack at held) is = absurd (true≢false (sym is))
  found_counting (FreeOne name) is = absurd (true≢false (sym is))
  found_counting (FreeHeap name memory) is = absurd (true≢false (sym is))
  found_counting Merge is = absurd (true≢false (sym is))
  found_counting Flush is = absurd (true≢false (sym is ∙ flush_none plan (flush_step f.local f.freed.items) f.local.slots f.freed.items))
  found_counting (Purge c step) is = absurd (true≢false (sym is ∙ purge_none s plan c step))
  found_counting (Release step) is = absurd (true≢false (sym is ∙ release_none plan step))
  found_counting p is = tt

module _ {T P H : Type 0} (places : ℕ) (g : Given) (v : View T) (f : Frame P H) (driven : IsDriven places g v f None) where
  on_stand : StandsOn g.about places f → CanFindTarget g.about.settings g.about.plan f.phase f
  on_stand stands =
      let core = core_of g.about stands.counters None stands.parts in
      can_find (recounted g.about.maker core f) f (steps_at g.about.maker core f stands.can)

  -- What the next step changes can be found.
  pub can_find_next : CanFindTarget g.about.settings g.about.plan f.phase f
  can_find_next = go (next_target g.about.settings g.about.plan f.phase f) refl driven.stands
    where
      go : (t : Target) → next_target g.about.settings g.about.plan f.phase f ≡ t → StandsFor t g.about places f → CanFindTarget g.about.settings g.about.plan f.phase f
      go (Part p) is stands = on_stand stands
      go Alone is stands = on_stand stands
      go (Up name) is stands = found_counting g.about.settings g.about.plan f f.phase (ap counts is)
      go (Down name) is stands = found_counting g.about.settings g.about.plan f f.phase (ap counts is)

  -- The place of a step on a part is one of the hall's.
  pub place_inside : (p : ℕ) → next_target g.about.settings g.about.plan f.phase f ≡ Part p → p < places
  place_inside p target =
      let stands : StandsOn g.about places f = subst (λ (t : Target). StandsFor t g.about places f) target driven.stands in
      let core = core_of g.about stands.counters None stands.parts in
      omega (arith, (can_on p (recounted g.about.maker core f) f (steps_at g.about.maker core f stands.can) target).0, stands.long)

-- What the code finds over its own settings and plan is what the pool's say.
module _ {P H : Type 0} (a : About) (f : Frame P H) (settings : Settings) (plan : Plan) (same_settings : settings ≡ a.settings) (same_plan : plan ≡ a.plan) where
  pub can_find_over : CanFindTarget a.settings a.plan f.phase f → CanFindTarget settings plan f.phase f
  can_find_over can = subst (λ (z : Settings). CanFindTarget z plan f.phase f) (sym same_settings) (subst (λ (z : Plan). CanFindTarget a.settings z f.phase f) (sym same_plan) can)

  pub target_is : (r t : Target) → r ≡ next_target settings plan f.phase f → r ≡ t → next_target a.settings a.plan f.phase f ≡ t
  target_is r t found is =
      subst (λ (z : Settings). next_target z a.plan f.phase f ≡ t) same_settings
      (subst (λ (z : Plan). next_target settings z f.phase f ≡ t) same_plan (sym found ∙ is))

-- What a frame's next step changes, as its seat needs to know it.
use Rattle.std.proofs.Common.{◌≡◌, ℕ, ◌*◌, ◌<◌, Bool, true, false, List, refl, sym, ap, ◌∙◌, arith, Option, Some, None, true≢false}
use Rattle.std.specs.Prelude.{if◌then◌else◌}
use Rattle.pool_pages.specs.MakerTold.{MakerTold}
use Rattle.pool_hall.specs.declared.unit_name.SlotKind.TheVariants.{Memory as memory_kind, Table as table_kind, Stack as stack_kind, Heap as heap_kind}
use Rattle.pool_slots.specs.SlotQueues.{Queued, first_of_kind}
use Rattle.pool_slots.specs.declared.plan.Plan.{Plan}
use Rattle.pool_alloc.specs.Places.{Counter, counted_instance, counted_component, counted_object, only, frame_counted, instances_for, phase_counted, phase_instances}
use Rattle.pool_alloc.specs.Purges.{has_turns}
use Rattle.pool_alloc.specs.StepTable.{FlushStep, run, zero, put, free, flush_step}
use Rattle.pool_alloc.specs.BetweenSteps.{IsShapedAt}
use Rattle.pool_alloc.specs.Targets.{next_target, flush_target, put_target, purge_target, release_target}
use Rattle.pool_alloc.specs.declared.counters.CounterName.{CounterName}
use Rattle.pool_alloc.specs.declared.counters.CounterName.TheVariants as counter
use Rattle.pool_alloc.specs.declared.frame.Frame.{Frame}
use Rattle.pool_alloc.specs.declared.frame.FreedSlot.{FreedSlot}
use Rattle.pool_alloc.specs.declared.frame.Object.TheVariants.{Memory, Table, Stack}
use Rattle.pool_alloc.specs.declared.frame.Phase.{Phase}
use Rattle.pool_alloc.specs.declared.frame.Phase.TheVariants.{CountObject, UncountObject, UncountHeap, PutHeap, Flush, UncountInstance, UncountComponent, Purge, Release}
use Rattle.pool_alloc.specs.declared.pool_core.Settings.{Settings}
use Rattle.pool_alloc.specs.declared.purge.PurgeCursor.{PurgeCursor}
use Rattle.pool_alloc.specs.declared.purge.PurgeStep.{PurgeStep}
use Rattle.pool_alloc.specs.declared.purge.PurgeStep.TheVariants as purging_step
use Rattle.pool_alloc.specs.declared.release.ReleaseStep.{ReleaseStep}
use Rattle.pool_alloc.specs.declared.release.ReleaseStep.TheVariants as releasing_step
use Rattle.pool_alloc.specs.declared.step.targets.Target.{Target}
use Rattle.pool_alloc.specs.declared.step.targets.Target.TheVariants.{Part, Up, Down, Alone}
use Rattle.pool_alloc.proofs.BeforeTheTurn.{counts_one}
use Rattle.pool_driver.specs.Driving.{counter_of}

-- the step counts up, or down
abbrev pub is_up : Target → Bool
is_up (Up name) = true
is_up _ = false

abbrev pub is_down : Target → Bool
is_down (Down name) = true
is_down _ = false

-- it counts up the instances, or the components
abbrev pub ups_instances : Target → ℕ
ups_instances (Up counter.CoreInstances) = 1
ups_instances _ = 0

abbrev pub ups_components : Target → ℕ
ups_components (Up counter.ComponentInstances) = 1
ups_components _ = 0

not_down : (t : Target) (name : CounterName) → is_down t ≡ false → t ≡ Down name → ⊥
not_down t name never is = true≢false (sym (ap is_down is) ∙ never)

same_down : (n name : CounterName) → Down n ≡ Down name → n ≡ name
same_down n name is = ap of is
  where
    of : Target → CounterName
    of (Down m) = m
    of _ = n

-- a flush, a purge and a release count nothing
pub flush_counts_none : (plan : Plan) (step : FlushStep) (slots : List Queued) (freed : List FreedSlot) → (is_up (flush_target plan step slots freed) ≡ false) × (is_down (flush_target plan step slots freed) ≡ false) × (ups_instances (flush_target plan step slots freed) ≡ 0) × (ups_components (flush_target plan step slots freed) ≡ 0)
flush_counts_none plan run slots freed = (refl, refl, refl, refl)
flush_counts_none plan (zero kind) slots freed = (refl, refl, refl, refl)
flush_counts_none plan free slots freed = (refl, refl, refl, refl)
flush_counts_none plan (put kind) slots freed = first (first_of_kind kind slots)
  where
    first : (o : Option Queued) → (is_up (put_target plan o) ≡ false) × (is_down (put_target plan o) ≡ false) × (ups_instances (put_target plan o) ≡ 0) × (ups_components (put_target plan o) ≡ 0)
    first None = (refl, refl, refl, refl)
    first (Some m) = (refl, refl, refl, refl)

turn_counts_none : (b : Bool) (p : ℕ) → (is_down (if b then Part p else Alone) ≡ false) × (ups_components (if b then Part p else Alone) ≡ 0)
turn_counts_none true p = (refl, refl)
turn_counts_none false p = (refl, refl)

purge_counts_none : {P : Type 0} (s : Settings) (plan : Plan) (p : PurgeCursor) (step : PurgeStep P) → (is_down (purge_target s plan p step) ≡ false) × (ups_components (purge_target s plan p step) ≡ 0)
purge_counts_none s plan p (purging_step.Pick tried) = turn_counts_none (has_turns s.max_memories_per_module plan) _
purge_counts_none s plan p (purging_step.TakeRegion name) = (refl, refl)
purge_counts_none s plan p (purging_step.Forget at held) = (refl, refl)
purge_counts_none s plan p (purging_step.PutRegion at held) = (refl, refl)
purge_counts_none s plan p (purging_step.Free name) = (refl, refl)

release_counts_none : {P : Type 0} (plan : Plan) (step : ReleaseStep P) → (is_down (release_target plan step) ≡ false) × (ups_components (release_target plan step) ≡ 0)
release_counts_none plan releasing_step.Reserve = (refl, refl)
release_counts_none plan (releasing_step.TakeWarm r j) = (refl, refl)
release_counts_none plan (releasing_step.TakeRegion r k) = (refl, refl)
release_counts_none plan (releasing_step.Decommit r k at held) = (refl, refl)
release_counts_none plan (releasing_step.PutRegion r k at held) = (refl, refl)
release_counts_none plan (releasing_step.Free r x) = (refl, refl)

module _ {P H : Type 0} (s : Settings) (plan : Plan) where
  -- Whoever counts an instance or a component up has counted none before.
  pub first_instance : (f : Frame P H) (p : Phase P H) → ups_instances (next_target s plan p f) * phase_instances p ≡ 0
  first_instance f (CountObject (Memory lease)) = refl
  first_instance f (CountObject (Table lease)) = refl
  first_instance f (CountObject (Stack lease)) = refl
  first_instance f (UncountObject (Memory lease)) = refl
  first_instance f (UncountObject (Table lease)) = refl
  first_instance f (UncountObject (Stack lease)) = refl
  first_instance f Flush = omega (arith, (flush_counts_none plan (flush_step f.local f.freed.items) f.local.slots f.freed.items).2)
  first_instance f (Purge c step) = omega arith
  first_instance f (Release step) = omega arith
  first_instance f p = refl

  pub first_component : (f : Frame P H) (p : Phase P H) → ups_components (next_target s plan p f) * phase_counted (only counted_component) p ≡ 0
  first_component f (CountObject (Memory lease)) = refl
  first_component f (CountObject (Table lease)) = refl
  first_component f (CountObject (Stack lease)) = refl
  first_component f (UncountObject (Memory lease)) = refl
  first_component f (UncountObject (Table lease)) = refl
  first_component f (UncountObject (Stack lease)) = refl
  first_component f (UncountHeap lease (Some memory)) = refl
  first_component f (UncountHeap lease None) = refl
  first_component f (PutHeap lease (Some memory)) = refl
  first_component f (PutHeap lease None) = refl
  first_component f Flush = omega arith
  first_component f (Purge c step) = omega arith
  first_component f (Release step) = omega arith
  first_component f p = refl

  -- What counts down has counted up before.
  pub record HasCountedUp (f : Frame P H) (name : CounterName) : Type 0 where
    pub kind : Counter
    pub named : counter_of kind ≡ name
    pub some : 0 < frame_counted (only kind) f

  pub counted_down : (maker : MakerTold) (f : Frame P H) (p : Phase P H) (name : CounterName) → f.phase ≡ p → IsShapedAt maker s plan p f → next_target s plan p f ≡ Down name → HasCountedUp f name
  counted_down maker f (UncountObject (Memory lease)) name at shape is = record { kind = counted_object memory_kind; named = same_down counter.Memories name is; some = omega (arith, ap (phase_counted (only (counted_object memory_kind))) at) }
  counted_down maker f (UncountObject (Table lease)) name at shape is = record { kind = counted_object table_kind; named = same_down counter.Tables name is; some = omega (arith, ap (phase_counted (only (counted_object table_kind))) at) }
  counted_down maker f (UncountObject (Stack lease)) name at shape is = record { kind = counted_object stack_kind; named = same_down counter.Stacks name is; some = omega (arith, ap (phase_counted (only (counted_object stack_kind))) at) }
  counted_down maker f (UncountHeap lease memory) name at shape is = record { kind = counted_object heap_kind; named = same_down counter.GcHeaps name is; some = omega (arith, ap (phase_counted (only (counted_object heap_kind))) at) }
  counted_down maker f UncountInstance name at shape is = record {
    kind = counted_instance;
    named = same_down counter.CoreInstances name is;
    some = omega (arith, counts_one f.asked shape.2, ap (λ (q : Phase P H). phase_instances q * instances_for f.asked) at);
  }
  counted_down maker f UncountComponent name at shape is = record { kind = counted_component; named = same_down counter.ComponentInstances name is; some = omega (arith, ap (phase_counted (only counted_component)) at) }
  counted_down maker f Flush name at shape is = absurd (not_down _ name (flush_counts_none plan (flush_step f.local f.freed.items) f.local.slots f.freed.items).1 is)
  counted_down maker f (Purge c step) name at shape is = absurd (not_down _ name (purge_counts_none s plan c step).0 is)
  counted_down maker f (Release step) name at shape is = absurd (not_down _ name (release_counts_none plan step).0 is)
  counted_down maker f p name at shape is = absurd (not_down _ name refl is)

-- A step that counts is the step table's row on the pool that has the number at its counter.
use Rattle.std.proofs.Common.{◌≡◌, ◌∙◌, ℕ, ◌+◌, ◌-◌, ◌<◌, Bool, true, false, List, [], ◌∷◌, length, nat_lt, refl, ap, subst, arith, Option}
use Rattle.pool_alloc.proofs.Imports.{Exchange, Exchanged}
use Rattle.pool_alloc.specs.HeapLeases.{LeasedHeap}
use Rattle.pool_alloc.specs.Leases.{Lease}
use Rattle.pool_alloc.specs.OnCounters.{CanStepCounted, component_found, counted_on, heap_found, instance_found, heap_found_for}
use Rattle.pool_alloc.specs.PartyTold.{PartyTold}
use Rattle.pool_alloc.specs.StepTable.{component_counted, counted, heap_granted, row_of, heap_counted}
use Rattle.pool_alloc.specs.Stepping.{StepsAsking}
use Rattle.pool_alloc.specs.Targets.{counted_up, counting, next_target, number_at}
use Rattle.pool_alloc.specs.Turns.{After, Left, finished, left_by, resting, stepped}
use Rattle.pool_alloc.specs.declared.counters.CounterName.{CounterName}
use Rattle.pool_alloc.specs.declared.counters.CounterName.TheVariants as counter
use Rattle.pool_alloc.specs.declared.frame.Frame.{Frame}
use Rattle.pool_alloc.specs.declared.frame.Object.TheVariants.{Memory, Table, Stack}
use Rattle.pool_alloc.specs.declared.frame.Outcome.{Outcome}
use Rattle.pool_alloc.specs.declared.frame.Phase.{Phase}
use Rattle.pool_alloc.specs.declared.frame.Phase.TheVariants.{Idle, Key, CountInstance, CountObject, CountHeap, UncountObject, UncountHeap, Flush, UncountInstance, CountComponent, UncountComponent, Purge, Release}
use Rattle.pool_alloc.specs.declared.frame.Asked.{Asked}
use Rattle.pool_alloc.specs.declared.frame.Asked.TheVariants.{HeapOver as heap_over_asked}
use Rattle.pool_alloc.specs.declared.pool_core.PoolCore.{PoolCore}
use Rattle.pool_alloc.specs.declared.step.targets.Target.TheVariants.{Up, Down}
use Rattle.pool_alloc.specs.CanStep.{CanTakeMemory}
use Rattle.pool_alloc.proofs.NextTargets.{no_down, no_up, same_down, same_up}
use Rattle.pool_alloc.proofs.StepsAsRows.{quiet, nothing_told}

module _ {P H : Type 0} where
  -- The row on the pool is that on the number, with what is left at the counter.
  abbrev IsRow : ℕ → CounterName → Phase P H → PoolCore P H → Frame P H → Type 0
  IsRow left name phase c f = finished (counting name left c) (left_by (counted_on c.settings c.plan phase (number_at name c.counters) f)) ≡ stepped (row_of nothing_told phase c f)

  instance_row : (b : Bool) (n : ℕ) (c : PoolCore P H) (f : Frame P H) → finished (counting counter.CoreInstances (c.counters.core_instances + 1) c) (left_by (instance_found b c.settings n f)) ≡ stepped (counted b c f)
  instance_row true n c f = refl
  instance_row false n c f = refl

  component_row : (b : Bool) (n : ℕ) (c : PoolCore P H) (f : Frame P H) → finished (counting counter.ComponentInstances (c.counters.component_instances + 1) c) (left_by (component_found b c.settings n f)) ≡ stepped (component_counted b c f)
  component_row true n c f = refl
  component_row false n c f = refl

  heap_row : (leases : List Lease) (lease : LeasedHeap H) (n : ℕ) (c : PoolCore P H) (f : Frame P H) → 0 < length leases → finished (counting counter.GcHeaps (c.counters.gc_heaps + 1) c) (left_by (heap_found leases lease n f)) ≡ stepped (heap_granted leases lease c f)
  heap_row [] lease n c f some = let none : 0 < length {A = Lease} [] = some in absurd (omega (arith, none))
  heap_row (memory ∷ rest) lease n c f some = refl

  heap_counted_row : (asked : Asked) (lease : LeasedHeap H) (n : ℕ) (c : PoolCore P H) (f : Frame P H) → CanTakeMemory asked f.objects → finished (counting counter.GcHeaps (c.counters.gc_heaps + 1) c) (left_by (heap_found_for asked lease n f)) ≡ stepped (heap_counted asked lease c f)
  heap_counted_row (heap_over_asked memory) lease n c f can = refl
  heap_counted_row asked lease n c f can = heap_row f.objects.memories.items lease n c f can

  module _ {R : Type 0} (leads : R → Exchange → R → Type 0) (limiter : R) (told : PartyTold) where
    -- What the code leaves of the frame, and the step that it is then.
    abbrev StepsWith : ℕ → Phase P H → PoolCore P H → Frame P H → Frame P H → Option (Outcome P H) → CounterName → Type 0
    StepsWith left phase c f next o name = ◌≡◌ {A = Left P H} (record { frame = next; outcome = o }) (left_by (counted_on c.settings c.plan phase (number_at name c.counters) (resting f))) → StepsAsking (λ passed. Exchanged leads passed limiter limiter) told told c f (record { core = counting name left c; frame = next; outcome = o })

    on_core : (left : ℕ) (name : CounterName) (phase : Phase P H) (c : PoolCore P H) (f : Frame P H) (next : Frame P H) (o : Option (Outcome P H)) → IsRow left name phase c (resting f) → ◌≡◌ {A = Left P H} (record { frame = next; outcome = o }) (left_by (counted_on c.settings c.plan phase (number_at name c.counters) (resting f))) → ◌≡◌ {A = After P H} (record { core = counting name left c; frame = next; outcome = o }) (stepped (row_of nothing_told phase c (resting f)))
    on_core left name phase c f next o is row = ap (λ (l : Left P H). finished (counting name left c) l) row ∙ is

    abbrev StepsUp : Phase P H → PoolCore P H → Frame P H → Frame P H → Option (Outcome P H) → CounterName → Type 0
    StepsUp phase c f next o name = StepsWith (counted_up name (number_at name c.counters)) phase c f next o name

    up_as : (name : CounterName) (phase : Phase P H) (c : PoolCore P H) (f : Frame P H) (next : Frame P H) (o : Option (Outcome P H)) → next_target c.settings c.plan phase f ≡ Up name → CanStepCounted c.plan phase f → f.phase ≡ phase → StepsUp phase c f next o name
    up_as name Key c f next o there can is = subst (StepsUp Key c f next o) (same_up name _ there) (λ row. quiet leads limiter told nothing_told Key c f _ Idle is refl tt tt refl refl refl (on_core _ counter.Key Key c f next o refl row))
    up_as name CountInstance c f next o there can is = subst (StepsUp CountInstance c f next o) (same_up name _ there) (λ row. quiet leads limiter told nothing_told CountInstance c f _ Idle is refl tt tt refl refl refl (on_core _ counter.CoreInstances CountInstance c f next o (instance_row (nat_lt c.counters.core_instances c.settings.max_core_instances) c.counters.core_instances c (resting f)) row))
    up_as name (CountObject (Memory lease)) c f next o there can is = subst (StepsUp (CountObject (Memory lease)) c f next o) (same_up name _ there) (λ row. quiet leads limiter told nothing_told (CountObject (Memory lease)) c f _ Idle is refl tt tt refl refl refl (on_core _ counter.Memories (CountObject (Memory lease)) c f next o refl row))
    up_as name (CountObject (Table lease)) c f next o there can is = subst (StepsUp (CountObject (Table lease)) c f next o) (same_up name _ there) (λ row. quiet leads limiter told nothing_told (CountObject (Table lease)) c f _ Idle is refl tt tt refl refl refl (on_core _ counter.Tables (CountObject (Table lease)) c f next o refl row))
    up_as name (CountObject (Stack lease)) c f next o there can is = subst (StepsUp (CountObject (Stack lease)) c f next o) (same_up name _ there) (λ row. quiet leads limiter told nothing_told (CountObject (Stack lease)) c f _ Idle is refl tt tt refl refl refl (on_core _ counter.Stacks (CountObject (Stack lease)) c f next o refl row))
    up_as name (CountHeap lease) c f next o there can is = subst (StepsUp (CountHeap lease) c f next o) (same_up name _ there) (λ row. quiet leads limiter told nothing_told (CountHeap lease) c f _ Idle is refl tt tt refl refl refl (on_core _ counter.GcHeaps (CountHeap lease) c f next o (heap_counted_row f.asked lease c.counters.gc_heaps c (resting f) can) row))
    up_as name CountComponent c f next o there can is = subst (StepsUp CountComponent c f next o) (same_up name _ there) (λ row. quiet leads limiter told nothing_told CountComponent c f _ Idle is refl tt tt refl refl refl (on_core _ counter.ComponentInstances CountComponent c f next o (component_row (nat_lt c.counters.component_instances c.settings.max_component_instances) c.counters.component_instances c (resting f)) row))
    up_as name Flush c f next o there can is = absurd can
    up_as name (Purge p step) c f next o there can is = absurd can
    up_as name (Release step) c f next o there can is = absurd can
    up_as name phase c f next o there can is = no_up _ name refl there

    pub steps_up : (name : CounterName) (c : PoolCore P H) (f : Frame P H) (next : Frame P H) (o : Option (Outcome P H)) → next_target c.settings c.plan f.phase f ≡ Up name → CanStepCounted c.plan f.phase f → ◌≡◌ {A = Left P H} (record { frame = next; outcome = o }) (left_by (counted_on c.settings c.plan f.phase (number_at name c.counters) (resting f))) → StepsAsking (λ passed. Exchanged leads passed limiter limiter) told told c f (record { core = counting name (counted_up name (number_at name c.counters)) c; frame = next; outcome = o })
    steps_up name c f next o there can row = up_as name f.phase c f next o there can refl row

    abbrev StepsDown : Phase P H → PoolCore P H → Frame P H → Frame P H → Option (Outcome P H) → CounterName → Type 0
    StepsDown phase c f next o name = StepsWith (number_at name c.counters - 1) phase c f next o name

    down_as : (name : CounterName) (phase : Phase P H) (c : PoolCore P H) (f : Frame P H) (next : Frame P H) (o : Option (Outcome P H)) → next_target c.settings c.plan phase f ≡ Down name → CanStepCounted c.plan phase f → f.phase ≡ phase → StepsDown phase c f next o name
    down_as name (UncountObject (Memory lease)) c f next o there can is = subst (StepsDown (UncountObject (Memory lease)) c f next o) (same_down name _ there) (λ row. quiet leads limiter told nothing_told (UncountObject (Memory lease)) c f _ Idle is refl tt tt refl refl refl (on_core _ counter.Memories (UncountObject (Memory lease)) c f next o refl row))
    down_as name (UncountObject (Table lease)) c f next o there can is = subst (StepsDown (UncountObject (Table lease)) c f next o) (same_down name _ there) (λ row. quiet leads limiter told nothing_told (UncountObject (Table lease)) c f _ Idle is refl tt tt refl refl refl (on_core _ counter.Tables (UncountObject (Table lease)) c f next o refl row))
    down_as name (UncountObject (Stack lease)) c f next o there can is = subst (StepsDown (UncountObject (Stack lease)) c f next o) (same_down name _ there) (λ row. quiet leads limiter told nothing_told (UncountObject (Stack lease)) c f _ Idle is refl tt tt refl refl refl (on_core _ counter.Stacks (UncountObject (Stack lease)) c f next o refl row))
    down_as name (UncountHeap lease memory) c f next o there can is = subst (StepsDown (UncountHeap lease memory) c f next o) (same_down name _ there) (λ row. quiet leads limiter told nothing_told (UncountHeap lease memory) c f _ Idle is refl tt tt refl refl refl (on_core _ counter.GcHeaps (UncountHeap lease memory) c f next o refl row))
    down_as name UncountInstance c f next o there can is = subst (StepsDown UncountInstance c f next o) (same_down name _ there) (λ row. quiet leads limiter told nothing_told UncountInstance c f _ Idle is refl tt tt refl refl refl (on_core _ counter.CoreInstances UncountInstance c f next o refl row))
    down_as name UncountComponent c f next o there can is = subst (StepsDown UncountComponent c f next o) (same_down name _ there) (λ row. quiet leads limiter told nothing_told UncountComponent c f _ Idle is refl tt tt refl refl refl (on_core _ counter.ComponentInstances UncountComponent c f next o refl row))
    down_as name Flush c f next o there can is = absurd can
    down_as name (Purge p step) c f next o there can is = absurd can
    down_as name (Release step) c f next o there can is = absurd can
    down_as name phase c f next o there can is = no_down _ name refl there

    pub steps_down : (name : CounterName) (c : PoolCore P H) (f : Frame P H) (next : Frame P H) (o : Option (Outcome P H)) → next_target c.settings c.plan f.phase f ≡ Down name → CanStepCounted c.plan f.phase f → ◌≡◌ {A = Left P H} (record { frame = next; outcome = o }) (left_by (counted_on c.settings c.plan f.phase (number_at name c.counters) (resting f))) → StepsAsking (λ passed. Exchanged leads passed limiter limiter) told told c f (record { core = counting name (number_at name c.counters - 1) c; frame = next; outcome = o })
    steps_down name c f next o there can row = down_as name f.phase c f next o there can refl row

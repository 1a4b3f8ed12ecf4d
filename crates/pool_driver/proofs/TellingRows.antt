-- What is told of a call after each of its rows, where the row is no step of a search and on no counter of instances or components.
use Rattle.std.proofs.Common.{◌≡◌, ℕ, ◌+◌, Bool, true, false, List, [], ◌∷◌, length, refl, arith, Option, Some, None, Result, Ok, Err}
use Rattle.std.specs.Prelude.{nat_lt, nat_le, ◌==◌, ◌||◌, if◌then◌else◌}
use Rattle.pool_types.specs.declared.module_types.MemoryDecl.{MemoryDecl}
use Rattle.pool_types.specs.declared.module_types.MemoryType.{MemoryType}
use Rattle.pool_types.specs.declared.table_type.TableType.{TableType}
use Rattle.pool_types.specs.declared.unsupported.Unsupported.{Unsupported}
use Rattle.pool_pages.specs.Told.{Told}
use Rattle.pool_hall.specs.declared.unit_name.SlotKind.{SlotKind}
use Rattle.pool_hall.specs.declared.unit_name.SlotKind.TheVariants.{Memory as memory_kind, Table as table_kind, Stack as stack_kind, Heap as heap_kind}
use Rattle.pool_hall.specs.declared.view.View.{View}
use Rattle.pool_images.specs.Slots.{Slot}
use Rattle.pool_memory.specs.Memories.{MemoryState}
use Rattle.pool_memory.specs.Static.{Static}
use Rattle.pool_memory.specs.declared.memory_error.MemoryError.{MemoryError}
use Rattle.pool_memory.specs.declared.memory_error.MemoryError.TheVariants as unmade
use Rattle.pool_index.specs.Shard.{ShardState}
use Rattle.pool_index.specs.declared.ids.SlotId.{SlotId}
use Rattle.pool_slots.specs.Cells.{Cell, unmapped, unknown, previously_used, taken}
use Rattle.pool_slots.specs.SlotQueues.{Queue, Queued, first_of_kind, others_of_kind}
use Rattle.pool_slots.specs.declared.errors.AllocError.{AllocError}
use Rattle.pool_slots.specs.declared.heap_maker.HeapMakeFault.{HeapMakeFault}
use Rattle.pool_slots.specs.declared.plan.Plan.{Plan}
use Rattle.pool_slots.specs.declared.errors.AllocError.TheVariants as refusal
use Rattle.pool_slots.specs.declared.heap_maker.HeapMakeFault.TheVariants as no_heap
use Rattle.pool_alloc.specs.Leases.{Lease}
use Rattle.pool_alloc.specs.HeapLeases.{LeasedHeap}
use Rattle.pool_alloc.specs.MemorySteps.{refusal_of, heap_refusal, made_of, made_of_limits, made_for}
use Rattle.pool_alloc.specs.Purges.{purge_to, affine_picked, behind_memory, behind_turn, purge_row, has_turns, purged_stripe}
use Rattle.pool_alloc.specs.Releases.{behind_stripe, free_first, drain_at, warm_taken, release_row, released_stripe}
use Rattle.pool_alloc.specs.StepTable.{memory_kept, memory_turn, table_kept, table_turn, unmapped_next, region_next, heap_next, validated, stacks_tested, heaps_tested, paged, was_made, was_made_table, make_heap_row, heap_granted, count_object_row, uncount_object_row, reset_row, was_reset, reset_turn, merged, flush_row, FlushStep, run, zero, put, free, put_first, memory_tested, heap_counted}
use Rattle.pool_alloc.specs.StepReads.{StepGiven}
use Rattle.pool_alloc.specs.TableLeases.{LeasedTable}
use Rattle.pool_alloc.specs.TableSteps.{made_unless, made_table}
use Rattle.pool_alloc.specs.Reserved.{with_item}
use Rattle.pool_alloc.specs.Turns.{Row, goes, after, failing}
use Rattle.pool_alloc.specs.declared.frame.Asked.{Asked}
use Rattle.pool_alloc.specs.declared.frame.Asked.TheVariants as asked
use Rattle.pool_alloc.specs.declared.frame.Frame.{Frame}
use Rattle.pool_alloc.specs.declared.frame.Object.{Object}
use Rattle.pool_alloc.specs.declared.frame.Object.TheVariants as object
use Rattle.pool_alloc.specs.declared.frame.Phase.{Phase}
use Rattle.pool_alloc.specs.declared.frame.Phase.TheVariants.{CountInstance, Pick}
use Rattle.pool_alloc.specs.declared.frame.TakenSlot.{TakenSlot}
use Rattle.pool_alloc.specs.declared.pool_core.PoolCore.{PoolCore}
use Rattle.pool_alloc.specs.declared.pool_core.Settings.{Settings}
use Rattle.pool_alloc.specs.declared.purge.PurgeCursor.{PurgeCursor}
use Rattle.pool_alloc.specs.declared.purge.PurgeStep.{PurgeStep}
use Rattle.pool_alloc.specs.declared.purge.PurgeStep.TheVariants as purging_step
use Rattle.pool_alloc.specs.declared.release.ReleaseCursor.{ReleaseCursor}
use Rattle.pool_alloc.specs.declared.release.ReleaseStep.{ReleaseStep}
use Rattle.pool_alloc.specs.declared.release.ReleaseStep.TheVariants as releasing_step
use Rattle.pool_alloc.specs.declared.frame.FreedSlot.{FreedSlot}
use Rattle.pool_alloc.specs.Refusals.{heap_refused}
use Rattle.pool_driver.specs.Telling.{CallGoes, NoneCounted, RefusalTold, instance_counter}
use Rattle.pool_driver.proofs.Turning.{LeftTold, none_taken, next_told, flush_told}

-- The refusal is no limit.
abbrev pub IsUnlimited : AllocError → Type 0
IsUnlimited (refusal.Limit l) = ⊥
IsUnlimited _ = Unit {0}

-- So is the error of what wasn't made.
abbrev pub FailsUnlimited : {X : Type 0} → Result X AllocError → Type 0
FailsUnlimited (Ok x) = Unit {0}
FailsUnlimited (Err e) = IsUnlimited e

-- A memory, a table and a heap aren't made for other reasons.
memory_error : (e : MemoryError) → IsUnlimited (refusal_of e)
memory_error unmade.Memory = tt
memory_error (unmade.Unsupported u) = tt
memory_error (unmade.LimiterDenied min) = tt
memory_error (unmade.LimiterFault e) = tt
memory_error unmade.PageFault = tt

memory_of : (ty : MemoryType) (r : Result Static (Slot × Unsupported)) → FailsUnlimited (made_of ty r)
memory_of ty (Ok m) = tt
memory_of ty (Err e) = tt

memory_within : (r : Result (ℕ × Option ℕ) MemoryError) (ty : MemoryType) (room : ℕ) (slot : Slot) → FailsUnlimited (made_of_limits r ty room slot)
memory_within (Err e) ty room slot = memory_error e
memory_within (Ok limits) ty room slot = memory_of ty _

pub memory_fails : (room : ℕ) (answer : _) (slot : Slot) (o : Option MemoryDecl) → FailsUnlimited (made_for room answer slot o)
memory_fails room answer slot None = tt
memory_fails room answer slot (Some decl) = memory_within _ decl.ty room slot

sized : (b : Bool) (u : Unsupported) (l : LeasedTable) → FailsUnlimited (made_unless (if b then Some (refusal.Unsupported u) else None) l)
sized true u l = tt
sized false u l = tt

pub table_fails : (s : Settings) (answer : _) (at : TakenSlot) (region : Told) (o : Option TableType) → FailsUnlimited (made_table s answer at region o)
table_fails s answer at region None = tt
table_fails s (Err x) at region (Some ty) = tt
table_fails s (Ok false) at region (Some ty) = tt
table_fails s (Ok true) at region (Some ty) = sized _ _ _

pub heap_error : (e : HeapMakeFault) → IsUnlimited (heap_refusal e)
heap_error no_heap.Memory = tt
heap_error no_heap.HeapFault = tt

-- so nothing is to be told of it
unlimited_told : {T : Type 0} (base w : View T) (I C : Type 0) (plan : Plan) (home : ℕ) (e : AllocError) → IsUnlimited e → RefusalTold base w I C plan home e
unlimited_told base w I C plan home (refusal.Limit l) none = absurd none
unlimited_told base w I C plan home _ none = tt

module _ {T P H : Type 0} (base w : View T) where
  -- a call that fails for a reason that is no limit
  fails_told : (plan : Plan) (e : AllocError) (f : Frame P H) → IsUnlimited e → CallGoes base w plan (failing e f)
  fails_told plan e f none = record { queues = tt; none = tt; ending = unlimited_told base w ⊥ ⊥ plan f.home e none }

  -- What is told of a row, of which the frame is one of the same home and stripe.
  abbrev pub RowTold : Plan → ℕ → ℕ → Row (PoolCore P H) P H → Type 0
  RowTold plan home stripe r = LeftTold base w plan home stripe (after r.frame r.turn)

  module _ (plan : Plan) (c : PoolCore P H) (f : Frame P H) where
    pub validate_told : (o : Option Unsupported) (wants : Bool) → NoneCounted base w instance_counter × CallGoes base w plan f → RowTold plan f.home f.stripe (validated o wants CountInstance c f)
    validate_told (Some rule) wants told = (tt, tt, refl)
    validate_told None true told = (tt, tt, refl)
    validate_told None false told = (told, tt, refl)

    heap_rules_told : (o : Option Unsupported) (wants : Bool) → CallGoes base w plan f → RowTold plan f.home f.stripe (validated o wants (Pick 0) c f)
    heap_rules_told (Some rule) wants going = (tt, tt, refl)
    heap_rules_told None true going = (tt, tt, refl)
    heap_rules_told None false going = ((λ j below. absurd (omega arith), going), tt, refl)

    memory_test_told : (what : Asked) (wants : Bool) → CallGoes base w plan f → RowTold plan f.home f.stripe (memory_tested what wants c f)
    memory_test_told (asked.HeapOver memory) wants going = ((λ j below. absurd (omega arith), going), tt, refl)
    memory_test_told what wants going = heap_rules_told (heap_refused c.settings what) wants going

    pub heap_test_told : (b wants : Bool) → CallGoes base w plan f → RowTold plan f.home f.stripe (heaps_tested b wants c f)
    heap_test_told false wants going = (tt, tt, refl)
    heap_test_told true wants going = memory_test_told f.asked wants going

    pub stack_test_told : (b : Bool) → CallGoes base w plan f → RowTold plan f.home f.stripe (stacks_tested b c f)
    stack_test_told true going = (tt, tt, refl)
    stack_test_told false going = ((λ j below. absurd (omega arith), going), tt, refl)

    unmapped_told : (s : Settings) (kind : SlotKind) (at : TakenSlot) (region : Told) → CallGoes base w plan f → LeftTold base w plan f.home f.stripe (after f (unmapped_next s kind at region))
    unmapped_told s memory_kind at region going = (going, tt, refl)
    unmapped_told s table_kind at region going = (going, tt, refl)
    unmapped_told s stack_kind at region going = (going, tt, refl)
    unmapped_told s heap_kind at region going = (tt, tt, refl)

    pub region_told : (s : Settings) (at : TakenSlot) (held : Cell) → CallGoes base w plan f → LeftTold base w plan f.home f.stripe (after f (region_next s at held))
    region_told s at (unmapped region) going = unmapped_told s at.name.kind at region going
    region_told s at (unknown held) going = (going, tt, refl)
    region_told s at (previously_used held) going = (going, tt, refl)
    region_told s at taken going = (tt, tt, refl)

    pub made_told : (at : TakenSlot) (held : Slot) (r : Result MemoryState AllocError) → FailsUnlimited r → CallGoes base w plan f → RowTold plan f.home f.stripe (was_made at held r c f)
    made_told at held (Ok memory) none going = (going, tt, refl)
    made_told at held (Err e) none going = (fails_told plan e f none, tt, refl)

    pub table_made_told : (at : TakenSlot) (region : Told) (r : Result LeasedTable AllocError) → FailsUnlimited r → CallGoes base w plan f → RowTold plan f.home f.stripe (was_made_table at region r c f)
    table_made_told at region (Ok lease) none going = (going, tt, refl)
    table_made_told at region (Err e) none going = (fails_told plan e f none, tt, refl)

    memory_counted_told : (what : Asked) (lease : Lease) → CallGoes base w plan f → LeftTold base w plan f.home f.stripe (after (memory_kept what lease f) (memory_turn what lease))
    memory_counted_told (asked.Memory m) lease going = (tt, tt, refl)
    memory_counted_told what lease going = next_told base w plan f.ending (record f { objects = record f.objects { memories = with_item lease f.objects.memories }; queues = 0 }) refl (record { queues = none_taken base w plan f.home f.ending; none = going.none; ending = going.ending })

    table_counted_told : (what : Asked) (lease : LeasedTable) → CallGoes base w plan f → LeftTold base w plan f.home f.stripe (after (table_kept what lease f) (table_turn what lease))
    table_counted_told (asked.Table ty) lease going = (tt, tt, refl)
    table_counted_told what lease going = next_told base w plan f.ending (record f { objects = record f.objects { tables = with_item lease f.objects.tables }; queues = 0 }) refl (record { queues = none_taken base w plan f.home f.ending; none = going.none; ending = going.ending })

    pub object_told : (o : Object P) → CallGoes base w plan f → RowTold plan f.home f.stripe (count_object_row o c f)
    object_told (object.Memory lease) going = memory_counted_told f.asked lease going
    object_told (object.Table lease) going = table_counted_told f.asked lease going
    object_told (object.Stack lease) going = (tt, tt, refl)

    pub heap_told : (at : TakenSlot) (o : Option H) → CallGoes base w plan f → LeftTold base w plan f.home f.stripe (after f (heap_next at o))
    heap_told at (Some heap) going = (going, tt, refl)
    heap_told at None going = (going, tt, refl)

    pub heap_made_told : (r : Result H HeapMakeFault) (at : TakenSlot) → CallGoes base w plan f → RowTold plan f.home f.stripe (make_heap_row r at c f)
    heap_made_told (Ok heap) at going = (going, tt, refl)
    heap_made_told (Err fault) at going = (fails_told plan (heap_refusal fault) f (heap_error fault), tt, refl)

    pub heap_granted_told : (leases : List Lease) (lease : LeasedHeap H) → RowTold plan f.home f.stripe (heap_granted leases lease c f)
    heap_granted_told [] lease = (tt, tt, refl)
    heap_granted_told (memory ∷ rest) lease = (tt, tt, refl)

    pub heap_counted_told : (what : Asked) (lease : LeasedHeap H) → RowTold plan f.home f.stripe (heap_counted what lease c f)
    heap_counted_told (asked.HeapOver memory) lease = (tt, tt, refl)
    heap_counted_told what lease = heap_granted_told f.objects.memories.items lease

    pub uncount_told : (o : Object P) → CallGoes base w plan f → RowTold plan f.home f.stripe (uncount_object_row o c f)
    uncount_told (object.Memory lease) going = (going, tt, refl)
    uncount_told (object.Table lease) going = (going, tt, refl)
    uncount_told (object.Stack lease) going = (going, tt, refl)

    put_first_told : (o : Option Queued) (rest : List Queued) → CallGoes base w plan f → RowTold plan f.home f.stripe (put_first o rest c f)
    put_first_told None rest going = (tt, tt, refl)
    put_first_told (Some m) rest going = flush_told base w plan (put_first (Some m) rest c f).frame going

    pub flush_row_told : (step : FlushStep) (queue : Queue) → CallGoes base w plan f → RowTold plan f.home f.stripe (flush_row step queue c f)
    flush_row_told run queue going = flush_told base w plan (flush_row run queue c f).frame going
    flush_row_told (zero kind) queue going = flush_told base w plan (flush_row (zero kind) queue c f).frame going
    flush_row_told (put kind) queue going = put_first_told (first_of_kind kind f.local.slots) (others_of_kind kind f.local.slots) going
    flush_row_told free queue going = flush_told base w plan (flush_row free queue c f).frame going

    pub merge_told : (b : Bool) (whole : Queue) → CallGoes base w plan f → LeftTold base w plan f.home f.stripe (after (merged b whole f).frame (merged b whole f).turn)
    merge_told true whole going = flush_told base w plan (merged true whole f).frame going
    merge_told false whole going = next_told base w plan f.ending f refl going

    pub paged_told : (fault : Bool) (at : TakenSlot) (held : Slot) (phase : Phase P H) → CallGoes base w plan f → LeftTold base w plan f.home f.stripe (after f (goes phase)) → RowTold plan f.home f.stripe (paged fault at held phase c f)
    paged_told true at held phase going told = (fails_told plan refusal.PageFault f tt, tt, refl)
    paged_told false at held phase going told = told

  module _ (plan : Plan) (f : Frame P H) where
    reset_turn_told : (batch : ℕ) (local : Queue) → CallGoes base w plan f → LeftTold base w plan f.home f.stripe (after f (reset_turn batch local))
    reset_turn_told batch local going = go ((length local.ranges == 0) || nat_le batch (length local.ranges)) refl
      where
        go : (b : Bool) → ((length local.ranges == 0) || nat_le batch (length local.ranges)) ≡ b → LeftTold base w plan f.home f.stripe (after f (reset_turn batch local))
        go true flushes = rw flushes (flush_told base w plan f going)
        go false merges = rw merges (going, tt, refl)

  module _ (plan : Plan) (c : PoolCore P H) (f : Frame P H) where
    was_reset_told : (fault : Bool) (held : Slot) (lease : Lease) → CallGoes base w plan f → RowTold plan f.home f.stripe (was_reset fault held lease c f)
    was_reset_told true held lease going = (going, tt, refl)
    was_reset_told false held lease going = let left = (was_reset false held lease c f).frame in reset_turn_told plan left c.settings.batch left.local going

    pub reset_told : (g : StepGiven H) (o : Object P) → CallGoes base w plan f → RowTold plan f.home f.stripe (reset_row g o c f)
    reset_told g (object.Memory lease) going = was_reset_told g.fault g.slot lease going
    reset_told g (object.Table lease) going = let left = (reset_row g (object.Table lease) c f).frame in reset_turn_told plan left c.settings.batch left.local going
    reset_told g (object.Stack lease) going = let left = (reset_row g (object.Stack lease) c f).frame in reset_turn_told plan left c.settings.batch left.local going

    -- Of a purge and of a release nothing is told.
    purge_to_told : (p : PurgeCursor) (o : Option PurgeCursor) → LeftTold base w plan f.home f.stripe (after f (purge_to p o))
    purge_to_told p (Some later) = (tt, tt, refl)
    purge_to_told p None = (tt, tt, refl)

    affine_told : (per_module : ℕ) (p : PurgeCursor) (o : Option SlotId) (shard : ShardState) (tried : ℕ) → LeftTold base w plan f.home f.stripe (after f (affine_picked per_module c.plan p o shard tried))
    affine_told per_module p (Some slot) shard tried = (tt, tt, refl)
    affine_told per_module p None shard tried = go (nat_lt (tried + 1) (purged_stripe c.plan p).shards) refl
      where
        go : (b : Bool) → nat_lt (tried + 1) (purged_stripe c.plan p).shards ≡ b → LeftTold base w plan f.home f.stripe (after f (affine_picked per_module c.plan p None shard tried))
        go true further = rw further (tt, tt, refl)
        go false last = rw last (purge_to_told p (behind_memory per_module c.plan p))

    pub purge_told : (g : StepGiven H) (p : PurgeCursor) (step : PurgeStep P) → RowTold plan f.home f.stripe (purge_row g p step c f)
    purge_told g p (purging_step.Pick tried) = go (has_turns c.settings.max_memories_per_module c.plan) refl
      where
        go : (b : Bool) → has_turns c.settings.max_memories_per_module c.plan ≡ b → RowTold plan f.home f.stripe (purge_row g p (purging_step.Pick tried) c f)
        go true some = rw some (affine_told _ p _ _ tried)
        go false none = rw none (tt, tt, refl)
    purge_told g p (purging_step.TakeRegion name) = (tt, tt, refl)
    purge_told g p (purging_step.Forget at held) = (tt, tt, refl)
    purge_told g p (purging_step.PutRegion at held) = (tt, tt, refl)
    purge_told g p (purging_step.Free name) = purge_to_told p (behind_turn c.settings.max_memories_per_module c.plan p)

    behind_told : (r : ReleaseCursor) → LeftTold base w plan f.home f.stripe (after f (behind_stripe c.plan r))
    behind_told r = go (nat_lt (r.stripe + 1) (length c.plan.memories)) refl
      where
        go : (b : Bool) → nat_lt (r.stripe + 1) (length c.plan.memories) ≡ b → LeftTold base w plan f.home f.stripe (after f (behind_stripe c.plan r))
        go true further = rw further (tt, tt, refl)
        go false last = rw last (tt, tt, refl)

    free_first_told : (slots : List FreedSlot) (r : ReleaseCursor) → LeftTold base w plan f.home f.stripe (after f (free_first c.plan slots r))
    free_first_told [] r = behind_told r
    free_first_told (x ∷ rest) r = (tt, tt, refl)

    drain_told : (r : ReleaseCursor) (k : ℕ) → LeftTold base w plan f.home f.stripe (after f (drain_at c.plan r k))
    drain_told r k = go (nat_lt k (length r.taken.items)) refl
      where
        go : (b : Bool) → nat_lt k (length r.taken.items) ≡ b → LeftTold base w plan f.home f.stripe (after f (drain_at c.plan r k))
        go true further = rw further (tt, tt, refl)
        go false last = rw last (free_first_told r.taken.items r)

    warm_told : (r : ReleaseCursor) (j : ℕ) → LeftTold base w plan f.home f.stripe (after f (warm_taken c.plan r j))
    warm_told r j = go (nat_lt (j + 1) (released_stripe c.plan r).shards) refl
      where
        go : (b : Bool) → nat_lt (j + 1) (released_stripe c.plan r).shards ≡ b → LeftTold base w plan f.home f.stripe (after f (warm_taken c.plan r j))
        go true further = rw further (tt, tt, refl)
        go false last = rw last (drain_told r _)

    pub release_told : (g : StepGiven H) (step : ReleaseStep P) → RowTold plan f.home f.stripe (release_row g step c f)
    release_told g releasing_step.Reserve = go g.wants
      where
        go : (b : Bool) → RowTold plan f.home f.stripe (release_row (record g { wants = b }) releasing_step.Reserve c f)
        go true = (tt, tt, refl)
        go false = (tt, tt, refl)
    release_told g (releasing_step.TakeWarm r j) = warm_told _ j
    release_told g (releasing_step.TakeRegion r k) = (tt, tt, refl)
    release_told g (releasing_step.Decommit r k at held) = (tt, tt, refl)
    release_told g (releasing_step.PutRegion r k at held) = drain_told r _
    release_told g (releasing_step.Free r x) = free_first_told r.taken.items _

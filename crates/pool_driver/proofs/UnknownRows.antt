-- What is known of a call's regions of which nothing is known goes on with each row.
use Rattle.std.proofs.Common.{◌≡◌, ℕ, ◌+◌, Bool, true, false, List, [], ◌∷◌, length, refl, Option, Some, None, Result, Ok, Err, nat_lt}
use Rattle.std.specs.Prelude.{◌==◌}
use Rattle.pool_types.specs.declared.unsupported.Unsupported.{Unsupported}
use Rattle.pool_pages.specs.Told.{Told}
use Rattle.pool_index.specs.Shard.{ShardState}
use Rattle.pool_index.specs.declared.ids.SlotId.{SlotId}
use Rattle.pool_images.specs.Slots.{Slot, forgotten}
use Rattle.pool_memory.specs.Memories.{MemoryState, slot_of}
use Rattle.pool_slots.specs.SlotQueues.{Queue, Queued, drained, first_of_kind, others_of_kind, first_zeroed}
use Rattle.pool_slots.specs.declared.errors.AllocError.{AllocError}
use Rattle.pool_slots.specs.declared.errors.AllocError.TheVariants as refusal
use Rattle.pool_slots.specs.declared.heap_maker.HeapMakeFault.{HeapMakeFault}
use Rattle.pool_slots.specs.declared.heap_maker.HeapMakeFault.TheVariants as no_heap
use Rattle.pool_slots.specs.declared.cells.ImageSlot.TheVariants.{Unknown, Unmapped}
use Rattle.pool_alloc.specs.HeapLeases.{LeasedHeap}
use Rattle.pool_alloc.specs.Leases.{Lease, slot_taken}
use Rattle.pool_alloc.specs.MemorySteps.{reset_into}
use Rattle.pool_alloc.specs.PoolStacks.{stack_reset}
use Rattle.pool_alloc.specs.Purges.{behind_turn, has_turns, pick_affine_row, purge_row, after_forgetting}
use Rattle.pool_alloc.specs.Releases.{release_row, reserve_row, releasing}
use Rattle.pool_alloc.specs.StepReads.{StepGiven, allocator_for}
use Rattle.pool_alloc.specs.StepTable as rows
use Rattle.pool_alloc.specs.TableLeases.{LeasedTable}
use Rattle.pool_alloc.specs.TableSteps.{table_reset_into}
use Rattle.pool_alloc.specs.Turns.{Row, flush, goes, slot_search}
use Rattle.pool_alloc.specs.declared.frame.Asked.{Asked}
use Rattle.pool_alloc.specs.declared.frame.Asked.TheVariants.{Memory as memory_asked, Table as table_asked, HeapOver as heap_over_asked}
use Rattle.pool_alloc.specs.declared.frame.Frame.{Frame}
use Rattle.pool_alloc.specs.declared.frame.Object.{Object}
use Rattle.pool_alloc.specs.declared.frame.Object.TheVariants as object
use Rattle.pool_alloc.specs.declared.frame.Phase.{Phase}
use Rattle.pool_alloc.specs.declared.frame.Phase.TheVariants.{Pick}
use Rattle.pool_alloc.specs.declared.frame.TakenSlot.{TakenSlot}
use Rattle.pool_alloc.specs.declared.pool_core.PoolCore.{PoolCore}
use Rattle.pool_alloc.specs.declared.purge.PurgeCursor.{PurgeCursor}
use Rattle.pool_alloc.specs.declared.purge.PurgeStep.{PurgeStep}
use Rattle.pool_alloc.specs.declared.purge.PurgeStep.TheVariants as purging_step
use Rattle.pool_alloc.specs.declared.release.ReleaseStep.{ReleaseStep}
use Rattle.pool_alloc.specs.declared.release.ReleaseStep.TheVariants as releasing_step
use Rattle.pool_alloc.specs.Refusals.{heap_refused}
use Rattle.pool_driver.specs.Faults.{HasFaulted}
use Rattle.pool_driver.specs.UnknownPuts.{UnlessUnmade, EndingCaused, PhaseCaused, HandCaused, ReleaseCaused}
use Rattle.pool_driver.proofs.QueueFaults.{by_choice}
use Rattle.pool_driver.proofs.UnknownTurns.{TurnCaused, unmade_so, ending_more, ending_so, taken_caused, reset_caused, purge_to_caused, affine_caused, free_first_caused, drain_caused, warm_caused, unmade_more}
use Rattle.pool_driver.proofs.Refusing.{IfFails}

-- A memory's slot of which nothing is known is put back next.
abbrev IsBackNext : (P : Type 0) → Type 0 → TakenSlot → Slot → Type 0
IsBackNext P known at held = known × HandCaused {P = P} at (Unknown (forgotten held))

module _ {P H : Type 0} (K : Type 0) (F : List Queued → Type 0) where
  -- A row, by its turn and by the queue that it leaves.
  abbrev pub RowCaused : {Z : Type 0} → Row Z P H → Type 0
  RowCaused r = TurnCaused K (F r.frame.local.slots) r.frame.ending r.turn

  -- What is so of a region that a purge has forgotten.
  abbrev pub ForgotCaused : StepGiven H → PurgeStep P → Type 0
  ForgotCaused g (purging_step.Forget at held) = HandCaused at (after_forgetting g.fault held g.slot)
  ForgotCaused g _ = Unit {0}

  module _ (c : PoolCore P H) (f : Frame P H) where
    abbrev now : Type 0
    now = F f.local.slots

    reserve_caused : (b : Bool) → K → RowCaused (reserve_row b c f)
    reserve_caused true k = k
    reserve_caused false k = tt

    pub release_caused : (g : StepGiven H) (step : ReleaseStep P) → ReleaseCaused K step → RowCaused (release_row g step c f)
    release_caused g releasing_step.Reserve k = reserve_caused g.wants k
    release_caused g (releasing_step.TakeWarm r j) k = warm_caused P H K now f.ending c.plan _ j
    release_caused g (releasing_step.TakeRegion r n) k = tt
    release_caused g (releasing_step.Decommit r n at held) k = tt
    release_caused g (releasing_step.PutRegion r n at held) k = drain_caused P H K now f.ending c.plan r _
    release_caused g (releasing_step.Free r x) k = free_first_caused P H K now f.ending c.plan r.taken.items (releasing r x)

    -- The rows of a call that isn't refused yet.
    module _ (k : K) where
      pick_affine_caused : (b : Bool) (p : PurgeCursor) (tried : ℕ) → RowCaused (pick_affine_row b p tried c f)
      pick_affine_caused true p tried = affine_caused P H K now f.ending c.settings.max_memories_per_module c.plan p _ _ tried k
      pick_affine_caused false p tried = k

      pub purge_caused : (g : StepGiven H) (p : PurgeCursor) (step : PurgeStep P) → ForgotCaused g step → RowCaused (purge_row g p step c f)
      purge_caused g p (purging_step.Pick tried) forgot = pick_affine_caused (has_turns c.settings.max_memories_per_module c.plan) p tried
      purge_caused g p (purging_step.TakeRegion name) forgot = k
      purge_caused g p (purging_step.Forget at held) forgot = (k, forgot)
      purge_caused g p (purging_step.PutRegion at held) forgot = k
      purge_caused g p (purging_step.Free name) forgot = purge_to_caused P H K now f.ending p (behind_turn c.settings.max_memories_per_module c.plan p) k

      pub component_caused : (o : Option Unsupported) → RowCaused (rows.component_tested o c f)
      component_caused (Some rule) = unmade_so K (refusal.Unsupported rule) k
      component_caused None = k

      pub component_counted_caused : (b : Bool) → RowCaused (rows.component_counted b c f)
      component_counted_caused true = k
      component_counted_caused false = k

      reserved_caused : (wants : Bool) (phase : Phase P H) → PhaseCaused K now phase f.ending → RowCaused (rows.reserved wants phase c f)
      reserved_caused true phase one = k
      reserved_caused false phase one = one

      pub validated_caused : (o : Option Unsupported) (wants : Bool) (phase : Phase P H) → PhaseCaused K now phase f.ending → RowCaused (rows.validated o wants phase c f)
      validated_caused (Some rule) wants phase one = unmade_so K (refusal.Unsupported rule) k
      validated_caused None wants phase one = reserved_caused wants phase one

      pub stacks_caused : (b : Bool) → RowCaused (rows.stacks_tested b c f)
      stacks_caused true = k
      stacks_caused false = k

      tested_caused : (what : Asked) (wants : Bool) → RowCaused (rows.memory_tested what wants c f)
      tested_caused (heap_over_asked memory) wants = k
      tested_caused what wants = validated_caused (heap_refused c.settings what) wants (Pick 0) k

      pub heaps_caused : (b wants : Bool) → RowCaused (rows.heaps_tested b wants c f)
      heaps_caused false wants = k
      heaps_caused true wants = tested_caused f.asked wants

      pub counted_caused : (b : Bool) → RowCaused (rows.counted b c f)
      counted_caused true = ending_so K f.ending k
      counted_caused false = k

      pub picked_caused : (o : Option (SlotId × ℕ)) (shard : ShardState) (tried : ℕ) → TurnCaused K now f.ending (rows.picked c.plan o shard tried f)
      picked_caused (Some p) shard tried = taken_caused P H K now f.ending (allocator_for c.plan f).kind _ k
      picked_caused None shard tried = by_choice (TurnCaused K now f.ending) (nat_lt (tried + 1) (allocator_for c.plan f).shards) (goes (Pick (tried + 1))) (slot_search c.plan f) k k

      pub take_queue_caused : (q : Queue) → F q.slots → RowCaused (rows.take_queue_on c.plan q f)
      take_queue_caused q into = by_choice (TurnCaused K (F q.slots) f.ending) (length q.slots == 0) (slot_search c.plan f) flush k (ending_so (F q.slots) f.ending into)

      -- A page call on a memory's region fails, or it goes on.
      pub paged_caused : (fault : Bool) (at : TakenSlot) (held : Slot) (phase : Phase P H) → (fault ≡ true → HasFaulted at.numbers.faults held.region.faults) → PhaseCaused K now phase f.ending → RowCaused (rows.paged fault at held phase c f)
      paged_caused true at held phase faulted one = (k, λ unknown. faulted refl)
      paged_caused false at held phase faulted one = one

      -- A memory is made, or it isn't for a reason by which nothing need be known of its slot; a table goes back as it was.
      pub was_made_caused : (at : TakenSlot) (held : Slot) (r : Result MemoryState AllocError) → IfFails (UnlessUnmade ⊥) r → RowCaused (rows.was_made at held r c f)
      was_made_caused at held (Ok memory) fails = k
      was_made_caused at held (Err e) fails = unmade_more ⊥ (IsBackNext P K at held) (λ no. absurd no) e fails

      pub was_made_table_caused : (at : TakenSlot) (region : Told) (r : Result LeasedTable AllocError) → RowCaused (rows.was_made_table at region r c f)
      was_made_table_caused at region (Ok lease) = k
      was_made_table_caused at region (Err e) = unmade_so (K × HandCaused {P = P} at (Unmapped region)) e (k, λ no. absurd no)

      memory_counted_caused : (what : Asked) (lease : Lease) → RowCaused (record { part = c; frame = rows.memory_kept what lease f; turn = rows.memory_turn what lease })
      memory_counted_caused (memory_asked m) lease = k
      memory_counted_caused what lease = ending_so K f.ending k

      table_counted_caused : (what : Asked) (lease : LeasedTable) → RowCaused (record { part = c; frame = rows.table_kept what lease f; turn = rows.table_turn what lease })
      table_counted_caused (table_asked ty) lease = k
      table_counted_caused what lease = ending_so K f.ending k

      -- It is counted.
      pub count_object_caused : (o : Object P) → RowCaused (rows.count_object_row o c f)
      count_object_caused (object.Memory lease) = memory_counted_caused f.asked lease
      count_object_caused (object.Table lease) = table_counted_caused f.asked lease
      count_object_caused (object.Stack lease) = k

      pub make_heap_caused : (r : Result H HeapMakeFault) (at : TakenSlot) → RowCaused (rows.make_heap_row r at c f)
      make_heap_caused (Ok heap) at = k
      make_heap_caused (Err no_heap.Memory) at = k
      make_heap_caused (Err no_heap.HeapFault) at = k

      pub heap_granted_caused : (memories : List Lease) (lease : LeasedHeap H) → RowCaused (rows.heap_granted memories lease c f)
      heap_granted_caused [] lease = tt
      heap_granted_caused (memory ∷ rest) lease = k

      pub heap_counted_caused : (what : Asked) (lease : LeasedHeap H) → RowCaused (rows.heap_counted what lease c f)
      heap_counted_caused (heap_over_asked memory) lease = k
      heap_counted_caused what lease = heap_granted_caused f.objects.memories.items lease

    -- what a reset says, where it fails, and where it leaves a slot in the queue
    abbrev pub ResetCaused : StepGiven H → Object P → Type 0
    ResetCaused g (object.Memory lease) = (g.fault ≡ true → HasFaulted lease.numbers.faults g.slot.region.faults) × (K → F (reset_into c.settings.dirty_pages c.settings.keep_resident.bytes (slot_taken lease) (slot_of lease.memory) f.local).slots)
    ResetCaused g (object.Table lease) = K → F (table_reset_into c.settings lease f.local).slots
    ResetCaused g (object.Stack lease) = K → F (stack_reset c.settings.stack_keep_resident.bytes lease f.local).slots

    -- The rows of a call that gives back.
    module _ (k : EndingCaused K f.ending) where
      pub uncount_object_caused : (o : Object P) → RowCaused (rows.uncount_object_row o c f)
      uncount_object_caused (object.Memory lease) = k
      uncount_object_caused (object.Table lease) = k
      uncount_object_caused (object.Stack lease) = k

      -- An object is reset,
      turned_caused : (local : Queue) → (K → F local.slots) → TurnCaused {P = P} {H = H} K (F local.slots) f.ending (rows.reset_turn c.settings.batch local)
      turned_caused local into = reset_caused P H K (F local.slots) f.ending c.settings.batch local (ending_more K (F local.slots) into f.ending k) k

      was_reset_caused : (fault : Bool) (held : Slot) (lease : Lease) → (fault ≡ true → HasFaulted lease.numbers.faults held.region.faults) → (K → F (reset_into c.settings.dirty_pages c.settings.keep_resident.bytes (slot_taken lease) (slot_of lease.memory) f.local).slots) → RowCaused (rows.was_reset fault held lease c f)
      was_reset_caused true held lease faulted into = ending_more K (IsBackNext P K (slot_taken lease) held) (λ known. (known, λ unknown. faulted refl)) f.ending k
      was_reset_caused false held lease faulted into = turned_caused (reset_into c.settings.dirty_pages c.settings.keep_resident.bytes (slot_taken lease) (slot_of lease.memory) f.local) into

      pub reset_row_caused : (g : StepGiven H) (o : Object P) → ResetCaused g o → RowCaused (rows.reset_row g o c f)
      reset_row_caused g (object.Memory lease) one = was_reset_caused g.fault g.slot lease one.0 one.1
      reset_row_caused g (object.Table lease) one = turned_caused (table_reset_into c.settings lease f.local) one
      reset_row_caused g (object.Stack lease) one = turned_caused (stack_reset c.settings.stack_keep_resident.bytes lease f.local) one

      -- and merged.
      pub merged_caused : (b : Bool) (whole : Queue) → (K → F whole.slots) → RowCaused (rows.merged b whole (record f { local = drained f.local }))
      merged_caused true whole into = ending_more K (F whole.slots) into f.ending k
      merged_caused false whole into = k

    -- A queue is flushed.
    put_first_caused : (o : Option Queued) (rest : List Queued) → ((m : Queued) → o ≡ Some m → EndingCaused (F rest) f.ending) → RowCaused (rows.put_first o rest c f)
    put_first_caused None rest k = tt
    put_first_caused (Some m) rest k = k m refl

    -- what a step of it says of the slots that it leaves
    abbrev pub FlushLeaves : rows.FlushStep → Queue → Type 0
    FlushLeaves rows.run queue = EndingCaused (F queue.slots) f.ending
    FlushLeaves (rows.zero kind) queue = EndingCaused (F (first_zeroed kind f.local.slots)) f.ending
    FlushLeaves (rows.put kind) queue = (m : Queued) → first_of_kind kind f.local.slots ≡ Some m → EndingCaused (F (others_of_kind kind f.local.slots)) f.ending
    FlushLeaves rows.free queue = EndingCaused (F f.local.slots) f.ending

    pub flush_row_caused : (step : rows.FlushStep) (queue : Queue) → FlushLeaves step queue → RowCaused (rows.flush_row step queue c f)
    flush_row_caused rows.run queue k = k
    flush_row_caused (rows.zero kind) queue k = k
    flush_row_caused (rows.put kind) queue k = put_first_caused (first_of_kind kind f.local.slots) (others_of_kind kind f.local.slots) k
    flush_row_caused rows.free queue k = k

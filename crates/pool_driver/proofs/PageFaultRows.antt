-- What is known of a call that is to be refused for a failed page call goes on with each row and each turn, up to the answer.
use Rattle.std.proofs.Common.{◌≡◌, inl, inr, ℕ, ◌+◌, Bool, true, false, List, [], ◌∷◌, length, refl, Option, Some, None, IfSome, Result, Ok, Err, nat_lt, nat_le}
use Rattle.std.specs.Prelude.{if◌then◌else◌, ◌==◌, ◌||◌, slice_get}
use Rattle.pool_types.specs.declared.unsupported.Unsupported.{Unsupported}
use Rattle.pool_pages.specs.Told.{Told}
use Rattle.pool_hall.specs.declared.unit_name.SlotKind.{SlotKind}
use Rattle.pool_hall.specs.declared.unit_name.SlotKind.TheVariants.{Memory as memory_kind, Table as table_kind, Stack as stack_kind, Heap as heap_kind}
use Rattle.pool_index.specs.Shard.{ShardState}
use Rattle.pool_index.specs.declared.ids.SlotId.{SlotId}
use Rattle.pool_images.specs.Slots.{Slot}
use Rattle.pool_limits.specs.declared.errors.LimiterError.{LimiterError}
use Rattle.pool_memory.specs.Memories.{MemoryState, slot_of}
use Rattle.pool_slots.specs.Cells.{Cell, unmapped, unknown, previously_used, taken}
use Rattle.pool_slots.specs.SlotQueues.{Queue, Queued, drained, first_of_kind, others_of_kind}
use Rattle.pool_slots.specs.declared.errors.AllocError.{AllocError}
use Rattle.pool_slots.specs.declared.errors.AllocError.TheVariants as refusal
use Rattle.pool_slots.specs.declared.heap_maker.HeapMakeFault.{HeapMakeFault}
use Rattle.pool_slots.specs.declared.heap_maker.HeapMakeFault.TheVariants as no_heap
use Rattle.pool_slots.specs.declared.plan.Plan.{Plan}
use Rattle.pool_slots.specs.declared.slot_name.SlotName.{SlotName}
use Rattle.pool_alloc.specs.HeapLeases.{LeasedHeap}
use Rattle.pool_alloc.specs.Leases.{Lease, slot_taken}
use Rattle.pool_alloc.specs.MemorySteps.{made_for, reset_into}
use Rattle.pool_alloc.specs.Objects.{no_objects, objects_in, objects_wanted}
use Rattle.pool_alloc.specs.PoolStacks.{stack_reset}
use Rattle.pool_alloc.specs.Purges.{affine_picked, behind_memory, behind_turn, has_turns, pick_affine_row, purge_row, purge_to, purged_stripe}
use Rattle.pool_alloc.specs.Releases.{behind_stripe, drain_at, drain_from, free_first, release_row, released_stripe, reserve_row, releasing, warm_taken}
use Rattle.pool_alloc.specs.StepReads.{StepGiven, allocator_for, memories_wanted, tables_wanted}
use Rattle.pool_alloc.specs.StepTable as rows
use Rattle.pool_alloc.specs.TableLeases.{LeasedTable}
use Rattle.pool_alloc.specs.TableSteps.{made_table, table_reset_into}
use Rattle.pool_alloc.specs.Turns.{Left, Row, Turn, after, all_returned, answer_of, ends, ends_with, failing, flush, goes, goes_to, granted_next, is_flushed, next, next_by, returned_next, search, slot_search, stays}
use Rattle.pool_alloc.specs.declared.frame.Asked.{Asked}
use Rattle.pool_alloc.specs.declared.frame.Asked.TheVariants.{Memory as memory_asked, Table as table_asked, Stack as stack_asked, Heap as heap_asked, HeapOver as heap_over_asked}
use Rattle.pool_alloc.specs.declared.frame.Ending.{Ending}
use Rattle.pool_alloc.specs.declared.frame.Ending.TheVariants.{Granted as granted, Returned as returned, Refused as refused}
use Rattle.pool_alloc.specs.declared.frame.Frame.{Frame}
use Rattle.pool_alloc.specs.declared.frame.FreedSlot.{FreedSlot}
use Rattle.pool_alloc.specs.declared.frame.Grant.TheVariants.{Instance}
use Rattle.pool_alloc.specs.declared.frame.Object.{Object}
use Rattle.pool_alloc.specs.declared.frame.Object.TheVariants as object
use Rattle.pool_alloc.specs.declared.frame.Outcome.TheVariants as answer
use Rattle.pool_alloc.specs.declared.frame.Phase.{Phase}
use Rattle.pool_alloc.specs.declared.frame.Phase.TheVariants.{Flush, Merge, Pick, Purge, Release, TakeQueue}
use Rattle.pool_alloc.specs.declared.frame.TakenSlot.{TakenSlot}
use Rattle.pool_alloc.specs.declared.pool_core.PoolCore.{PoolCore}
use Rattle.pool_alloc.specs.declared.pool_core.Settings.{Settings}
use Rattle.pool_alloc.specs.declared.purge.PurgeCursor.{PurgeCursor}
use Rattle.pool_alloc.specs.declared.purge.PurgeStep.{PurgeStep}
use Rattle.pool_alloc.specs.declared.purge.PurgeStep.TheVariants as purging_step
use Rattle.pool_alloc.specs.declared.release.ReleaseCursor.{ReleaseCursor}
use Rattle.pool_alloc.specs.declared.release.ReleaseStep.{ReleaseStep}
use Rattle.pool_alloc.specs.declared.release.ReleaseStep.TheVariants as releasing_step
use Rattle.pool_alloc.specs.Refusals.{heap_refused}
use Rattle.pool_driver.specs.Faults.{HasFaulted, KeepsFaults}
use Rattle.pool_driver.specs.Limits.{IfRefused}
use Rattle.pool_driver.specs.PageFaults.{IfFaulted, IfToFault, PhaseFaulted}
use Rattle.pool_driver.proofs.QueueFaults.{by_choice}
use Rattle.pool_driver.proofs.RowFaults.{MadeKeeps, MadeTableKeeps, NeverFaults, made_keeps, made_table_keeps}

-- More may be known than that,
faulted_more : (X Y : Type 0) → (X → Y) → (e : AllocError) → IfFaulted X e → IfFaulted Y e
faulted_more X Y more refusal.PageFault k = more k
faulted_more X Y more e k = tt

pub to_fault_more : (X Y : Type 0) → (X → Y) → (e : Ending) → IfToFault X e → IfToFault Y e
to_fault_more X Y more (refused e) k = faulted_more X Y more e k
to_fault_more X Y more e k = tt

-- and anything where the call is refused for something else.
never_faulted : (X : Type 0) (e : AllocError) → NeverFaults e → IfFaulted X e
never_faulted X refusal.PageFault never = absurd (never refl)
never_faulted X e never = tt

module _ {P H : Type 0} (X : Type 0) where
  -- What a turn says of it; a call under way doesn't stay as it is.
  abbrev pub TurnFaulted : Ending → Turn P H → Type 0
  TurnFaulted e (goes phase) = PhaseFaulted X phase e
  TurnFaulted e (ends outcome) = IfRefused (IfFaulted X) outcome
  TurnFaulted e next = IfToFault X e
  TurnFaulted e flush = IfToFault X e
  TurnFaulted e (search queues x) = IfToFault X e × IfFaulted X x
  TurnFaulted e stays = ⊥

  -- What it leaves.
  pub record LeftFaulted (l : Left P H) : Type 0 where
    pub frame : PhaseFaulted X l.frame.phase l.frame.ending
    pub answer : IfSome l.outcome (IfRefused (IfFaulted X))

-- the answer of a call that gives back, or is refused
module _ (P H : Type 0) (X : Type 0) where
  pub answer_faulted : (e : Ending) → IfToFault X e → IfRefused {P = P} {H = H} (IfFaulted X) (answer_of e)
  answer_faulted granted k = tt
  answer_faulted returned k = tt
  answer_faulted (refused e) k = k

-- Turns, by what they are made of.
module _ (P H : Type 0) (X : Type 0) (e : Ending) where
  pub taken_faulted : (kind : SlotKind) (name : SlotName) → IfToFault X e → PhaseFaulted {P = P} {H = H} X (rows.taken_next kind name) e
  taken_faulted memory_kind name k = k
  taken_faulted table_kind name k = k
  taken_faulted stack_kind name k = k
  taken_faulted heap_kind name k = k

  unmapped_faulted : (s : Settings) (kind : SlotKind) (at : TakenSlot) (region : Told) → IfToFault X e → TurnFaulted {P = P} {H = H} X e (rows.unmapped_next s kind at region)
  unmapped_faulted s memory_kind at region k = k
  unmapped_faulted s table_kind at region k = k
  unmapped_faulted s stack_kind at region k = k
  unmapped_faulted s heap_kind at region k = tt

  pub region_faulted : (s : Settings) (at : TakenSlot) (held : Cell) → IfToFault X e → TurnFaulted {P = P} {H = H} X e (rows.region_next s at held)
  region_faulted s at (unmapped region) k = unmapped_faulted s at.name.kind at region k
  region_faulted s at (unknown held) k = k
  region_faulted s at (previously_used held) k = k
  region_faulted s at taken k = tt

  pub heap_faulted : (at : TakenSlot) (o : Option H) → IfToFault X e → TurnFaulted {P = P} {H = H} X e (rows.heap_next at o)
  heap_faulted at None k = k
  heap_faulted at (Some heap) k = k

  pub reset_faulted : (batch : ℕ) (local : Queue) → IfToFault X e → TurnFaulted {P = P} {H = H} X e (rows.reset_turn batch local)
  reset_faulted batch local k = by_choice (TurnFaulted {P = P} {H = H} X e) ((length local.ranges == 0) || nat_le batch (length local.ranges)) flush (goes Merge) k k

  -- of a purge and of a release nothing is known
  pub purge_to_faulted : (p : PurgeCursor) (o : Option PurgeCursor) → TurnFaulted {P = P} {H = H} X e (purge_to p o)
  purge_to_faulted p None = tt
  purge_to_faulted p (Some later) = tt

  pub affine_faulted : (per_module : ℕ) (plan : Plan) (p : PurgeCursor) (o : Option SlotId) (shard : ShardState) (tried : ℕ) → TurnFaulted {P = P} {H = H} X e (affine_picked per_module plan p o shard tried)
  affine_faulted per_module plan p (Some slot) shard tried = tt
  affine_faulted per_module plan p None shard tried =
      by_choice (TurnFaulted {P = P} {H = H} X e) (nat_lt (tried + 1) (purged_stripe plan p).shards) (goes (Purge p (purging_step.Pick (tried + 1)))) (purge_to p (behind_memory per_module plan p)) tt (purge_to_faulted p (behind_memory per_module plan p))

  stripe_faulted : (plan : Plan) (r : ReleaseCursor) → TurnFaulted {P = P} {H = H} X e (behind_stripe plan r)
  stripe_faulted plan r = by_choice (TurnFaulted {P = P} {H = H} X e) (nat_lt (r.stripe + 1) (length plan.memories)) (goes (Release (releasing_step.TakeWarm (record r { stripe = r.stripe + 1; taken = record r.taken { items = [] }; failed = false }) 0))) (ends (answer.Released r.released)) tt tt

  pub free_first_faulted : (plan : Plan) (slots : List FreedSlot) (r : ReleaseCursor) → TurnFaulted {P = P} {H = H} X e (free_first plan slots r)
  free_first_faulted plan [] r = stripe_faulted plan r
  free_first_faulted plan (x ∷ rest) r = tt

  pub drain_faulted : (plan : Plan) (r : ReleaseCursor) (k : ℕ) → TurnFaulted {P = P} {H = H} X e (drain_at plan r k)
  drain_faulted plan r k = by_choice (TurnFaulted {P = P} {H = H} X e) (nat_lt k (length r.taken.items)) (goes (Release (releasing_step.TakeRegion r k))) (free_first plan r.taken.items r) tt (free_first_faulted plan r.taken.items r)

  pub warm_faulted : (plan : Plan) (r : ReleaseCursor) (j : ℕ) → TurnFaulted {P = P} {H = H} X e (warm_taken plan r j)
  warm_faulted plan r j = by_choice (TurnFaulted {P = P} {H = H} X e) (nat_lt (j + 1) (released_stripe plan r).shards) (goes (Release (releasing_step.TakeWarm r (j + 1)))) (drain_from plan r 0) tt (drain_faulted plan r _)

module _ {P H : Type 0} (X : Type 0) where
  all_returned_faulted : (asked : Asked) (f : Frame P H) → IfToFault X f.ending → LeftFaulted X (all_returned asked f)
  all_returned_faulted (memory_asked m) f k = record { frame = tt; answer = answer_faulted P H X f.ending k }
  all_returned_faulted (table_asked ty) f k = record { frame = tt; answer = answer_faulted P H X f.ending k }
  all_returned_faulted stack_asked f k = record { frame = tt; answer = answer_faulted P H X f.ending k }
  all_returned_faulted (heap_asked ty) f k = record { frame = tt; answer = answer_faulted P H X f.ending k }
  all_returned_faulted (heap_over_asked memory) f k = record { frame = tt; answer = answer_faulted P H X f.ending k }
  all_returned_faulted asked f k = record { frame = k; answer = tt }

  -- An object leaves those in hand,
  pub returned_faulted : (memories : List Lease) (tables : List LeasedTable) (f : Frame P H) → IfToFault X f.ending → LeftFaulted X (returned_next memories tables f)
  returned_faulted (lease ∷ rest) tables f k = record { frame = k; answer = tt }
  returned_faulted [] (lease ∷ rest) f k = record { frame = k; answer = tt }
  returned_faulted [] [] f k = all_returned_faulted f.asked f k

  -- or all are granted.
  granted_faulted : (f : Frame P H) → IfToFault X f.ending → LeftFaulted X (granted_next f)
  granted_faulted f k =
      by_choice (LeftFaulted X) (nat_lt (objects_in f.objects) (objects_wanted f.asked)) (goes_to f (Pick 0)) (ends_with (record f { objects = no_objects }) (answer.Granted (Instance f.objects)))
      (record { frame = k; answer = tt })
      (record { frame = tt; answer = tt })

  next_faulted : (e : Ending) (f : Frame P H) → IfToFault X f.ending → LeftFaulted X (next_by e f)
  next_faulted granted f k = granted_faulted f k
  next_faulted returned f k = returned_faulted f.objects.memories.items f.objects.tables.items f k
  next_faulted (refused e) f k = returned_faulted f.objects.memories.items f.objects.tables.items f k

  -- How a call goes on.
  pub after_faulted : (f : Frame P H) (turn : Turn P H) → TurnFaulted X f.ending turn → LeftFaulted X (after f turn)
  after_faulted f (goes phase) k = record { frame = k; answer = tt }
  after_faulted f (ends outcome) k = record { frame = tt; answer = k }
  after_faulted f next k = next_faulted f.ending f k
  after_faulted f flush k = by_choice (LeftFaulted X) (is_flushed f) (next_by f.ending f) (goes_to f Flush) (next_faulted f.ending f k) (record { frame = k; answer = tt })
  after_faulted f (search queues e) k =
      by_choice (LeftFaulted X) (nat_lt f.queues queues) (goes_to f TakeQueue) (returned_next f.objects.memories.items f.objects.tables.items (failing e f))
      (record { frame = k.0; answer = tt })
      (returned_faulted f.objects.memories.items f.objects.tables.items (failing e f) k.1)
  after_faulted f stays k = absurd k

  -- A row, by its turn.
  abbrev pub RowFaulted : {Z : Type 0} → Row Z P H → Type 0
  RowFaulted r = TurnFaulted X r.frame.ending r.turn

  module _ (c : PoolCore P H) (f : Frame P H) where
    pick_affine_faulted : (b : Bool) (p : PurgeCursor) (tried : ℕ) → RowFaulted (pick_affine_row b p tried c f)
    pick_affine_faulted true p tried = affine_faulted P H X f.ending c.settings.max_memories_per_module c.plan p _ _ tried
    pick_affine_faulted false p tried = tt

    pub purge_faulted : (g : StepGiven H) (p : PurgeCursor) (step : PurgeStep P) → RowFaulted (purge_row g p step c f)
    purge_faulted g p (purging_step.Pick tried) = pick_affine_faulted (has_turns c.settings.max_memories_per_module c.plan) p tried
    purge_faulted g p (purging_step.TakeRegion name) = tt
    purge_faulted g p (purging_step.Forget at held) = tt
    purge_faulted g p (purging_step.PutRegion at held) = tt
    purge_faulted g p (purging_step.Free name) = purge_to_faulted P H X f.ending p (behind_turn c.settings.max_memories_per_module c.plan p)

    reserve_faulted : (b : Bool) → RowFaulted (reserve_row b c f)
    reserve_faulted true = tt
    reserve_faulted false = tt

    pub release_faulted : (g : StepGiven H) (step : ReleaseStep P) → RowFaulted (release_row g step c f)
    release_faulted g releasing_step.Reserve = reserve_faulted g.wants
    release_faulted g (releasing_step.TakeWarm r j) = warm_faulted P H X f.ending c.plan _ j
    release_faulted g (releasing_step.TakeRegion r k) = tt
    release_faulted g (releasing_step.Decommit r k at held) = tt
    release_faulted g (releasing_step.PutRegion r k at held) = drain_faulted P H X f.ending c.plan r _
    release_faulted g (releasing_step.Free r x) = free_first_faulted P H X f.ending c.plan r.taken.items (releasing r x)

    pub component_faulted : (o : Option Unsupported) → RowFaulted (rows.component_tested o c f)
    component_faulted (Some rule) = tt
    component_faulted None = tt

    pub component_counted_faulted : (b : Bool) → RowFaulted (rows.component_counted b c f)
    component_counted_faulted true = tt
    component_counted_faulted false = tt

    -- The rows of a call of which it is known.
    module _ (k : IfToFault X f.ending) where
      reserved_faulted : (wants : Bool) (phase : Phase P H) → PhaseFaulted X phase f.ending → RowFaulted (rows.reserved wants phase c f)
      reserved_faulted true phase one = tt
      reserved_faulted false phase one = one

      pub validated_faulted : (o : Option Unsupported) (wants : Bool) (phase : Phase P H) → PhaseFaulted X phase f.ending → RowFaulted (rows.validated o wants phase c f)
      validated_faulted (Some rule) wants phase one = tt
      validated_faulted None wants phase one = reserved_faulted wants phase one

      pub stacks_faulted : (b : Bool) → RowFaulted (rows.stacks_tested b c f)
      stacks_faulted true = tt
      stacks_faulted false = k

      tested_faulted : (what : Asked) (wants : Bool) → RowFaulted (rows.memory_tested what wants c f)
      tested_faulted (heap_over_asked memory) wants = k
      tested_faulted what wants = validated_faulted (heap_refused c.settings what) wants (Pick 0) k

      pub heaps_faulted : (b wants : Bool) → RowFaulted (rows.heaps_tested b wants c f)
      heaps_faulted false wants = tt
      heaps_faulted true wants = tested_faulted f.asked wants

      pub counted_faulted : (b : Bool) → RowFaulted (rows.counted b c f)
      counted_faulted true = k
      counted_faulted false = tt

      pub picked_faulted : (o : Option (SlotId × ℕ)) (shard : ShardState) (tried : ℕ) → TurnFaulted X f.ending (rows.picked c.plan o shard tried f)
      picked_faulted (Some p) shard tried = taken_faulted P H X f.ending (allocator_for c.plan f).kind _ k
      picked_faulted None shard tried = by_choice (TurnFaulted X f.ending) (nat_lt (tried + 1) (allocator_for c.plan f).shards) (goes (Pick (tried + 1))) (slot_search c.plan f) k (k, tt)

      pub take_queue_faulted : (q : Queue) → TurnFaulted X f.ending (if length q.slots == 0 then slot_search c.plan f else flush)
      take_queue_faulted q = by_choice (TurnFaulted X f.ending) (length q.slots == 0) (slot_search c.plan f) flush (k, tt) k

      -- A page call on a memory's region fails, or it goes on.
      pub paged_faulted : (fault : Bool) (at : TakenSlot) (held : Slot) (phase : Phase P H) → at.name.kind ≡ memory_kind → (fault ≡ true → HasFaulted at.numbers.faults held.region.faults) → PhaseFaulted X phase f.ending → RowFaulted (rows.paged fault at held phase c f)
      paged_faulted true at held phase kind faulted one = inr (kind, faulted refl)
      paged_faulted false at held phase kind faulted one = one

      -- An object is made, or it isn't for another reason,
      was_made_faulted : (at : TakenSlot) (held : Slot) (r : Result MemoryState AllocError) → MadeKeeps at.numbers.faults r → RowFaulted (rows.was_made at held r c f)
      was_made_faulted at held (Ok memory) made = k
      was_made_faulted at held (Err e) made = never_faulted _ e made

      pub make_memory_faulted : (given : Result Bool LimiterError) (at : TakenSlot) (held : Slot) → KeepsFaults at.numbers.faults held.region.faults → RowFaulted (rows.make_memory_row given at held c f)
      make_memory_faulted given at held keeps =
          let o = slice_get (memories_wanted f.asked) (length f.objects.memories.items) in
          was_made_faulted at held (made_for c.settings.max_memory_size given held o) (made_keeps at.numbers.faults c.settings.max_memory_size given held o keeps)

      was_made_table_faulted : (at : TakenSlot) (region : Told) (r : Result LeasedTable AllocError) → MadeTableKeeps r → RowFaulted (rows.was_made_table at region r c f)
      was_made_table_faulted at region (Ok lease) made = k
      was_made_table_faulted at region (Err e) made = never_faulted _ e made

      pub make_table_faulted : (given : Result Bool LimiterError) (at : TakenSlot) (region : Told) → KeepsFaults at.numbers.faults region.faults → RowFaulted (rows.make_table_row given at region c f)
      make_table_faulted given at region keeps =
          let o = slice_get (tables_wanted f.asked) (length f.objects.tables.items) in
          was_made_table_faulted at region (made_table c.settings given at region o) (made_table_keeps c.settings given at region o keeps)

      memory_counted_faulted : (what : Asked) (lease : Lease) → TurnFaulted {P = P} {H = H} X (rows.memory_kept what lease f).ending (rows.memory_turn what lease)
      memory_counted_faulted (memory_asked m) lease = tt
      memory_counted_faulted what lease = k

      table_counted_faulted : (what : Asked) (lease : LeasedTable) → TurnFaulted {P = P} {H = H} X (rows.table_kept what lease f).ending (rows.table_turn what lease)
      table_counted_faulted (table_asked ty) lease = tt
      table_counted_faulted what lease = k

      -- counted,
      pub count_object_faulted : (o : Object P) → RowFaulted (rows.count_object_row o c f)
      count_object_faulted (object.Memory lease) = memory_counted_faulted f.asked lease
      count_object_faulted (object.Table lease) = table_counted_faulted f.asked lease
      count_object_faulted (object.Stack lease) = tt

      pub make_heap_faulted : (r : Result H HeapMakeFault) (at : TakenSlot) → RowFaulted (rows.make_heap_row r at c f)
      make_heap_faulted (Ok heap) at = k
      make_heap_faulted (Err no_heap.Memory) at = tt
      make_heap_faulted (Err no_heap.HeapFault) at = tt

      pub heap_granted_faulted : (memories : List Lease) (lease : LeasedHeap H) → RowFaulted (rows.heap_granted memories lease c f)
      heap_granted_faulted [] lease = tt
      heap_granted_faulted (memory ∷ rest) lease = tt

      pub heap_counted_faulted : (what : Asked) (lease : LeasedHeap H) → RowFaulted (rows.heap_counted what lease c f)
      heap_counted_faulted (heap_over_asked memory) lease = tt
      heap_counted_faulted what lease = heap_granted_faulted f.objects.memories.items lease

      -- given back,
      pub uncount_object_faulted : (o : Object P) → RowFaulted (rows.uncount_object_row o c f)
      uncount_object_faulted (object.Memory lease) = k
      uncount_object_faulted (object.Table lease) = k
      uncount_object_faulted (object.Stack lease) = k

      -- reset,
      was_reset_faulted : (fault : Bool) (held : Slot) (lease : Lease) → RowFaulted (rows.was_reset fault held lease c f)
      was_reset_faulted true held lease = to_fault_more X _ (λ x. inl x) f.ending k
      was_reset_faulted false held lease = reset_faulted P H X f.ending c.settings.batch (reset_into c.settings.dirty_pages c.settings.keep_resident.bytes (slot_taken lease) (slot_of lease.memory) f.local) k

      pub reset_row_faulted : (g : StepGiven H) (o : Object P) → RowFaulted (rows.reset_row g o c f)
      reset_row_faulted g (object.Memory lease) = was_reset_faulted g.fault g.slot lease
      reset_row_faulted g (object.Table lease) = reset_faulted P H X f.ending c.settings.batch (table_reset_into c.settings lease f.local) k
      reset_row_faulted g (object.Stack lease) = reset_faulted P H X f.ending c.settings.batch (stack_reset c.settings.stack_keep_resident.bytes lease f.local) k

      -- merged,
      pub merged_faulted : (b : Bool) (whole : Queue) → RowFaulted (rows.merged b whole (record f { local = drained f.local }))
      merged_faulted true whole = k
      merged_faulted false whole = k

      -- and flushed.
      put_first_faulted : (o : Option Queued) (rest : List Queued) → RowFaulted (rows.put_first o rest c f)
      put_first_faulted None rest = tt
      put_first_faulted (Some m) rest = k

      pub flush_row_faulted : (step : rows.FlushStep) (queue : Queue) → RowFaulted (rows.flush_row step queue c f)
      flush_row_faulted rows.run queue = k
      flush_row_faulted (rows.zero kind) queue = k
      flush_row_faulted (rows.put kind) queue = put_first_faulted (first_of_kind kind f.local.slots) (others_of_kind kind f.local.slots)
      flush_row_faulted rows.free queue = k

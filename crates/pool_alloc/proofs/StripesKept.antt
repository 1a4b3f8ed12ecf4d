-- No step but that for a party's key changes the stripe from which it has its memories.
use Rattle.std.proofs.Common.{◌≡◌, ℕ, Bool, true, false, List, [], ◌∷◌, Option, Some, None, Result, Ok, Err, refl, ap, ◌∙◌, ◌==◌, length, nat_lt, if◌then◌else◌}
use Rattle.pool_alloc.proofs.Imports.{Slot, MemoryState, Told, Unsupported, Queue, Queued, first_of_kind, others_of_kind, AllocError, HeapMakeFault}
use Rattle.pool_alloc.specs.CallStages.{keys, stage_at, stage_of}
use Rattle.pool_alloc.specs.Calls.{begun_call}
use Rattle.pool_alloc.specs.HeapLeases.{LeasedHeap}
use Rattle.pool_alloc.specs.Leases.{Lease}
use Rattle.pool_alloc.specs.MemorySteps.{memory_made}
use Rattle.pool_alloc.specs.Objects.{objects_in, objects_wanted}
use Rattle.pool_alloc.specs.PartyTold.{PartyTold}
use Rattle.pool_alloc.specs.Purges.{has_turns, pick_affine_row, purge_row}
use Rattle.pool_alloc.specs.Refusals.{heap_refused, module_refused, component_refused}
use Rattle.pool_alloc.specs.Releases.{reserve_row, release_row}
use Rattle.pool_alloc.specs.StepReads.{StepGiven, info_wanted, memories_wanted, tables_wanted}
use Rattle.pool_alloc.specs.StepTable.{FlushStep, run, zero, put, free, flush_step, memory_kept, table_kept, merged, validated, counted, stacks_tested, heaps_tested, heap_granted, make_heap_row, component_tested, component_counted, paged, was_made, was_made_table, was_reset, put_first, flush_row, row_of, memory_tested, heap_counted}
use Rattle.pool_alloc.specs.Stepping.{StepsTo}
use Rattle.pool_alloc.specs.TableLeases.{LeasedTable}
use Rattle.pool_alloc.specs.TableSteps.{table_made}
use Rattle.pool_alloc.specs.Turns.{After, Left, Row, Turn, goes, ends, next, flush, search, stays, after, is_flushed, all_returned, returned_next, next_by}
use Rattle.pool_alloc.specs.declared.frame.Asked.{Asked}
use Rattle.pool_alloc.specs.declared.frame.Asked.TheVariants.{Nothing as nothing_asked, Module as module_asked, Memory as memory_asked, Table as table_asked, Stack as stack_asked, Heap as heap_asked, HeapOver as heap_over_asked}
use Rattle.pool_alloc.specs.declared.frame.Call.{Call}
use Rattle.pool_alloc.specs.declared.frame.Call.TheVariants as call
use Rattle.pool_alloc.specs.declared.frame.Ending.{Ending}
use Rattle.pool_alloc.specs.declared.frame.Ending.TheVariants.{Granted as granted, Returned as returned, Refused as refused}
use Rattle.pool_alloc.specs.declared.frame.Frame.{Frame}
use Rattle.pool_alloc.specs.declared.frame.Grant.TheVariants.{Instance, Component, Memory as one_memory, Table as one_table, Stack, Heap, HeapOver}
use Rattle.pool_alloc.specs.declared.frame.Object.TheVariants.{Memory, Table}
use Rattle.pool_alloc.specs.declared.frame.Object.TheVariants as object
use Rattle.pool_alloc.specs.declared.frame.Phase.{Phase}
use Rattle.pool_alloc.specs.declared.frame.Phase.TheVariants.{Idle, Key, Validate, TestStack, TestHeap, CountInstance, Pick, TakeQueue, TakeRegion, Empty, Instantiate, MakeMemory, MakeTable, CountObject, TakeHeap, MakeHeap, CountHeap, PutNoHeap, PutBack, FreeOne, UncountObject, UncountHeap, PutHeap, FreeHeap, Reset, Merge, Flush, UncountInstance, ValidateComponent, CountComponent, UncountComponent, Purge, Release}
use Rattle.pool_alloc.specs.declared.frame.TakenSlot.{TakenSlot}
use Rattle.pool_alloc.specs.declared.pool_core.PoolCore.{PoolCore}
use Rattle.pool_alloc.specs.declared.purge.PurgeCursor.{PurgeCursor}
use Rattle.pool_alloc.specs.declared.purge.PurgeStep.{PurgeStep}
use Rattle.pool_alloc.specs.declared.purge.PurgeStep.TheVariants as purging
use Rattle.pool_alloc.specs.declared.release.ReleaseStep.{ReleaseStep}
use Rattle.pool_alloc.specs.declared.release.ReleaseStep.TheVariants as releasing

module _ {P H : Type 0} where
  either : (b : Bool) (x y : Left P H) (n : ℕ) → x.frame.stripe ≡ n → y.frame.stripe ≡ n → (if b then x else y).frame.stripe ≡ n
  either true x y n one other = one
  either false x y n one other = other

  all_stripe : (asked : Asked) (f : Frame P H) → (all_returned asked f).frame.stripe ≡ f.stripe
  all_stripe (memory_asked m) f = refl
  all_stripe (table_asked ty) f = refl
  all_stripe stack_asked f = refl
  all_stripe nothing_asked f = refl
  all_stripe (module_asked m) f = refl
  all_stripe (heap_asked ty) f = refl
  all_stripe (heap_over_asked memory) f = refl

  returned_stripe : (ms : List Lease) (ts : List LeasedTable) (f : Frame P H) → (returned_next ms ts f).frame.stripe ≡ f.stripe
  returned_stripe (l ∷ ls) ts f = refl
  returned_stripe [] (l ∷ ls) f = refl
  returned_stripe [] [] f = all_stripe f.asked f

  next_stripe : (e : Ending) (f : Frame P H) → (next_by e f).frame.stripe ≡ f.stripe
  next_stripe granted f = either (nat_lt (objects_in f.objects) (objects_wanted f.asked)) _ _ f.stripe refl refl
  next_stripe returned f = returned_stripe f.objects.memories.items f.objects.tables.items f
  next_stripe (refused e) f = returned_stripe f.objects.memories.items f.objects.tables.items f

  -- a turn leaves it
  turn_stripe : (f : Frame P H) (t : Turn P H) → (after f t).frame.stripe ≡ f.stripe
  turn_stripe f (goes phase) = refl
  turn_stripe f (ends outcome) = refl
  turn_stripe f next = next_stripe f.ending f
  turn_stripe f flush = either (is_flushed f) _ _ f.stripe (next_stripe f.ending f) refl
  turn_stripe f (search queues e) = either (nat_lt f.queues queues) _ _ f.stripe refl (returned_stripe f.objects.memories.items f.objects.tables.items (record f { ending = refused e }))
  turn_stripe f stays = refl

  -- and so does a call that begins.
  pub begun_stripe : (c : Call P H) (f : Frame P H) → (begun_call c f).stripe ≡ f.stripe
  begun_stripe call.Key f = refl
  begun_stripe (call.Module m) f = refl
  begun_stripe (call.Purge id) f = refl
  begun_stripe call.Release f = refl
  begun_stripe (call.Component info) f = refl
  begun_stripe (call.Memory m) f = refl
  begun_stripe (call.Table ty) f = refl
  begun_stripe (call.GiveBack (one_memory lease)) f = refl
  begun_stripe (call.GiveBack (one_table lease)) f = refl
  begun_stripe call.Stack f = refl
  begun_stripe (call.Heap ty) f = refl
  begun_stripe (call.HeapOver memory) f = refl
  begun_stripe (call.GiveBack (Stack lease)) f = refl
  begun_stripe (call.GiveBack Component) f = refl
  begun_stripe (call.GiveBack (Heap lease memory)) f = refl
  begun_stripe (call.GiveBack (HeapOver lease)) f = refl
  begun_stripe (call.GiveBack (Instance lease)) f = returned_stripe lease.memories.items lease.tables.items (record f { asked = nothing_asked; objects = lease; ending = returned })

  -- Rows that have several ends.
  validated_stripe : (o : Option Unsupported) (wants : Bool) (phase : Phase P H) (c : PoolCore P H) (f : Frame P H) → (validated o wants phase c f).frame.stripe ≡ f.stripe
  validated_stripe (Some rule) wants phase c f = refl
  validated_stripe None true phase c f = refl
  validated_stripe None false phase c f = refl

  asked_stripe : (asked : Asked) (wants : Bool) (c : PoolCore P H) (f : Frame P H) → (memory_tested asked wants c f).frame.stripe ≡ f.stripe
  asked_stripe (heap_over_asked memory) wants c f = refl
  asked_stripe asked wants c f = validated_stripe (heap_refused c.settings asked) wants (Pick 0) c f

  heaps_stripe : (enabled wants : Bool) (c : PoolCore P H) (f : Frame P H) → (heaps_tested enabled wants c f).frame.stripe ≡ f.stripe
  heaps_stripe false wants c f = refl
  heaps_stripe true wants c f = asked_stripe f.asked wants c f

  make_heap_stripe : (r : Result H HeapMakeFault) (at : TakenSlot) (c : PoolCore P H) (f : Frame P H) → (make_heap_row r at c f).frame.stripe ≡ f.stripe
  make_heap_stripe (Ok heap) at c f = refl
  make_heap_stripe (Err fault) at c f = refl

  heap_stripe : (ms : List Lease) (lease : LeasedHeap H) (c : PoolCore P H) (f : Frame P H) → (heap_granted ms lease c f).frame.stripe ≡ f.stripe
  heap_stripe [] lease c f = refl
  heap_stripe (m ∷ ms) lease c f = refl

  heap_counted_stripe : (asked : Asked) (lease : LeasedHeap H) (c : PoolCore P H) (f : Frame P H) → (heap_counted asked lease c f).frame.stripe ≡ f.stripe
  heap_counted_stripe (heap_over_asked memory) lease c f = refl
  heap_counted_stripe asked lease c f = heap_stripe f.objects.memories.items lease c f

  memory_stripe : (asked : Asked) (lease : Lease) (f : Frame P H) → (memory_kept asked lease f).stripe ≡ f.stripe
  memory_stripe (memory_asked m) lease f = refl
  memory_stripe _ lease f = refl

  table_kept_stripe : (asked : Asked) (lease : LeasedTable) (f : Frame P H) → (table_kept asked lease f).stripe ≡ f.stripe
  table_kept_stripe (table_asked ty) lease f = refl
  table_kept_stripe _ lease f = refl

  counted_stripe : (b : Bool) (c : PoolCore P H) (f : Frame P H) → (counted b c f).frame.stripe ≡ f.stripe
  counted_stripe true c f = refl
  counted_stripe false c f = refl

  tested_stripe : (o : Option Unsupported) (c : PoolCore P H) (f : Frame P H) → (component_tested o c f).frame.stripe ≡ f.stripe
  tested_stripe (Some rule) c f = refl
  tested_stripe None c f = refl

  component_stripe : (b : Bool) (c : PoolCore P H) (f : Frame P H) → (component_counted b c f).frame.stripe ≡ f.stripe
  component_stripe true c f = refl
  component_stripe false c f = refl

  paged_stripe : (b : Bool) (at : TakenSlot) (held : Slot) (phase : Phase P H) (c : PoolCore P H) (f : Frame P H) → (paged b at held phase c f).frame.stripe ≡ f.stripe
  paged_stripe true at held phase c f = refl
  paged_stripe false at held phase c f = refl

  made_stripe : (at : TakenSlot) (held : Slot) (r : Result MemoryState AllocError) (c : PoolCore P H) (f : Frame P H) → (was_made at held r c f).frame.stripe ≡ f.stripe
  made_stripe at held (Ok memory) c f = refl
  made_stripe at held (Err e) c f = refl

  table_stripe : (at : TakenSlot) (region : Told) (r : Result LeasedTable AllocError) (c : PoolCore P H) (f : Frame P H) → (was_made_table at region r c f).frame.stripe ≡ f.stripe
  table_stripe at region (Ok lease) c f = refl
  table_stripe at region (Err e) c f = refl

  reset_stripe : (b : Bool) (held : Slot) (lease : Lease) (c : PoolCore P H) (f : Frame P H) → (was_reset b held lease c f).frame.stripe ≡ f.stripe
  reset_stripe true held lease c f = refl
  reset_stripe false held lease c f = refl

  put_stripe : (o : Option Queued) (rest : List Queued) (c : PoolCore P H) (f : Frame P H) → (put_first o rest c f).frame.stripe ≡ f.stripe
  put_stripe None rest c f = refl
  put_stripe (Some m) rest c f = refl

  merged_stripe : (b : Bool) (whole : Queue) (f : Frame P H) → (merged b whole f).frame.stripe ≡ f.stripe
  merged_stripe true whole f = refl
  merged_stripe false whole f = refl

  enabled_stripe : (disabled : Bool) (c : PoolCore P H) (f : Frame P H) → (stacks_tested disabled c f).frame.stripe ≡ f.stripe
  enabled_stripe true c f = refl
  enabled_stripe false c f = refl

  flush_stripe : (step : FlushStep) (queue : Queue) (c : PoolCore P H) (f : Frame P H) → (flush_row step queue c f).frame.stripe ≡ f.stripe
  flush_stripe run queue c f = refl
  flush_stripe (zero kind) queue c f = refl
  flush_stripe (put kind) queue c f = put_stripe (first_of_kind kind f.local.slots) (others_of_kind kind f.local.slots) c f
  flush_stripe free queue c f = refl

  purge_stripe : (g : StepGiven H) (p : PurgeCursor) (step : PurgeStep P) (c : PoolCore P H) (f : Frame P H) → (purge_row g p step c f).frame.stripe ≡ f.stripe
  purge_stripe g p (purging.Pick tried) c f = picked_stripe (has_turns c.settings.max_memories_per_module c.plan) p tried c f
    where
      picked_stripe : (b : Bool) (p : PurgeCursor) (tried : ℕ) (c : PoolCore P H) (f : Frame P H) → (pick_affine_row b p tried c f).frame.stripe ≡ f.stripe
      picked_stripe true p tried c f = refl
      picked_stripe false p tried c f = refl
  purge_stripe g p (purging.TakeRegion name) c f = refl
  purge_stripe g p (purging.Forget at held) c f = refl
  purge_stripe g p (purging.PutRegion at held) c f = refl
  purge_stripe g p (purging.Free name) c f = refl

  reserved_stripe : (wants : Bool) (c : PoolCore P H) (f : Frame P H) → (reserve_row wants c f).frame.stripe ≡ f.stripe
  reserved_stripe true c f = refl
  reserved_stripe false c f = refl

  release_stripe : (g : StepGiven H) (step : ReleaseStep P) (c : PoolCore P H) (f : Frame P H) → (release_row g step c f).frame.stripe ≡ f.stripe
  release_stripe g releasing.Reserve c f = reserved_stripe g.wants c f
  release_stripe g (releasing.TakeWarm r j) c f = refl
  release_stripe g (releasing.TakeRegion r k) c f = refl
  release_stripe g (releasing.Decommit r k at held) c f = refl
  release_stripe g (releasing.PutRegion r k at held) c f = refl
  release_stripe g (releasing.Free r x) c f = refl

  -- Each row but that of a key leaves it.
  row_stripe : (g : StepGiven H) (p : Phase P H) (c : PoolCore P H) (f : Frame P H) → (stage_at p f.asked f.ending (objects_in f.objects) ≡ keys → ⊥) → (row_of g p c f).frame.stripe ≡ f.stripe
  row_stripe g Idle c f on = refl
  row_stripe g Key c f on = absurd (on refl)
  row_stripe g Validate c f on = validated_stripe (module_refused c.settings c.plan.totals.table (info_wanted f.asked)) g.wants CountInstance c f
  row_stripe g CountInstance c f on = counted_stripe (nat_lt c.counters.core_instances c.settings.max_core_instances) c f
  row_stripe g (Pick tried) c f on = refl
  row_stripe g TakeQueue c f on = refl
  row_stripe g (TakeRegion name) c f on = refl
  row_stripe g (Empty at held) c f on = paged_stripe g.fault at g.slot _ c f
  row_stripe g (Instantiate at held) c f on = paged_stripe g.fault at g.slot _ c f
  row_stripe g (MakeMemory at held) c f on = made_stripe at held (memory_made c.settings (memories_wanted f.asked) (length f.objects.memories.items) g.limiter held) c f
  row_stripe g (MakeTable at region) c f on = table_stripe at region (table_made c.settings (tables_wanted f.asked) (length f.objects.tables.items) g.limiter at region) c f
  row_stripe g (CountObject (Memory lease)) c f on = memory_stripe f.asked lease f
  row_stripe g (CountObject (Table lease)) c f on = table_kept_stripe f.asked lease f
  row_stripe g (CountObject (object.Stack lease)) c f on = refl
  row_stripe g (PutBack at held) c f on = refl
  row_stripe g (FreeOne name) c f on = refl
  row_stripe g (UncountObject (Memory lease)) c f on = refl
  row_stripe g (UncountObject (Table lease)) c f on = refl
  row_stripe g (UncountObject (object.Stack lease)) c f on = refl
  row_stripe g (Reset (Memory lease)) c f on = reset_stripe g.fault g.slot lease c f
  row_stripe g (Reset (Table lease)) c f on = refl
  row_stripe g (Reset (object.Stack lease)) c f on = refl
  row_stripe g TestStack c f on = enabled_stripe (c.settings.stack_size == 0) c f
  row_stripe g TestHeap c f on = heaps_stripe c.settings.tunables.tunables.collector g.wants c f
  row_stripe g (TakeHeap name) c f on = refl
  row_stripe g (MakeHeap at) c f on = make_heap_stripe g.heap at c f
  row_stripe g (CountHeap lease) c f on = heap_counted_stripe f.asked lease c f
  row_stripe g (PutNoHeap at) c f on = refl
  row_stripe g (UncountHeap lease memory) c f on = refl
  row_stripe g (PutHeap lease memory) c f on = refl
  row_stripe g (FreeHeap name memory) c f on = refl
  row_stripe g Merge c f on = merged_stripe _ _ _
  row_stripe g Flush c f on = flush_stripe (flush_step f.local f.freed.items) g.queue c f
  row_stripe g UncountInstance c f on = refl
  row_stripe g (Purge p step) c f on = purge_stripe g p step c f
  row_stripe g (Release step) c f on = release_stripe g step c f
  row_stripe g (ValidateComponent info) c f on = tested_stripe (component_refused c.settings info) c f
  row_stripe g CountComponent c f on = component_stripe (nat_lt c.counters.component_instances c.settings.max_component_instances) c f
  row_stripe g UncountComponent c f on = refl

  pub step_stripe : (old new : PartyTold) (c : PoolCore P H) (f : Frame P H) (a : After P H) → (stage_of f ≡ keys → ⊥) → StepsTo old new c f a → a.frame.stripe ≡ f.stripe
  step_stripe old new c f a on steps =
      let r : Row (PoolCore P H) P H = row_of steps.0 f.phase c (record f { phase = Idle }) in
      ap (λ (x : After P H). x.frame.stripe) steps.1.is ∙ turn_stripe r.frame r.turn ∙ row_stripe steps.0 f.phase c (record f { phase = Idle }) on

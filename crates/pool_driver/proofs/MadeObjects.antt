-- A step that neither makes an object nor counts one leaves a request no more objects than it had.
use Rattle.std.proofs.Common.{◌≡◌, ℕ, ◌+◌, ◌≤◌, Bool, true, false, List, [], ◌∷◌, length, refl, ap, arith, Option, Some, None, Result, Ok, Err, nat_lt, if◌then◌else◌, ◌==◌}
use Rattle.pool_pages.specs.Told.{Told}
use Rattle.pool_images.specs.Slots.{Slot}
use Rattle.pool_hall.specs.declared.unit_name.SlotKind.{SlotKind}
use Rattle.pool_hall.specs.declared.unit_name.SlotKind.TheVariants.{Memory as memory_kind, Table as table_kind, Stack as stack_kind, Heap as heap_kind}
use Rattle.pool_index.specs.Shard.{ShardState}
use Rattle.pool_index.specs.declared.ids.SlotId.{SlotId}
use Rattle.pool_slots.specs.Cells.{Cell, unmapped, unknown, previously_used, taken}
use Rattle.pool_slots.specs.SlotQueues.{Queue, Queued, first_of_kind, others_of_kind}
use Rattle.pool_slots.specs.declared.errors.AllocError.{AllocError}
use Rattle.pool_slots.specs.declared.errors.AllocError.TheVariants as refusal
use Rattle.pool_slots.specs.declared.heap_maker.HeapMakeFault.{HeapMakeFault}
use Rattle.pool_slots.specs.declared.plan.Plan.{Plan}
use Rattle.pool_slots.specs.declared.slot_name.SlotName.{SlotName}
use Rattle.pool_alloc.specs.CallStages.{Progress, untested, uncounted, admitted, seeks_single, seeks_stack, tests_heap, seeks_heap, counts_heap, Stage, no_call, keys, asks, tests_component, counts_component, returning, refusing, purging, reserving, releasing, stage_at, stage_back, stage_by, stage_of, stage_of_release}
use Rattle.pool_alloc.specs.Leases.{Lease}
use Rattle.pool_alloc.specs.MemorySteps.{heap_refusal}
use Rattle.pool_alloc.specs.Objects.{no_objects, objects_in, objects_wanted}
use Rattle.pool_alloc.specs.StepReads.{allocator_for, kind_by, stacks_wanted}
use Rattle.pool_alloc.specs.StepTable.{FlushStep, run, zero as zero_step, put, free, flush_row, heap_next, make_heap_row, paged, picked, put_first, region_next, take_queue_on, taken_next, unmapped_next}
use Rattle.pool_alloc.specs.TableLeases.{LeasedTable}
use Rattle.pool_alloc.specs.Turns.{Left, after, all_returned, answer_of, ends_with, failing, flush, flush_next, goes, goes_to, granted_next, is_flushed, is_granting, next_by, returned_next, search_next, slot_search}
use Rattle.pool_alloc.specs.declared.frame.Asked.{Asked}
use Rattle.pool_alloc.specs.declared.frame.Asked.TheVariants as asked_for
use Rattle.pool_alloc.specs.declared.frame.Ending.{Ending}
use Rattle.pool_alloc.specs.declared.frame.Ending.TheVariants.{Granted as granted, Returned as returned, Refused as refused}
use Rattle.pool_alloc.specs.declared.frame.Frame.{Frame}
use Rattle.pool_alloc.specs.declared.frame.Grant.TheVariants.{Instance, Component, Memory as memory_granted, Table as table_granted, Stack, Heap, HeapOver}
use Rattle.pool_alloc.specs.declared.frame.Outcome.{Outcome}
use Rattle.pool_alloc.specs.declared.frame.Outcome.TheVariants.{Key, Granted, Returned, Purged, Released, Refused}
use Rattle.pool_alloc.specs.declared.frame.Phase.{Phase}
use Rattle.pool_alloc.specs.declared.frame.Phase.TheVariants.{Idle, Pick, TakeQueue, TakeRegion, TakeHeap, MakeHeap, PutNoHeap, UncountInstance, Flush}
use Rattle.pool_alloc.specs.declared.frame.TakenSlot.{TakenSlot}
use Rattle.pool_alloc.specs.declared.pool_core.PoolCore.{PoolCore}
use Rattle.pool_alloc.specs.declared.pool_core.Settings.{Settings}
use Rattle.pool_alloc.specs.declared.release.ReleaseStep.{ReleaseStep}
use Rattle.pool_alloc.specs.declared.release.ReleaseStep.TheVariants.{Reserve}

-- how many objects a request has that is so far
abbrev made_by : Progress → ℕ
made_by untested = 0
made_by uncounted = 0
made_by (admitted n) = n
made_by (seeks_single n) = n
made_by seeks_stack = 0
made_by tests_heap = 0
made_by (seeks_heap n) = n
made_by counts_heap = 0

abbrev pub made_until : Stage → ℕ
made_until no_call = 0
made_until keys = 0
made_until (asks p) = made_by p
made_until (tests_component info) = 0
made_until counts_component = 0
made_until returning = 0
made_until (refusing e) = 0
made_until purging = 0
made_until reserving = 0
made_until releasing = 0

-- it has some that are numbered
abbrev pub IsNumbered : Progress → Type 0
IsNumbered untested = ⊥
IsNumbered uncounted = ⊥
IsNumbered (admitted n) = Unit {0}
IsNumbered (seeks_single n) = Unit {0}
IsNumbered seeks_stack = ⊥
IsNumbered tests_heap = ⊥
IsNumbered (seeks_heap n) = Unit {0}
IsNumbered counts_heap = ⊥

abbrev pub HasNumber : Stage → Type 0
HasNumber no_call = ⊥
HasNumber keys = ⊥
HasNumber (asks p) = IsNumbered p
HasNumber (tests_component info) = ⊥
HasNumber counts_component = ⊥
HasNumber returning = ⊥
HasNumber (refusing e) = ⊥
HasNumber purging = ⊥
HasNumber reserving = ⊥
HasNumber releasing = ⊥

-- what is given back is not numbered
pub none_back : (a : Asked) (aim : Ending) (k : ℕ) → is_granting aim ≡ false → HasNumber (stage_by a aim k) → ⊥
none_back a granted k back has = absurd cc
none_back a returned k back has = has
none_back a (refused e) k back has = has

pub none_counted_back : (aim : Ending) → HasNumber (stage_back aim) → ⊥
none_counted_back granted has = has
none_counted_back returned has = has
none_counted_back (refused e) has = has

pub none_released : {P : Type 0} (step : ReleaseStep P) → HasNumber (stage_of_release step) → ⊥
none_released Reserve has = has
none_released step has = has

-- no stack has a number
pub not_stack : (a : Asked) (aim : Ending) (k : ℕ) → HasNumber (stage_by a aim k) → stacks_wanted a ≡ 0
not_stack asked_for.Nothing aim k has = refl
not_stack (asked_for.Module m) aim k has = refl
not_stack (asked_for.Memory m) aim k has = refl
not_stack (asked_for.Table ty) aim k has = refl
not_stack asked_for.Stack granted k has = absurd has
not_stack asked_for.Stack returned k has = absurd has
not_stack asked_for.Stack (refused e) k has = absurd has
not_stack (asked_for.Heap ty) aim k has = refl
not_stack (asked_for.HeapOver memory) aim k has = refl

other_kind : (b : Bool) (last : SlotKind) → (last ≡ stack_kind → ⊥) → (if b then memory_kind else last) ≡ stack_kind → ⊥
other_kind true last other is = absurd cc
other_kind false last other is = other is

pub no_stack_next : (a : Asked) (j : ℕ) → stacks_wanted a ≡ 0 → kind_by a j ≡ stack_kind → ⊥
no_stack_next asked_for.Nothing j none is = other_kind (nat_lt j 0) table_kind (λ e. absurd cc) is
no_stack_next (asked_for.Module m) j none is = other_kind (nat_lt j (length m.info.memories)) table_kind (λ e. absurd cc) is
no_stack_next (asked_for.Memory m) j none is = other_kind (nat_lt j 1) table_kind (λ e. absurd cc) is
no_stack_next (asked_for.Table ty) j none is = other_kind (nat_lt j 0) table_kind (λ e. absurd cc) is
no_stack_next asked_for.Stack j none is = absurd (omega (arith, none))
no_stack_next (asked_for.Heap ty) j none is = other_kind (nat_lt j 1) heap_kind (λ e. absurd cc) is
no_stack_next (asked_for.HeapOver memory) j none is = other_kind (nat_lt j 0) heap_kind (λ e. absurd cc) is

-- so many are numbered where a request goes on
pub number_is : (a : Asked) (aim : Ending) (k : ℕ) → HasNumber (stage_by a aim k) → made_until (stage_by a aim k) ≡ k
number_is asked_for.Nothing granted k has = refl
number_is (asked_for.Module m) granted k has = refl
number_is (asked_for.Memory m) granted k has = refl
number_is (asked_for.Table ty) granted k has = refl
number_is asked_for.Stack granted k has = absurd has
number_is (asked_for.Heap ty) granted k has = refl
number_is (asked_for.HeapOver memory) granted k has = refl
number_is a returned k has = absurd has
number_is a (refused e) k has = absurd has

-- and no more in any case
pub at_most : (a : Asked) (aim : Ending) (k : ℕ) → made_until (stage_by a aim k) ≤ k
at_most asked_for.Nothing granted k = omega arith
at_most (asked_for.Module m) granted k = omega arith
at_most (asked_for.Memory m) granted k = omega arith
at_most (asked_for.Table ty) granted k = omega arith
at_most asked_for.Stack granted k = omega arith
at_most (asked_for.Heap ty) granted k = omega arith
at_most (asked_for.HeapOver memory) granted k = omega arith
at_most a returned k = omega arith
at_most a (refused e) k = omega arith

module _ {P H : Type 0} where
  -- an instance that is answered has at most so many objects, and a memory or a table by itself is one
  abbrev pub HasAtMost : ℕ → Option (Outcome P H) → Type 0
  HasAtMost k None = Unit {0}
  HasAtMost k (Some (Granted (Instance lease))) = objects_in lease ≤ k
  HasAtMost k (Some (Granted Component)) = Unit {0}
  HasAtMost k (Some (Granted (memory_granted lease))) = 1 ≤ k
  HasAtMost k (Some (Granted (table_granted lease))) = 1 ≤ k
  HasAtMost k (Some (Granted (Stack lease))) = Unit {0}
  HasAtMost k (Some (Granted (Heap lease memory))) = Unit {0}
  HasAtMost k (Some (Granted (HeapOver lease))) = Unit {0}
  HasAtMost k (Some Key) = Unit {0}
  HasAtMost k (Some Returned) = Unit {0}
  HasAtMost k (Some (Purged n)) = Unit {0}
  HasAtMost k (Some (Released n)) = Unit {0}
  HasAtMost k (Some (Refused e)) = Unit {0}

  -- A turn leaves no more objects than so many.
  pub record KeepsMade (k : ℕ) (l : Left P H) : Type 0 where
    pub frame : made_until (stage_of l.frame) ≤ k
    pub whole : HasAtMost k l.outcome

-- what is given back, or refused, has no object
back_answered : (P H : Type 0) (k : ℕ) (aim : Ending) → HasAtMost {P = P} {H = H} k (Some (answer_of aim))
back_answered P H k granted = tt
back_answered P H k returned = tt
back_answered P H k (refused e) = tt

module _ {P H : Type 0} where
  goes_keeps : (f : Frame P H) (p : Phase P H) → made_until (stage_at p f.asked f.ending (objects_in f.objects)) ≤ objects_in f.objects → KeepsMade (objects_in f.objects) (goes_to f p)
  goes_keeps f p fewer = record { frame = fewer; whole = tt }

  all_keeps : (a : Asked) (f : Frame P H) → KeepsMade (objects_in f.objects) (all_returned a f)
  all_keeps (asked_for.Memory m) f = record { frame = omega arith; whole = back_answered P H _ f.ending }
  all_keeps (asked_for.Table ty) f = record { frame = omega arith; whole = back_answered P H _ f.ending }
  all_keeps asked_for.Stack f = record { frame = omega arith; whole = back_answered P H _ f.ending }
  all_keeps (asked_for.Heap ty) f = record { frame = omega arith; whole = back_answered P H _ f.ending }
  all_keeps (asked_for.HeapOver memory) f = record { frame = omega arith; whole = back_answered P H _ f.ending }
  all_keeps asked_for.Nothing f = goes_keeps f UncountInstance (at_most f.asked f.ending (objects_in f.objects))
  all_keeps (asked_for.Module m) f = goes_keeps f UncountInstance (at_most f.asked f.ending (objects_in f.objects))

  returned_keeps : (memories : List Lease) (tables : List LeasedTable) (f : Frame P H) → f.objects.memories.items ≡ memories → f.objects.tables.items ≡ tables → KeepsMade (objects_in f.objects) (returned_next memories tables f)
  returned_keeps (lease ∷ rest) tables f memories_are tables_are = record { frame = omega (arith, at_most f.asked f.ending (length rest + length f.objects.tables.items), ap length memories_are); whole = tt }
  returned_keeps [] (lease ∷ rest) f memories_are tables_are = record { frame = omega (arith, at_most f.asked f.ending (length f.objects.memories.items + length rest), ap length tables_are); whole = tt }
  returned_keeps [] [] f memories_are tables_are = all_keeps f.asked f

  granted_keeps : (f : Frame P H) → KeepsMade (objects_in f.objects) (granted_next f)
  granted_keeps f = either (nat_lt (objects_in f.objects) (objects_wanted f.asked))
    where
      either : (b : Bool) → KeepsMade (objects_in f.objects) (if b then goes_to f (Pick 0) else ends_with (record f { objects = no_objects }) (Granted (Instance f.objects)))
      either true = goes_keeps f (Pick 0) (at_most f.asked f.ending (objects_in f.objects))
      either false = record { frame = omega arith; whole = omega arith }

  next_keeps : (aim : Ending) (f : Frame P H) → KeepsMade (objects_in f.objects) (next_by aim f)
  next_keeps granted f = granted_keeps f
  next_keeps returned f = returned_keeps f.objects.memories.items f.objects.tables.items f refl refl
  next_keeps (refused e) f = returned_keeps f.objects.memories.items f.objects.tables.items f refl refl

  flush_keeps : (f : Frame P H) → KeepsMade (objects_in f.objects) (flush_next f)
  flush_keeps f = either (is_flushed f)
    where
      either : (b : Bool) → KeepsMade (objects_in f.objects) (if b then next_by f.ending f else goes_to f Flush)
      either true = next_keeps f.ending f
      either false = goes_keeps f Flush (at_most f.asked f.ending (objects_in f.objects))

  search_keeps : (queues : ℕ) (e : AllocError) (f : Frame P H) → KeepsMade (objects_in f.objects) (search_next queues e f)
  search_keeps queues e f = either (nat_lt f.queues queues)
    where
      either : (b : Bool) → KeepsMade (objects_in f.objects) (if b then goes_to f TakeQueue else returned_next f.objects.memories.items f.objects.tables.items (failing e f))
      either true = goes_keeps f TakeQueue (at_most f.asked f.ending (objects_in f.objects))
      either false = returned_keeps f.objects.memories.items f.objects.tables.items (failing e f) refl refl

  -- each row of a request that makes no object
  taken_keeps : (f : Frame P H) (k : SlotKind) (name : SlotName) → KeepsMade (objects_in f.objects) (after f (goes (taken_next k name)))
  taken_keeps f heap_kind name = goes_keeps f (TakeHeap name) (at_most f.asked f.ending (objects_in f.objects))
  taken_keeps f memory_kind name = goes_keeps f (TakeRegion name) (at_most f.asked f.ending (objects_in f.objects))
  taken_keeps f table_kind name = goes_keeps f (TakeRegion name) (at_most f.asked f.ending (objects_in f.objects))
  taken_keeps f stack_kind name = goes_keeps f (TakeRegion name) (at_most f.asked f.ending (objects_in f.objects))

  pub picked_keeps : (plan : Plan) (o : Option (SlotId × ℕ)) (shard : ShardState) (tried : ℕ) (f : Frame P H) → KeepsMade (objects_in f.objects) (after f (picked plan o shard tried f))
  picked_keeps plan (Some p) shard tried f = taken_keeps f (allocator_for plan f).kind _
  picked_keeps plan None shard tried f = either (nat_lt (tried + 1) (allocator_for plan f).shards)
    where
      either : (b : Bool) → KeepsMade (objects_in f.objects) (after f (if b then goes (Pick (tried + 1)) else slot_search plan f))
      either true = goes_keeps f (Pick (tried + 1)) (at_most f.asked f.ending (objects_in f.objects))
      either false = search_keeps _ _ f

  pub queue_keeps : (plan : Plan) (queue : Queue) (f : Frame P H) → KeepsMade (objects_in f.objects) (after (take_queue_on plan queue f).frame (take_queue_on plan queue f).turn)
  queue_keeps plan queue f = either (length queue.slots == 0)
    where
      left : Frame P H
      left = (take_queue_on plan queue f).frame

      either : (b : Bool) → KeepsMade (objects_in f.objects) (after (take_queue_on plan queue f).frame (if b then slot_search plan f else flush))
      either true = search_keeps _ _ left
      either false = flush_keeps left

  unmapped_keeps : (s : Settings) (kind : SlotKind) (at : TakenSlot) (region : Told) (f : Frame P H) → (kind ≡ stack_kind → ⊥) → KeepsMade (objects_in f.objects) (after f (unmapped_next s kind at region))
  unmapped_keeps s memory_kind at region f other = goes_keeps f _ (at_most f.asked f.ending (objects_in f.objects))
  unmapped_keeps s table_kind at region f other = goes_keeps f _ (at_most f.asked f.ending (objects_in f.objects))
  unmapped_keeps s stack_kind at region f other = absurd (other refl)
  unmapped_keeps s heap_kind at region f other = goes_keeps f Idle (omega arith)

  pub region_keeps : (s : Settings) (at : TakenSlot) (held : Cell) (f : Frame P H) → (at.name.kind ≡ stack_kind → ⊥) → KeepsMade (objects_in f.objects) (after f (region_next s at held))
  region_keeps s at (unmapped region) f other = unmapped_keeps s at.name.kind at region f other
  region_keeps s at (unknown held) f other = goes_keeps f _ (at_most f.asked f.ending (objects_in f.objects))
  region_keeps s at (previously_used held) f other = goes_keeps f _ (at_most f.asked f.ending (objects_in f.objects))
  region_keeps s at taken f other = goes_keeps f Idle (omega arith)

  pub paged_keeps : (fault : Bool) (at : TakenSlot) (held : Slot) (p : Phase P H) (c : PoolCore P H) (f : Frame P H) → made_until (stage_at p f.asked f.ending (objects_in f.objects)) ≤ objects_in f.objects → KeepsMade (objects_in f.objects) (after (paged fault at held p c f).frame (paged fault at held p c f).turn)
  paged_keeps true at held p c f fewer = goes_keeps (failing refusal.PageFault f) _ (at_most f.asked (refused refusal.PageFault) (objects_in f.objects))
  paged_keeps false at held p c f fewer = goes_keeps f p fewer

  pub heap_keeps : (at : TakenSlot) (o : Option H) (f : Frame P H) → KeepsMade (objects_in f.objects) (after f (heap_next at o))
  heap_keeps at (Some heap) f = goes_keeps f _ (omega arith)
  heap_keeps at None f = goes_keeps f (MakeHeap at) (at_most f.asked f.ending (objects_in f.objects))

  pub heap_made_keeps : (r : Result H HeapMakeFault) (at : TakenSlot) (c : PoolCore P H) (f : Frame P H) → KeepsMade (objects_in f.objects) (after (make_heap_row r at c f).frame (make_heap_row r at c f).turn)
  heap_made_keeps (Ok heap) at c f = goes_keeps f _ (omega arith)
  heap_made_keeps (Err fault) at c f = goes_keeps (failing (heap_refusal fault) f) (PutNoHeap at) (at_most f.asked (refused (heap_refusal fault)) (objects_in f.objects))

  put_keeps : (o : Option Queued) (rest : List Queued) (c : PoolCore P H) (f : Frame P H) → KeepsMade (objects_in f.objects) (after (put_first o rest c f).frame (put_first o rest c f).turn)
  put_keeps None rest c f = goes_keeps f Idle (omega arith)
  put_keeps (Some m) rest c f = flush_keeps (put_first (Some m) rest c f).frame

  pub flush_row_keeps : (step : FlushStep) (queue : Queue) (c : PoolCore P H) (f : Frame P H) → KeepsMade (objects_in f.objects) (after (flush_row step queue c f).frame (flush_row step queue c f).turn)
  flush_row_keeps run queue c f = flush_keeps (flush_row run queue c f).frame
  flush_row_keeps (zero_step kind) queue c f = flush_keeps (flush_row (zero_step kind) queue c f).frame
  flush_row_keeps (put kind) queue c f = put_keeps (first_of_kind kind f.local.slots) (others_of_kind kind f.local.slots) c f
  flush_row_keeps free queue c f = flush_keeps (flush_row free queue c f).frame

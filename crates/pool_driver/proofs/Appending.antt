-- A call that gives back appends a slot for each object of which its reset leaves something, and one for one object appends none.
use Rattle.std.proofs.Common.{◌≡◌, ⊎_elim, ℕ, ◌+◌, ◌<◌, ◌≤◌, Bool, true, false, List, [], ◌∷◌, ◌++◌, length, map, sym, refl, ap, subst, ◌∙◌, arith, true≢false, Option, Some, None, Result, Ok, Err}
use Rattle.std.specs.Prelude.{◌-◌, ◌==◌, ◌||◌, ◌%◌, ◌^◌, nat_lt, nat_le, slice_index, if◌then◌else◌}
use Rattle.std.proofs.lemmas.Bool.{leb-true, lt-ltb, ltb-true}
use Rattle.pool_limits.specs.Exchanges.{Exchange}
use Rattle.pool_types.specs.declared.decommit_behavior.DecommitBehavior.{DecommitBehavior}
use Rattle.pool_types.specs.declared.decommit_behavior.DecommitBehavior.TheVariants.{Zero, RestoreOriginalMapping}
use Rattle.pool_pages.specs.MakerTold.{MakerTold}
use Rattle.pool_pages.specs.Told.{Told}
use Rattle.pool_hall.specs.Sum.{one_if, total}
use Rattle.pool_hall.specs.Step.{put_view}
use Rattle.pool_hall.specs.Tally.{rise}
use Rattle.pool_hall.specs.declared.unit_name.SlotKind.{SlotKind}
use Rattle.pool_hall.specs.declared.unit_name.SlotKind.TheVariants.{Memory as memory_kind, Table as table_kind, Stack as stack_kind, Heap as heap_kind}
use Rattle.pool_hall.specs.declared.view.View.{View}
use Rattle.pool_images.specs.Resets.{given_marks, left_by}
use Rattle.pool_images.specs.Slots.{Slot, SlotIdentity, coloured, reset_ranges}
use Rattle.pool_images.specs.declared.ranges.ByteRange.{ByteRange}
use Rattle.pool_images.proofs.Begun.{rounded_up_above}
use Rattle.pool_index.specs.declared.ids.SlotId.{SlotId}
use Rattle.pool_memory.specs.Memories.{MemoryState, slot_of}
use Rattle.pool_slots.specs.Cells.{Cell, unmapped, unknown, previously_used, taken}
use Rattle.pool_slots.specs.Colourings.{stripe_colour}
use Rattle.pool_slots.specs.Parts.{part_at}
use Rattle.pool_slots.specs.Plans.{Role, shard_role, cell_role, queue_role, heaps_role, no_role, role_at}
use Rattle.pool_slots.specs.PlainSlots.{stack_ranges, used_part}
use Rattle.pool_slots.specs.SlotQueues.{Queue, Queued, after_append, drained, first_of_kind, others_of_kind, plain_slot}
use Rattle.pool_slots.specs.declared.errors.AllocError.{AllocError}
use Rattle.pool_slots.specs.declared.part.PoolPart.{PoolPart}
use Rattle.pool_slots.specs.declared.part.PoolPart.TheVariants as part
use Rattle.pool_slots.specs.declared.plan.Plan.{Plan}
use Rattle.pool_slots.specs.declared.queued_range.QueuedRange.{QueuedRange}
use Rattle.pool_slots.specs.declared.queued_range.QueueKind.TheVariants as queued
use Rattle.pool_slots.specs.declared.slot_name.SlotName.{SlotName}
use Rattle.pool_slots.specs.HeapLists.{heap_in}
use Rattle.pool_types.specs.declared.unsupported.Unsupported.{Unsupported}
use Rattle.pool_alloc.specs.BetweenSteps.{HasNoneWaiting, IsAtRest, IsLeaseOf, IsObjectOf, IsShapedAt, memory_region}
use Rattle.pool_alloc.specs.CallStages.{stage_at, stage_by, stage_of, stage_of_release}
use Rattle.pool_alloc.specs.Calls.{begun_call}
use Rattle.pool_alloc.specs.Leases.{Lease, slot_taken}
use Rattle.pool_alloc.specs.MemorySteps.{reset_into}
use Rattle.pool_alloc.specs.Objects.{objects_in, objects_wanted}
use Rattle.pool_alloc.specs.PageCallAnswers.{MayBeTold, ResetTold, Resets}
use Rattle.pool_alloc.specs.PartyTold.{PartyTold}
use Rattle.pool_alloc.specs.PoolStacks.{stack_reset}
use Rattle.pool_alloc.specs.SoundSteps.{IsSoundStep}
use Rattle.pool_alloc.specs.StackLeases.{LeasedStack}
use Rattle.pool_alloc.specs.StepReads.{IsForObjects, IsHeapAsked, IsModule, IsQueuePart, StepGiven, allocator_for, cell_named, heaps_wanted, memories_kept, memories_wanted, queue_at, queue_in, queue_tried, shard_at, shard_tried, heaps_at}
use Rattle.pool_alloc.specs.StepTable.{FlushStep, run, zero, put, free, component_tested, component_counted, flush_row, flush_step, in_queue, memory_kept, memory_turn, merged, paged, picked, put_first, region_next, reset_turn, row_of, stacks_tested, table_kept, table_turn, taken_next, unmapped_next, was_made, was_made_table, was_reset, heap_counted, heap_next, heaps_tested, make_heap_row, memory_tested}
use Rattle.pool_alloc.specs.TableLeases.{LeasedTable}
use Rattle.pool_alloc.specs.TableSteps.{bytes_used, reset_in, table_reset_into}
use Rattle.pool_alloc.specs.Targets.{next_target}
use Rattle.pool_alloc.specs.Turns.{After, Left, Row, Turn, after, all_returned, ends, flush as flushes, flush_next, goes as turns_to, granted_next, is_flushed, is_granting, next as goes_next, next_by, resting, returned_next, search as searches, search_next, slot_search, stays}
use Rattle.pool_alloc.specs.declared.frame.Asked.{Asked}
use Rattle.pool_alloc.specs.declared.frame.Asked.TheVariants as asked
use Rattle.pool_alloc.specs.declared.frame.Call.{Call}
use Rattle.pool_alloc.specs.declared.frame.Call.TheVariants as call
use Rattle.pool_alloc.specs.declared.frame.Ending.{Ending}
use Rattle.pool_alloc.specs.declared.frame.Ending.TheVariants.{Granted as granted, Returned as returned, Refused as refused}
use Rattle.pool_alloc.specs.declared.frame.Frame.{Frame}
use Rattle.pool_alloc.specs.declared.frame.Grant.{Grant}
use Rattle.pool_alloc.specs.declared.frame.Grant.TheVariants as grant
use Rattle.pool_alloc.specs.declared.frame.Object.{Object}
use Rattle.pool_alloc.specs.declared.frame.Object.TheVariants as object
use Rattle.pool_alloc.specs.declared.frame.Outcome.{Outcome}
use Rattle.pool_alloc.specs.declared.frame.Phase.{Phase}
use Rattle.pool_alloc.specs.declared.frame.Phase.TheVariants.{Idle, Key, Validate, TestStack, TestHeap, CountInstance, Pick, TakeQueue, TakeRegion, Empty, Instantiate, MakeMemory, MakeTable, CountObject, TakeHeap, MakeHeap, CountHeap, PutNoHeap, PutBack, FreeOne, UncountObject, UncountHeap, PutHeap, FreeHeap, Reset, Merge, Flush, UncountInstance, ValidateComponent, CountComponent, UncountComponent, Purge, Release}
use Rattle.pool_alloc.specs.declared.frame.TakenSlot.{TakenSlot}
use Rattle.pool_alloc.specs.declared.leases.instance.InstanceLease.{InstanceLease}
use Rattle.pool_alloc.specs.declared.pool_core.PoolCore.{PoolCore}
use Rattle.pool_alloc.specs.declared.pool_core.Settings.{Settings}
use Rattle.pool_alloc.specs.declared.release.ReleaseStep.{ReleaseStep}
use Rattle.pool_alloc.specs.declared.release.ReleaseStep.TheVariants as releasing_step
use Rattle.pool_alloc.specs.HeapLeases.{LeasedHeap}
use Rattle.pool_alloc.proofs.BegunFrames.{at_rest}
use Rattle.pool_alloc.proofs.PlanPlaces.{tried_is_queue}
use Rattle.pool_alloc.proofs.PoolParts.{part_same, queue_part}
use Rattle.pool_alloc.proofs.SoundSteps.{sound_step}
use Rattle.pool_driver.specs.Appending.{Dues, IsForOne, NoneAppended, PutsOff, appended_in, bytes_of_table, each_one, frame_dues, grant_dues, instance_dues, is_queue, object_dues, owed_by, phase_dues, queue_appended, heap_memory_dues}
use Rattle.pool_driver.specs.Calling.{Appends, Becomes, CallKind, GoesOnSince, HasAppended, IsAsking, asks_for, gives_back, is_refused, kind_at, kind_of, purges, releases}
use Rattle.pool_driver.specs.Driving.{Change, changed, counted as counter_up, uncounted as counter_down, unchanged, view_after, IsChangeOf, SeesStep}
use Rattle.pool_driver.specs.Placed.{About, part_counts, pool_meaning}
use Rattle.pool_driver.proofs.Naming.{left_is, placed_at}
use Rattle.pool_driver.proofs.Sparing.{appended_rises, appends_slots, put_keeps_both, queue_stays}
use Rattle.pool_slots.specs.declared.heap_maker.HeapMakeFault.{HeapMakeFault}

-- What is left of a call.
module _ {P H : Type 0} (d : Dues) where
  -- At most so much is due there, if one object is asked for; and at least so much, if the call isn't to be granted.
  pub record Between (one : Type 0) (granting : Bool) (n : ℕ) (l : Left P H) : Type 0 where
    pub less : one → frame_dues d l.frame ≤ n
    pub more : granting ≡ false → n ≤ frame_dues d l.frame

  -- What is due of a turn's phase.
  abbrev turn_dues : Frame P H → Turn P H → ℕ
  turn_dues g (turns_to phase) = phase_dues d phase
  turn_dues g stays = phase_dues d g.phase
  turn_dues g _ = 0

  module _ (one : Type 0) where
    exact : (granting : Bool) (n : ℕ) (l : Left P H) → frame_dues d l.frame ≡ n → Between one granting n l
    exact granting n l is = record { less = λ o. omega (arith, is); more = λ no. omega (arith, is) }

    returned_dues : (memories : List Lease) (tables : List LeasedTable) (g : Frame P H) → g.objects.memories.items ≡ memories → g.objects.tables.items ≡ tables → frame_dues d (returned_next memories tables g).frame ≡ total d.memory memories + total d.table tables
    returned_dues (lease ∷ memories) tables g is also = let t : total d.table g.objects.tables.items ≡ total d.table tables = ap (total d.table) also in omega (arith, t)
    returned_dues [] (lease ∷ tables) g is also = let m : total d.memory g.objects.memories.items ≡ 0 = ap (total d.memory) is in omega (arith, m)
    returned_dues [] [] g is also = all g.asked
      where
        m : total d.memory g.objects.memories.items ≡ 0
        m = ap (total d.memory) is

        t : total d.table g.objects.tables.items ≡ 0
        t = ap (total d.table) also

        all : (what : Asked) → frame_dues d (all_returned what g).frame ≡ 0
        all (asked.Memory x) = omega (arith, m, t)
        all (asked.Table ty) = omega (arith, m, t)
        all asked.Stack = omega (arith, m, t)
        all (asked.Heap ty) = omega (arith, m, t)
        all (asked.HeapOver x) = omega (arith, m, t)
        all asked.Nothing = omega (arith, m, t)
        all (asked.Module x) = omega (arith, m, t)

    back_between : (granting : Bool) (g : Frame P H) → Between one granting (instance_dues d g.objects) (returned_next g.objects.memories.items g.objects.tables.items g)
    back_between granting g = exact granting _ _ (returned_dues g.objects.memories.items g.objects.tables.items g refl refl)

    granted_less : (g : Frame P H) → frame_dues d (granted_next g).frame ≤ instance_dues d g.objects
    granted_less g = go (nat_lt (objects_in g.objects) (objects_wanted g.asked)) refl
      where
        go : (b : Bool) → nat_lt (objects_in g.objects) (objects_wanted g.asked) ≡ b → frame_dues d (granted_next g).frame ≤ instance_dues d g.objects
        go true more = rw more (omega arith)
        go false none = rw none (omega arith)

    next_between : (e : Ending) (g : Frame P H) → g.ending ≡ e → Between one (is_granting g.ending) (instance_dues d g.objects) (next_by e g)
    next_between granted g is = record { less = λ o. granted_less g; more = λ no. absurd (let apart : true ≡ false = sym (ap is_granting is) ∙ no in cc) }
    next_between returned g is = back_between (is_granting g.ending) g
    next_between (refused x) g is = back_between (is_granting g.ending) g

    flush_between : (g : Frame P H) → Between one (is_granting g.ending) (instance_dues d g.objects) (flush_next g)
    flush_between g = go (is_flushed g) refl
      where
        go : (b : Bool) → is_flushed g ≡ b → Between one (is_granting g.ending) (instance_dues d g.objects) (flush_next g)
        go true flushed = rw flushed (next_between g.ending g refl)
        go false more = rw more (record { less = λ o. omega arith; more = λ no. omega arith })

    search_between : (queues : ℕ) (x : AllocError) (g : Frame P H) → Between one (is_granting g.ending) (instance_dues d g.objects) (search_next queues x g)
    search_between queues x g = go (nat_lt g.queues queues) refl
      where
        go : (b : Bool) → nat_lt g.queues queues ≡ b → Between one (is_granting g.ending) (instance_dues d g.objects) (search_next queues x g)
        go true more = rw more (record { less = λ o. omega arith; more = λ no. omega arith })
        go false none = rw none (exact (is_granting g.ending) _ _ (returned_dues g.objects.memories.items g.objects.tables.items (record g { ending = refused x }) refl refl))

    -- A turn leaves what the row's frame has, and what its phase gives back next; but a grant takes all of it.
    turn_between : (t : Turn P H) (g : Frame P H) → Between one (is_granting g.ending) (instance_dues d g.objects + turn_dues g t) (after g t)
    turn_between (turns_to phase) g = record { less = λ o. omega arith; more = λ no. omega arith }
    turn_between (ends outcome) g = record { less = λ o. omega arith; more = λ no. omega arith }
    turn_between goes_next g = let b = next_between g.ending g refl in record { less = λ o. omega (arith, b.less o); more = λ no. omega (arith, b.more no) }
    turn_between flushes g = let b = flush_between g in record { less = λ o. omega (arith, b.less o); more = λ no. omega (arith, b.more no) }
    turn_between (searches queues x) g = let b = search_between queues x g in record { less = λ o. omega (arith, b.less o); more = λ no. omega (arith, b.more no) }
    turn_between stays g = record { less = λ o. omega arith; more = λ no. omega arith }

-- what isn't one object
no_module_one : (what : Asked) → IsModule what → IsForOne what → ⊥
no_module_one (asked.Module m) is one = one
no_module_one asked.Nothing is one = is
no_module_one (asked.Memory m) is one = is
no_module_one (asked.Table ty) is one = is
no_module_one asked.Stack is one = is
no_module_one (asked.Heap ty) is one = is
no_module_one (asked.HeapOver m) is one = is

module _ {P H : Type 0} where
  -- The phase is one of a reset, or of another call than one that asks or gives back.
  abbrev is_apart : Phase P H → Bool
  is_apart (Reset object) = true
  is_apart (Purge p step) = true
  is_apart (Release step) = true
  is_apart _ = false

  -- What is still due of a phase after its step: a merge appends its slot.
  abbrev left_dues : Dues → Phase P H → ℕ
  left_dues d Merge = 0
  left_dues d p = phase_dues d p

module _ {P H : Type 0} (d : Dues) (c : PoolCore P H) (f : Frame P H) where
  abbrev e : Frame P H
  e = resting f

  abbrev LeftBetween : ℕ → Left P H → Type 0
  LeftBetween n l = Between d (IsForOne f.asked) (is_granting f.ending) (instance_dues d f.objects + n) l

  abbrev RowBetween : ℕ → Row (PoolCore P H) P H → Type 0
  RowBetween n r = LeftBetween n (after r.frame r.turn)

  row_turn : (n : ℕ) (r : Row (PoolCore P H) P H) → r.frame.objects ≡ f.objects → (is_granting f.ending ≡ false → is_granting r.frame.ending ≡ false) → turn_dues d r.frame r.turn ≡ n → RowBetween n r
  row_turn n r same back is =
      let t = turn_between d (IsForOne f.asked) r.turn r.frame in
      let o : instance_dues d r.frame.objects ≡ instance_dues d f.objects = ap (λ (x : InstanceLease P). instance_dues d x) same in
      record { less = λ one. omega (arith, t.less one, o, is); more = λ no. omega (arith, t.more (back no), o, is) }

  -- where a call asks, and not for one object
  never : (n : ℕ) (l : Left P H) → (IsForOne f.asked → ⊥) → f.ending ≡ granted → LeftBetween n l
  never n l none is = record { less = λ one. absurd (none one); more = λ no. absurd (let apart : true ≡ false = sym (ap is_granting is) ∙ no in cc) }

  -- where it asks
  asking : (n : ℕ) (l : Left P H) → f.ending ≡ granted → (IsForOne f.asked → frame_dues d l.frame ≤ instance_dues d f.objects + n) → LeftBetween n l
  asking n l is less = record { less = less; more = λ no. absurd (let apart : true ≡ false = sym (ap is_granting is) ∙ no in cc) }

  taken_dues : (k : SlotKind) (name : SlotName) → phase_dues d (taken_next {P = P} {H = H} k name) ≡ 0
  taken_dues memory_kind name = refl
  taken_dues table_kind name = refl
  taken_dues stack_kind name = refl
  taken_dues heap_kind name = refl

  search_dues : (b : Bool) (tried : ℕ) → turn_dues d e (if b then turns_to (Pick tried) else slot_search c.plan e) ≡ 0
  search_dues true tried = refl
  search_dues false tried = refl

  picked_dues : (tried : ℕ) (o : Option (SlotId × ℕ)) → turn_dues d e (picked c.plan o (shard_at (shard_tried tried c.plan f) c) tried e) ≡ 0
  picked_dues tried (Some q) = taken_dues (allocator_for c.plan e).kind _
  picked_dues tried None = search_dues (nat_lt (tried + 1) (allocator_for c.plan e).shards) (tried + 1)

  take_dues : (g : Frame P H) (b : Bool) → turn_dues d g (if b then slot_search c.plan e else flushes) ≡ 0
  take_dues g true = refl
  take_dues g false = refl

  unmapped_dues : (s : Settings) (k : SlotKind) (at : TakenSlot) (region : Told) → turn_dues d e (unmapped_next s k at region) ≡ 0
  unmapped_dues s memory_kind at region = refl
  unmapped_dues s table_kind at region = refl
  unmapped_dues s stack_kind at region = refl
  unmapped_dues s heap_kind at region = refl

  region_dues : (s : Settings) (at : TakenSlot) (held : Cell) → turn_dues d e (region_next s at held) ≡ 0
  region_dues s at (unmapped region) = unmapped_dues s at.name.kind at region
  region_dues s at (unknown held) = refl
  region_dues s at (previously_used held) = refl
  region_dues s at taken = refl

  paged_between : (p : Phase P H) → phase_dues d p ≡ 0 → (fault : Bool) (at : TakenSlot) (held : Slot) → RowBetween 0 (paged fault at held p c e)
  paged_between p none true at held = row_turn 0 (paged true at held p c e) refl (λ no. refl) refl
  paged_between p none false at held = row_turn 0 (paged false at held p c e) refl (λ no. no) none

  made_between : (at : TakenSlot) (held : Slot) (r : Result MemoryState AllocError) → RowBetween 0 (was_made at held r c e)
  made_between at held (Ok memory) = row_turn 0 (was_made at held (Ok memory) c e) refl (λ no. no) refl
  made_between at held (Err x) = row_turn 0 (was_made at held (Err x) c e) refl (λ no. refl) refl

  table_made_between : (at : TakenSlot) (region : Told) (r : Result LeasedTable AllocError) → RowBetween 0 (was_made_table at region r c e)
  table_made_between at region (Ok lease) = row_turn 0 (was_made_table at region (Ok lease) c e) refl (λ no. no) refl
  table_made_between at region (Err x) = row_turn 0 (was_made_table at region (Err x) c e) refl (λ no. refl) refl

  -- a memory or a table by itself isn't kept
  memory_less : (lease : Lease) (what : Asked) → IsForOne what → length f.objects.memories.items < length (memories_wanted what) → frame_dues d (after (memory_kept what lease e) (memory_turn what lease)).frame ≤ instance_dues d f.objects + 0
  memory_less lease (asked.Memory m) one next = omega arith
  memory_less lease (asked.Table ty) one next = absurd (omega (arith, next))
  memory_less lease asked.Stack one next = absurd (omega (arith, next))
  memory_less lease asked.Nothing one next = absurd one
  memory_less lease (asked.Module m) one next = absurd one
  memory_less lease (asked.Heap ty) one next = absurd one
  memory_less lease (asked.HeapOver m) one next = absurd (omega (arith, next))

  table_less : (lease : LeasedTable) (what : Asked) → IsForOne what → length (memories_wanted what) ≤ length f.objects.memories.items → IsForObjects what → length f.objects.memories.items ≤ memories_kept what → frame_dues d (after (table_kept what lease e) (table_turn what lease)).frame ≤ instance_dues d f.objects + 0
  table_less lease (asked.Table ty) one most for few = omega arith
  table_less lease (asked.Memory m) one most for few = absurd (omega (arith, most, few))
  table_less lease asked.Stack one most for few = absurd (omega (arith, for.no_stack))
  table_less lease asked.Nothing one most for few = absurd one
  table_less lease (asked.Module m) one most for few = absurd one
  table_less lease (asked.Heap ty) one most for few = absurd one
  table_less lease (asked.HeapOver m) one most for few = absurd (omega (arith, for.no_heap))

  -- where a memory is asked for besides, that is no one object
  test_less : (wants : Bool) (what : Asked) → IsForOne what → IsHeapAsked what → frame_dues d (after (memory_tested what wants c e).frame (memory_tested what wants c e).turn).frame ≤ instance_dues d f.objects + 0
  test_less wants (asked.HeapOver m) one is = omega arith
  test_less wants (asked.Heap ty) one is = absurd one
  test_less wants asked.Nothing one is = absurd one
  test_less wants (asked.Module m) one is = absurd one
  test_less wants (asked.Memory m) one is = absurd is
  test_less wants (asked.Table ty) one is = absurd is
  test_less wants asked.Stack one is = absurd is

  heaps_between : (collector wants : Bool) → IsHeapAsked f.asked → f.ending ≡ granted → RowBetween 0 (heaps_tested collector wants c e)
  heaps_between false wants is aim = row_turn 0 (heaps_tested false wants c e) refl (λ no. refl) refl
  heaps_between true wants is aim = asking 0 _ aim (λ one. test_less wants f.asked one is)

  heap_less : (lease : LeasedHeap H) (what : Asked) → IsForOne what → heaps_wanted what ≡ 1 → frame_dues d (after (heap_counted what lease c e).frame (heap_counted what lease c e).turn).frame ≤ instance_dues d f.objects + 0
  heap_less lease (asked.HeapOver m) one is = omega arith
  heap_less lease (asked.Heap ty) one is = absurd one
  heap_less lease asked.Nothing one is = absurd one
  heap_less lease (asked.Module m) one is = absurd one
  heap_less lease (asked.Memory m) one is = absurd (omega (arith, is))
  heap_less lease (asked.Table ty) one is = absurd (omega (arith, is))
  heap_less lease asked.Stack one is = absurd (omega (arith, is))

  heap_dues : (g : Frame P H) (at : TakenSlot) (o : Option H) → turn_dues d g (heap_next at o) ≡ 0
  heap_dues g at (Some heap) = refl
  heap_dues g at None = refl

  heap_between : (at : TakenSlot) (r : Result H HeapMakeFault) → RowBetween 0 (make_heap_row r at c e)
  heap_between at (Ok heap) = row_turn 0 (make_heap_row (Ok heap) at c e) refl (λ no. no) refl
  heap_between at (Err fault) = row_turn 0 (make_heap_row (Err fault) at c e) refl (λ no. refl) refl

  -- a stack is asked for where there are stacks
  stacks_between : (b : Bool) → f.ending ≡ granted → RowBetween 0 (stacks_tested b c e)
  stacks_between true is = row_turn 0 (stacks_tested true c e) refl (λ no. refl) refl
  stacks_between false is = asking 0 (after (stacks_tested false c e).frame (stacks_tested false c e).turn) is (λ one. omega arith)

  tested_between : (o : Option Unsupported) → RowBetween 0 (component_tested o c e)
  tested_between (Some rule) = row_turn 0 (component_tested (Some rule) c e) refl (λ no. refl) refl
  tested_between None = row_turn 0 (component_tested None c e) refl (λ no. no) refl

  counted_between : (b : Bool) → RowBetween 0 (component_counted b c e)
  counted_between true = row_turn 0 (component_counted true c e) refl (λ no. no) refl
  counted_between false = row_turn 0 (component_counted false c e) refl (λ no. refl) refl

  merged_between : (place : ℕ) (b : Bool) (whole : Queue) (g : Frame P H) → g.objects ≡ f.objects → g.ending ≡ f.ending → RowBetween 0 (in_queue place c (merged b whole g))
  merged_between place true whole g same aim = row_turn 0 (in_queue place c (merged true whole g)) same (λ no. ap is_granting aim ∙ no) refl
  merged_between place false whole g same aim = row_turn 0 (in_queue place c (merged false whole g)) same (λ no. ap is_granting aim ∙ no) refl

  first_between : (o : Option Queued) (rest : List Queued) → RowBetween 0 (put_first o rest c e)
  first_between None rest = row_turn 0 (put_first None rest c e) refl (λ no. no) refl
  first_between (Some m) rest = row_turn 0 (put_first (Some m) rest c e) refl (λ no. no) refl

  flush_row_between : (step : FlushStep) (queue : Queue) → RowBetween 0 (flush_row step queue c e)
  flush_row_between run queue = row_turn 0 (flush_row run queue c e) refl (λ no. no) refl
  flush_row_between (zero kind) queue = row_turn 0 (flush_row (zero kind) queue c e) refl (λ no. no) refl
  flush_row_between (put kind) queue = first_between (first_of_kind kind f.local.slots) (others_of_kind kind f.local.slots)
  flush_row_between free queue = row_turn 0 (flush_row free queue c e) refl (λ no. no) refl

  -- Row by row.
  row_between : (maker : MakerTold) (g : StepGiven H) (p : Phase P H) → is_apart p ≡ false → IsShapedAt maker c.settings c.plan p f → RowBetween (left_dues d p) (row_of g p c e)
  row_between maker g Idle on shape = row_turn 0 (row_of g Idle c e) refl (λ no. no) refl
  row_between maker g Key on shape = row_turn 0 (row_of g Key c e) refl (λ no. no) refl
  row_between maker g Validate on shape = never 0 _ (no_module_one f.asked shape.1.asked_for) shape.1.ending
  row_between maker g TestStack on shape = stacks_between (c.settings.stack_size == 0) shape.1.0
  row_between maker g TestHeap on shape = heaps_between c.settings.tunables.tunables.collector g.wants shape.1.2 shape.1.0
  row_between maker g CountInstance on shape = never 0 _ (no_module_one f.asked shape.1.asked_for) shape.1.ending
  row_between maker g (Pick tried) on shape = row_turn 0 (row_of g (Pick tried) c e) refl (λ no. no) (picked_dues tried _)
  row_between maker g TakeQueue on shape =
      let r : Row (PoolCore P H) P H = row_of g TakeQueue c e in
      let q : Queue = queue_at (queue_tried f.queues c.plan f) c in
      row_turn 0 r refl (λ no. no) (take_dues r.frame (length q.slots == 0))
  row_between maker g (TakeRegion name) on shape = row_turn 0 (row_of g (TakeRegion name) c e) refl (λ no. no) (region_dues c.settings _ (cell_named name c).holds)
  row_between maker g (Empty at has) on shape = paged_between (Instantiate at g.slot) refl g.fault at g.slot
  row_between maker g (Instantiate at has) on shape = paged_between (MakeMemory at g.slot) refl g.fault at g.slot
  row_between maker g (MakeMemory at has) on shape = made_between at has _
  row_between maker g (MakeTable at region) on shape = table_made_between at region _
  row_between maker g (CountObject (object.Memory lease)) on shape = asking 0 _ shape.1.ending (λ one. memory_less lease f.asked one shape.4)
  row_between maker g (CountObject (object.Table lease)) on shape = asking 0 _ shape.1.ending (λ one. table_less lease f.asked one shape.4.0 shape.4.1 shape.1.to_grant.few)
  row_between maker g (CountObject (object.Stack lease)) on shape = row_turn 0 (row_of g (CountObject (object.Stack lease)) c e) refl (λ no. no) refl
  row_between maker g (TakeHeap name) on shape = row_turn 0 (row_of g (TakeHeap name) c e) refl (λ no. no) (heap_dues e _ (heap_in name.slot (heaps_at c)))
  row_between maker g (MakeHeap at) on shape = heap_between at g.heap
  row_between maker g (CountHeap lease) on shape = asking 0 _ shape.1.ending (λ one. heap_less lease f.asked one shape.4.1)
  row_between maker g (PutNoHeap at) on shape = row_turn 0 (row_of g (PutNoHeap at) c e) refl (λ no. no) refl
  row_between maker g (PutBack at has) on shape = row_turn 0 (row_of g (PutBack at has) c e) refl (λ no. no) refl
  row_between maker g (FreeOne name) on shape = row_turn 0 (row_of g (FreeOne name) c e) refl (λ no. no) refl
  row_between maker g (UncountObject (object.Memory lease)) on shape = row_turn (d.memory lease) (row_of g (UncountObject (object.Memory lease)) c e) refl (λ no. no) refl
  row_between maker g (UncountObject (object.Table lease)) on shape = row_turn (d.table lease) (row_of g (UncountObject (object.Table lease)) c e) refl (λ no. no) refl
  row_between maker g (UncountObject (object.Stack lease)) on shape = row_turn (d.stack lease) (row_of g (UncountObject (object.Stack lease)) c e) refl (λ no. no) refl
  row_between maker g (UncountHeap lease memory) on shape = row_turn (heap_memory_dues d memory) (row_of g (UncountHeap lease memory) c e) refl (λ no. no) refl
  row_between maker g (PutHeap lease (Some memory)) on shape = row_turn (d.memory memory) (row_of g (PutHeap lease (Some memory)) c e) refl (λ no. no) refl
  row_between maker g (PutHeap lease None) on shape = row_turn 0 (row_of g (PutHeap lease None) c e) refl (λ no. no) refl
  row_between maker g (FreeHeap name memory) on shape = row_turn (d.memory memory) (row_of g (FreeHeap name memory) c e) refl (λ no. no) refl
  row_between maker g (Reset held) on shape = absurd (true≢false on)
  row_between maker g Merge on shape =
      let place : ℕ = queue_tried 0 c.plan f in
      let whole : Queue = after_append (queue_at place c) f.local in
      merged_between place (nat_le c.settings.batch (length whole.ranges)) whole (record e { local = drained f.local }) refl refl
  row_between maker g Flush on shape = flush_row_between (flush_step f.local f.freed.items) g.queue
  row_between maker g UncountInstance on shape = row_turn 0 (row_of g UncountInstance c e) refl (λ no. no) refl
  row_between maker g (ValidateComponent info) on shape = tested_between _
  row_between maker g CountComponent on shape = counted_between _
  row_between maker g UncountComponent on shape = row_turn 0 (row_of g UncountComponent c e) refl (λ no. no) refl
  row_between maker g (Purge p step) on shape = absurd (true≢false on)
  row_between maker g (Release step) on shape = absurd (true≢false on)

-- One range isn't a batch, and isn't none.
one_range : (batch n : ℕ) → 1 < batch → n ≡ 1 → ((n == 0) || nat_le batch n) ≡ false
one_range batch n more one = ap (λ (k : ℕ). (k == 0) || nat_le batch k) one ∙ go (nat_le batch 1) refl
  where
    go : (b : Bool) → nat_le batch 1 ≡ b → b ≡ false
    go true is = absurd (let most = leb-true batch 1 is in omega (arith, more))
    go false is = refl

-- a colour changes nothing but pages
coloured_behaviour : (o : Option ℕ) (start len : ℕ) (t : Told) → (coloured o start len t).behaviour ≡ t.behaviour
coloured_behaviour None start len t = refl
coloured_behaviour (Some colour) start len t = refl

-- a plain reset leaves one range of what is more than stays resident
one_left : (keep size : ℕ) → keep < size → (into : ByteRange → QueuedRange) → length (map into (reset_ranges keep size)) ≡ 1
one_left keep size more into = ap (λ (b : Bool). length (map into (if b then record { start = keep; len = size - keep } ∷ [] else []))) (lt-ltb keep size more)

-- a region of the pool goes back as its settings say
lease_behaviour : (maker : MakerTold) (s : Settings) (plan : Plan) (lease : Lease) → IsLeaseOf maker s plan lease → (slot_of lease.memory).region.behaviour ≡ s.behaviour
lease_behaviour maker s plan lease is =
    let made : (slot_of lease.memory).region.behaviour ≡ (memory_region maker s lease.index).behaviour = ap (λ (i : SlotIdentity). i.behaviour) is.slot.same in
    made ∙ coloured_behaviour (stripe_colour s.num_stripes lease.index) _ _ _

module _ (s : Settings) (puts : PutsOff s) where
  -- A memory's reset leaves one range, where the memory is larger than what stays resident of it,
  memory_range : (maker : MakerTold) (plan : Plan) (lease : Lease) (q : Queue) → q.ranges ≡ [] → IsLeaseOf maker s plan lease → s.keep_resident.bytes < lease.memory.linear.size → length (reset_into s.dirty_pages s.keep_resident.bytes (slot_taken lease) (slot_of lease.memory) q).ranges ≡ 1
  memory_range maker plan lease q none is more =
      let slot : Slot = slot_of lease.memory in
      let keep : ℕ = s.keep_resident.bytes in
      let into : ByteRange → QueuedRange = λ r. record { kind = queued.Memory; slot = record { 0 = lease.index }; range = r } in
      ap (λ (xs : List QueuedRange). length (xs ++ map into (left_by (given_marks s.dirty_pages slot) slot.region.behaviour keep slot))) none
      ∙ ap (λ (o : Bool). length (map into (left_by (given_marks o slot) slot.region.behaviour keep slot))) puts.marks
      ∙ ap (λ (b : DecommitBehavior). length (map into (left_by None b keep slot))) (lease_behaviour maker s plan lease is ∙ puts.behaviour)
      ∙ one_left keep slot.accessible.bytes (omega (arith, more, is.memory.inside)) into

  -- a table's one, where its bytes are more than what stays resident of it,
  table_range : (lease : LeasedTable) (region : Told) (q : Queue) → 0 < s.page → q.ranges ≡ [] → s.table_keep_resident.bytes < bytes_of_table lease → length (reset_in s.dirty_pages s.page s.table_keep_resident.bytes lease (Some region) q).ranges ≡ 1
  table_range lease region q some none more =
      let keep : ℕ = s.table_keep_resident.bytes in
      let used : ℕ = bytes_used s.page lease in
      let slot : Slot = used_part used (plain_slot 0 region) in
      let over : bytes_of_table lease ≤ used = rounded_up_above s.page (bytes_of_table lease) some in
      let below : keep < used = omega (arith, more, over) in
      let into : ByteRange → QueuedRange = λ r. record { kind = queued.Table; slot = record { 0 = lease.index }; range = r } in
      ap (λ (xs : List QueuedRange). length (xs ++ map into (left_by (given_marks s.dirty_pages slot) RestoreOriginalMapping keep slot))) none
      ∙ ap (λ (o : Bool). length (map into (left_by (given_marks o slot) RestoreOriginalMapping keep slot))) puts.marks
      ∙ one_left keep used below into

-- and a stack's one, where it is given back zeroed.
stack_range : (keep : ℕ) (lease : LeasedStack) (q : Queue) → q.ranges ≡ [] → lease.stack.zeroing ≡ true → length (stack_reset keep lease q).ranges ≡ 1
stack_range keep lease q none zeroed =
    let into : ByteRange → QueuedRange = λ r. record { kind = queued.Stack; slot = record { 0 = lease.stack.index }; range = r } in
    ap (λ (xs : List QueuedRange). length (xs ++ map into (stack_ranges lease.stack.zeroing keep lease.stack))) none
    ∙ ap (λ (b : Bool). length (map into (stack_ranges b keep lease.stack))) zeroed

-- So what is due of an object that is reset is due of a slot that is to be appended.
module _ {P H : Type 0} (c : PoolCore P H) (f : Frame P H) (puts : PutsOff c.settings) (back : is_granting f.ending ≡ false) (waits : HasNoneWaiting f) where
  abbrev owed : Dues
  owed = owed_by c.settings

  abbrev rest : Frame P H
  rest = resting f

  abbrev Leaves : ℕ → Row (PoolCore P H) P H → Type 0
  Leaves n r = instance_dues owed f.objects + n ≤ frame_dues owed (after r.frame r.turn).frame

  abbrev row_for : Queue → Row (PoolCore P H) P H
  row_for local = record { part = c; frame = record rest { local = local }; turn = reset_turn c.settings.batch local }

  owed_turn : (less : Bool) (local : Queue) → (less ≡ true → length local.ranges ≡ 1) → one_if less ≤ turn_dues owed (record rest { local = local }) (reset_turn c.settings.batch local)
  owed_turn false local one = omega arith
  owed_turn true local one =
      let is : turn_dues owed (record rest { local = local }) (reset_turn c.settings.batch local) ≡ 1 = ap (λ (b : Bool). turn_dues owed (record rest { local = local }) (if b then flushes else turns_to Merge)) (one_range c.settings.batch (length local.ranges) puts.batch (one refl)) in
      omega (arith, is)

  by_turn : (less : Bool) (local : Queue) → (less ≡ true → length local.ranges ≡ 1) → Leaves (one_if less) (row_for local)
  by_turn less local one =
      let t = turn_between owed (Unit {0}) (reset_turn c.settings.batch local) (record rest { local = local }) in
      omega (arith, t.more back, owed_turn less local one)

  memory_leaves : (maker : MakerTold) (fault : Bool) (held : Slot) (lease : Lease) → IsLeaseOf maker c.settings c.plan lease → Resets fault c.settings.dirty_pages c.settings.keep_resident.bytes (slot_taken lease) (slot_of lease.memory) held → Leaves (owed.memory lease) (was_reset fault held lease c rest)
  memory_leaves maker true held lease is told = absurd (let apart : RestoreOriginalMapping ≡ Zero = sym puts.behaviour ∙ sym (lease_behaviour maker c.settings c.plan lease is) ∙ told.0 in cc)
  memory_leaves maker false held lease is told = by_turn (nat_lt c.settings.keep_resident.bytes lease.memory.linear.size) (reset_into c.settings.dirty_pages c.settings.keep_resident.bytes (slot_taken lease) (slot_of lease.memory) f.local) (λ more. memory_range c.settings puts maker c.plan lease f.local waits.no_ranges is (ltb-true c.settings.keep_resident.bytes lease.memory.linear.size more))

  object_leaves : (maker : MakerTold) → 0 < c.settings.page → (g : StepGiven H) (object : Object P) → IsObjectOf maker c.settings c.plan object → ResetTold c.settings g object → Leaves (object_dues owed object) (row_of g (Reset object) c rest)
  object_leaves maker some g (object.Memory lease) is told = memory_leaves maker g.fault g.slot lease is told
  object_leaves maker some g (object.Table lease) is told = by_turn (nat_lt c.settings.table_keep_resident.bytes (bytes_of_table lease)) (table_reset_into c.settings lease f.local) (λ more.
      ap (λ (o : Option Told). length (reset_in c.settings.dirty_pages c.settings.page c.settings.table_keep_resident.bytes lease o f.local).ranges) is.there.is
      ∙ table_range c.settings puts lease is.there.region f.local some waits.no_ranges (ltb-true c.settings.table_keep_resident.bytes (bytes_of_table lease) more))
  object_leaves maker some g (object.Stack lease) is told = by_turn lease.stack.zeroing (stack_reset c.settings.stack_keep_resident.bytes lease f.local) (stack_range c.settings.stack_keep_resident.bytes lease f.local waits.no_ranges)

-- The kind of a call says how it is to end, and which phases it has.
back_returns : (what : Asked) (e : Ending) (n : ℕ) → kind_at (stage_by what e n) ≡ gives_back → is_granting e ≡ false
back_returns what granted n is = absurd cc
back_returns what returned n is = refl
back_returns what (refused x) n is = refl

never_released : {P : Type 0} (k : CallKind) → (releases ≡ k → ⊥) → (step : ReleaseStep P) → kind_at (stage_of_release step) ≡ k → ⊥
never_released k other releasing_step.Reserve is = other is
never_released k other (releasing_step.TakeWarm r j) is = other is
never_released k other (releasing_step.TakeRegion r n) is = other is
never_released k other (releasing_step.Decommit r n at held) is = other is
never_released k other (releasing_step.PutRegion r n at held) is = other is
never_released k other (releasing_step.Free r x) is = other is

-- the kinds of calls that have objects
abbrev HasObjects : CallKind → Type 0
HasObjects k = (purges ≡ k → ⊥) × (releases ≡ k → ⊥)

module _ {P H : Type 0} where
  -- what is given back isn't granted
  back_aims : (maker : MakerTold) (s : Settings) (plan : Plan) (f : Frame P H) (p : Phase P H) → IsShapedAt maker s plan p f → kind_at (stage_at p f.asked f.ending (objects_in f.objects)) ≡ gives_back → is_granting f.ending ≡ false
  back_aims maker s plan f UncountComponent shape is = shape.1
  back_aims maker s plan f Idle shape is = absurd cc
  back_aims maker s plan f Key shape is = absurd cc
  back_aims maker s plan f Validate shape is = absurd cc
  back_aims maker s plan f TestStack shape is = absurd cc
  back_aims maker s plan f TestHeap shape is = absurd cc
  back_aims maker s plan f CountInstance shape is = absurd cc
  back_aims maker s plan f (CountHeap lease) shape is = absurd cc
  back_aims maker s plan f (ValidateComponent info) shape is = absurd cc
  back_aims maker s plan f CountComponent shape is = absurd cc
  back_aims maker s plan f (Purge p step) shape is = absurd cc
  back_aims maker s plan f (Release step) shape is = absurd (never_released gives_back (λ same. absurd cc) step is)
  back_aims maker s plan f (CountObject held) shape is = back_returns f.asked f.ending _ is
  back_aims maker s plan f p shape is = back_returns f.asked f.ending _ is

-- a give-back stays one
back_stays : (k : CallKind) → Becomes gives_back k → k ≡ gives_back
back_stays k = ⊎_elim (λ (same : k ≡ gives_back). same) (λ (other : IsAsking gives_back × (k ≡ is_refused)). absurd other.0)

-- a call that asked has objects
pub asks_has : (k : CallKind) → Becomes asks_for k → HasObjects k
asks_has k = ⊎_elim
    (λ (same : k ≡ asks_for). ((λ (is : purges ≡ k). let apart : purges ≡ asks_for = is ∙ same in absurd cc), (λ (is : releases ≡ k). let apart : releases ≡ asks_for = is ∙ same in absurd cc)))
    (λ (other : IsAsking asks_for × (k ≡ is_refused)). ((λ (is : purges ≡ k). let apart : purges ≡ is_refused = is ∙ other.1 in absurd cc), (λ (is : releases ≡ k). let apart : releases ≡ is_refused = is ∙ other.1 in absurd cc)))

back_has : HasObjects gives_back
back_has = ((λ is. absurd cc), (λ is. absurd cc))

module _ {P H : Type 0} where
  -- A frame at rest owes nothing,
  objects_none : (d : Dues) (f : Frame P H) → IsAtRest f → instance_dues d f.objects ≡ 0
  objects_none d f rests = omega (arith, ap (total d.memory) rests.no_memories, ap (total d.table) rests.no_tables)

  rest_dues : (d : Dues) (f : Frame P H) → f.phase ≡ Idle → IsAtRest f → frame_dues d f ≡ 0
  rest_dues d f idle rests = omega (arith, objects_none d f rests, ap (phase_dues d) idle)

  -- so that a call that begins owes what it gives back,
  pub begun_owes : (d : Dues) (x : Grant P H) (f : Frame P H) → IsAtRest f → frame_dues d (begun_call (call.GiveBack x) f) ≡ grant_dues d x
  begun_owes d (grant.Instance lease) f rests = returned_dues d (Unit {0}) lease.memories.items lease.tables.items (record f { asked = asked.Nothing; objects = lease; ending = returned }) refl refl
  begun_owes d grant.Component f rests = omega (arith, objects_none d f rests)
  begun_owes d (grant.Memory lease) f rests = omega (arith, objects_none d f rests)
  begun_owes d (grant.Table lease) f rests = omega (arith, objects_none d f rests)
  begun_owes d (grant.Stack lease) f rests = omega (arith, objects_none d f rests)
  begun_owes d (grant.Heap lease memory) f rests = omega (arith, objects_none d f rests)
  begun_owes d (grant.HeapOver lease) f rests = omega (arith, objects_none d f rests)

  -- and has appended nothing.
  pub appends_begin : {T : Type 0} (a : About) (v : View T) (c : Call P H) (f : Frame P H) → IsAtRest f → kind_at (stage_of (begun_call c f)) ≡ kind_of c → Appends a v v (begun_call c f) (begun_call c f)
  appends_begin a v c f rests kind = record { back = λ was puts. omega arith; one = λ was one. (refl, alone c (sym kind ∙ was) one) }
    where
      alone : (d : Call P H) → kind_of d ≡ asks_for → IsForOne (begun_call d f).asked → frame_dues each_one (begun_call d f) ≡ 0
      alone call.Key asks one = absurd cc
      alone (call.Module m) asks one = absurd one
      alone (call.Component info) asks one = absurd cc
      alone (call.Memory m) asks one = omega (arith, objects_none each_one f rests)
      alone (call.Table ty) asks one = omega (arith, objects_none each_one f rests)
      alone call.Stack asks one = omega (arith, objects_none each_one f rests)
      alone (call.Heap ty) asks one = absurd one
      alone (call.HeapOver memory) asks one = omega (arith, objects_none each_one f rests)
      alone (call.GiveBack x) asks one = absurd cc
      alone (call.Purge id) asks one = absurd cc
      alone call.Release asks one = absurd cc

-- a queue is told from its part
queue_part_is : {P H : Type 0} (x : PoolPart P H) → IsQueuePart x → x ≡ part.Queue (queue_in x)
queue_part_is (part.Shard s) is = absurd is
queue_part_is (part.Memory cell) is = absurd is
queue_part_is (part.Table cell) is = absurd is
queue_part_is (part.Stack cell) is = absurd is
queue_part_is (part.Queue q) is = refl
queue_part_is (part.Heaps heaps) is = absurd is

-- what a merge counts
appended_one : (n k : ℕ) → n < 2 ^ 64 → k ≡ 1 → rise n ((n + k) % 2 ^ 64) ≡ 1
appended_one n k small one = ap (λ (m : ℕ). rise n ((n + m) % 2 ^ 64)) one ∙ go n small
  where
    go : (m : ℕ) → m < 2 ^ 64 → rise m ((m + 1) % 2 ^ 64) ≡ 1
    go m small = omega arith

module _ {T P H : Type 0} (about : T → About) (inner : T → PoolPart P H) (Passes : List Exchange → Type 0) (old new : PartyTold) (a : About) (base v w : View T) (first f next : Frame P H) (o : Option (Outcome P H)) (s : SeesStep about inner Passes old new a v w f next o) where
  abbrev core : PoolCore P H
  core = s.core

  shape : (p : Phase P H) → f.phase ≡ p → IsShapedAt a.maker core.settings core.plan p f
  shape p is = subst (λ (q : Phase P H). IsShapedAt a.maker core.settings core.plan q f) is s.can.frame.shape

  -- what a put counts of slots that are appended
  appended_put : (p : ℕ) (x y : T) → w ≡ put_view (pool_meaning about inner) p x y v → appended_in core.plan w ≡ (if is_queue (role_at core.plan p) then rise (slice_index (part_counts (inner x)) queue_appended) (slice_index (part_counts (inner y)) queue_appended) else 0) + appended_in core.plan v
  appended_put p x y is = ap (λ (z : View T). appended_in core.plan z) is

  kept_appended : (p : ℕ) (x y : T) → IsChangeOf about inner (changed p x y) (next_target a.settings a.plan f.phase f) core s.left → appends_slots f.phase ≡ false → w ≡ put_view (pool_meaning about inner) p x y v → appended_in core.plan w ≡ appended_in core.plan v
  kept_appended p x y of other is = let all = appended_put p x y is in let none = by (role_at core.plan p) refl in omega (arith, all, none)
    where
      rose : ℕ
      rose = rise (slice_index (part_counts (inner x)) queue_appended) (slice_index (part_counts (inner y)) queue_appended)

      by : (r : Role) → role_at core.plan p ≡ r → (if is_queue (role_at core.plan p) then rose else 0) ≡ 0
      by (shard_role b j) role = ap (λ (r : Role). if is_queue r then rose else 0) role
      by (cell_role name) role = ap (λ (r : Role). if is_queue r then rose else 0) role
      by queue_role role =
          let queues = queue_stays about inner Passes old new a v w f next o s p x y of role in
          ap (λ (r : Role). if is_queue r then rose else 0) role ∙ appended_rises (inner x) (inner y) queues.0 queues.1 ((put_keeps_both about inner Passes old new a v w f next o s p x y of).appended other) of.4
      by (heaps_role n) role = ap (λ (r : Role). if is_queue r then rose else 0) role
      by no_role role = ap (λ (r : Role). if is_queue r then rose else 0) role

  -- A step that appends nothing counts nothing,
  appended_still : appends_slots f.phase ≡ false → appended_in core.plan w ≡ appended_in core.plan v
  appended_still other = go s.change s.of s.view
    where
      go : (ch : Change T) → IsChangeOf about inner ch (next_target a.settings a.plan f.phase f) core s.left → w ≡ view_after about inner ch v → appended_in core.plan w ≡ appended_in core.plan v
      go (changed p x y) of is = kept_appended p x y of other is
      go (counter_up name found) of is = ap (λ (z : View T). appended_in core.plan z) is
      go (counter_down name) of is = ap (λ (z : View T). appended_in core.plan z) is
      go unchanged of is = ap (λ (z : View T). appended_in core.plan z) is

  -- and a merge counts one.
  appended_merged : f.phase ≡ Merge → appended_in core.plan w ≡ 1 + appended_in core.plan v
  appended_merged is =
      let place : ℕ = queue_tried 0 core.plan f in
      let at = placed_at about inner Passes old new a v w f next o s Merge place is refl in
      let role : role_at core.plan place ≡ queue_role = tried_is_queue 0 core.plan (length core.parts) f s.can.core.plan in
      let there = queue_part a.maker place core s.can.core role in
      let q : Queue = queue_at place core in
      let whole : Queue = after_append q f.local in
      let was : inner at.before ≡ part.Queue q = sym at.was ∙ queue_part_is (part_at place core.parts) there.part in
      let now : inner at.after ≡ part.Queue (merged {P = P} {H = H} (nat_le core.settings.batch (length whole.ranges)) whole (record (resting f) { local = drained f.local })).part = sym at.is ∙ ap (λ (z : PoolCore P H). part_at place z.parts) (left_is about inner Passes old new a v w f next o s Merge is) ∙ part_same place _ core there.inside in
      let small : q.appended < 2 ^ 64 = subst (λ (x : PoolPart P H). slice_index (part_counts x) queue_appended < 2 ^ 64) was (at.small queue_appended) in
      let rose : rise (slice_index (part_counts (inner at.before)) queue_appended) (slice_index (part_counts (inner at.after)) queue_appended) ≡ 1 =
      (λ i. rise (slice_index (part_counts (was i)) queue_appended) (slice_index (part_counts (now i)) queue_appended))
      ∙ ap (λ (n : ℕ). rise q.appended n) (merged_appended (nat_le core.settings.batch (length whole.ranges)) whole (record (resting f) { local = drained f.local }))
      ∙ appended_one q.appended (length f.local.slots) small (shape Merge is).2 in
      let chosen = ap (λ (r : Role). if is_queue r then rise (slice_index (part_counts (inner at.before)) queue_appended) (slice_index (part_counts (inner at.after)) queue_appended) else 0) role in
      let all = appended_put place at.before at.after at.put in
      omega (arith, all, chosen, rose)
    where
      merged_appended : (b : Bool) (whole : Queue) (g : Frame P H) → (merged b whole g).part.appended ≡ whole.appended
      merged_appended true whole g = refl
      merged_appended false whole g = refl

  -- what the step leaves
  abbrev left_at : Phase P H → Left P H
  left_at p = after (row_of s.row.0 p core (resting f)).frame (row_of s.row.0 p core (resting f)).turn

  abbrev left_of : After P H → Left P H
  left_of z = record { frame = z.frame; outcome = z.outcome }

  left_here : (p : Phase P H) → f.phase ≡ p → ◌≡◌ {A = Left P H} (left_at p) (record { frame = next; outcome = o })
  left_here p is = ap left_at (sym is) ∙ ap left_of (sym s.row.1.0.is)

  dues_here : (d : Dues) (p : Phase P H) → f.phase ≡ p → frame_dues d f ≡ instance_dues d f.objects + phase_dues d p
  dues_here d p is = ap (λ (q : Phase P H). instance_dues d f.objects + phase_dues d q) is

  left_dues_here : (d : Dues) (p : Phase P H) → f.phase ≡ p → frame_dues d (left_at p).frame ≡ frame_dues d next
  left_dues_here d p is = ap (λ (l : Left P H). frame_dues d l.frame) (left_here p is)

  row_here : (d : Dues) (p : Phase P H) → f.phase ≡ p → is_apart p ≡ false → Between d (IsForOne f.asked) (is_granting f.ending) (instance_dues d f.objects + left_dues d p) (left_at p)
  row_here d p is on = row_between d core f a.maker s.row.0 p on (shape p is)

  -- What a call that gives back has appended, with what it is to append still, doesn't fall.
  module _ (gives : kind_at (stage_of f) ≡ gives_back) (puts : PutsOff core.settings) where
    aims : is_granting f.ending ≡ false
    aims = back_aims a.maker core.settings core.plan f f.phase s.can.frame.shape gives

    owes_on : (p : Phase P H) → f.phase ≡ p → is_apart p ≡ false → left_dues (owed_by core.settings) p ≡ phase_dues (owed_by core.settings) p → appends_slots p ≡ false → appended_in core.plan v + frame_dues (owed_by core.settings) f ≤ appended_in core.plan w + frame_dues (owed_by core.settings) next
    owes_on p is on same other =
        let d : Dues = owed_by core.settings in
        omega (arith, appended_still (ap appends_slots is ∙ other), dues_here d p is, left_dues_here d p is, (row_here d p is on).more aims, same)

    owes_merged : f.phase ≡ Merge → appended_in core.plan v + frame_dues (owed_by core.settings) f ≤ appended_in core.plan w + frame_dues (owed_by core.settings) next
    owes_merged is =
        let d : Dues = owed_by core.settings in
        omega (arith, appended_merged is, dues_here d Merge is, left_dues_here d Merge is, (row_here d Merge is refl).more aims)

    owes_reset : (held : Object P) → f.phase ≡ Reset held → appended_in core.plan v + frame_dues (owed_by core.settings) f ≤ appended_in core.plan w + frame_dues (owed_by core.settings) next
    owes_reset held is =
        let d : Dues = owed_by core.settings in
        let there = shape (Reset held) is in
        let told : MayBeTold core.settings s.row.0 (Reset held) f = subst (λ (q : Phase P H). MayBeTold core.settings s.row.0 q f) is s.row.1.0.told in
        let leaves = object_leaves core f puts aims there.0 a.maker (omega (arith, s.can.core.settings.page.at_least)) s.row.0 held there.2 told in
        omega (arith, appended_still (ap appends_slots is), dues_here d (Reset held) is, left_dues_here d (Reset held) is, leaves)

    by_core : appended_in core.plan v + frame_dues (owed_by core.settings) f ≤ appended_in core.plan w + frame_dues (owed_by core.settings) next
    by_core = by f.phase refl
      where
        Owes : Type 0
        Owes = appended_in core.plan v + frame_dues (owed_by core.settings) f ≤ appended_in core.plan w + frame_dues (owed_by core.settings) next

        by : (p : Phase P H) → f.phase ≡ p → Owes
        by Merge is = owes_merged is
        by (Reset held) is = owes_reset held is
        by (Purge p step) is = absurd (back_has.0 (sym (ap (λ (q : Phase P H). kind_at (stage_at q f.asked f.ending (objects_in f.objects))) is) ∙ gives))
        by (Release step) is = absurd (never_released gives_back back_has.1 step (sym (ap (λ (q : Phase P H). kind_at (stage_at q f.asked f.ending (objects_in f.objects))) is) ∙ gives))
        by p is = owes_on p is refl refl refl

  -- One that asks for one object has nothing to give back, and appends nothing.
  module _ (k : CallKind) (kind : kind_at (stage_of f) ≡ k) (has : HasObjects k) (one : IsForOne f.asked) (none : frame_dues each_one f ≡ 0) where
    abbrev Alone : Type 0
    Alone = (appended_in core.plan w ≡ appended_in core.plan v) × (frame_dues each_one next ≡ 0)

    alone_on : (p : Phase P H) → f.phase ≡ p → is_apart p ≡ false → left_dues each_one p ≡ phase_dues each_one p → appends_slots p ≡ false → Alone
    alone_on p is on same other = (appended_still (ap appends_slots is ∙ other), omega (arith, dues_here each_one p is, left_dues_here each_one p is, (row_here each_one p is on).less one, same, none))

    alone_reset : (held : Object P) → object_dues each_one held ≡ 1
    alone_reset (object.Memory lease) = refl
    alone_reset (object.Table lease) = refl
    alone_reset (object.Stack lease) = refl

    alone : (p : Phase P H) → f.phase ≡ p → Alone
    alone Merge is = absurd (omega (arith, dues_here each_one Merge is, none))
    alone (Reset held) is = absurd (omega (arith, dues_here each_one (Reset held) is, alone_reset held, none))
    alone (Purge p step) is = absurd (has.0 (sym (ap (λ (q : Phase P H). kind_at (stage_at q f.asked f.ending (objects_in f.objects))) is) ∙ kind))
    alone (Release step) is = absurd (never_released k has.1 step (sym (ap (λ (q : Phase P H). kind_at (stage_at q f.asked f.ending (objects_in f.objects))) is) ∙ kind))
    alone p is = alone_on p is refl refl refl

  -- So it goes on, step after step,
  module _ (goes : GoesOnSince a base v first f) where
    owes_step : kind_at (stage_of first) ≡ gives_back → PutsOff a.settings → appended_in a.plan v + frame_dues (owed_by a.settings) f ≤ appended_in a.plan w + frame_dues (owed_by a.settings) next
    owes_step was puts =
        let gives : kind_at (stage_of f) ≡ gives_back = back_stays (kind_at (stage_of f)) (subst (λ (k : CallKind). Becomes k (kind_at (stage_of f))) was goes.kind) in
        let here : appended_in core.plan v + frame_dues (owed_by core.settings) f ≤ appended_in core.plan w + frame_dues (owed_by core.settings) next = by_core gives (subst PutsOff (sym s.settings) puts) in
        let by_settings : appended_in core.plan v + frame_dues (owed_by a.settings) f ≤ appended_in core.plan w + frame_dues (owed_by a.settings) next = subst (λ (z : Settings). appended_in core.plan v + frame_dues (owed_by z) f ≤ appended_in core.plan w + frame_dues (owed_by z) next) s.settings here in
        subst (λ (z : Plan). appended_in z v + frame_dues (owed_by a.settings) f ≤ appended_in z w + frame_dues (owed_by a.settings) next) s.plan by_settings

    alone_step : kind_at (stage_of first) ≡ asks_for → IsForOne first.asked → frame_dues each_one f ≡ 0 → NoneAppended v w a.plan × (frame_dues each_one next ≡ 0)
    alone_step was one none =
        let k : CallKind = kind_at (stage_of f) in
        let has : HasObjects k = asks_has k (subst (λ (z : CallKind). Becomes z k) was goes.kind) in
        let here = alone k refl has (subst IsForOne (sym goes.asked) one) none f.phase refl in
        (subst (λ (z : Plan). appended_in z w ≡ appended_in z v) s.plan here.0, here.1)

    pub appends_step : Appends a base w first next
    appends_step = record {
      back = λ was puts. omega (arith, goes.appends.back was puts, owes_step was puts);
      one = λ was one. let had = goes.appends.one was one in let step = alone_step was one had.1 in (step.0 ∙ had.0, step.1);
    }

    -- up to its answer.
    pub appended_last : next.phase ≡ Idle → HasAppended a base w first
    appended_last idle = record {
      back = λ was puts. omega (arith, appends_step.back was puts, rest_dues (owed_by a.settings) next idle rests);
      one = λ was one. (appends_step.one was one).0;
    }
      where
        sound : IsSoundStep a.maker old new core f (record { core = s.left; frame = next; outcome = o })
        sound = sound_step a.maker old new core f (record { core = s.left; frame = next; outcome = o }) s.can (s.row.0, s.row.1.0)

        rests : IsAtRest next
        rests = at_rest a.maker s.left.settings s.left.plan next sound.can.frame idle

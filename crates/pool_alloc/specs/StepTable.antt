-- The step table: what each step of a call does to the pool, of which it changes one part, and to the party's frame, and
-- with which turn it ends.
use Rattle.std.specs.Prelude.{ℕ, ◌+◌, ◌-◌, ◌%◌, ◌^◌, ◌==◌, ◌||◌, List, [], ◌∷◌, length, Bool, true, false, nat_lt, nat_le, if◌then◌else◌, Option, Some, None, Result, Ok, Err, is_some}
use Rattle.pool_alloc.specs.Imports.{ComponentInfo, Unsupported, Slot, forgotten, ShardState, pick_answer, after_pick, after_free, slot_number, SlotId, LimiterError, MemoryState, slot_of, state_of, Memory, MemoryError, Cell, unmapped, unknown, previously_used, taken, cell_of, home_of, Unmapped, Unknown, SlotName, heap_in, heap_taken, heap_returned, heap_slot, CellState, cell_numbers, cell_emptied, cell_filled, HeapEntry, HeapMakeFault, Queue, Queued, is_to_zero, first_of_kind, others_of_kind, first_zeroed, after_append, after_take, taken_into, drained, Plan, SlotKind, memory_kind, table_kind, stack_kind, heap_kind, Told, list_any, AllocError, CoreInstances}
use Rattle.pool_slots.specs.declared.errors.ConcurrencyKind.TheVariants.{ComponentInstances}
use Rattle.pool_alloc.specs.Objects.{no_objects}
use Rattle.pool_alloc.specs.PoolStacks.{stack_made, stack_reset}
use Rattle.pool_alloc.specs.StackLeases.{LeasedStack}
use Rattle.pool_alloc.specs.TableLeases.{LeasedTable}
use Rattle.pool_alloc.specs.TableSteps.{table_made, table_reset_into}
use Rattle.pool_alloc.specs.declared.frame.FreedSlot.{FreedSlot}
use Rattle.pool_slots.specs.declared.errors.AllocError.TheVariants as refusal
use Rattle.pool_alloc.specs.Reserved.{with_item}
use Rattle.pool_alloc.specs.HeapLeases.{LeasedHeap, heap_numbers, memory_under}
use Rattle.pool_alloc.specs.Leases.{Lease, slot_taken}
use Rattle.pool_alloc.specs.MemorySteps.{image_made, reset_into, refusal_of, heap_refusal, memory_made}
use Rattle.pool_alloc.specs.Refusals.{module_refused, heap_refused, component_refused}
use Rattle.pool_alloc.specs.StepReads.{StepGiven, memories_wanted, tables_wanted, shard_at, cell_named, queue_at, freed_of, freed_elsewhere, first_shard, after_frees, allocator_for, with_shard, with_cell, with_queue, counting_keys, counting_instances, counting_memories, counting_tables, counting_stacks, counting_heaps, heaps_at, with_heaps, wanted, cell_returned, shard_tried, queue_tried, info_wanted, counting_components}
use Rattle.pool_alloc.specs.Turns.{Turn, goes, ends, next, flush, stays, Row, lifted, After, failing, slot_search, stepped, answer_of}
use Rattle.pool_alloc.specs.declared.pool_core.PoolCore.{PoolCore}
use Rattle.pool_alloc.specs.declared.pool_core.Settings.{Settings}
use Rattle.pool_alloc.specs.declared.frame.Frame.{Frame}
use Rattle.pool_alloc.specs.declared.frame.Phase.{Phase}
use Rattle.pool_alloc.specs.declared.frame.TakenSlot.{TakenSlot}
use Rattle.pool_alloc.specs.declared.frame.Phase.TheVariants.{Idle, Key, Validate, TestStack, TestHeap, CountInstance, Pick, TakeQueue, TakeRegion, Empty, Instantiate, MakeMemory, MakeTable, CountObject, TakeHeap, MakeHeap, CountHeap, PutNoHeap, PutBack, FreeOne, UncountObject, UncountHeap, PutHeap, FreeHeap, Reset, Merge, Flush, UncountInstance, ValidateComponent, CountComponent, UncountComponent, Purge, Release}
use Rattle.pool_alloc.specs.declared.frame.Grant.TheVariants.{Component, Memory as memory_granted, Table as table_granted, Stack, Heap, HeapOver}
use Rattle.pool_alloc.specs.declared.frame.Asked.{Asked}
use Rattle.pool_alloc.specs.declared.frame.Asked.TheVariants.{Memory as memory_asked, Table as table_asked, HeapOver as heap_over_asked}
use Rattle.pool_alloc.specs.declared.frame.Object.{Object}
use Rattle.pool_alloc.specs.declared.frame.Object.TheVariants as object
use Rattle.pool_alloc.specs.declared.frame.Outcome.TheVariants as answer
use Rattle.pool_alloc.specs.Purges.{purge_row}
use Rattle.pool_alloc.specs.Releases.{release_row}

-- Which part of a flush is next: ranges of one slot are decommitted, a slot of a kind is zeroed by hand, the region of one
-- is put back, or slots are freed.
pub data FlushStep : Type 0 where
  run : FlushStep
  zero : SlotKind → FlushStep
  put : SlotKind → FlushStep
  free : FlushStep

-- The slots of a flush go back kind by kind, in this order.
abbrev pub flush_kinds : List SlotKind
flush_kinds = memory_kind ∷ table_kind ∷ stack_kind ∷ []

-- Some slot of a kind is queued.
abbrev pub some_queued : SlotKind → List Queued → Bool
some_queued kind slots = is_some (first_of_kind kind slots)

-- the first of these kinds of which a slot is queued; where there is none, it doesn't matter which
abbrev pub kind_queued : List SlotKind → List Queued → SlotKind
kind_queued [] slots = memory_kind
kind_queued (kind ∷ later) slots = if some_queued kind slots then kind else kind_queued later slots

-- The kind that goes back: that of the slots which wait to be freed, and which are all of one kind; or where none waits, the
-- first that is queued.
abbrev pub kind_settled : List Queued → List FreedSlot → SlotKind
kind_settled slots [] = kind_queued flush_kinds slots
kind_settled slots (x ∷ freed) = x.name.kind

-- The next part of a flush once nothing is zeroed any more: a slot of the kind is put back, or slots are freed.
abbrev pub put_step : SlotKind → List Queued → FlushStep
put_step kind slots = if some_queued kind slots then put kind else free

-- The next part of a flush without ranges: a slot of the kind is zeroed by hand, put back, or freed, in this order.
abbrev pub settled_step : SlotKind → List Queued → FlushStep
settled_step kind slots = if list_any (is_to_zero kind) slots then zero kind else put_step kind slots

-- The next part of a flush: decommits while there are ranges, then the slots go back kind by kind.
abbrev pub flush_step : Queue → List FreedSlot → FlushStep
flush_step local freed = if length local.ranges == 0 then settled_step (kind_settled local.slots freed) local.slots else run

-- The rows that change one part: what each leaves of the part, of the frame, and its turn.
module _ {P H : Type 0} where
  -- What is taken of a slot that was picked: its heap, or its region.
  abbrev pub taken_next : SlotKind → SlotName → Phase P H
  taken_next heap_kind name = TakeHeap name
  taken_next _ name = TakeRegion name

  -- A slot is picked from a shard: the shard gave one, the next is tried, or after the last the search goes on.
  abbrev pub picked : Plan → Option (SlotId × ℕ) → ShardState → ℕ → Frame P H → Turn P H
  picked plan (Some p) shard tried f = goes (taken_next (allocator_for plan f).kind (record { kind = (allocator_for plan f).kind; slot = slot_number shard p.0.0 }))
  picked plan None shard tried f = if nat_lt (tried + 1) (allocator_for plan f).shards then goes (Pick (tried + 1)) else slot_search plan f

  -- A shard is asked for a slot, by what the party wants it for: the policy is that of the shard.
  abbrev pub pick_on : Plan → ℕ → ShardState → Frame P H → Row ShardState P H
  pick_on plan tried shard f = record {
    part = after_pick (wanted f) shard;
    frame = f;
    turn = picked plan (pick_answer (wanted f) shard) shard tried f;
  }

  -- One slot is freed. Nothing is known of it.
  abbrev pub free_one_on : Plan → SlotName → ShardState → Frame P H → Row ShardState P H
  free_one_on plan name shard f = record { part = after_free (home_of plan name).local 0 shard; frame = f; turn = next }

  -- The slot of a heap is freed, and then the heap's memory is given back.
  abbrev pub free_heap_on : Plan → SlotName → Lease → ShardState → Frame P H → Row ShardState P H
  free_heap_on plan name memory shard f = record { part = after_free (home_of plan name).local 0 shard; frame = f; turn = goes (UncountObject (object.Memory memory)) }

  -- All slots of the shard are freed that wait for it.
  abbrev pub free_on : Plan → ℕ → ShardState → Frame P H → Row ShardState P H
  free_on plan place shard f = record {
    part = after_frees plan (freed_of plan place f.freed.items) shard;
    frame = record f { freed = record f.freed { items = freed_elsewhere plan place f.freed.items } };
    turn = flush;
  }

  -- A region leaves its cell. An image slot is made of one that was never used, a table in one of a table, and one of a
  -- stack is a stack at once.
  abbrev pub unmapped_next : Settings → SlotKind → TakenSlot → Told → Turn P H
  unmapped_next s memory_kind at region = goes (Instantiate at (image_made s at.name.slot region))
  unmapped_next s table_kind at region = goes (MakeTable at region)
  unmapped_next s stack_kind at region = goes (CountObject (object.Stack (stack_made s at region)))
  unmapped_next s _ at region = goes Idle

  -- What is done with a region once it left its cell: begun where it was never used, emptied where nothing is known of
  -- it, instantiated where it is clean.
  abbrev pub region_next : Settings → TakenSlot → Cell → Turn P H
  region_next s at (unmapped region) = unmapped_next s at.name.kind at region
  region_next s at (unknown held) = goes (Empty at held)
  region_next s at (previously_used held) = goes (Instantiate at held)
  region_next s at taken = goes Idle

  -- The region of a slot leaves its cell, with the numbers that tell how it stood.
  abbrev pub take_region_on : Settings → SlotName → CellState → Frame P H → Row CellState P H
  take_region_on s name cell f = record { part = cell_emptied cell; frame = f; turn = region_next s (record { name = name; numbers = cell_numbers cell }) cell.holds }

  -- A region goes back into its cell after a failure.
  abbrev pub put_back_on : SlotName → Cell → CellState → Frame P H → Row CellState P H
  put_back_on name held cell f = record { part = cell_filled held cell; frame = f; turn = goes (FreeOne name) }

  -- A slot that was in the local queue goes back into its cell, and waits to be freed.
  abbrev pub region_put : Queued → CellState → Frame P H → Row CellState P H
  region_put m cell f = record {
    part = cell_filled (cell_returned m) cell;
    frame = record f { freed = with_item (record { name = m.name; bytes = m.bytes }) f.freed };
    turn = flush;
  }

  -- A slot of the local queue goes back into its cell, and the others stay queued.
  abbrev pub put_region_on : Queued → List Queued → CellState → Frame P H → Row CellState P H
  put_region_on m rest cell f = region_put m cell (record f { local = record f.local { slots = rest } })

  -- A queue is taken whole. It is flushed where it holds something.
  abbrev pub take_queue_on : Plan → Queue → Frame P H → Row Queue P H
  take_queue_on plan queue f = record {
    part = after_take queue;
    frame = record f { local = taken_into f.local queue; queues = f.queues + 1 };
    turn = if length queue.slots == 0 then slot_search plan f else flush;
  }

  -- The local queue is appended. Where there are as many ranges as a batch then, the whole queue comes into the local one
  -- and is flushed. That is no take of the queue.
  abbrev pub merged : Bool → Queue → Frame P H → Row Queue P H
  merged true whole f = record { part = drained whole; frame = record f { local = taken_into f.local whole }; turn = flush }
  merged false whole f = record { part = whole; frame = f; turn = next }

  -- The local queue is appended to the home queue; a batch of ranges comes back whole to be flushed.
  abbrev pub merge_on : Settings → Queue → Frame P H → Row Queue P H
  merge_on s queue f =
      let whole : Queue = after_append queue f.local in
      merged (nat_le s.batch (length whole.ranges)) whole (record f { local = drained f.local })

  -- A slot's heap goes out of the list of heaps, and its entry notes the memory that the heap is over. Where no heap was made for the
  -- slot yet, one is made.
  abbrev pub heap_next : TakenSlot → Option H → Turn P H
  heap_next at (Some heap) = goes (CountHeap (record { index = at.name.slot; heap = heap; numbers = at.numbers }))
  heap_next at None = goes (MakeHeap at)

  -- The heap of a slot is taken, or the maker is asked for one; the slot notes the memory that goes with it.
  abbrev pub take_heap_on : SlotName → List (HeapEntry H) → Frame P H → Row (List (HeapEntry H)) P H
  take_heap_on name heaps f =
      let memory : ℕ = memory_under f.asked f.objects.memories.items in
      record {
        part = heap_taken name.slot (record { 0 = memory }) heaps;
        frame = f;
        turn = heap_next (record { name = name; numbers = heap_numbers memory }) (heap_in name.slot heaps);
      }

  -- A heap comes back to its slot, or nothing does.
  abbrev pub put_heap_on : ℕ → Option H → Phase P H → List (HeapEntry H) → Frame P H → Row (List (HeapEntry H)) P H
  put_heap_on slot heap next_phase heaps f = record { part = heap_returned slot heap heaps; frame = f; turn = goes next_phase }

  -- The slot of a heap that came back is freed next. The memory that was granted with the heap is given back then, and there may be
  -- none.
  abbrev pub heap_freed : SlotName → Option Lease → Phase P H
  heap_freed name (Some memory) = FreeHeap name memory
  heap_freed name None = FreeOne name

  -- A row on the shard at a place, as a row on the pool.
  abbrev pub in_shard : ℕ → PoolCore P H → Row ShardState P H → Row (PoolCore P H) P H
  in_shard place c r = lifted (λ shard. with_shard place shard c) r

  -- A row on the cell of a slot, as a row on the pool.
  abbrev pub in_cell : SlotName → PoolCore P H → Row CellState P H → Row (PoolCore P H) P H
  in_cell name c r = lifted (λ cell. with_cell name cell c) r

  -- A row on the queue at a place, as a row on the pool.
  abbrev pub in_queue : ℕ → PoolCore P H → Row Queue P H → Row (PoolCore P H) P H
  in_queue place c r = lifted (λ queue. with_queue place queue c) r

  -- A row on the list of heaps, as a row on the pool.
  abbrev pub in_heaps : PoolCore P H → Row (List (HeapEntry H)) P H → Row (PoolCore P H) P H
  in_heaps c r = lifted (λ heaps. with_heaps heaps c) r

-- The refusal of an instance where as many are granted as may be.
abbrev pub no_instance_left : Settings → AllocError
no_instance_left s = refusal.Limit (record { limit = s.max_core_instances; kind = CoreInstances })

-- The refusal of a component where as many are granted as may be.
abbrev pub no_component_left : Settings → AllocError
no_component_left s = refusal.Limit (record { limit = s.max_component_instances; kind = ComponentInstances })

-- The rows that change a counter, or no part.
module _ {P H : Type 0} where
  -- A number is drawn from the key counter, modulo the number of stripes: each has an allocator of memories.
  abbrev pub key_row : PoolCore P H → Frame P H → Row (PoolCore P H) P H
  key_row c f = record {
    part = counting_keys ((c.counters.key + 1) % 2 ^ 64) c;
    frame = record f { stripe = c.counters.key % length c.plan.memories };
    turn = ends answer.Key;
  }

  -- a request that is refused before anything is granted
  abbrev pub refused_at_once : AllocError → PoolCore P H → Frame P H → Row (PoolCore P H) P H
  refused_at_once e c f = record { part = c; frame = failing e f; turn = ends (answer.Refused e) }

  -- The lists of what is to be granted are reserved, and this phase is next, or there was no memory for them.
  abbrev pub reserved : Bool → Phase P H → PoolCore P H → Frame P H → Row (PoolCore P H) P H
  reserved true next_phase c f = refused_at_once refusal.Memory c f
  reserved false next_phase c f = record {
    part = c;
    frame = record f { objects = record { memories = record { items = []; room = length (memories_wanted f.asked) }; tables = record { items = []; room = length (tables_wanted f.asked) } } };
    turn = goes next_phase;
  }

  -- A request that breaks a rule is refused at once; else it goes on, if there is memory for its lists.
  abbrev pub validated : Option Unsupported → Bool → Phase P H → PoolCore P H → Frame P H → Row (PoolCore P H) P H
  validated (Some rule) wants next_phase c f = refused_at_once (refusal.Unsupported rule) c f
  validated None wants next_phase c f = reserved wants next_phase c f

  -- The module is tested, and the lists of its objects reserved.
  abbrev pub validate_row : Bool → PoolCore P H → Frame P H → Row (PoolCore P H) P H
  validate_row wants c f = validated (module_refused c.settings c.plan.totals.table (info_wanted f.asked)) wants CountInstance c f

  -- Stacks are off, and the request is refused at once; or a slot for one is picked.
  abbrev pub stacks_tested : Bool → PoolCore P H → Frame P H → Row (PoolCore P H) P H
  stacks_tested true c f = refused_at_once refusal.StacksDisabled c f
  stacks_tested false c f = record { part = c; frame = record f { objects = no_objects }; turn = goes (Pick 0) }

  -- A request for a stack is refused where the pool's stacks have no size, and else a slot is picked.
  abbrev pub test_stack_row : PoolCore P H → Frame P H → Row (PoolCore P H) P H
  test_stack_row c f = stacks_tested (c.settings.stack_size == 0) c f

  -- The type of a heap's memory is tested, and the list for the memory is reserved. A heap over a memory that there is needs neither,
  -- and a slot for it is picked at once.
  abbrev pub memory_tested : Asked → Bool → PoolCore P H → Frame P H → Row (PoolCore P H) P H
  memory_tested (heap_over_asked memory) wants c f = record { part = c; frame = f; turn = goes (Pick 0) }
  memory_tested asked wants c f = validated (heap_refused c.settings asked) wants (Pick 0) c f

  -- A collector is tested for, and then the heap's memory.
  abbrev pub heaps_tested : Bool → Bool → PoolCore P H → Frame P H → Row (PoolCore P H) P H
  heaps_tested false wants c f = refused_at_once refusal.HeapsDisabled c f
  heaps_tested true wants c f = memory_tested f.asked wants c f

  -- A request for a heap is refused without a collector, or for its memory's type, and else its memory is allocated, or its slot is
  -- picked where there is a memory.
  abbrev pub test_heap_row : Bool → PoolCore P H → Frame P H → Row (PoolCore P H) P H
  test_heap_row wants c f = heaps_tested c.settings.tunables.tunables.collector wants c f

  -- The instance is counted, also where there are too many.
  abbrev pub counted : Bool → PoolCore P H → Frame P H → Row (PoolCore P H) P H
  counted true c f = record { part = counting_instances (c.counters.core_instances + 1) c; frame = f; turn = next }
  counted false c f = record { part = counting_instances (c.counters.core_instances + 1) c; frame = failing (no_instance_left c.settings) f; turn = next }

  -- The instance is counted, or refused where as many are counted as may be.
  abbrev pub count_instance_row : PoolCore P H → Frame P H → Row (PoolCore P H) P H
  count_instance_row c f = counted (nat_lt c.counters.core_instances c.settings.max_core_instances) c f

  -- A page call on the region in hand failed: it is put back, and the call fails. Else it goes on so.
  abbrev pub paged : Bool → TakenSlot → Slot → Phase P H → PoolCore P H → Frame P H → Row (PoolCore P H) P H
  paged true at held phase c f = record { part = c; frame = failing refusal.PageFault f; turn = goes (PutBack at (Unknown (forgotten held))) }
  paged false at held phase c f = record { part = c; frame = f; turn = goes phase }

  -- A slot of which nothing is known is emptied, and then instantiated; after a fault it is put back as unknown.
  abbrev pub empty_row : Bool → Slot → TakenSlot → PoolCore P H → Frame P H → Row (PoolCore P H) P H
  empty_row fault held at c f = paged fault at held (Instantiate at held) c f

  -- A slot gets its size and its image, and then becomes a memory; after a fault it is put back as unknown.
  abbrev pub instantiate_row : Bool → Slot → TakenSlot → PoolCore P H → Frame P H → Row (PoolCore P H) P H
  instantiate_row fault held at c f = paged fault at held (MakeMemory at held) c f

  -- The limiter is asked, and the memory made.
  abbrev pub was_made : TakenSlot → Slot → Result MemoryState AllocError → PoolCore P H → Frame P H → Row (PoolCore P H) P H
  was_made at held (Ok memory) c f = record { part = c; frame = f; turn = goes (CountObject (object.Memory (record { index = at.name.slot; memory = memory; numbers = at.numbers }))) }
  was_made at held (Err e) c f = record { part = c; frame = failing e f; turn = goes (PutBack at (Unknown (forgotten held))) }

  -- What follows the making of a memory, by what the code's making answers.
  abbrev pub made_by : {M L : Type 0} → TakenSlot → Result (Memory M L) (Slot × MemoryError) → PoolCore P H → Frame P H → Row (PoolCore P H) P H
  made_by at (Ok memory) c f = was_made at (slot_of (state_of memory)) (Ok (state_of memory)) c f
  made_by at (Err left) c f = was_made at left.0 (Err (refusal_of left.1)) c f

  -- The limiter is asked, and the memory is made in its slot; or the slot is put back and the call fails.
  abbrev pub make_memory_row : Result Bool LimiterError → TakenSlot → Slot → PoolCore P H → Frame P H → Row (PoolCore P H) P H
  make_memory_row given at held c f = was_made at held (memory_made c.settings (memories_wanted f.asked) (length f.objects.memories.items) given held) c f

  -- The limiter is asked, and the table made.
  abbrev pub was_made_table : TakenSlot → Told → Result LeasedTable AllocError → PoolCore P H → Frame P H → Row (PoolCore P H) P H
  was_made_table at region (Ok lease) c f = record { part = c; frame = f; turn = goes (CountObject (object.Table lease)) }
  was_made_table at region (Err e) c f = record { part = c; frame = failing e f; turn = goes (PutBack at (Unmapped region)) }

  -- What follows the making of a table, by what the code's making answers.
  abbrev pub table_made_by : TakenSlot → Result LeasedTable (Told × AllocError) → PoolCore P H → Frame P H → Row (PoolCore P H) P H
  table_made_by at (Ok lease) c f = record { part = c; frame = f; turn = goes (CountObject (object.Table lease)) }
  table_made_by at (Err left) c f = was_made_table at left.0 (Err left.1) c f

  -- The limiter is asked, and the table is made in its region; or that is put back as it is and the call fails.
  abbrev pub make_table_row : Result Bool LimiterError → TakenSlot → Told → PoolCore P H → Frame P H → Row (PoolCore P H) P H
  make_table_row given at region c f = was_made_table at region (table_made c.settings (tables_wanted f.asked) (length f.objects.tables.items) given at region) c f

  -- A memory that is granted is kept with what was granted before, and the search for the next object's slot begins anew. One that
  -- was asked for by itself isn't kept.
  abbrev pub memory_kept : Asked → Lease → Frame P H → Frame P H
  memory_kept (memory_asked m) lease f = f
  memory_kept _ lease f = record f { objects = record f.objects { memories = with_item lease f.objects.memories }; queues = 0 }

  -- Its call ends with it then.
  abbrev pub memory_turn : Asked → Lease → Turn P H
  memory_turn (memory_asked m) lease = ends (answer.Granted (memory_granted lease))
  memory_turn _ lease = next

  -- A table that is granted is kept, likewise.
  abbrev pub table_kept : Asked → LeasedTable → Frame P H → Frame P H
  table_kept (table_asked ty) lease f = f
  table_kept _ lease f = record f { objects = record f.objects { tables = with_item lease f.objects.tables }; queues = 0 }

  -- The call ends with a table that was asked for by itself.
  abbrev pub table_turn : Asked → LeasedTable → Turn P H
  table_turn (table_asked ty) lease = ends (answer.Granted (table_granted lease))
  table_turn _ lease = next

  -- The object is granted. A stack is all that its call asks for.
  abbrev pub count_object_row : Object P → PoolCore P H → Frame P H → Row (PoolCore P H) P H
  count_object_row (object.Memory lease) c f = record { part = counting_memories (c.counters.memories + 1) c; frame = memory_kept f.asked lease f; turn = memory_turn f.asked lease }
  count_object_row (object.Table lease) c f = record { part = counting_tables (c.counters.tables + 1) c; frame = table_kept f.asked lease f; turn = table_turn f.asked lease }
  count_object_row (object.Stack lease) c f = record { part = counting_stacks (c.counters.stacks + 1) c; frame = f; turn = ends (answer.Granted (Stack lease)) }

  -- The maker of heaps was asked: its heap is counted next, or the call fails for its reason and the slot goes back
  -- without a heap.
  abbrev pub make_heap_row : Result H HeapMakeFault → TakenSlot → PoolCore P H → Frame P H → Row (PoolCore P H) P H
  make_heap_row (Ok heap) at c f = record { part = c; frame = f; turn = heap_next at (Some heap) }
  make_heap_row (Err fault) at c f = record { part = c; frame = failing (heap_refusal fault) f; turn = goes (PutNoHeap at) }

  -- The heap is granted, with the memory that was granted for it.
  abbrev pub heap_granted : List Lease → LeasedHeap H → PoolCore P H → Frame P H → Row (PoolCore P H) P H
  heap_granted [] lease c f = record { part = c; frame = f; turn = goes Idle }
  heap_granted (memory ∷ rest) lease c f = record { part = counting_heaps (c.counters.gc_heaps + 1) c; frame = record f { objects = no_objects }; turn = ends (answer.Granted (Heap lease memory)) }

  -- A heap over a memory that there is is granted without one.
  abbrev pub heap_counted : Asked → LeasedHeap H → PoolCore P H → Frame P H → Row (PoolCore P H) P H
  heap_counted (heap_over_asked memory) lease c f = record { part = counting_heaps (c.counters.gc_heaps + 1) c; frame = f; turn = ends (answer.Granted (HeapOver lease)) }
  heap_counted _ lease c f = heap_granted f.objects.memories.items lease c f

  -- The heap is counted, and the call ends with it, and with its memory where that was granted for it.
  abbrev pub count_heap_row : LeasedHeap H → PoolCore P H → Frame P H → Row (PoolCore P H) P H
  count_heap_row lease c f = heap_counted f.asked lease c f

  -- An object that is given back is counted off, and reset next.
  abbrev pub uncount_object_row : Object P → PoolCore P H → Frame P H → Row (PoolCore P H) P H
  uncount_object_row (object.Memory lease) c f = record { part = counting_memories (c.counters.memories - 1) c; frame = f; turn = goes (Reset (object.Memory lease)) }
  uncount_object_row (object.Table lease) c f = record { part = counting_tables (c.counters.tables - 1) c; frame = f; turn = goes (Reset (object.Table lease)) }
  uncount_object_row (object.Stack lease) c f = record { part = counting_stacks (c.counters.stacks - 1) c; frame = f; turn = goes (Reset (object.Stack lease)) }

  -- The heap is counted off, and comes back to its slot next. The memory that was granted with it is given back after it.
  abbrev pub uncount_heap_row : LeasedHeap H → Option Lease → PoolCore P H → Frame P H → Row (PoolCore P H) P H
  uncount_heap_row lease memory c f = record { part = counting_heaps (c.counters.gc_heaps - 1) c; frame = f; turn = goes (PutHeap lease memory) }

  -- After a reset: the local queue is flushed where it has no range or a batch of them, and else appended to the home
  -- queue.
  abbrev pub reset_turn : ℕ → Queue → Turn P H
  reset_turn batch local = if (length local.ranges == 0) || nat_le batch (length local.ranges) then flush else goes Merge

  -- A memory's slot after its reset: queued with the ranges that it leaves, or put back as unknown after a fault.
  abbrev pub was_reset : Bool → Slot → Lease → PoolCore P H → Frame P H → Row (PoolCore P H) P H
  was_reset true held lease c f = record { part = c; frame = f; turn = goes (PutBack (slot_taken lease) (Unknown (forgotten held))) }
  was_reset false held lease c f =
      let local : Queue = reset_into c.settings.dirty_pages c.settings.keep_resident.bytes (slot_taken lease) (slot_of lease.memory) f.local in
      record { part = c; frame = record f { local = local }; turn = reset_turn c.settings.batch local }

  -- A table is reset by hand and queued with the ranges that it leaves.
  abbrev pub table_reset_row : LeasedTable → PoolCore P H → Frame P H → Row (PoolCore P H) P H
  table_reset_row lease c f =
      let local : Queue = table_reset_into c.settings lease f.local in
      record { part = c; frame = record f { local = local }; turn = reset_turn c.settings.batch local }

  -- A stack is reset by hand where stacks are given back zeroed, and queued with the range that it leaves.
  abbrev pub stack_reset_row : LeasedStack → PoolCore P H → Frame P H → Row (PoolCore P H) P H
  stack_reset_row lease c f =
      let local : Queue = stack_reset c.settings.stack_keep_resident.bytes lease f.local in
      record { part = c; frame = record f { local = local }; turn = reset_turn c.settings.batch local }

  -- The reset of an object that is given back, by what it is.
  abbrev pub reset_row : StepGiven H → Object P → PoolCore P H → Frame P H → Row (PoolCore P H) P H
  reset_row g (object.Memory lease) c f = was_reset g.fault g.slot lease c f
  reset_row g (object.Table lease) c f = table_reset_row lease c f
  reset_row g (object.Stack lease) c f = stack_reset_row lease c f

  -- The instance is counted off, and the call ends with its answer.
  abbrev pub uncount_instance_row : PoolCore P H → Frame P H → Row (PoolCore P H) P H
  uncount_instance_row c f = record { part = counting_instances (c.counters.core_instances - 1) c; frame = f; turn = ends (answer_of f.ending) }

  -- The component breaks a rule and is refused at once, or is counted next.
  abbrev pub component_tested : Option Unsupported → PoolCore P H → Frame P H → Row (PoolCore P H) P H
  component_tested (Some rule) c f = refused_at_once (refusal.Unsupported rule) c f
  component_tested None c f = record { part = c; frame = f; turn = goes CountComponent }

  -- A component that breaks a rule is refused at once; else it is counted next.
  abbrev pub validate_component_row : ComponentInfo → PoolCore P H → Frame P H → Row (PoolCore P H) P H
  validate_component_row info c f = component_tested (component_refused c.settings info) c f

  -- The component is counted, or refused where there are too many. Its grant is that it is counted.
  abbrev pub component_counted : Bool → PoolCore P H → Frame P H → Row (PoolCore P H) P H
  component_counted true c f = record { part = counting_components (c.counters.component_instances + 1) c; frame = f; turn = ends (answer.Granted Component) }
  component_counted false c f = record { part = counting_components (c.counters.component_instances + 1) c; frame = failing (no_component_left c.settings) f; turn = goes UncountComponent }

  -- The component is counted, which is its grant, or refused where as many are counted as may be.
  abbrev pub count_component_row : PoolCore P H → Frame P H → Row (PoolCore P H) P H
  count_component_row c f = component_counted (nat_lt c.counters.component_instances c.settings.max_component_instances) c f

  -- The component is counted off, and the call ends with its answer.
  abbrev pub uncount_component_row : PoolCore P H → Frame P H → Row (PoolCore P H) P H
  uncount_component_row c f = record { part = counting_components (c.counters.component_instances - 1) c; frame = f; turn = ends (answer_of f.ending) }

  -- The ranges of one slot are decommitted, which leaves this queue.
  abbrev pub decommit_row : Queue → PoolCore P H → Frame P H → Row (PoolCore P H) P H
  decommit_row queue c f = record { part = c; frame = record f { local = queue }; turn = flush }

  -- The first slot of a kind goes back into its cell; where there is none, nothing happens.
  abbrev pub put_first : Option Queued → List Queued → PoolCore P H → Frame P H → Row (PoolCore P H) P H
  put_first None rest c f = record { part = c; frame = f; turn = goes Idle }
  put_first (Some m) rest c f = in_cell m.name c (put_region_on m rest (cell_named m.name c) f)

  -- The next queued slot of a kind goes back into its cell, and waits to be freed.
  abbrev pub put_region_row : SlotKind → PoolCore P H → Frame P H → Row (PoolCore P H) P H
  put_region_row kind c f = put_first (first_of_kind kind f.local.slots) (others_of_kind kind f.local.slots) c f

  -- The next slot that has to be zeroed by hand is.
  abbrev pub zero_row : SlotKind → PoolCore P H → Frame P H → Row (PoolCore P H) P H
  zero_row kind c f = record { part = c; frame = record f { local = record f.local { slots = first_zeroed kind f.local.slots } }; turn = flush }

  -- The slots that wait for one shard are freed there, in order.
  abbrev pub free_row : PoolCore P H → Frame P H → Row (PoolCore P H) P H
  free_row c f = let place : ℕ = first_shard c.plan f.freed.items in in_shard place c (free_on c.plan place (shard_at place c) f)

  -- The rows of a flush, by which part of it is next.
  abbrev pub flush_row : FlushStep → Queue → PoolCore P H → Frame P H → Row (PoolCore P H) P H
  flush_row run queue c f = decommit_row queue c f
  flush_row (zero kind) queue c f = zero_row kind c f
  flush_row (put kind) queue c f = put_region_row kind c f
  flush_row free queue c f = free_row c f

-- The table.
module _ {P H : Type 0} where
  -- The step table, by phases: each row leaves one part of the pool changed at most.
  abbrev pub row_of : StepGiven H → Phase P H → PoolCore P H → Frame P H → Row (PoolCore P H) P H
  row_of g Idle c f = record { part = c; frame = f; turn = stays }
  row_of g Key c f = key_row c f
  row_of g Validate c f = validate_row g.wants c f
  row_of g TestStack c f = test_stack_row c f
  row_of g TestHeap c f = test_heap_row g.wants c f
  row_of g CountInstance c f = count_instance_row c f
  row_of g (Pick tried) c f = let place : ℕ = shard_tried tried c.plan f in in_shard place c (pick_on c.plan tried (shard_at place c) f)
  row_of g TakeQueue c f = let place : ℕ = queue_tried f.queues c.plan f in in_queue place c (take_queue_on c.plan (queue_at place c) f)
  row_of g (TakeRegion name) c f = in_cell name c (take_region_on c.settings name (cell_named name c) f)
  row_of g (Empty at held) c f = empty_row g.fault g.slot at c f
  row_of g (Instantiate at held) c f = instantiate_row g.fault g.slot at c f
  row_of g (MakeMemory at held) c f = make_memory_row g.limiter at held c f
  row_of g (MakeTable at region) c f = make_table_row g.limiter at region c f
  row_of g (CountObject held) c f = count_object_row held c f
  row_of g (TakeHeap name) c f = in_heaps c (take_heap_on name (heaps_at c) f)
  row_of g (MakeHeap at) c f = make_heap_row g.heap at c f
  row_of g (CountHeap lease) c f = count_heap_row lease c f
  row_of g (PutNoHeap at) c f = in_heaps c (put_heap_on at.name.slot None (FreeOne at.name) (heaps_at c) f)
  row_of g (PutBack at held) c f = in_cell at.name c (put_back_on at.name (cell_of held) (cell_named at.name c) f)
  row_of g (FreeOne name) c f = let place : ℕ = (home_of c.plan name).place in in_shard place c (free_one_on c.plan name (shard_at place c) f)
  row_of g (UncountObject held) c f = uncount_object_row held c f
  row_of g (UncountHeap lease memory) c f = uncount_heap_row lease memory c f
  row_of g (PutHeap lease memory) c f = in_heaps c (put_heap_on lease.index (Some lease.heap) (heap_freed (heap_slot lease.index) memory) (heaps_at c) f)
  row_of g (FreeHeap name memory) c f = let place : ℕ = (home_of c.plan name).place in in_shard place c (free_heap_on c.plan name memory (shard_at place c) f)
  row_of g (Reset held) c f = reset_row g held c f
  row_of g Merge c f = let place : ℕ = queue_tried 0 c.plan f in in_queue place c (merge_on c.settings (queue_at place c) f)
  row_of g Flush c f = flush_row (flush_step f.local f.freed.items) g.queue c f
  row_of g UncountInstance c f = uncount_instance_row c f
  row_of g (ValidateComponent info) c f = validate_component_row info c f
  row_of g CountComponent c f = count_component_row c f
  row_of g UncountComponent c f = uncount_component_row c f
  row_of g (Purge p step) c f = purge_row g p step c f
  row_of g (Release step) c f = release_row g step c f

  -- A step takes the phase out of the frame, and makes its row with what the phase has.
  abbrev pub row : StepGiven H → PoolCore P H → Frame P H → After P H
  row g c f = stepped (row_of g f.phase c (record f { phase = Idle }))

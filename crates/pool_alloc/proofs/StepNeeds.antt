-- What the code of a step needs follows of what holds between steps, and what a step leaves is as its row shows.
use Rattle.std.proofs.Common.{◌≡◌, ℕ, ◌+◌, ◌<◌, ◌≤◌, true, false, length, get_or, refl, sym, ap, subst, ◌∙◌, arith, Option, Some, None, List, Result, Ok, Err, Bool, IfSome, IsSome, is_some, nat_lt, slice_get}
use Rattle.pool_alloc.proofs.Imports.{refused_limits, length_push, told_both, told_weaker, rounded_same, HeapMakeFault, of_kind, heap_slot, IsHere, IsOut, heap_in, Queued, Queue, first_of_kind, others_of_kind, QueuedRange, Told, SlotKind, memory_kind, table_kind, stack_kind, heap_kind, cell_of, Cell, unmapped, unknown, previously_used, taken, IsCleanOnceUsed, home_of, SlotName, Plan, MakerTold, minimum_byte_size, Image, Slot, SlotIdentity, FitsInto, image_slot_of, All-weaker}
use Rattle.pool_alloc.specs.declared.frame.Object.{Object}
use Rattle.pool_alloc.specs.declared.frame.TakenSlot.{TakenSlot}
use Rattle.pool_alloc.specs.Leases.{Lease}
use Rattle.pool_alloc.specs.TableLeases.{LeasedTable}
use Rattle.pool_alloc.specs.declared.leases.instance.InstanceLease.{InstanceLease}
use Rattle.pool_alloc.proofs.SumsBelow.{queued_cells}
use Rattle.pool_alloc.proofs.SlotCounts.{slot_once}
use Rattle.pool_alloc.proofs.HeapSlots.{heap_name, heap_inside, takes_memory, memories_first, taken_is_home, no_heap_is_away, heap_back_is_away}
use Rattle.pool_alloc.proofs.HeapRows.{test_heap_ready, take_heap_ready, make_heap_ready, count_heap_ready, put_no_heap_ready, uncount_heap_ready, put_heap_ready, free_heap_ready}
use Rattle.pool_alloc.proofs.TableRegions.{bytes_within, type_enough, table_room, its_len}
use Rattle.pool_alloc.specs.TableSteps.{table_bytes}
use Rattle.pool_alloc.specs.PoolTables.{IsTableLease}
use Rattle.pool_alloc.specs.Modules.{IfTable}
use Rattle.pool_alloc.specs.Freeing.{HasHome, CanBeFreed}
use Rattle.pool_alloc.specs.declared.frame.Object.TheVariants.{Memory, Table, Stack}
use Rattle.pool_alloc.proofs.PlanPlaces.{tried_is_shard, tried_is_queue, cell_inside, has_home, home_place, IsQueuePlace, queues_all, allocator_is}
use Rattle.pool_alloc.specs.PartyTold.{PartyTold}
use Rattle.pool_alloc.specs.PageCallAnswers.{MayBeTold, AsksOf, MakesOf}
use Rattle.pool_alloc.specs.StepBounds.{sizes_of, steps_at, steps_left}
use Rattle.pool_alloc.specs.Calls.{IsGrantOf, IfGranted}
use Rattle.pool_alloc.specs.CanStep.{CanKeepMemory, CanKeepTable, CanStepAt, CanFlush, HasNext, CanBegin, CanMake, CanPlace, CanTryQueue, HasTableNext, CanMakeTable}
use Rattle.pool_alloc.specs.StepTable.{FlushStep, run, zero, put, free, flush_step, component_counted, row_of, heap_next, make_heap_row, flush_row, put_first, count_object_row, memory_kept, memory_turn, table_kept, table_turn}
use Rattle.pool_alloc.specs.Searches.{IsSearched}
use Rattle.pool_alloc.specs.BetweenSteps.{IsPoolSlot, HasCells, IsSlotName, MayHold, IsCore, IsFrame, IsSettings, IsAllocating, IsSupported, HasSlot, HasBegun, IsFreedOf, HasTable, IsMemoryNext, IsTableNext, IsShapedAt, IsHeapName, IsQueuedOf}
use Rattle.pool_alloc.specs.Objects.{objects_in}
use Rattle.pool_alloc.specs.declared.frame.Ending.{Ending}
use Rattle.pool_alloc.specs.declared.frame.Ending.TheVariants.{Granted as granted, Returned as returned, Refused as refused}
use Rattle.pool_alloc.specs.CallStages.{GoesOn, stage_by, stage_back, stage_of_release, stage_at}
use Rattle.pool_alloc.specs.declared.release.ReleaseStep.{ReleaseStep}
use Rattle.pool_alloc.specs.declared.release.ReleaseStep.TheVariants as releasing_step
use Rattle.pool_alloc.specs.StepReads.{StepGiven, memories_wanted, images_wanted, image_wanted, queue_tried, first_shard, shard_tried, tables_wanted, singles_wanted, memories_kept, tables_kept, kind_next, IsModule, HasMemories, HasTables, IsForObjects, heaps_at}
use Rattle.pool_alloc.specs.Stepping.{CanStep, CanCount, StepsTo, Conserves, EndsWith, IsSameSize, is_idle}
use Rattle.pool_alloc.specs.Turns.{next, After, stepped, finished, after, is_granting}
use Rattle.pool_alloc.specs.declared.pool_core.PoolCore.{PoolCore}
use Rattle.pool_alloc.specs.declared.pool_core.Settings.{Settings}
use Rattle.pool_alloc.specs.declared.frame.Frame.{Frame}
use Rattle.pool_alloc.specs.declared.frame.Asked.{Asked}
use Rattle.pool_alloc.specs.declared.frame.Asked.TheVariants.{Module as module_asked, Memory as memory_asked, Table as table_asked, Stack as stack_asked, Heap as heap_asked, HeapOver as heap_over_asked}
use Rattle.pool_alloc.specs.PoolStacks.{IsStackLease}
use Rattle.pool_alloc.proofs.StackRegions.{stack_page, stack_small}
use Rattle.pool_alloc.specs.declared.frame.Phase.{Phase}
use Rattle.pool_alloc.specs.declared.frame.Phase.TheVariants.{Idle, Key, Validate, TestStack, CountInstance, Pick, TakeQueue, TakeRegion, Empty, Instantiate, MakeMemory, MakeTable, CountObject, PutBack, FreeOne, UncountObject, Reset, Merge, Flush, UncountInstance, ValidateComponent, CountComponent, UncountComponent, TestHeap, TakeHeap, MakeHeap, CountHeap, PutNoHeap, UncountHeap, PutHeap, FreeHeap, Purge, Release}
use Rattle.pool_alloc.proofs.RowsUntilASlot.{key_ready, validate_ready, test_stack_ready, count_instance_ready, pick_ready, take_queue_ready}
use Rattle.pool_alloc.proofs.ComponentRows.{validate_component_ready, count_component_ready, uncount_component_ready}
use Rattle.pool_alloc.proofs.FramesStayFit.{fits_after}
use Rattle.pool_alloc.proofs.BeforeTheTurn.{MayEnd, counts_one, in_phase, IsReadyRow, RowOk, goes_ok, ends_ok, row_ok, CountsNone, Ready, kept_of}
use Rattle.pool_alloc.proofs.SlotIdentity.{region_page}
use Rattle.pool_alloc.proofs.RowsWithASlot.{region_is_fresh, take_region_ready, empty_ready, instantiate_ready, make_memory_ready, count_object_ready, put_back_ready, free_one_ready, make_table_ready}
use Rattle.pool_alloc.proofs.FlushFinds.{Finds, finds, put_some}
use Rattle.pool_alloc.proofs.ReturnRows.{first_freed, uncount_object_ready, reset_ready, merge_ready, uncount_instance_ready, flush_ready, first_of_all}
use Rattle.pool_alloc.proofs.SlotsOfFrames.{unit_once}
use Rattle.pool_alloc.proofs.OwnRegions.{queued_awaited, region_awaited}
use Rattle.pool_alloc.proofs.PhaseSlots.{phase_gone}
use Rattle.pool_alloc.proofs.PhaseFacts.{local_is_spare, picked_is_home, back_is_used, local_is_apart, home_has_room, first_can_be_put, first_can_be_freed}
use Rattle.pool_alloc.proofs.PoolParts.{shard_part, cell_part, queue_part, sound_queue, heaps_part, heaps_long}
use Rattle.pool_alloc.proofs.PurgeRows.{purge_ready}
use Rattle.pool_alloc.proofs.ReleaseRows.{release_ready}
use Rattle.pool_alloc.proofs.SweepNeeds.{placed_of, can_purge, can_release, can_free_of}
use Rattle.pool_alloc.specs.Places.{counted_instance, counted_component, counted_object, only}
use Rattle.pool_alloc.proofs.Weights.{counted_fits}

some_of : {X : Type 0} (o : Option X) → is_some o ≡ true → IsSome o
some_of None e = absurd cc
some_of (Some x) e = refl

some_asked : (o : Asked) (n : ℕ) → n < length (memories_wanted o) → HasMemories o
some_asked (module_asked m) n below = tt
some_asked (memory_asked m) n below = tt
some_asked (heap_asked ty) n below = tt
some_asked o n below = absurd (omega (arith, below))

some_table : (o : Asked) (n : ℕ) → n < length (tables_wanted o) → HasTables o
some_table (module_asked m) n below = tt
some_table (table_asked ty) n below = tt
some_table o n below = absurd (omega (arith, below))

-- there is room for a memory that is next, unless it is granted at once; and for a table
can_keep_memory : {P : Type 0} (o : Asked) (objects : InstanceLease P) → length objects.memories.items < length (memories_wanted o) → memories_kept o ≤ objects.memories.room → CanKeepMemory o objects
can_keep_memory (memory_asked m) objects more room = tt
can_keep_memory o objects more room = omega (arith, more, room)

can_keep_table : {P : Type 0} (o : Asked) (objects : InstanceLease P) → length objects.tables.items < length (tables_wanted o) → tables_kept o ≤ objects.tables.room → CanKeepTable o objects
can_keep_table (table_asked ty) objects more room = tt
can_keep_table o objects more room = omega (arith, more, room)

fits_region : (page other initial : ℕ) (o : Option Image) → other ≡ page → IfSome o (FitsInto page initial) → IfSome o (FitsInto other initial)
fits_region page other initial o e fits =
    let F : ℕ → Type 0 = λ n. IfSome o (FitsInto n initial) in
    subst F (sym e) fits

-- the page of a slot of the pool
page_of_slot : (maker : MakerTold) (s : Settings) (i : ℕ) (held : Slot) → s.page ≡ maker.page → IsPoolSlot maker s i held → held.region.page ≡ s.page
page_of_slot maker s i held page of = ap (λ (z : SlotIdentity). z.page) of.same ∙ region_page maker s i ∙ sym page

-- and its size
size_of_slot : (maker : MakerTold) (s : Settings) (i : ℕ) (held : Slot) → IsPoolSlot maker s i held → held.static_size ≡ s.max_memory_size
size_of_slot maker s i held of = ap (λ (z : SlotIdentity). z.static_size) of.same

-- what a cell may hold is clean where it was used before
clean_in : (maker : MakerTold) (s : Settings) (i : ℕ) (held : Cell) → MayHold maker s memory_kind i held → IsCleanOnceUsed held
clean_in maker s i (unmapped region) holds = tt
clean_in maker s i (unknown slot) holds = tt
clean_in maker s i (previously_used slot) holds = holds.1
clean_in maker s i taken holds = tt

clean_in_table : (maker : MakerTold) (s : Settings) (i : ℕ) (held : Cell) → MayHold maker s table_kind i held → IsCleanOnceUsed held
clean_in_table maker s i (unmapped region) holds = tt
clean_in_table maker s i (unknown slot) holds = tt
clean_in_table maker s i (previously_used slot) holds = absurd holds
clean_in_table maker s i taken holds = tt

clean_in_stack : (maker : MakerTold) (s : Settings) (i : ℕ) (held : Cell) → MayHold maker s stack_kind i held → IsCleanOnceUsed held
clean_in_stack maker s i (unmapped region) holds = tt
clean_in_stack maker s i (unknown slot) holds = tt
clean_in_stack maker s i (previously_used slot) holds = absurd holds
clean_in_stack maker s i taken holds = tt

clean_held : (maker : MakerTold) (s : Settings) (kind : SlotKind) (i : ℕ) (held : Cell) → HasCells kind → MayHold maker s kind i held → IsCleanOnceUsed held
clean_held maker s memory_kind i held pooled holds = clean_in maker s i held holds
clean_held maker s table_kind i held pooled holds = clean_in_table maker s i held holds
clean_held maker s stack_kind i held pooled holds = clean_in_stack maker s i held holds
clean_held maker s heap_kind i held pooled holds = absurd pooled

module _ {P H : Type 0} where
  has_next : (s : Settings) (plan : Plan) (f : Frame P H) → IsAllocating s plan f → IsMemoryNext f → HasNext f.asked (length f.objects.memories.items)
  has_next s plan f allocating more = record {
    asked = some_asked f.asked (length f.objects.memories.items) more;
    images = allocating.to_grant.images;
    small = omega (arith, more, allocating.to_grant.supported.few);
    more = more;
  }

  has_table_next : (s : Settings) (plan : Plan) (f : Frame P H) → IsAllocating s plan f → IsTableNext f → HasTableNext f.asked (length f.objects.tables.items)
  has_table_next s plan f allocating table =
      let more : length f.objects.tables.items < length (tables_wanted f.asked) = omega (arith, allocating.more, allocating.to_grant.few, (kept_of f.asked).memories, table.0, table.1) in
      record { asked = some_table f.asked (length f.objects.tables.items) more; more = more }

  can_make_table : (maker : MakerTold) (s : Settings) (plan : Plan) (name : SlotName) (region : Told) (f : Frame P H) → IsSettings s → IsAllocating s plan f → HasTable maker s plan name region → IfTable f (CanMakeTable s region)
  can_make_table maker s plan name region f settings allocating has =
      told_weaker (λ ty. refused_limits ty.limits ≡ None) (CanMakeTable s region) (slice_get (tables_wanted f.asked) (length f.objects.tables.items))
      (λ ty is.
      let within : table_bytes s ty ≤ region.len = omega (arith, bytes_within s ty, its_len maker s name.slot region has.region.slot) in
      record { limits = type_enough s ty settings is; inside = within; zeros = table_room maker s name.slot (table_bytes s ty) region has.region within })
      (allocating.to_grant.limits (length f.objects.tables.items))

  can_begin : (maker : MakerTold) (s : Settings) (plan : Plan) (name : SlotName) (held : Slot) (f : Frame P H) → s.page ≡ maker.page → IsSettings s → IsAllocating s plan f → HasSlot maker s plan name held → IfSome (slice_get (memories_wanted f.asked) (length f.objects.memories.items)) (CanBegin held (image_wanted f))
  can_begin maker s plan name held f page settings allocating has =
      let sized : held.static_size ≡ s.max_memory_size = size_of_slot maker s name.slot held has.region in
      told_weaker (λ decl. IsSupported s decl (image_wanted f)) (CanBegin held (image_wanted f)) (slice_get (memories_wanted f.asked) (length f.objects.memories.items))
      (λ decl is. record {
        page_log2 = is.page_log2;
        minimum = rw sized is.minimum;
        bounded = omega (arith, sized, settings.bounded, settings.page.at_least);
        image_fits = fits_region s.page held.region.page (minimum_byte_size decl.ty) (image_wanted f) (page_of_slot maker s name.slot held page has.region) is.image_fits;
      })
      (allocating.to_grant.supported.each (length f.objects.memories.items))

  can_make : (maker : MakerTold) (s : Settings) (plan : Plan) (name : SlotName) (held : Slot) (f : Frame P H) → s.page ≡ maker.page → IsSettings s → IsAllocating s plan f → HasSlot maker s plan name held → IfSome (slice_get (memories_wanted f.asked) (length f.objects.memories.items)) (HasBegun (image_wanted f) held) → IfSome (slice_get (memories_wanted f.asked) (length f.objects.memories.items)) (CanMake s held)
  can_make maker s plan name held f page settings allocating has begun =
      let paged : held.region.page ≡ s.page = page_of_slot maker s name.slot held page has.region in
      told_both (λ decl. IsSupported s decl (image_wanted f)) (HasBegun (image_wanted f) held) (CanMake s held) (slice_get (memories_wanted f.asked) (length f.objects.memories.items))
      (λ decl is begins. record {
        page_log2 = is.page_log2;
        limits = is.limits;
        slot = λ represented. begins.holds;
        room = rw paged (omega (arith, rounded_same s.page s.max_memory_size (omega (arith, settings.page.at_least)) settings.whole, size_of_slot maker s name.slot held has.region));
      })
      (allocating.to_grant.supported.each (length f.objects.memories.items)) begun

  can_place : (maker : MakerTold) (name : SlotName) (c : PoolCore P H) → IsCore maker c → IsSlotName c.plan name → CanPlace c.plan name
  can_place maker name c core named = omega (arith, cell_inside c.plan (length c.parts) name core.plan named, core.plan.small)

  pub can_try_queue : (maker : MakerTold) (c : PoolCore P H) → IsCore maker c → CanTryQueue c.plan
  can_try_queue maker c core = record {
    some = core.plan.queues;
    few = omega (arith, queues_all c.plan, core.plan.planned.inside.1.1.1.0, core.plan.small);
    placed = omega (arith, core.plan.planned.inside.1.1.1.0, core.plan.small);
  }

  can_find_home : (maker : MakerTold) (name : SlotName) (c : PoolCore P H) → IsCore maker c → name.slot < of_kind name.kind c.plan.totals → HasHome c.plan name
  can_find_home maker name c core inside = record { placed = placed_of c.plan (length c.parts) name.kind core.plan; has = has_home c.plan (length c.parts) name core.plan inside }

  can_flush : (maker : MakerTold) (step : FlushStep) (c : PoolCore P H) (f : Frame P H) → CanStep maker c (in_phase Flush f) → Finds step f.local f.freed.items → CanFlush step c (in_phase Flush f)
  can_flush maker run c f can found = (found, can.frame.queue.owners)
  can_flush maker (zero kind) c f can found = found.0
  can_flush maker (put kind) c f can found = (
    λ m is.
        let queued = first_of_all (IsQueuedOf maker c.settings) kind m f.local.slots is can.frame.queue.regions in
        let gone = first_can_be_put maker c f kind m can.core can.fits (queued_cells maker c.settings m queued) is in
        (can_place maker m.name c can.core gone.named, cell_part maker m.name c can.core gone.named, queued_awaited maker m m.numbers c can.core gone queued),
    record { no_ranges = found.0; room = omega (arith, can.frame.freed_room.0, can.frame.freed_room.1, put_some kind f.local.slots f.freed.items found.1) },
  )
  can_flush maker free c f can found =
      let first = first_can_be_freed maker c f can (first_freed maker c f can found.1).some in
      (shard_part maker (first_shard c.plan f.freed.items) c can.core first.shard, record { used = first.used; each = All-weaker (IsFreedOf c.plan) (CanBeFreed c.plan) (λ x of. record { home = can_find_home maker x.name c can.core of.named.inside; bytes = of.bytes }) f.freed.items can.frame.freed_each })

  taken_here : (maker : MakerTold) (name : SlotName) (c : PoolCore P H) (f : Frame P H) → CanStep maker c (in_phase (TakeHeap name) f) → IsHeapName c.plan name → IsHere name.slot (heaps_at c)
  taken_here maker name c f can named =
      let T : SlotName → Type 0 = λ n. CanStep maker c (in_phase (TakeHeap n) f) → IsHere name.slot (heaps_at c) in
      let its : T (heap_slot name.slot) = λ takes. taken_is_home maker name.slot c f takes.core takes.fits named.inside in
      subst T (sym (heap_name c.plan name named)) its can

  put_out : (maker : MakerTold) (at : TakenSlot) (c : PoolCore P H) (f : Frame P H) → CanStep maker c (in_phase (PutNoHeap at) f) → IsHeapName c.plan at.name → IsOut at.name.slot (heaps_at c)
  put_out maker at c f can named =
      let T : SlotName → Type 0 = λ n. CanStep maker c (in_phase (PutNoHeap (record { name = n; numbers = at.numbers })) f) → IsOut at.name.slot (heaps_at c) in
      let its : T (heap_slot at.name.slot) = λ puts. (no_heap_is_away maker at.name.slot at.numbers c f puts.core puts.fits).out in
      subst T (sym (heap_name c.plan at.name named)) its can

  -- Just what the code of a step needs, phase by phase.
  can_at : (maker : MakerTold) (next : Phase P H) (c : PoolCore P H) (f : Frame P H) → CanStep maker c (in_phase next f) → CanCount c → CanStepAt next c (in_phase next f)
  can_at maker Idle c f can counts = tt
  can_at maker Key c f can counts = (can.core.plan.stripes, can.core.plan.few)
  can_at maker Validate c f can counts =
      λ k. told_weaker (λ decl. (decl.ty.page_size_log2 < 64) × IfSome (get_or (images_wanted f.asked) k None) (FitsInto c.settings.page (minimum_byte_size decl.ty))) (λ decl. decl.ty.page_size_log2 < 64) (slice_get (memories_wanted f.asked) k) (λ decl of. of.0) (can.frame.shape.2.each k)
  can_at maker TestStack c f can counts = tt
  can_at maker TestHeap c f can counts = can.frame.shape.1.2
  can_at maker (TakeHeap name) c f can counts =
      let named : IsHeapName c.plan name = can.frame.shape.2 in
      let some : 0 < c.plan.totals.heap = omega (arith, named.inside) in
      record {
        list = heaps_part maker c can.core some;
        inside = omega (arith, named.inside, heaps_long maker c can.core some);
        here = taken_here maker name c f can named;
      }
  can_at maker (MakeHeap at) c f can counts = tt
  can_at maker (CountHeap lease) c f can counts = (omega (arith, counts (counted_object heap_kind)), takes_memory f.asked f.objects can.frame.shape.4.1 can.frame.shape.4.0)
  can_at maker (PutNoHeap at) c f can counts =
      let named : IsHeapName c.plan at.name = can.frame.shape.2 in
      record { list = heaps_part maker c can.core (omega (arith, named.inside)); out = put_out maker at c f can named }
  can_at maker (UncountHeap lease memory) c f can counts = omega (arith, counted_fits c (in_phase (UncountHeap lease memory) f) can.fits (only (counted_object heap_kind)))
  can_at maker (PutHeap lease memory) c f can counts = record { list = heaps_part maker c can.core (omega (arith, can.frame.shape.2)); out = (heap_back_is_away maker lease memory c f can.core can.fits).out }
  can_at maker (FreeHeap name memory) c f can counts = can_free_of maker name (FreeHeap name memory) c f can (heap_inside c.plan name can.frame.shape.2) (omega (arith, slot_once name))
  can_at maker CountInstance c f can counts = omega (arith, counts counted_instance)
  can_at maker (Pick tried) c f can counts = (record { memories = can.frame.stripe; tables = can.core.plan.tables; stacks = can.core.plan.stacks; heaps = can.core.plan.heaps }, record { inside = can.frame.shape.2; placed = (allocator_is c.plan (length c.parts) (kind_next f) f.stripe can.core.plan can.frame.stripe).placed }, shard_part maker (shard_tried tried c.plan f) c can.core (tried_is_shard tried c.plan (length c.parts) f can.core.plan can.frame.stripe), omega (arith, can.frame.shape.1.to_grant.few, (kept_of f.asked).memories, can.frame.shape.1.to_grant.supported.few))
  can_at maker TakeQueue c f can counts =
      let settled = can.frame.shape.0 in
      let i : ℕ = queue_tried f.queues c.plan f in
      (can.frame.shape.2, record { memories = can.frame.stripe; tables = can.core.plan.tables; stacks = can.core.plan.stacks; heaps = can.core.plan.heaps }, can_try_queue maker c can.core, queue_part maker i c can.core (tried_is_queue f.queues c.plan (length c.parts) f can.core.plan), local_is_spare maker i c (in_phase TakeQueue f) can.core can.frame (tried_is_queue f.queues c.plan (length c.parts) f can.core.plan) settled.no_ranges settled.no_slots)
  can_at maker (TakeRegion name) c f can counts =
      let named : IsSlotName c.plan name = can.frame.shape.2 in
      (can_place maker name c can.core named, cell_part maker name c can.core named, record { there = picked_is_home maker name c f named.cells can.core can.fits; fresh = region_is_fresh maker name c can.core named })
  can_at maker (Empty slot held) c f can counts = tt
  can_at maker (Instantiate slot held) c f can counts =
      (has_next c.settings c.plan (in_phase (Instantiate slot held) f) can.frame.shape.1 can.frame.shape.4, can.frame.shape.3, can_begin maker c.settings c.plan slot.name held (in_phase (Instantiate slot held) f) can.core.page can.core.settings can.frame.shape.1 can.frame.shape.2)
  can_at maker (MakeMemory slot held) c f can counts =
      (has_next c.settings c.plan (in_phase (MakeMemory slot held) f) can.frame.shape.1 can.frame.shape.4, can_make maker c.settings c.plan slot.name held (in_phase (MakeMemory slot held) f) can.core.page can.core.settings can.frame.shape.1 can.frame.shape.2 can.frame.shape.3)
  can_at maker (MakeTable slot region) c f can counts =
      (has_table_next c.settings c.plan (in_phase (MakeTable slot region) f) can.frame.shape.1 can.frame.shape.3, can_make_table maker c.settings c.plan slot.name region (in_phase (MakeTable slot region) f) can.core.settings can.frame.shape.1 can.frame.shape.2)
  can_at maker (CountObject (Memory lease)) c f can counts = (omega (arith, counts (counted_object memory_kind)), can_keep_memory f.asked f.objects can.frame.shape.4 can.frame.shape.1.to_grant.room)
  can_at maker (CountObject (Table lease)) c f can counts = (
    omega (arith, counts (counted_object table_kind)),
    can_keep_table f.asked f.objects (omega (arith, can.frame.shape.1.more, can.frame.shape.4.0, can.frame.shape.4.1, can.frame.shape.1.to_grant.few, (kept_of f.asked).memories)) can.frame.shape.1.to_grant.table_room,
  )
  can_at maker (CountObject (Stack lease)) c f can counts = omega (arith, counts (counted_object stack_kind))
  can_at maker (PutBack at held) c f can counts =
      let region = can.frame.shape.2 in
      let gone = phase_gone maker (PutBack at held) at.name c f can.core can.fits at.numbers region.named.cells (omega (arith, unit_once at.name at.numbers)) in
      (can_place maker at.name c can.core region.named, cell_part maker at.name c can.core region.named, clean_held maker c.settings at.name.kind at.name.slot (cell_of held) region.named.cells region.holds, region_awaited maker at.name at.numbers (cell_of held) c can.core gone region)
  can_at maker (FreeOne name) c f can counts = (
    shard_part maker (home_of c.plan name).place c can.core (home_place c.plan (length c.parts) name can.core.plan can.frame.shape.2),
    record {
      home = can_find_home maker name c can.core can.frame.shape.2;
      used = some_of _ (back_is_used maker name c f can);
    },
  )
  can_at maker (UncountObject (Memory lease)) c f can counts = omega (arith, counted_fits c (in_phase (UncountObject (Memory lease)) f) can.fits (only (counted_object memory_kind)))
  can_at maker (UncountObject (Table lease)) c f can counts = omega (arith, counted_fits c (in_phase (UncountObject (Table lease)) f) can.fits (only (counted_object table_kind)))
  can_at maker (UncountObject (Stack lease)) c f can counts = omega (arith, counted_fits c (in_phase (UncountObject (Stack lease)) f) can.fits (only (counted_object stack_kind)))
  can_at maker (Reset (Memory lease)) c f can counts =
      let settled = can.frame.shape.0 in
      record {
        page = can.core.settings.keep_page ∙ sym (page_of_slot maker c.settings lease.index (image_slot_of lease.memory) can.core.page can.frame.shape.2.slot);
        kept = can.core.settings.kept;
        no_ranges = settled.no_ranges;
        no_slots = settled.no_slots;
        owners = can.frame.queue.owners;
        range_room = omega (arith, can.frame.queue.range_room, can.core.settings.batch.0);
        slot_room = omega (arith, can.frame.queue.slot_room, can.core.settings.batch.0);
      }
  can_at maker (Reset (Table lease)) c f can counts =
      let settled = can.frame.shape.0 in
      let held : IsTableLease maker c.settings c.plan lease = can.frame.shape.2 in
      record {
        page = can.core.settings.table_keep_page;
        region = (held.region, held.lies);
        room = record {
          ranges = omega (arith, can.frame.queue.range_room, can.core.settings.batch.0, ap (length {A = QueuedRange}) settled.no_ranges);
          slots = omega (arith, can.frame.queue.slot_room, can.core.settings.batch.0, ap (length {A = Queued}) settled.no_slots);
          owners = can.frame.queue.owners;
          not_held = rw settled.no_slots refl;
        };
      }
  can_at maker (Reset (Stack lease)) c f can counts =
      let settled = can.frame.shape.0 in
      let held : IsStackLease maker c.settings c.plan lease = can.frame.shape.2 in
      record {
        page = can.core.settings.stack_keep_page ∙ sym (stack_page maker c.settings lease.stack.index lease.stack.slot can.core.page held.slot);
        plain = held.plain;
        few = stack_small maker c.settings lease.stack.index lease.stack.slot can.core.settings held.slot;
        room = record {
          ranges = omega (arith, can.frame.queue.range_room, can.core.settings.batch.0, ap (length {A = QueuedRange}) settled.no_ranges);
          slots = omega (arith, can.frame.queue.slot_room, can.core.settings.batch.0, ap (length {A = Queued}) settled.no_slots);
          owners = can.frame.queue.owners;
          not_held = rw settled.no_slots refl;
        };
      }
  can_at maker Merge c f can counts =
      let i : ℕ = queue_tried 0 c.plan f in
      let below : IsQueuePlace c.plan i = tried_is_queue 0 c.plan (length c.parts) f can.core.plan in
      let shared = sound_queue maker i c can.core below in
      let room = home_has_room maker c f can in (
        can_try_queue maker c can.core,
        queue_part maker i c can.core below,
        record {
          ranges = room.ranges;
          slots = room.slots;
          owners = shared.owners;
          local_owners = can.frame.queue.owners;
          apart = local_is_apart maker i c (in_phase Merge f) can.core can.fits below;
          range_room = can.frame.queue.range_room ∙ sym shared.range_room;
          slot_room = can.frame.queue.slot_room ∙ sym shared.slot_room;
          known = can.frame.shape.5;
        },
      )
  can_at maker Flush c f can counts = can_flush maker (flush_step f.local f.freed.items) c f can (finds f.local f.freed.items)
  can_at maker UncountInstance c f can counts = omega (arith, counted_fits c (in_phase UncountInstance f) can.fits (only counted_instance), counts_one f.asked can.frame.shape.2)
  can_at maker (ValidateComponent info) c f can counts = tt
  can_at maker CountComponent c f can counts = omega (arith, counts counted_component)
  can_at maker UncountComponent c f can counts = omega (arith, counted_fits c (in_phase UncountComponent f) can.fits (only counted_component))
  can_at maker (Purge p step) c f can counts = can_purge maker p step c f can
  can_at maker (Release step) c f can counts = can_release maker step c f can

  pub can_step_at : (maker : MakerTold) (c : PoolCore P H) (f : Frame P H) → CanStep maker c f → CanCount c → CanStepAt f.phase c f
  can_step_at maker c f can counts = can_at maker f.phase c f can counts

-- A call for a stack may end wherever it stands, and so may one for another object by itself that has nothing.
no_instance : (asked : Asked) → CountsNone asked → IsModule asked → ⊥
no_instance (module_asked m) none is = omega (arith, none)
no_instance asked none is = absurd is

may_by : (asked : Asked) (ending : Ending) (objects n : ℕ) → CountsNone asked → (objects ≡ 0 → n ≡ 0) → MayEnd objects (stage_by asked ending n)
may_by (memory_asked m) granted objects n none empty = empty
may_by (table_asked ty) granted objects n none empty = empty
may_by stack_asked granted objects n none empty = tt
may_by (heap_asked ty) granted objects n none empty = empty
may_by (heap_over_asked memory) granted objects n none empty = empty
may_by asked granted objects n none empty = absurd (omega (arith, none))
may_by asked returned objects n none empty = tt
may_by asked (refused e) objects n none empty = tt

may_back : (asked : Asked) (ending : Ending) (objects n : ℕ) → is_granting ending ≡ false → MayEnd objects (stage_by asked ending n)
may_back asked granted objects n back = absurd cc
may_back asked returned objects n back = tt
may_back asked (refused e) objects n back = tt

-- a call that counts no instance keeps no tables
no_tables_for : (asked : Asked) → CountsNone asked → tables_kept asked ≡ 0
no_tables_for (memory_asked m) none = refl
no_tables_for (table_asked ty) none = refl
no_tables_for stack_asked none = refl
no_tables_for (heap_asked ty) none = refl
no_tables_for (heap_over_asked memory) none = refl
no_tables_for asked none = absurd (omega (arith, none))

few_memories_for : (asked : Asked) → CountsNone asked → length (memories_wanted asked) ≤ 1
few_memories_for (memory_asked m) none = omega arith
few_memories_for (table_asked ty) none = omega arith
few_memories_for stack_asked none = omega arith
few_memories_for (heap_asked ty) none = omega arith
few_memories_for (heap_over_asked memory) none = omega arith
few_memories_for asked none = absurd (omega (arith, none))

-- one for neither a stack nor a heap is for one object
single_next : (asked : Asked) → CountsNone asked → IsForObjects asked → singles_wanted asked ≡ 1
single_next (memory_asked m) none one = refl
single_next (table_asked ty) none one = refl
single_next stack_asked none one = absurd (omega (arith, one.no_stack))
single_next (heap_asked ty) none one = absurd (omega (arith, one.no_heap))
single_next (heap_over_asked memory) none one = absurd (omega (arith, one.no_heap))
single_next asked none one = absurd (omega (arith, none))

module _ {P H : Type 0} where
  -- The objects of the frame are those of the row where its turn may end the call.
  flush_objects : (step : FlushStep) (queue : Queue) (c : PoolCore P H) (f : Frame P H) → (flush_row step queue c f).frame.objects ≡ f.objects
  flush_objects run queue c f = refl
  flush_objects (zero kind) queue c f = refl
  flush_objects (put kind) queue c f = put_objects (first_of_kind kind f.local.slots) (others_of_kind kind f.local.slots)
    where
      put_objects : (o : Option Queued) (rest : List Queued) → (put_first o rest c f).frame.objects ≡ f.objects
      put_objects None rest = refl
      put_objects (Some m) rest = refl
  flush_objects free queue c f = refl

  -- nothing is granted yet of a heap where its memory is next
  memory_first : (s : Settings) (plan : Plan) (f : Frame P H) → IsAllocating s plan f → IsMemoryNext f → CountsNone f.asked → objects_in f.objects ≡ 0
  memory_first s plan f allocating more none = omega (arith, more, few_memories_for f.asked none, allocating.to_grant.few_tables, no_tables_for f.asked none)

  -- (no row of the counting of an object or a component ends a call that way, nor does one that goes on with a heap)
  abbrev MayEndAt : Phase P H → Frame P H → ℕ → Type 0
  MayEndAt CountComponent f objects = Unit {0}
  MayEndAt (TakeHeap name) f objects = Unit {0}
  MayEndAt (MakeHeap at) f objects = Unit {0}
  MayEndAt (CountObject object) f objects = Unit {0}
  MayEndAt p f objects = MayEnd objects (stage_at p f.asked f.ending (objects_in f.objects))

  -- the objects of the row, where there may be fewer than the frame's
  abbrev HasObjects : Phase P H → Frame P H → ℕ → Type 0
  HasObjects (Pick tried) f objects = objects ≡ objects_in f.objects
  HasObjects TakeQueue f objects = objects ≡ objects_in f.objects
  HasObjects Flush f objects = objects ≡ objects_in f.objects
  HasObjects p f objects = Unit {0}

  may_end : (maker : MakerTold) (s : Settings) (plan : Plan) (p : Phase P H) (f : Frame P H) (objects : ℕ) → IsShapedAt maker s plan p (in_phase p f) → HasObjects p f objects → CountsNone f.asked → MayEndAt p f objects
  may_end maker s plan Idle f objects shape has none = tt
  may_end maker s plan Key f objects shape has none = tt
  may_end maker s plan Validate f objects shape has none = tt
  may_end maker s plan TestStack f objects shape has none = tt
  may_end maker s plan TestHeap f objects shape has none = tt
  may_end maker s plan CountInstance f objects shape has none = no_instance f.asked none shape.1.asked_for
  may_end maker s plan (Pick tried) f objects shape has none = may_by f.asked f.ending objects (objects_in f.objects) none (λ empty. omega (arith, empty, has))
  may_end maker s plan TakeQueue f objects shape has none = may_by f.asked f.ending objects (objects_in f.objects) none (λ empty. omega (arith, empty, has))
  may_end maker s plan Flush f objects shape has none = may_by f.asked f.ending objects (objects_in f.objects) none (λ empty. omega (arith, empty, has))
  may_end maker s plan (TakeRegion name) f objects shape has none = may_by f.asked f.ending objects (objects_in f.objects) none (λ empty. omega (arith, memories_first s plan (in_phase Idle f) shape.1 (subst HasCells shape.3 shape.2.cells) none, shape.1.to_grant.few_tables, no_tables_for f.asked none))
  may_end maker s plan (Empty at held) f objects shape has none = may_by f.asked f.ending objects (objects_in f.objects) none (λ empty. memory_first s plan f shape.1 shape.3 none)
  may_end maker s plan (Instantiate at held) f objects shape has none = may_by f.asked f.ending objects (objects_in f.objects) none (λ empty. memory_first s plan f shape.1 shape.4 none)
  may_end maker s plan (MakeMemory at held) f objects shape has none = may_by f.asked f.ending objects (objects_in f.objects) none (λ empty. memory_first s plan f shape.1 shape.4 none)
  may_end maker s plan (MakeTable at region) f objects shape has none = may_by f.asked f.ending objects (objects_in f.objects) none (λ empty. omega (arith, shape.1.to_grant.few, shape.1.to_grant.few_tables, (kept_of f.asked).single (single_next f.asked none shape.3.1)))
  may_end maker s plan (CountObject object) f objects shape has none = tt
  may_end maker s plan (TakeHeap name) f objects shape has none = tt
  may_end maker s plan (MakeHeap at) f objects shape has none = tt
  may_end maker s plan (CountHeap lease) f objects shape has none = tt
  may_end maker s plan (PutNoHeap at) f objects shape has none = may_back f.asked f.ending objects (objects_in f.objects) shape.1
  may_end maker s plan (PutBack at held) f objects shape has none = may_back f.asked f.ending objects (objects_in f.objects) shape.1
  may_end maker s plan (FreeOne name) f objects shape has none = may_back f.asked f.ending objects (objects_in f.objects) shape.1
  may_end maker s plan (UncountObject object) f objects shape has none = may_back f.asked f.ending objects (objects_in f.objects) shape.1
  may_end maker s plan (UncountHeap lease memory) f objects shape has none = may_back f.asked f.ending objects (objects_in f.objects) shape.1
  may_end maker s plan (PutHeap lease memory) f objects shape has none = may_back f.asked f.ending objects (objects_in f.objects) shape.1
  may_end maker s plan (FreeHeap name memory) f objects shape has none = may_back f.asked f.ending objects (objects_in f.objects) shape.1
  may_end maker s plan (Reset object) f objects shape has none = may_back f.asked f.ending objects (objects_in f.objects) shape.1
  may_end maker s plan Merge f objects shape has none = may_back f.asked f.ending objects (objects_in f.objects) shape.0
  may_end maker s plan UncountInstance f objects shape has none = may_back f.asked f.ending objects (objects_in f.objects) shape.1
  may_end maker s plan (ValidateComponent info) f objects shape has none = tt
  may_end maker s plan CountComponent f objects shape has none = tt
  may_end maker s plan (Purge p step) f objects shape has none = tt
  may_end maker s plan (Release step) f objects shape has none = release_ends step
    where
      release_ends : (x : ReleaseStep P) → MayEnd objects (stage_of_release x)
      release_ends releasing_step.Reserve = tt
      release_ends (releasing_step.TakeWarm r j) = tt
      release_ends (releasing_step.TakeRegion r k) = tt
      release_ends (releasing_step.Decommit r k at held) = tt
      release_ends (releasing_step.PutRegion r k at held) = tt
      release_ends (releasing_step.Free r x) = tt
  may_end maker s plan UncountComponent f objects shape has none = back_by f.ending
    where
      back_by : (x : Ending) → MayEnd objects (stage_back x)
      back_by granted = tt
      back_by returned = tt
      back_by (refused e) = tt

-- a step by a row of the table, over a limiter
module _ {P H : Type 0} (maker : MakerTold) (old new : PartyTold) where
  counted_ok : (d : PoolCore P H) (e : Frame P H) (b : Bool) (c : PoolCore P H) (f : Frame P H) → IsReadyRow maker old new d e (component_counted b c f) → RowOk maker old new d e (stepped (component_counted b c f))
  counted_ok d e true c f ready = ends_ok maker old new d e _ _ _ ready
  counted_ok d e false c f ready = goes_ok maker old new d e _ _ _ ready

  -- a row that goes on with a heap, or without
  taken_ok : (d : PoolCore P H) (e : Frame P H) {c : PoolCore P H} {f : Frame P H} (at : TakenSlot) (o : Option H) → Ready maker old new d e c f (heap_next at o) → RowOk maker old new d e (finished c (after f (heap_next at o)))
  taken_ok d e {c} {f} at (Some heap) ready = goes_ok maker old new d e c f _ ready
  taken_ok d e {c} {f} at None ready = goes_ok maker old new d e c f _ ready

  made_ok : (at : TakenSlot) (d : PoolCore P H) (e : Frame P H) (r : Result H HeapMakeFault) (c : PoolCore P H) (f : Frame P H) → IsReadyRow maker old new d e (make_heap_row r at c f) → RowOk maker old new d e (stepped (make_heap_row r at c f))
  made_ok at d e (Ok heap) c f ready = goes_ok maker old new d e _ _ _ ready
  made_ok at d e (Err fault) c f ready = goes_ok maker old new d e _ _ _ ready

  -- a row that counts an object ends the call with it, or goes on with one object more
  memory_ok : (asked : Asked) (lease : Lease) (c d : PoolCore P H) (f : Frame P H) → Ready maker old new c (in_phase (CountObject (Memory lease)) f) d (memory_kept asked lease (in_phase Idle f)) (memory_turn asked lease) → RowOk maker old new c (in_phase (CountObject (Memory lease)) f) (finished d (after (memory_kept asked lease (in_phase Idle f)) (memory_turn asked lease)))
  memory_ok (memory_asked m) lease c d f ready = ends_ok maker old new c _ d _ _ ready
  memory_ok asked lease c d f ready = row_ok maker old new c _ (record { part = d; frame = memory_kept asked lease (in_phase Idle f); turn = next }) ready (λ none. may_by f.asked f.ending _ (objects_in f.objects + 1) none (λ empty. omega (arith, empty, length_push f.objects.memories.items lease)))

  table_ok : (asked : Asked) (lease : LeasedTable) (c d : PoolCore P H) (f : Frame P H) → Ready maker old new c (in_phase (CountObject (Table lease)) f) d (table_kept asked lease (in_phase Idle f)) (table_turn asked lease) → RowOk maker old new c (in_phase (CountObject (Table lease)) f) (finished d (after (table_kept asked lease (in_phase Idle f)) (table_turn asked lease)))
  table_ok (table_asked ty) lease c d f ready = ends_ok maker old new c _ d _ _ ready
  table_ok asked lease c d f ready = row_ok maker old new c _ (record { part = d; frame = table_kept asked lease (in_phase Idle f); turn = next }) ready (λ none. may_by f.asked f.ending _ (objects_in f.objects + 1) none (λ empty. omega (arith, empty, length_push f.objects.tables.items lease)))

  object_ok : (object : Object P) (c : PoolCore P H) (f : Frame P H) → IsReadyRow maker old new c (in_phase (CountObject object) f) (count_object_row object c (in_phase Idle f)) → RowOk maker old new c (in_phase (CountObject object) f) (stepped (count_object_row object c (in_phase Idle f)))
  object_ok (Memory lease) c f ready = memory_ok f.asked lease c _ f ready
  object_ok (Table lease) c f ready = table_ok f.asked lease c _ f ready
  object_ok (Stack lease) c f ready = ends_ok maker old new c _ _ _ _ ready

  -- how many objects a row leaves in the frame
  abbrev objects_of : StepGiven H → Phase P H → PoolCore P H → Frame P H → ℕ
  objects_of g p c f = objects_in (row_of g p c (in_phase Idle f)).frame.objects

  -- Each row is as it shows.
  rows_ok : (g : StepGiven H) (p : Phase P H) (c : PoolCore P H) (f : Frame P H) → is_idle p ≡ false → CanStep maker c (in_phase p f) → MayBeTold c.settings g p (in_phase p f) → AsksOf old.limiter new.limiter g p (in_phase p f) → MakesOf old.heaps new.heaps g p → RowOk maker old new c (in_phase p f) (stepped (row_of g p c (in_phase Idle f)))
  rows_ok g Idle c f on can told asks makes = absurd cc
  rows_ok g Key c f on can told asks makes = row_ok maker old new c _ _ (key_ready maker old new c f can) (may_end maker c.settings c.plan Key f (objects_of g Key c f) (can.frame.shape) tt)
  rows_ok g Validate c f on can told asks makes = row_ok maker old new c _ _ (validate_ready maker old new g.wants c f can) (may_end maker c.settings c.plan Validate f (objects_of g Validate c f) (can.frame.shape) tt)
  rows_ok g TestStack c f on can told asks makes = row_ok maker old new c _ _ (test_stack_ready maker old new c f can) (may_end maker c.settings c.plan TestStack f (objects_of g TestStack c f) (can.frame.shape) tt)
  rows_ok g CountInstance c f on can told asks makes = row_ok maker old new c _ _ (count_instance_ready maker old new c f can) (may_end maker c.settings c.plan CountInstance f (objects_of g CountInstance c f) (can.frame.shape) tt)
  rows_ok g (Pick tried) c f on can told asks makes = row_ok maker old new c _ _ (pick_ready maker old new tried c f can) (may_end maker c.settings c.plan (Pick tried) f (objects_of g (Pick tried) c f) (can.frame.shape) refl)
  rows_ok g TakeQueue c f on can told asks makes = row_ok maker old new c _ _ (take_queue_ready maker old new c f can) (may_end maker c.settings c.plan TakeQueue f (objects_of g TakeQueue c f) (can.frame.shape) refl)
  rows_ok g (TakeRegion slot) c f on can told asks makes = row_ok maker old new c _ _ (take_region_ready maker old new slot c f can) (may_end maker c.settings c.plan (TakeRegion slot) f (objects_of g (TakeRegion slot) c f) (can.frame.shape) tt)
  rows_ok g (Empty slot had) c f on can told asks makes = row_ok maker old new c _ _ (empty_ready maker old new g.fault g.slot slot had c f can told) (may_end maker c.settings c.plan (Empty slot had) f (objects_of g (Empty slot had) c f) (can.frame.shape) tt)
  rows_ok g (Instantiate slot had) c f on can told asks makes = row_ok maker old new c _ _ (instantiate_ready maker old new g.fault g.slot slot had c f can told) (may_end maker c.settings c.plan (Instantiate slot had) f (objects_of g (Instantiate slot had) c f) (can.frame.shape) tt)
  rows_ok g (MakeMemory slot had) c f on can told asks makes = row_ok maker old new c _ _ (make_memory_ready maker old new g.limiter slot had c f can asks) (may_end maker c.settings c.plan (MakeMemory slot had) f (objects_of g (MakeMemory slot had) c f) (can.frame.shape) tt)
  rows_ok g (MakeTable slot region) c f on can told asks makes = row_ok maker old new c _ _ (make_table_ready maker old new g.limiter slot region c f can asks) (may_end maker c.settings c.plan (MakeTable slot region) f (objects_of g (MakeTable slot region) c f) (can.frame.shape) tt)
  rows_ok g (CountObject object) c f on can told asks makes = object_ok object c f (count_object_ready maker old new object c f can)
  rows_ok g TestHeap c f on can told asks makes = row_ok maker old new c _ _ (test_heap_ready maker old new g.wants c f can) (may_end maker c.settings c.plan TestHeap f (objects_of g TestHeap c f) (can.frame.shape) tt)
  rows_ok g (TakeHeap name) c f on can told asks makes = taken_ok c (in_phase (TakeHeap name) f) _ (heap_in name.slot (heaps_at c)) (take_heap_ready maker old new name c f can makes)
  rows_ok g (MakeHeap at) c f on can told asks makes = made_ok at c (in_phase (MakeHeap at) f) g.heap c (in_phase Idle f) (make_heap_ready maker old new g.heap at c f can makes)
  rows_ok g (CountHeap lease) c f on can told asks makes = row_ok maker old new c _ _ (count_heap_ready maker old new lease c f can) (may_end maker c.settings c.plan (CountHeap lease) f (objects_of g (CountHeap lease) c f) (can.frame.shape) tt)
  rows_ok g (PutNoHeap at) c f on can told asks makes = row_ok maker old new c _ _ (put_no_heap_ready maker old new at c f can) (may_end maker c.settings c.plan (PutNoHeap at) f (objects_of g (PutNoHeap at) c f) (can.frame.shape) tt)
  rows_ok g (UncountHeap lease memory) c f on can told asks makes = row_ok maker old new c _ _ (uncount_heap_ready maker old new lease memory c f can) (may_end maker c.settings c.plan (UncountHeap lease memory) f (objects_of g (UncountHeap lease memory) c f) (can.frame.shape) tt)
  rows_ok g (PutHeap lease memory) c f on can told asks makes = row_ok maker old new c _ _ (put_heap_ready maker old new lease memory c f can) (may_end maker c.settings c.plan (PutHeap lease memory) f (objects_of g (PutHeap lease memory) c f) (can.frame.shape) tt)
  rows_ok g (FreeHeap name memory) c f on can told asks makes = row_ok maker old new c _ _ (free_heap_ready maker old new name memory c f can) (may_end maker c.settings c.plan (FreeHeap name memory) f (objects_of g (FreeHeap name memory) c f) (can.frame.shape) tt)
  rows_ok g (PutBack at had) c f on can told asks makes = row_ok maker old new c _ _ (put_back_ready maker old new at had c f can) (may_end maker c.settings c.plan (PutBack at had) f (objects_of g (PutBack at had) c f) (can.frame.shape) tt)
  rows_ok g (FreeOne name) c f on can told asks makes = row_ok maker old new c _ _ (free_one_ready maker old new name c f can) (may_end maker c.settings c.plan (FreeOne name) f (objects_of g (FreeOne name) c f) (can.frame.shape) tt)
  rows_ok g (UncountObject object) c f on can told asks makes = row_ok maker old new c _ _ (uncount_object_ready maker old new object c f can) (may_end maker c.settings c.plan (UncountObject object) f (objects_of g (UncountObject object) c f) (can.frame.shape) tt)
  rows_ok g (Reset object) c f on can told asks makes = row_ok maker old new c _ _ (reset_ready maker old new g object c f can told) (may_end maker c.settings c.plan (Reset object) f (objects_of g (Reset object) c f) (can.frame.shape) tt)
  rows_ok g Merge c f on can told asks makes = row_ok maker old new c _ _ (merge_ready maker old new c f can) (may_end maker c.settings c.plan Merge f (objects_of g Merge c f) (can.frame.shape) tt)
  rows_ok g Flush c f on can told asks makes = row_ok maker old new c _ _ (flush_ready maker old new g c f can told) (may_end maker c.settings c.plan Flush f (objects_of g Flush c f) (can.frame.shape) (ap (λ (o : InstanceLease P). objects_in o) (flush_objects (flush_step f.local f.freed.items) g.queue c (in_phase Idle f))))
  rows_ok g UncountInstance c f on can told asks makes = row_ok maker old new c _ _ (uncount_instance_ready maker old new c f can) (may_end maker c.settings c.plan UncountInstance f (objects_of g UncountInstance c f) (can.frame.shape) tt)
  rows_ok g (ValidateComponent info) c f on can told asks makes = row_ok maker old new c _ _ (validate_component_ready maker old new info c f can) (may_end maker c.settings c.plan (ValidateComponent info) f (objects_of g (ValidateComponent info) c f) (can.frame.shape) tt)
  rows_ok g CountComponent c f on can told asks makes = counted_ok c (in_phase CountComponent f) (nat_lt c.counters.component_instances c.settings.max_component_instances) c (in_phase Idle f) (count_component_ready maker old new c f can)
  rows_ok g UncountComponent c f on can told asks makes = row_ok maker old new c _ _ (uncount_component_ready maker old new c f can) (may_end maker c.settings c.plan UncountComponent f (objects_of g UncountComponent c f) (can.frame.shape) tt)
  rows_ok g (Purge p step) c f on can told asks makes = row_ok maker old new c _ _ (purge_ready maker old new g p step c f can told) (may_end maker c.settings c.plan (Purge p step) f (objects_of g (Purge p step) c f) (can.frame.shape) tt)
  rows_ok g (Release step) c f on can told asks makes = row_ok maker old new c _ _ (release_ready maker old new g step c f can told) (may_end maker c.settings c.plan (Release step) f (objects_of g (Release step) c f) (can.frame.shape) tt)

  -- what is told of a step that was made
  pub record StepOk (c : PoolCore P H) (f : Frame P H) (a : After P H) : Type 0 where
    pub core : IsCore maker a.core
    pub frame : IsFrame maker a.core.settings a.core.plan a.frame
    pub granted : IfGranted (IsGrantOf maker a.core.settings a.core.plan f.asked) a.outcome
    pub conserves : Conserves c f a
    pub settings : a.core.settings ≡ c.settings
    pub plan : a.core.plan ≡ c.plan
    pub ends : EndsWith c f a
    pub goes : GoesOn maker old new c f a
    pub fewer : is_idle f.phase ≡ false → steps_at (sizes_of c.settings c.plan) a.frame.phase a.frame + 1 ≤ steps_left c f
    pub searched : IsSearched c f → IsSearched a.core a.frame

  told_ok : (p : Phase P H) (c : PoolCore P H) (f : Frame P H) (a : After P H) → is_idle p ≡ false → RowOk maker old new c (in_phase p f) a → StepOk c (in_phase p f) a
  told_ok p c f a on ok = record {
    core = ok.core;
    frame = ok.frame;
    granted = ok.granted_is;
    conserves = ok.conserves;
    settings = ok.settings;
    plan = ok.plan;
    ends = record { answer = rw on ok.answer; by_one = ok.by_one };
    goes = record { asked = ok.asked; way = ok.way };
    fewer = λ busy. ok.fewer;
    searched = ok.searched;
  }

  steps_at_ok : (g : StepGiven H) (p : Phase P H) (c : PoolCore P H) (f : Frame P H) → CanStep maker c (in_phase p f) → MayBeTold c.settings g p (in_phase p f) → AsksOf old.limiter new.limiter g p (in_phase p f) → MakesOf old.heaps new.heaps g p → StepOk c (in_phase p f) (stepped (row_of g p c (in_phase Idle f)))
  steps_at_ok g Idle c f can told asks makes = record {
    core = can.core;
    frame = can.frame;
    granted = tt;
    conserves = λ w. omega arith;
    settings = refl;
    plan = refl;
    ends = record { answer = refl; by_one = λ k. omega arith };
    goes = record { asked = λ on. absurd cc; way = tt };
    fewer = λ busy. absurd cc;
    searched = λ s. tt;
  }
  steps_at_ok g p c f can told asks makes = told_ok p c f _ refl (rows_ok g p c f refl can told asks makes)

  pub step_ok : (c : PoolCore P H) (f : Frame P H) (a : After P H) → CanStep maker c f → StepsTo old new c f a → StepOk c f a
  step_ok c f a can steps =
      let S : After P H → Type 0 = λ b. StepOk c f b in
      subst S (sym steps.1.is) (steps_at_ok steps.0 f.phase c f can steps.1.told steps.1.limiter steps.1.heaps)

  pub same_size : (c : PoolCore P H) (f : Frame P H) (a : After P H) → CanStep maker c f → StepOk c f a → IsSameSize c a.core
  same_size c f a can ok = record {
    settings = ok.settings;
    plan = ok.plan;
  }

  -- What holds between steps holds after a step.
  pub can_still : (c : PoolCore P H) (f : Frame P H) (a : After P H) → CanStep maker c f → StepsTo old new c f a → CanStep maker a.core a.frame
  can_still c f a can steps =
      let ok = step_ok c f a can steps in
      record { core = ok.core; frame = ok.frame; fits = fits_after c f a can.fits ok.conserves (same_size c f a can ok) }

  pub step_grants : (c : PoolCore P H) (f : Frame P H) (a : After P H) → CanStep maker c f → StepsTo old new c f a → IfGranted (IsGrantOf maker c.settings c.plan f.asked) a.outcome
  step_grants c f a can steps =
      let ok = step_ok c f a can steps in
      let G : Settings → Plan → Type 0 = λ s plan. IfGranted (IsGrantOf maker s plan f.asked) a.outcome in
      subst (G c.settings) ok.plan (subst (λ (s : Settings). G s a.core.plan) ok.settings ok.granted)

  pub step_fewer : (c : PoolCore P H) (f : Frame P H) (a : After P H) → CanStep maker c f → StepsTo old new c f a → is_idle f.phase ≡ false → steps_left a.core a.frame + 1 ≤ steps_left c f
  step_fewer c f a can steps busy =
      let ok = step_ok c f a can steps in
      let same : steps_left a.core a.frame ≡ steps_at (sizes_of c.settings c.plan) a.frame.phase a.frame = ap (λ (s : Settings). steps_at (sizes_of s a.core.plan) a.frame.phase a.frame) ok.settings ∙ ap (λ (plan : Plan). steps_at (sizes_of c.settings plan) a.frame.phase a.frame) ok.plan in
      omega (arith, same, ok.fewer busy)

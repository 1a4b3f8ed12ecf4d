-- The rows of a call for a heap: its test, the heap's slot out of the list and back, the making, the counts.
use Rattle.std.proofs.Common.{◌≡◌, ℕ, ◌+◌, ◌<◌, ◌≤◌, Bool, true, false, List, [], ◌∷◌, length, refl, sym, ap, subst, ◌∙◌, arith, Option, None, Some, Result, Ok, Err, inl, inr, All, ◌-◌, slice_get, slice_index_or, IfSome, ◌*◌}
use Rattle.pool_alloc.proofs.Imports.{RegionNumbers, length-set, nil_from_length, All-nil, All-head, ShardState, after_free, MakerTold, MemoryType, Unsupported, heap_in, heap_taken, heap_returned, heap_slot, home_of, of_kind, AllocError, HeapEntry, HeapMakeFault, SlotName, memory_kind, table_kind, heap_kind, MemoryAllocationIndex}
use Rattle.pool_alloc.specs.declared.frame.Ending.TheVariants.{Granted as granted}
use Rattle.pool_slots.specs.declared.errors.AllocError.TheVariants as refusal
use Rattle.pool_slots.specs.declared.heap_list.HeapEntry.TheVariants as entry
use Rattle.pool_alloc.specs.StepBounds.{PoolSizes, sizes_of, flush_bound, objects_left, heap_bound_for, give_back_bound}
use Rattle.pool_alloc.specs.HeapLeases.{LeasedHeap, heap_numbers, memory_under}
use Rattle.pool_alloc.specs.Leases.{Lease, first_index}
use Rattle.pool_alloc.specs.Objects.{objects_in, objects_wanted}
use Rattle.pool_alloc.specs.MemorySteps.{heap_refusal}
use Rattle.pool_alloc.specs.PartyTold.{PartyTold, MakesHeap}
use Rattle.pool_alloc.specs.Places.{Thing, region_count, leased_count, tables_count, both_count, away_count, kept_count, counted_instance, counted_object, only}
use Rattle.pool_alloc.specs.PoolTables.{IsTableLease}
use Rattle.pool_alloc.specs.Refusals.{heap_refused}
use Rattle.pool_alloc.specs.StepTable.{heaps_tested, test_heap_row, validated, reserved, take_heap_on, heap_next, put_heap_on, make_heap_row, heap_granted, count_heap_row, uncount_heap_row, free_heap_on, in_heaps, in_shard, refused_at_once, heap_freed, memory_tested, heap_counted}
use Rattle.pool_alloc.specs.BetweenSteps.{IsCore, IsHeapName, IsLeaseOf, IsEnabled, IsToGrant, IsNew, AreBegun}
use Rattle.pool_alloc.specs.CallStages.{Stage, asks, tests_heap, seeks_heap, progress_by, stage_by, IsUntested, IsHeapUntested, Goes, Progress, counts_heap, refusing}
use Rattle.pool_alloc.specs.StepReads.{memories_wanted, images_wanted, tables_wanted, tables_kept, heaps_wanted, kind_next, shard_at, with_shard, heaps_at, with_heaps, stacks_wanted, HasMemories, IsHeapAsked, memories_kept}
use Rattle.pool_alloc.specs.Turns.{Row}
use Rattle.pool_alloc.specs.declared.frame.Asked.{Asked}
use Rattle.pool_alloc.specs.declared.frame.Asked.TheVariants.{Heap as heap_asked, HeapOver as heap_over_asked}
use Rattle.pool_alloc.specs.declared.frame.Ending.{Ending}
use Rattle.pool_alloc.specs.declared.frame.Frame.{Frame}
use Rattle.pool_alloc.specs.declared.frame.Phase.{Phase}
use Rattle.pool_alloc.specs.declared.frame.Phase.TheVariants.{Idle, TestHeap, Pick, TakeHeap, MakeHeap, CountHeap, PutNoHeap, FreeOne, UncountHeap, PutHeap, FreeHeap}
use Rattle.pool_alloc.specs.declared.frame.TakenSlot.{TakenSlot}
use Rattle.pool_alloc.specs.declared.leases.instance.InstanceLease.{InstanceLease}
use Rattle.pool_alloc.specs.declared.pool_core.PoolCore.{PoolCore}
use Rattle.pool_alloc.specs.TableLeases.{LeasedTable}
use Rattle.pool_alloc.proofs.BeforeTheTurn.{kept_of, in_phase, held_of, returns_less, Kept, Ready, IsReadyRow, CountsNone, one_less, only_one, none_weighs}
use Rattle.pool_alloc.proofs.CoreChanges.{core_with_heaps, core_with_shard, core_with_counters}
use Rattle.pool_alloc.proofs.HeapSlots.{heap_name, heap_inside, taken_is_home, no_heap_is_away, heap_back_is_away}
use Rattle.pool_alloc.proofs.KeptCounts.{away_shard, kept_shard, heap_leaves, heap_comes_back}
use Rattle.pool_alloc.proofs.PlanPlaces.{IsShardPlace, home_place, allocator_is}
use Rattle.pool_alloc.proofs.PoolParts.{place_of, shard_part, sound_shard}
use Rattle.pool_alloc.proofs.QueueCounts.{leased_first}
use Rattle.pool_alloc.proofs.RowsUntilASlot.{refused_ready}
use Rattle.pool_alloc.proofs.RowsWithASlot.{some_used}
use Rattle.pool_alloc.proofs.ShardFrees.{freed_shard, IsShardOf}
use Rattle.pool_alloc.proofs.ShardsAfterFrees.{freed_one}
use Rattle.pool_alloc.proofs.SharedByRows.{Can, kept_part, same_way, same_times}
use Rattle.pool_alloc.proofs.SlotCounts.{slot_once}
use Rattle.pool_alloc.proofs.SlotsOfFrames.{held_is_out}
use Rattle.pool_alloc.proofs.SupportedModules.{heap_supported}
use Rattle.pool_alloc.proofs.Weights.{counted_fits}

-- a call for a heap is one of those that count no instance, at its stage
counts_no_instance : (asked : Asked) → heaps_wanted asked ≡ 1 → CountsNone asked
counts_no_instance (heap_asked ty) one = refl
counts_no_instance (heap_over_asked memory) one = refl
counts_no_instance asked one = absurd (omega (arith, one))

seeks : (asked : Asked) (n : ℕ) → heaps_wanted asked ≡ 1 → progress_by asked n ≡ seeks_heap n
seeks (heap_asked ty) n one = refl
seeks (heap_over_asked memory) n one = refl
seeks asked n one = absurd (omega (arith, one))

no_stack_for : (asked : Asked) → heaps_wanted asked ≡ 1 → stacks_wanted asked ≡ 0
no_stack_for (heap_asked ty) one = refl
no_stack_for (heap_over_asked memory) one = refl
no_stack_for asked one = absurd (omega (arith, one))

-- it has a step to make at least
some_left : (z : PoolSizes) (asked : Asked) → 1 ≤ heap_bound_for z asked
some_left z (heap_over_asked memory) = omega arith
some_left z asked = omega arith

-- a heap for which a memory is allocated
record IsHeapFor (asked : Asked) : Type 0 where
  ty : MemoryType
  is : asked ≡ heap_asked ty
  log2 : ty.page_size_log2 < 64

has_memories : (asked : Asked) → IsHeapFor asked → HasMemories asked
has_memories asked for = let M : Asked → Type 0 = λ a. HasMemories a in subst M (sym for.is) tt

module _ {P H : Type 0} (maker : MakerTold) (old new : PartyTold) where
  abbrev Shows : Phase P H → PoolCore P H → Frame P H → Row (PoolCore P H) P H → Type 0
  Shows p c f r = IsReadyRow maker old new c (in_phase p f) r

  -- a call for a heap that has its memory goes on so from its stage
  seeks_way : (c : PoolCore P H) (e : Frame P H) (asked : Asked) (ending : Ending) (n : ℕ) (stage : Stage) → ending ≡ granted → heaps_wanted asked ≡ 1 → Goes maker old new c e (asks (seeks_heap n)) stage None → Goes maker old new c e (stage_by asked ending n) stage None
  seeks_way c e asked ending n stage is one way =
      let W : Ending → Type 0 = λ x. Goes maker old new c e (stage_by asked x n) stage None in
      let G : Progress → Type 0 = λ p. Goes maker old new c e (asks p) stage None in
      subst W (sym is) (subst G (sym (seeks asked n one)) way)

  -- The request is tested. Where it passes, the list for its memory is reserved, and the memory's slot is sought.
  untested_ready : (x : AllocError) (c : PoolCore P H) (f : Frame P H) → Can maker TestHeap c f → IsHeapUntested c (in_phase TestHeap f) x → Shows TestHeap c f (refused_at_once x c (in_phase Idle f))
  untested_ready x c f can why = refused_ready maker old new TestHeap x c f can can.frame.shape.0 (λ w. refl) refl (some_left (sizes_of c.settings c.plan) f.asked) why

  reserved_heap_ready : (c : PoolCore P H) (f : Frame P H) → Can maker TestHeap c f → IsHeapFor f.asked → c.settings.tunables.tunables.collector ≡ true → heap_refused c.settings f.asked ≡ None → Shows TestHeap c f (reserved false (Pick 0) c (in_phase Idle f))
  reserved_heap_ready c f can for enabled passes =
      let e : Frame P H = in_phase TestHeap f in
      let rest = can.frame.shape.0 in
      let z : PoolSizes = sizes_of c.settings c.plan in
      let lists : Asked → InstanceLease P = λ a. record { memories = record { items = []; room = length (memories_wanted a) }; tables = record { items = []; room = length (tables_wanted a) } } in
      let has : Frame P H = record f { phase = Idle; objects = lists f.asked } in
      let S : Asked → Type 0 = λ a. IsToGrant {P = P} c.settings c.plan a f.queues (lists a) in
      let R : Asked → Type 0 = λ a. heap_refused c.settings a ≡ None in
      let to_grant : S (heap_asked for.ty) = record {
        supported = heap_supported c.settings for.ty for.log2 (subst R for.is passes);
        tables = λ none. record { few = omega arith; each = λ k. tt };
        limits = λ k. tt;
        enabled = enabled;
        images = tt;
        room = omega arith;
        table_room = omega arith;
        few = omega arith;
        few_tables = omega arith;
        order = λ less. refl;
        begun = (λ k. tt, λ k. tt);
        taken = omega (arith, can.frame.shape.1.1);
      } in
      let some : 0 < objects_wanted f.asked = omega (arith, ap (λ (a : Asked). objects_wanted a) for.is) in
      let W : Asked → Type 0 = λ a. Goes maker old new c e (asks tests_heap) (stage_by a f.ending 0) None in
      let E : Ending → Type 0 = λ x. Goes maker old new c e (asks tests_heap) (stage_by (heap_asked for.ty) x 0) None in
      let counts : CountsNone f.asked = (let N : Asked → Type 0 = λ a. CountsNone a in subst N (sym for.is) refl) in
      let left : objects_left {P = P} z f.asked (lists f.asked) ≡ objects_left {P = P} z (heap_asked for.ty) (lists (heap_asked for.ty)) = ap (λ (a : Asked). objects_left {P = P} z a (lists a)) for.is in
      record {
        kept = kept_part maker old new c e c has can.core
            (record { stripe = can.frame.stripe; queue = can.frame.queue; freed_room = can.frame.freed_room; freed_each = can.frame.freed_each; freed_order = can.frame.freed_order; objects = (All-nil (IsLeaseOf maker c.settings c.plan), All-nil (IsTableLease maker c.settings c.plan)) })
            refl refl refl refl;
        shape = (refl, (rest.settled, record { ending = can.frame.shape.1.0; to_grant = subst S (sym for.is) to_grant; more = omega (arith, some) }, (allocator_is c.plan (length c.parts) (kind_next has) f.stripe can.core.plan can.frame.stripe).some));
        even = λ w. omega (arith, none_weighs w f.objects rest.no_memories rest.no_tables, ap (λ (n : ℕ). n * w.counts counted_instance) counts);
        fewer = omega (arith, left, ap (λ (a : Asked). heap_bound_for z a) for.is, can.frame.shape.1.1, same_times z.queues (z.queues - f.queues) (flush_bound z + z.shards) (omega (arith, can.frame.shape.1.1)));
        way = subst W (sym for.is) (subst E (sym can.frame.shape.1.0) (refl, record { enabled = enabled; rules = passes }));
        searched = λ s. (λ j below. absurd (omega (arith, below, can.frame.shape.1.1)), λ j below. absurd (omega (arith, below)));
      }

  -- a request with a memory
  validated_heap_ready : (o : Option Unsupported) (wants : Bool) (c : PoolCore P H) (f : Frame P H) → Can maker TestHeap c f → IsHeapFor f.asked → c.settings.tunables.tunables.collector ≡ true → heap_refused c.settings f.asked ≡ o → Shows TestHeap c f (validated o wants (Pick 0) c (in_phase Idle f))
  validated_heap_ready (Some rule) wants c f can for enabled is = untested_ready (refusal.Unsupported rule) c f can (inr (enabled, has_memories f.asked for, (let U : Option Unsupported → Type 0 = λ o. IsUntested o (refusal.Unsupported rule) in subst U (sym is) refl)))
  validated_heap_ready None true c f can for enabled is = untested_ready refusal.Memory c f can (inr (enabled, has_memories f.asked for, (let U : Option Unsupported → Type 0 = λ o. IsUntested o refusal.Memory in subst U (sym is) refl)))
  validated_heap_ready None false c f can for enabled is = reserved_heap_ready c f can for enabled is

  -- A heap over a memory that there is has no memory to be tested, and its slot is sought.
  over_ready : (memory : MemoryAllocationIndex) (c : PoolCore P H) (f : Frame P H) → Can maker TestHeap c f → c.settings.tunables.tunables.collector ≡ true → f.asked ≡ heap_over_asked memory → Shows TestHeap c f (memory_tested (heap_over_asked memory) false c (in_phase Idle f))
  over_ready memory c f can enabled is =
      let e : Frame P H = in_phase TestHeap f in
      let rest = can.frame.shape.0 in
      let z : PoolSizes = sizes_of c.settings c.plan in
      let none : length f.objects.memories.items ≡ 0 = ap (length {A = Lease}) rest.no_memories in
      let none_more : length f.objects.tables.items ≡ 0 = ap (length {A = LeasedTable}) rest.no_tables in
      let S : Asked → Type 0 = λ a. IsToGrant {P = P} c.settings c.plan a f.queues f.objects in
      let B : List Lease → List LeasedTable → Type 0 = λ ls ts. AreBegun {P = P} c.settings (heap_over_asked memory) (record { memories = record f.objects.memories { items = ls }; tables = record f.objects.tables { items = ts } }) in
      let to_grant : S (heap_over_asked memory) = record {
        supported = record { few = omega arith; each = λ k. tt };
        tables = λ none. record { few = omega arith; each = λ k. tt };
        limits = λ k. tt;
        enabled = enabled;
        images = tt;
        room = omega arith;
        table_room = omega arith;
        few = omega (arith, none);
        few_tables = omega (arith, none_more);
        order = λ less. rest.no_tables;
        begun = subst (λ ts. B f.objects.memories.items ts) (sym rest.no_tables) (subst (λ ls. B ls []) (sym rest.no_memories) (λ k. tt, λ k. tt));
        taken = omega (arith, can.frame.shape.1.1);
      } in
      let some : objects_wanted f.asked ≡ 1 = ap (λ (a : Asked). objects_wanted a) is in
      let W : Asked → Type 0 = λ a. Goes maker old new c e (asks tests_heap) (stage_by a f.ending (objects_in f.objects)) None in
      let E : Ending → Type 0 = λ x. Goes maker old new c e (asks tests_heap) (stage_by (heap_over_asked memory) x (objects_in f.objects)) None in
      let counts : CountsNone f.asked = (let N : Asked → Type 0 = λ a. CountsNone a in subst N (sym is) refl) in
      let left : objects_left {P = P} z f.asked f.objects ≡ objects_left {P = P} z (heap_over_asked memory) f.objects = ap (λ (a : Asked). objects_left {P = P} z a f.objects) is in
      let nothing : objects_in f.objects ≡ 0 = omega (arith, none, none_more) in
      let passes : heap_refused c.settings f.asked ≡ None = ap (λ (a : Asked). heap_refused c.settings a) is in
      record {
        kept = kept_part maker old new c e c (in_phase Idle f) can.core (held_of maker c.settings c.plan e can.frame) refl refl refl refl;
        shape = (refl, (rest.settled, record { ending = can.frame.shape.1.0; to_grant = subst S (sym is) to_grant; more = omega (arith, some, nothing) }, (allocator_is c.plan (length c.parts) (kind_next f) f.stripe can.core.plan can.frame.stripe).some));
        even = λ w. omega (arith, ap (λ (n : ℕ). n * w.counts counted_instance) counts);
        fewer = omega (arith, left, ap (λ (a : Asked). heap_bound_for z a) is, can.frame.shape.1.1, same_times z.queues (z.queues - f.queues) (flush_bound z + z.shards) (omega (arith, can.frame.shape.1.1)), same_times (objects_in f.objects) 0 (give_back_bound z) nothing);
        way = subst W (sym is) (subst E (sym can.frame.shape.1.0) (nothing, record { enabled = enabled; rules = passes }));
        searched = λ s. (λ j below. absurd (omega (arith, below, can.frame.shape.1.1)), λ j below. absurd (omega (arith, below)));
      }

  memory_tested_ready : (asked : Asked) (wants : Bool) (c : PoolCore P H) (f : Frame P H) → Can maker TestHeap c f → c.settings.tunables.tunables.collector ≡ true → f.asked ≡ asked → Shows TestHeap c f (memory_tested asked wants c (in_phase Idle f))
  memory_tested_ready (heap_over_asked memory) wants c f can enabled is = over_ready memory c f can enabled is
  memory_tested_ready (heap_asked ty) wants c f can enabled is =
      let I : Asked → Type 0 = λ a. IsHeapAsked a in
      validated_heap_ready (heap_refused c.settings (heap_asked ty)) wants c f can (record { ty = ty; is = is; log2 = subst I is can.frame.shape.1.2 }) enabled (ap (λ (a : Asked). heap_refused c.settings a) is)
  memory_tested_ready asked wants c f can enabled is = absurd (let I : Asked → Type 0 = λ a. IsHeapAsked a in subst I is can.frame.shape.1.2)

  heaps_tested_ready : (b wants : Bool) (c : PoolCore P H) (f : Frame P H) → Can maker TestHeap c f → c.settings.tunables.tunables.collector ≡ b → Shows TestHeap c f (heaps_tested b wants c (in_phase Idle f))
  heaps_tested_ready false wants c f can is = untested_ready refusal.HeapsDisabled c f can (inl (is, refl))
  heaps_tested_ready true wants c f can is = memory_tested_ready f.asked wants c f can is refl

  pub test_heap_ready : (wants : Bool) (c : PoolCore P H) (f : Frame P H) → Can maker TestHeap c f → Shows TestHeap c f (test_heap_row wants c (in_phase Idle f))
  test_heap_ready wants c f can = heaps_tested_ready c.settings.tunables.tunables.collector wants c f can refl

  -- what the list gives out
  record GoesOut (slot : ℕ) (c : PoolCore P H) (f : Frame P H) (d : PoolCore P H) : Type 0 where
    kept : Kept maker old new c (in_phase (TakeHeap (heap_slot slot)) f) d (in_phase Idle f)
    places : (t : Thing) → (away_count t d ≡ away_count t c + region_count t (heap_slot slot) (heap_numbers (memory_under f.asked f.objects.memories.items))) × (kept_count t d ≡ kept_count t c)

  taken_goes_out : (slot : ℕ) (c : PoolCore P H) (f : Frame P H) → Can maker (TakeHeap (heap_slot slot)) c f → GoesOut slot c f (with_heaps (heap_taken slot (record { 0 = memory_under f.asked f.objects.memories.items }) (heaps_at c)) c)
  taken_goes_out slot c f can =
      let e : Frame P H = in_phase (TakeHeap (heap_slot slot)) f in
      let inside : slot < c.plan.totals.heap = can.frame.shape.2.inside in
      let memory : ℕ = memory_under f.asked f.objects.memories.items in
      let heaps : List (HeapEntry H) = heap_taken slot (record { 0 = memory }) (heaps_at c) in
      record {
        kept = kept_part maker old new c e (with_heaps heaps c) (in_phase Idle f) (core_with_heaps maker heaps c can.core (omega (arith, inside)) (length-set (heaps_at c) slot (entry.Out (record { 0 = memory })))) (held_of maker c.settings c.plan e can.frame) refl refl refl refl;
        places = λ t. heap_leaves maker t slot memory c can.core inside (taken_is_home maker slot c f can.core can.fits inside);
      }

  -- The slot of a heap goes out of the list. It has a heap, or one is made.
  taken_heap_ready : (o : Option H) (slot : ℕ) (c : PoolCore P H) (f : Frame P H) →
      (let name : SlotName = heap_slot slot in
      let memory : ℕ = memory_under f.asked f.objects.memories.items in
      Can maker (TakeHeap name) c f → new.heaps ≡ old.heaps →
      Ready maker old new c (in_phase (TakeHeap name) f) (with_heaps (heap_taken slot (record { 0 = memory }) (heaps_at c)) c) (in_phase Idle f) (heap_next (record { name = name; numbers = heap_numbers memory }) o))
  taken_heap_ready (Some heap) slot c f can same =
      let e : Frame P H = in_phase (TakeHeap (heap_slot slot)) f in
      let allocating = can.frame.shape.1 in
      let goes_out = taken_goes_out slot c f can in
      record {
        kept = goes_out.kept;
        shape = (refl, (can.frame.shape.0, allocating, can.frame.shape.2.inside, refl, can.frame.shape.3));
        even = λ w. omega (arith, goes_out.places w.unit);
        fewer = omega arith;
        way = seeks_way c e f.asked f.ending (objects_in f.objects) (asks counts_heap) allocating.ending can.frame.shape.3.1 (record { number = refl; allocating = allocating; next = can.frame.shape.3 }, inl same);
        searched = λ s. tt;
      }
  taken_heap_ready None slot c f can same =
      let e : Frame P H = in_phase (TakeHeap (heap_slot slot)) f in
      let goes_out = taken_goes_out slot c f can in
      record {
        kept = goes_out.kept;
        shape = (refl, (can.frame.shape.0, can.frame.shape.1, can.frame.shape.2, refl, can.frame.shape.3));
        even = λ w. omega (arith, goes_out.places w.unit);
        fewer = omega arith;
        way = same_way maker old new c e f.asked f.ending (objects_in f.objects);
        searched = λ s. tt;
      }

  pub take_heap_ready : (name : SlotName) (c : PoolCore P H) (f : Frame P H) → Can maker (TakeHeap name) c f → new.heaps ≡ old.heaps → Shows (TakeHeap name) c f (in_heaps c (take_heap_on name (heaps_at c) (in_phase Idle f)))
  take_heap_ready name c f can same =
      let named : IsHeapName c.plan name = can.frame.shape.2 in
      let T : SlotName → Type 0 = λ n. Can maker (TakeHeap n) c f → Shows (TakeHeap n) c f (in_heaps c (take_heap_on n (heaps_at c) (in_phase Idle f))) in
      let its : T (heap_slot name.slot) = λ out. taken_heap_ready (heap_in name.slot (heaps_at c)) name.slot c f out same in
      subst T (sym (heap_name c.plan name named)) its can

  -- The heap is made, or the call fails.
  pub make_heap_ready : (r : Result H HeapMakeFault) (at : TakenSlot) (c : PoolCore P H) (f : Frame P H) → Can maker (MakeHeap at) c f → MakesHeap r old.heaps new.heaps → Shows (MakeHeap at) c f (make_heap_row r at c (in_phase Idle f))
  make_heap_ready (Ok heap) at c f can makes =
      let e : Frame P H = in_phase (MakeHeap at) f in
      let allocating = can.frame.shape.1 in
      let named : IsHeapName c.plan at.name = can.frame.shape.2 in
      record {
        kept = kept_part maker old new c e c _ can.core (held_of maker c.settings c.plan e can.frame) refl refl refl refl;
        shape = (refl, (can.frame.shape.0, allocating, named.inside, can.frame.shape.3, can.frame.shape.4));
        even = λ w. omega (arith, ap (λ (n : SlotName). both_count w.unit n at.numbers) (heap_name c.plan at.name named));
        fewer = omega arith;
        way = seeks_way c e f.asked f.ending (objects_in f.objects) (asks counts_heap) allocating.ending can.frame.shape.4.1 (record { number = refl; allocating = allocating; next = can.frame.shape.4 }, inr (heap, makes));
        searched = λ s. tt;
      }
  make_heap_ready (Err fault) at c f can makes =
      let e : Frame P H = in_phase (MakeHeap at) f in
      let allocating = can.frame.shape.1 in
      record {
        kept = kept_part maker old new c e c _ can.core (held_of maker c.settings c.plan e can.frame) refl refl refl refl;
        shape = (refl, (can.frame.shape.0, refl, can.frame.shape.2));
        even = λ w. omega arith;
        fewer = omega (arith, returns_less f.asked (sizes_of c.settings c.plan) f.objects (no_stack_for f.asked can.frame.shape.4.1));
        way = seeks_way c e f.asked f.ending (objects_in f.objects) (refusing (heap_refusal fault)) allocating.ending can.frame.shape.4.1 (inr (inr (inr (fault, (record { number = refl; allocating = allocating; next = can.frame.shape.4 }, (makes, refl))))));
        searched = λ s. tt;
      }

  -- The heap is counted, and granted with its memory, or without one.
  granted_heap_ready : (ty : MemoryType) (leases : List Lease) (lease : LeasedHeap H) (c : PoolCore P H) (f : Frame P H) → Can maker (CountHeap lease) c f → f.asked ≡ heap_asked ty → f.objects.memories.items ≡ leases → Shows (CountHeap lease) c f (heap_granted leases lease c (in_phase Idle f))
  granted_heap_ready ty [] lease c f can of is = absurd (omega (arith, can.frame.shape.4.0, ap (λ (a : Asked). length (memories_wanted a)) of, ap (length {A = Lease}) is))
  granted_heap_ready ty (memory ∷ rest) lease c f can of is =
      let e : Frame P H = in_phase (CountHeap lease) f in
      let allocating = can.frame.shape.1 in
      let was = allocating.to_grant in
      let long : length f.objects.memories.items ≡ 1 + length rest = ap (length {A = Lease}) is ∙ omega arith in
      let none : length rest ≡ 0 = omega (arith, long, was.few, (kept_of f.asked).memories, ap (λ (a : Asked). length (memories_wanted a)) of) in
      let last : rest ≡ [] = nil_from_length rest (omega (arith, none)) in
      let one_memory : length f.objects.memories.items ≡ 1 = omega (arith, long, none) in
      let no_table : length f.objects.tables.items ≡ 0 = omega (arith, was.few_tables, ap tables_kept of) in
      let no_tables : f.objects.tables.items ≡ [] = nil_from_length f.objects.tables.items (omega (arith, no_table)) in
      let L : List Lease → Type 0 = λ ls. All (IsLeaseOf maker c.settings c.plan) ls in
      let B : Asked → List Lease → Type 0 = λ a ls. IfSome (slice_get ls 0) (λ l. IfSome (slice_get (memories_wanted a) 0) (IsNew c.settings.max_memory_size (slice_index_or (images_wanted a) 0 None) l.memory)) in
      let begins : B (heap_asked ty) (memory ∷ rest) = subst (B (heap_asked ty)) is (subst (λ (a : Asked). B a f.objects.memories.items) of (was.begun.0 0)) in
      let E : Asked → Type 0 = λ a. IsEnabled c.settings a in
      let enabled : c.settings.tunables.tunables.collector ≡ true = subst E of was.enabled in
      let counts : CountsNone f.asked = counts_no_instance f.asked can.frame.shape.4.1 in
      record {
        kept = record {
          core = core_with_counters maker (record c.counters { gc_heaps = c.counters.gc_heaps + 1 }) c can.core;
          held = record { stripe = can.frame.stripe; queue = can.frame.queue; freed_room = can.frame.freed_room; freed_each = can.frame.freed_each; freed_order = can.frame.freed_order; objects = (All-nil (IsLeaseOf maker c.settings c.plan), All-nil (IsTableLease maker c.settings c.plan)) };
          asked = refl;
          settings = refl;
          plan = refl;
          by_one = λ k. omega (arith, only_one k (counted_object heap_kind));
        };
        shape = (
          record { settled = can.frame.shape.0; no_memories = refl; no_tables = refl },
          record {
            heap = can.frame.shape.2;
            memory_is = All-head (IsLeaseOf maker c.settings c.plan) memory rest (subst L is can.frame.objects.0);
            notes = can.frame.shape.3 ∙ ap (λ (a : Asked). heap_numbers (memory_under a f.objects.memories.items)) of ∙ ap (λ (ls : List Lease). heap_numbers (first_index ls)) is;
            ty = ty;
            asked_for = of;
            begins = begins;
          },
        );
        even = λ w. omega (
          arith,
          ap (leased_count w.unit) is,
          leased_first w.unit memory rest,
          ap (leased_count w.unit) last,
          ap (tables_count w.unit) no_tables,
          ap (λ (n : ℕ). n * w.counts (counted_object memory_kind)) one_memory,
          ap (λ (n : ℕ). n * w.counts (counted_object table_kind)) no_table,
          ap (λ (n : ℕ). n * w.counts counted_instance) counts,
        );
        fewer = omega arith;
        way = (enabled, was.supported);
        searched = λ s. tt;
      }

  heap_counted_ready : (asked : Asked) (lease : LeasedHeap H) (c : PoolCore P H) (f : Frame P H) → Can maker (CountHeap lease) c f → f.asked ≡ asked → Shows (CountHeap lease) c f (heap_counted asked lease c (in_phase Idle f))
  heap_counted_ready (heap_asked ty) lease c f can of = granted_heap_ready ty f.objects.memories.items lease c f can of refl
  heap_counted_ready (heap_over_asked memory) lease c f can of =
      let e : Frame P H = in_phase (CountHeap lease) f in
      let was = can.frame.shape.1.to_grant in
      let E : Asked → Type 0 = λ a. IsEnabled c.settings a in
      let enabled : c.settings.tunables.tunables.collector ≡ true = subst E of was.enabled in
      let counts : CountsNone f.asked = counts_no_instance f.asked can.frame.shape.4.1 in
      record {
        kept = record {
          core = core_with_counters maker (record c.counters { gc_heaps = c.counters.gc_heaps + 1 }) c can.core;
          held = held_of maker c.settings c.plan e can.frame;
          asked = refl;
          settings = refl;
          plan = refl;
          by_one = λ k. omega (arith, only_one k (counted_object heap_kind));
        };
        shape = (
          record { settled = can.frame.shape.0; no_memories = nil_from_length f.objects.memories.items (omega (arith, was.few, ap memories_kept of)); no_tables = nil_from_length f.objects.tables.items (omega (arith, was.few_tables, ap tables_kept of)) },
          record { heap = can.frame.shape.2; memory = memory; asked_for = of; notes = can.frame.shape.3 ∙ ap (λ (a : Asked). heap_numbers (memory_under a f.objects.memories.items)) of },
        );
        even = λ w. omega (arith, ap (λ (n : ℕ). n * w.counts counted_instance) counts);
        fewer = omega arith;
        way = enabled;
        searched = λ s. tt;
      }
  heap_counted_ready asked lease c f can of = absurd (omega (arith, can.frame.shape.4.1, ap heaps_wanted of))

  pub count_heap_ready : (lease : LeasedHeap H) (c : PoolCore P H) (f : Frame P H) → Can maker (CountHeap lease) c f → Shows (CountHeap lease) c f (count_heap_row lease c (in_phase Idle f))
  count_heap_ready lease c f can = heap_counted_ready f.asked lease c f can refl

  -- what the list takes back
  back_core : (slot : ℕ) (heap : Option H) (c : PoolCore P H) → IsCore maker c → slot < c.plan.totals.heap → IsCore maker (with_heaps (heap_returned slot heap (heaps_at c)) c)
  back_core slot heap c core inside = core_with_heaps maker (heap_returned slot heap (heaps_at c)) c core (omega (arith, inside)) (length-set (heaps_at c) slot (entry.Here heap))

  -- The slot comes back without a heap.
  put_none_ready : (slot : ℕ) (n : RegionNumbers) (c : PoolCore P H) (f : Frame P H) →
      (let at : TakenSlot = record { name = heap_slot slot; numbers = n } in
      Can maker (PutNoHeap at) c f → Shows (PutNoHeap at) c f (in_heaps c (put_heap_on slot None (FreeOne (heap_slot slot)) (heaps_at c) (in_phase Idle f))))
  put_none_ready slot n c f can =
      let at : TakenSlot = record { name = heap_slot slot; numbers = n } in
      let e : Frame P H = in_phase (PutNoHeap at) f in
      let inside : slot < c.plan.totals.heap = can.frame.shape.2.inside in
      let gone = no_heap_is_away maker slot n c f can.core can.fits in
      record {
        kept = kept_part maker old new c e (with_heaps (heap_returned slot None (heaps_at c)) c) (in_phase Idle f) (back_core slot None c can.core inside) (held_of maker c.settings c.plan e can.frame) refl refl refl refl;
        shape = (refl, (can.frame.shape.0, can.frame.shape.1, inside));
        even = λ w. let back = heap_comes_back maker w.unit slot None c can.core inside gone.out in omega (arith, back.0, back.1, ap (region_count w.unit (heap_slot slot)) gone.notes);
        fewer = omega arith;
        way = same_way maker old new c e f.asked f.ending (objects_in f.objects);
        searched = λ s. tt;
      }

  pub put_no_heap_ready : (at : TakenSlot) (c : PoolCore P H) (f : Frame P H) → Can maker (PutNoHeap at) c f → Shows (PutNoHeap at) c f (in_heaps c (put_heap_on at.name.slot None (FreeOne at.name) (heaps_at c) (in_phase Idle f)))
  put_no_heap_ready at c f can =
      let named : IsHeapName c.plan at.name = can.frame.shape.2 in
      let T : SlotName → Type 0 = λ n. Can maker (PutNoHeap (record { name = n; numbers = at.numbers })) c f → Shows (PutNoHeap (record { name = n; numbers = at.numbers })) c f (in_heaps c (put_heap_on at.name.slot None (FreeOne n) (heaps_at c) (in_phase Idle f))) in
      let its : T (heap_slot at.name.slot) = put_none_ready at.name.slot at.numbers c f in
      subst T (sym (heap_name c.plan at.name named)) its can

  -- A heap that is given back is no grant any more,
  pub uncount_heap_ready : (lease : LeasedHeap H) (memory : Option Lease) (c : PoolCore P H) (f : Frame P H) → Can maker (UncountHeap lease memory) c f → Shows (UncountHeap lease memory) c f (uncount_heap_row lease memory c (in_phase Idle f))
  uncount_heap_ready lease memory c f can =
      let e : Frame P H = in_phase (UncountHeap lease memory) f in
      let some : 0 < c.counters.gc_heaps = omega (arith, counted_fits c e can.fits (only (counted_object heap_kind))) in
      record {
        kept = record {
          core = core_with_counters maker (record c.counters { gc_heaps = c.counters.gc_heaps - 1 }) c can.core;
          held = held_of maker c.settings c.plan e can.frame;
          asked = refl;
          settings = refl;
          plan = refl;
          by_one = λ k. omega (arith, one_less c.counters.gc_heaps (only k (counted_object heap_kind)) some);
        };
        shape = (refl, (can.frame.shape.0, can.frame.shape.1, can.frame.shape.2, can.frame.shape.3));
        even = λ w. omega (arith, one_less c.counters.gc_heaps (w.counts (counted_object heap_kind)) some);
        fewer = omega arith;
        way = same_way maker old new c e f.asked f.ending (objects_in f.objects);
        searched = λ s. tt;
      }

  -- comes back to its slot,
  pub put_heap_ready : (lease : LeasedHeap H) (memory : Option Lease) (c : PoolCore P H) (f : Frame P H) → Can maker (PutHeap lease memory) c f → Shows (PutHeap lease memory) c f (in_heaps c (put_heap_on lease.index (Some lease.heap) (heap_freed (heap_slot lease.index) memory) (heaps_at c) (in_phase Idle f)))
  put_heap_ready lease None c f can =
      let e : Frame P H = in_phase (PutHeap lease None) f in
      let inside : lease.index < c.plan.totals.heap = can.frame.shape.2 in
      let gone = heap_back_is_away maker lease None c f can.core can.fits in
      record {
        kept = kept_part maker old new c e (with_heaps (heap_returned lease.index (Some lease.heap) (heaps_at c)) c) (in_phase Idle f) (back_core lease.index (Some lease.heap) c can.core inside) (held_of maker c.settings c.plan e can.frame) refl refl refl refl;
        shape = (refl, (can.frame.shape.0, can.frame.shape.1, inside));
        even = λ w. let back = heap_comes_back maker w.unit lease.index (Some lease.heap) c can.core inside gone.out in omega (arith, back.0, back.1, ap (region_count w.unit (heap_slot lease.index)) gone.notes);
        fewer = omega arith;
        way = same_way maker old new c e f.asked f.ending (objects_in f.objects);
        searched = λ s. tt;
      }
  put_heap_ready lease (Some memory) c f can =
      let e : Frame P H = in_phase (PutHeap lease (Some memory)) f in
      let inside : lease.index < c.plan.totals.heap = can.frame.shape.2 in
      let gone = heap_back_is_away maker lease (Some memory) c f can.core can.fits in
      record {
        kept = kept_part maker old new c e (with_heaps (heap_returned lease.index (Some lease.heap) (heaps_at c)) c) (in_phase Idle f) (back_core lease.index (Some lease.heap) c can.core inside) (held_of maker c.settings c.plan e can.frame) refl refl refl refl;
        shape = (refl, (can.frame.shape.0, can.frame.shape.1, record { kind = refl; inside = inside }, can.frame.shape.3));
        even = λ w. let back = heap_comes_back maker w.unit lease.index (Some lease.heap) c can.core inside gone.out in omega (arith, back.0, back.1, ap (region_count w.unit (heap_slot lease.index)) gone.notes);
        fewer = omega arith;
        way = same_way maker old new c e f.asked f.ending (objects_in f.objects);
        searched = λ s. tt;
      }

  -- and its slot is freed, before its memory is given back.
  pub free_heap_ready : (name : SlotName) (memory : Lease) (c : PoolCore P H) (f : Frame P H) → Can maker (FreeHeap name memory) c f → Shows (FreeHeap name memory) c f (in_shard (home_of c.plan name).place c (free_heap_on c.plan name memory (shard_at (home_of c.plan name).place c) (in_phase Idle f)))
  free_heap_ready name memory c f can =
      let e : Frame P H = in_phase (FreeHeap name memory) f in
      let j : ℕ = (home_of c.plan name).place in
      let shard : ShardState = shard_at j c in
      let inside : name.slot < of_kind name.kind c.plan.totals = heap_inside c.plan name can.frame.shape.2 in
      let place = place_of maker c name can.core inside in
      let used = (held_is_out maker name c e can.core can.fits (omega (arith, slot_once name))).used in
      let freed : ShardState = after_free (home_of c.plan name).local 0 shard in
      let there : IsShardPlace c.plan j = home_place c.plan (length c.parts) name can.core.plan inside in
      let next_shard : IsShardOf shard freed = freed_shard (home_of c.plan name).local 0 shard (sound_shard maker j c can.core there) (some_used _ used) (omega arith) in
      record {
        kept = kept_part maker old new c e (with_shard j freed c) (in_phase Idle f) (core_with_shard maker j freed c can.core there next_shard.sound next_shard.same) (held_of maker c.settings c.plan e can.frame) refl refl refl refl;
        shape = (refl, (can.frame.shape.0, can.frame.shape.1, can.frame.shape.3));
        even = λ w. omega (arith, kept_shard w.unit j freed c (shard_part maker j c can.core there), away_shard w.unit j freed c (shard_part maker j c can.core there), freed_one w.unit c.plan shard name 0 place used);
        fewer = omega arith;
        way = same_way maker old new c e f.asked f.ending (objects_in f.objects);
        searched = λ s. tt;
      }

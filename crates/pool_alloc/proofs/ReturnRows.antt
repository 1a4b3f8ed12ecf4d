-- The rows of a give-back, and of a flush.
use Rattle.std.proofs.Common.{map, ◌≡◌, ℕ, ◌+◌, ◌-◌, ◌%◌, ◌^◌, ◌<◌, ◌≤◌, Bool, true, false, List, [], ◌∷◌, ◌++◌, length, refl, sym, ap, subst, ◌∙◌, arith, All, inl, Option, None, Some, ◌==◌, ◌||◌, ◌&&◌, not, nat_le, filter, IfSome, ◌*◌}
use Rattle.pool_alloc.proofs.Imports.{of_kind, long_by_kind, Plan, leb-false, or_parts, length_push, length-append, All-head, All-nil, All-push, All-filter, All-weaker, All-tail, length-filter_both, MakerTold, RestoreOriginalMapping, Slot, forgotten, given_marks, left_by, reset_by, few_left, ByteRange, ShardState, image_slot_of, CellState, cell_filled, Queue, Queued, LeavesClean, empty_queue, taken_into, drained, after_append, IsSettled, first_of_kind, first_zeroed, is_to_zero, others_of_kind, plain_slot, SlotKind, memory_kind, home_of, cell_place, AllByRecursion, list_any, SlotName, Told, StackState, TellsMarks, used_left, used_part, stack_kept, stack_ranges, stack_zeroed, stack_item, leaves_clean, first_settled, zeroed_long, table_kind, stack_kind}
use Rattle.pool_alloc.proofs.SumsBelow.{queued_cells}
use Rattle.pool_alloc.proofs.PlanPlaces.{IsShardPlace, IsQueuePlace, apart_places, queue_no_cell, tried_is_queue}
use Rattle.pool_alloc.specs.PartyTold.{PartyTold}
use Rattle.pool_alloc.specs.declared.pool_core.PoolCore.{PoolCore}
use Rattle.pool_alloc.specs.declared.frame.Frame.{Frame}
use Rattle.pool_alloc.specs.declared.frame.FreedSlot.{FreedSlot}
use Rattle.pool_alloc.specs.declared.frame.Phase.{Phase}
use Rattle.pool_alloc.specs.declared.frame.Phase.TheVariants.{Idle, UncountObject, Reset, Merge, Flush, UncountInstance}
use Rattle.pool_alloc.specs.PageCallAnswers.{Decommits, Resets, FlushTold, ResetTold}
use Rattle.pool_alloc.specs.StepBounds.{all_slots, sizes_of}
use Rattle.pool_alloc.specs.Freeing.{AreUsedInTurn}
use Rattle.pool_alloc.specs.Leases.{Lease, memory_slot, slot_taken}
use Rattle.pool_alloc.specs.MemorySteps.{slot_ended, reset_into}
use Rattle.pool_alloc.specs.Places.{Thing, both_count, queued_count, region_count, right_to, taken_count, counted_instance, counted_object, only, instances_for, of_units}
use Rattle.pool_alloc.specs.Reserved.{with_item}
use Rattle.pool_alloc.specs.StepTable.{stack_reset_row, FlushStep, run, zero, put, free, flush_step, merged, merge_on, in_queue, uncount_object_row, was_reset, reset_turn, reset_row, uncount_instance_row, decommit_row, zero_row, put_first, free_row, flush_row}
use Rattle.pool_slots.specs.declared.queued_range.QueueKind.TheVariants as queued
use Rattle.pool_alloc.specs.declared.frame.Object.{Object}
use Rattle.pool_alloc.specs.declared.frame.Object.TheVariants.{Memory, Table, Stack}
use Rattle.pool_alloc.specs.Objects.{objects_in, slot_of_object}
use Rattle.pool_alloc.specs.BetweenSteps.{IsPoolSlot, IsCore, IsShared, IsLocal, IsByHand, IsQueuedOf, MayBeRanged, IsFreedOf, HasCells}
use Rattle.pool_alloc.specs.StepReads.{StepGiven, shard_at, cell_named, queue_at, freed_of, freed_elsewhere, first_shard, after_frees, cell_returned, queue_tried, with_shard, with_cell, with_queue}
use Rattle.pool_alloc.specs.Turns.{goes, next, flush, Row, is_flushed}
use Rattle.pool_alloc.proofs.BeforeTheTurn.{some_length, counts_one, none_granted, none_counted, in_phase, hand, held_of, Even, Kept, IsReadyRow, either_ready, one_less}
use Rattle.pool_alloc.proofs.CoreChanges.{core_with_shard, core_with_cell, core_with_queue, core_with_counters}
use Rattle.pool_alloc.proofs.FlushSteps.{few_in_both, flush_few, decommit_fewer, put_fewer, free_fewer, zero_fewer}
use Rattle.pool_alloc.proofs.FreedSlots.{freed_counts}
use Rattle.pool_alloc.proofs.KeptCounts.{kept_shard, kept_queue, away_shard, away_queue, region_returns}
use Rattle.pool_alloc.proofs.LocalQueues.{IsStillLocal, listed_may, reset_local, drained_shared, taken_local, drained_local, joined_local, joined_shared, decommitted_local, rest_local, IsResetLocal, zeroed_local}
use Rattle.pool_alloc.proofs.PhaseFacts.{local_is_apart, first_can_be_put, first_can_be_freed}
use Rattle.pool_alloc.proofs.QueueCounts.{queued_last, queued_joined, freed_last, freed_parted, run_counts, faulted_counts}
use Rattle.pool_alloc.proofs.RowsWithASlot.{goes_back}
use Rattle.pool_alloc.proofs.ShardFrees.{IsShardOf, frees_shard}
use Rattle.pool_alloc.proofs.SlotIdentity.{one_reset, slot_of_one}
use Rattle.pool_alloc.specs.Stepping.{grant_weight}
use Rattle.pool_alloc.proofs.SharedByRows.{Can, searched_back, aims_back, next_returns, kept_part, same_way, ends_way, searched_still}
use Rattle.pool_alloc.proofs.PoolParts.{sound_shard, sound_cell, sound_queue, shard_part, queue_part}
use Rattle.pool_alloc.proofs.Searches.{still_empty}
use Rattle.pool_alloc.specs.Searches.{AreEmpty}
use Rattle.pool_slots.specs.declared.part.PoolPart.TheVariants as part
use Rattle.pool_alloc.proofs.FlushFinds.{finds, Finds, FindsFreed, FindsPut, FreesFirst, IsBack, frees_first, is_back, names_of, none_waits, order_freed, order_put, puts_some}
use Rattle.pool_alloc.specs.TableSteps.{IsInRegion, bytes_used, reset_in, table_marks, table_queued, table_reset}
use Rattle.pool_alloc.specs.PoolTables.{IsPoolTable, IsTableLease}
use Rattle.pool_alloc.specs.TableLeases.{LeasedTable}
use Rattle.pool_alloc.proofs.KindCounts.{counts_first, first_has, first_kind, others_long, zeroed_counts}
use Rattle.pool_alloc.specs.StackLeases.{LeasedStack}
use Rattle.pool_alloc.specs.PoolStacks.{IsStackLease, stack_reset}
use Rattle.pool_alloc.specs.declared.pool_core.Settings.{Settings}
use Rattle.pool_alloc.proofs.StackRegions.{few_ranges, stack_by_hand, stack_given_back, stack_leaves, stack_name, stack_page, stack_queued_of, stack_small}
use Rattle.pool_alloc.proofs.TableReturns.{returned_has, returned_may, table_leaves, table_still}
use Rattle.pool_alloc.proofs.SlotsOfFrames.{right_is_out}
use Rattle.pool_alloc.proofs.Weights.{counted_fits}

fewer_left : (p : FreedSlot → Bool) (xs : List FreedSlot) → length (filter (λ x. not (p x)) xs) ≤ length xs
fewer_left p xs = omega (arith, length-filter_both p (λ (x : FreedSlot). not (p x)) (λ x. refl) xs)

-- what is so of all is so of the first of a kind
each_of : (Q : Queued → Type 0) (ms : List Queued) → All Q ms → AllByRecursion Q ms
each_of Q [] each = tt
each_of Q (m ∷ ms) each = (All-head Q m ms each, each_of Q ms (All-tail Q m ms each))

pub first_of_all : (Q : Queued → Type 0) (kind : SlotKind) (m : Queued) (ms : List Queued) → first_of_kind kind ms ≡ Some m → All Q ms → Q m
first_of_all Q kind m ms is each = first_has Q kind m ms is (each_of Q ms each)

decommit_counts : (t : Thing) (fault : Bool) (old new : Queue) → Decommits fault old new → queued_count t new.slots ≡ queued_count t old.slots
decommit_counts t true old new told = faulted_counts t old new told
decommit_counts t false old new told = ap (λ (q : Queue). queued_count t q.slots) told ∙ run_counts t old

bytes_of : (plan : Plan) (xs : List FreedSlot) → All (IsFreedOf plan) xs → All (λ x. x.bytes ≤ 2 ^ 32) xs
bytes_of plan xs each = All-weaker (IsFreedOf plan) (λ x. x.bytes ≤ 2 ^ 32) (λ x of. of.bytes) xs each

-- ranges of a stack that is reset may be queued
stack_ranged : (b : Bool) (s : Settings) (keep : ℕ) (x : StackState) → b ≡ s.stack_zeroing → All (MayBeRanged s) (map (λ r. record { kind = queued.Stack; slot = record { 0 = x.index }; range = r }) (stack_ranges b keep x))
stack_ranged true s keep x is = listed_may s queued.Stack x.index (stack_ranges true keep x) (λ e. sym is)
stack_ranged false s keep x is = All-nil (MayBeRanged s)

module _ {P H : Type 0} where
  core_after_frees : (maker : MakerTold) (j : ℕ) (slots : List FreedSlot) (c : PoolCore P H) → IsCore maker c → IsShardPlace c.plan j → AreUsedInTurn c.plan slots (shard_at j c) → All (λ x. x.bytes ≤ 2 ^ 32) slots → IsCore maker (with_shard j (after_frees c.plan slots (shard_at j c)) c)
  core_after_frees maker j slots c core below used small =
      let new : IsShardOf (shard_at j c) (after_frees c.plan slots (shard_at j c)) = frees_shard c.plan slots (shard_at j c) (sound_shard maker j c core below) used small in
      core_with_shard maker j (after_frees c.plan slots (shard_at j c)) c core below new.sound new.same

  -- something is left of a flush that has no slots queued: freed ones
  left_freed : (f : Frame P H) → is_flushed f ≡ false → f.local.slots ≡ [] → 0 < length f.freed.items
  left_freed f more none =
      let M : List Queued → Type 0 = λ ms. ((length ms == 0) && (length f.freed.items == 0)) ≡ false in
      let left : (length f.freed.items == 0) ≡ false = subst M none more in
      some_length f.freed.items left

  -- Where slots are freed, there are some, and no others that are at home there.
  pub first_freed : (maker : MakerTold) (c : PoolCore P H) (f : Frame P H) → Can maker Flush c f → FindsFreed f.local.slots f.freed.items → FreesFirst c.plan f.local.slots f.freed.items
  first_freed maker c f can found =
      let named : (name : SlotName) → 0 < queued_count (right_to name) f.local.slots → name.slot < of_kind name.kind c.plan.totals = λ name some. (right_is_out maker name c can.core (omega (arith, some, can.fits.once (of_units (right_to name))))).inside in
      let cells : All (λ m. HasCells m.name.kind) f.local.slots = All-weaker (IsQueuedOf maker c.settings) (λ m. HasCells m.name.kind) (queued_cells maker c.settings) f.local.slots can.frame.queue.regions in
      frees_first c.plan (length c.parts) f.local.slots f.freed.items can.core.plan can.frame.freed_each (names_of c.plan f.local.slots cells named) can.frame.freed_order found (left_freed f can.frame.shape.1)

module _ {P H : Type 0} (maker : MakerTold) (old new : PartyTold) where
  abbrev Shows : Phase P H → PoolCore P H → Frame P H → Row (PoolCore P H) P H → Type 0
  Shows p c f r = IsReadyRow maker old new c (in_phase p f) r

  -- An object that is given back is no grant any more.
  pub uncount_object_ready : (object : Object P) (c : PoolCore P H) (f : Frame P H) → Can maker (UncountObject object) c f → Shows (UncountObject object) c f (uncount_object_row object c (in_phase Idle f))
  uncount_object_ready (Memory lease) c f can =
      let e : Frame P H = in_phase (UncountObject (Memory lease)) f in
      let some : 0 < c.counters.memories = omega (arith, counted_fits c e can.fits (only (counted_object memory_kind))) in
      record {
        kept = record { core = core_with_counters maker (record c.counters { memories = c.counters.memories - 1 }) c can.core; held = held_of maker c.settings c.plan e can.frame; asked = refl; settings = refl; plan = refl; by_one = λ k. omega (arith, one_less c.counters.memories (only k (counted_object memory_kind)) some) };
        shape = (refl, can.frame.shape);
        even = λ w. omega (arith, one_less c.counters.memories (w.counts (counted_object memory_kind)) some);
        fewer = omega arith;
        way = same_way maker old new c e f.asked f.ending (objects_in f.objects);
        searched = λ s. tt;
      }
  uncount_object_ready (Table lease) c f can =
      let e : Frame P H = in_phase (UncountObject (Table lease)) f in
      let some : 0 < c.counters.tables = omega (arith, counted_fits c e can.fits (only (counted_object table_kind))) in
      record {
        kept = record { core = core_with_counters maker (record c.counters { tables = c.counters.tables - 1 }) c can.core; held = held_of maker c.settings c.plan e can.frame; asked = refl; settings = refl; plan = refl; by_one = λ k. omega (arith, one_less c.counters.tables (only k (counted_object table_kind)) some) };
        shape = (refl, can.frame.shape);
        even = λ w. omega (arith, one_less c.counters.tables (w.counts (counted_object table_kind)) some);
        fewer = omega arith;
        way = same_way maker old new c e f.asked f.ending (objects_in f.objects);
        searched = λ s. tt;
      }
  uncount_object_ready (Stack lease) c f can =
      let e : Frame P H = in_phase (UncountObject (Stack lease)) f in
      let some : 0 < c.counters.stacks = omega (arith, counted_fits c e can.fits (only (counted_object stack_kind))) in
      record {
        kept = record { core = core_with_counters maker (record c.counters { stacks = c.counters.stacks - 1 }) c can.core; held = held_of maker c.settings c.plan e can.frame; asked = refl; settings = refl; plan = refl; by_one = λ k. omega (arith, one_less c.counters.stacks (only k (counted_object stack_kind)) some) };
        shape = (refl, can.frame.shape);
        even = λ w. omega (arith, one_less c.counters.stacks (w.counts (counted_object stack_kind)) some);
        fewer = omega arith;
        way = same_way maker old new c e f.asked f.ending (objects_in f.objects);
        searched = λ s. tt;
      }

  -- An object is reset into the local queue, which has it alone then.
  reset_on_ready : (object : Object P) (q : Queue) (c : PoolCore P H) (f : Frame P H) → Can maker (Reset object) c f → IsResetLocal maker c.settings q → ((t : Thing) → queued_count t q.slots ≡ queued_count t f.local.slots + taken_count t (slot_of_object object)) → 0 < all_slots c.plan
      → Shows (Reset object) c f (record { part = c; frame = record f { phase = Idle; local = q }; turn = reset_turn c.settings.batch q })
  reset_on_ready object q c f can is counts slots =
      let e : Frame P H = in_phase (Reset object) f in
      let settled = can.frame.shape.0 in
      let back = can.frame.shape.1 in
      let has : Frame P H = record f { phase = Idle; local = q } in
      let kept : Kept maker old new c e c has = kept_part maker old new c e c has can.core
      (record {
        stripe = can.frame.stripe;
        queue = is.queue;
        freed_room = (can.frame.freed_room.0, omega (arith, is.one, can.core.settings.batch.0, ap (length {A = FreedSlot}) settled.none_freed));
        freed_each = can.frame.freed_each;
        freed_order = none_waits f.freed.items settled.none_freed;
        objects = can.frame.objects;
      })
      refl refl refl refl in
      let even : Even maker old new c e (hand {P = P} {H = H} f.asked next) c has = λ w. omega (arith, counts w.unit) in
      let few = flush_few (sizes_of c.settings c.plan) (all_slots c.plan) q f.freed is.queue.grouped (omega (arith, is.one, slots)) in
      let stays = same_way maker old new c e f.asked f.ending (objects_in f.objects) in
      either_ready maker old new c e c has ((length q.ranges == 0) || nat_le c.settings.batch (length q.ranges)) flush (goes Merge)
      (λ full. record {
        kept = kept;
        shape = aims_back c.settings c.plan f.ending f.asked f.queues f.objects back;
        even = λ w. omega (arith, even w);
        fewer = omega (arith, few, next_returns (sizes_of c.settings c.plan) f.ending f.queues f.asked f.objects back);
        way = stays;
        searched = λ s. searched_back f.ending _ back;
      })
      (λ some.
      let parts = or_parts (length q.ranges == 0) (nat_le c.settings.batch (length q.ranges)) some in
      record {
        kept = kept;
        shape = (refl, (back, settled.none_freed, is.one, some_length q.ranges parts.0, omega (arith, leb-false c.settings.batch (length q.ranges) parts.1), is.known));
        even = λ w. omega (arith, even w);
        fewer = omega arith;
        way = stays;
        searched = λ s. tt;
      })

  -- The memory is reset, or a page call of that failed.
  memory_reset_ready : (fault : Bool) (held : Slot) (lease : Lease) (c : PoolCore P H) (f : Frame P H) → Can maker (Reset (Memory lease)) c f → Resets fault c.settings.dirty_pages c.settings.keep_resident.bytes (slot_taken lease) (image_slot_of lease.memory) held → Shows (Reset (Memory lease)) c f (was_reset fault held lease c (in_phase Idle f))
  memory_reset_ready true held lease c f can told =
      let e : Frame P H = in_phase (Reset (Memory lease)) f in
      let of = can.frame.shape.2 in
      record {
        kept = kept_part maker old new c e c (in_phase Idle f) can.core (held_of maker c.settings c.plan e can.frame) refl refl refl refl;
        shape = (refl, (can.frame.shape.0, can.frame.shape.1, goes_back maker c.settings c.plan (memory_slot lease.index) (forgotten held) (record { kind = refl; inside = of.inside; region = slot_of_one maker c.settings lease.index (image_slot_of lease.memory) (forgotten held) told.1.same of.slot })));
        even = λ w. omega arith;
        fewer = omega arith;
        way = same_way maker old new c e f.asked f.ending (objects_in f.objects);
        searched = λ s. tt;
      }
  memory_reset_ready false held lease c f can told =
      let settled = can.frame.shape.0 in
      let of = can.frame.shape.2 in
      let keep : ℕ = c.settings.keep_resident.bytes in
      let slot : Slot = image_slot_of lease.memory in
      let marks : Option (List Bool) = given_marks c.settings.dirty_pages slot in
      let m : Queued = slot_ended c.settings.dirty_pages keep (slot_taken lease) slot in
      let still : IsPoolSlot maker c.settings lease.index (reset_by marks slot.region.behaviour keep slot) = slot_of_one maker c.settings lease.index slot (reset_by marks slot.region.behaviour keep slot) (one_reset marks slot.region.behaviour keep slot) of.slot in
      let ranges : List ByteRange = left_by marks slot.region.behaviour keep slot in
      let is = reset_local maker c.settings queued.Memory ranges lease.index m f.local refl can.core.settings can.frame.queue settled.no_ranges settled.no_slots (omega (arith, few_left marks slot.region.behaviour keep slot, can.core.settings.batch.0)) (record { slot = still; by_hand = tt }) (listed_may c.settings queued.Memory lease.index ranges (λ e. absurd cc)) told.1 (inl refl) in
      reset_on_ready (Memory lease) (reset_into c.settings.dirty_pages keep (slot_taken lease) slot f.local) c f can is (λ t. queued_last t f.local.slots m) (omega (arith, of.inside))

  -- The table is.
  table_reset_ready : (region : Told) (lease : LeasedTable) (c : PoolCore P H) (f : Frame P H) → Can maker (Reset (Table lease)) c f → IsPoolTable maker c.settings lease.index (plain_slot 0 region) → IsInRegion c.settings.page lease region → TellsMarks region
      → Shows (Reset (Table lease)) c f (record { part = c; frame = record f { phase = Idle; local = table_reset c.settings.dirty_pages c.settings.page c.settings.table_keep_resident.bytes lease region f.local }; turn = reset_turn c.settings.batch (table_reset c.settings.dirty_pages c.settings.page c.settings.table_keep_resident.bytes lease region f.local) })
  table_reset_ready region lease c f can of lies marked =
      let settled = can.frame.shape.0 in
      let page : ℕ = c.settings.page in
      let keep : ℕ = c.settings.table_keep_resident.bytes in
      let offered : Bool = c.settings.dirty_pages in
      let marks : Option (List Bool) = table_marks offered page lease region in
      let m : Queued = table_queued offered page keep lease region in
      let ranges : List ByteRange = used_left marks keep (bytes_used page lease) (plain_slot 0 region) in
      let leaves = table_leaves offered page keep lease region lies marked can.core.settings.table_kept in
      let is = reset_local maker c.settings queued.Table ranges lease.index m f.local refl can.core.settings can.frame.queue settled.no_ranges settled.no_slots (omega (arith, few_left marks RestoreOriginalMapping keep (used_part (bytes_used page lease) (plain_slot 0 region)), can.core.settings.batch.0)) (record { slot = table_still offered maker c.settings page keep lease region of; by_hand = refl }) (listed_may c.settings queued.Table lease.index ranges (λ e. absurd cc)) leaves (inl refl) in
      reset_on_ready (Table lease) (table_reset offered page keep lease region f.local) c f can is (λ t. queued_last t f.local.slots m) (omega (arith, can.frame.shape.2.inside))

  -- The stack is.
  stack_reset_ready : (lease : LeasedStack) (c : PoolCore P H) (f : Frame P H) → Can maker (Reset (Stack lease)) c f → Shows (Reset (Stack lease)) c f (stack_reset_row lease c (in_phase Idle f))
  stack_reset_ready lease c f can =
      let settled = can.frame.shape.0 in
      let of : IsStackLease maker c.settings c.plan lease = can.frame.shape.2 in
      let s : Settings = c.settings in
      let x : StackState = lease.stack in
      let keep : ℕ = s.stack_keep_resident.bytes in
      let z : Bool = x.zeroing in
      let m : Queued = stack_item (stack_zeroed z keep x) (stack_kept z keep x) lease.numbers in
      let ranges : List ByteRange = stack_ranges z keep x in
      let whole : keep % x.slot.region.page ≡ 0 = rw (stack_page maker s x.index x.slot can.core.page of.slot) can.core.settings.stack_kept in
      let L : ℕ → Type 0 = λ n. LeavesClean (map (λ r. record { kind = queued.Stack; slot = record { 0 = n }; range = r }) ranges) m in
      let leaves : L x.index = subst L (ap (λ (n : SlotName). n.slot) (stack_name z keep x lease.numbers)) (leaves_clean queued.Stack m ranges (empty_queue 0 0) (ap (λ (n : SlotName). n.kind) (stack_name z keep x lease.numbers)) tt refl (stack_leaves keep x lease.numbers of.plain whole (stack_small maker s x.index x.slot can.core.settings of.slot))) in
      let hand : IsByHand s.stack_zeroing m.by_hand = stack_by_hand z s.stack_zeroing keep x lease.numbers refl of.zeroing in
      let queues : IsQueuedOf maker s m = stack_queued_of z maker s keep lease c.plan of hand in
      let is = reset_local maker s queued.Stack ranges x.index m f.local (stack_name z keep x lease.numbers) can.core.settings can.frame.queue settled.no_ranges settled.no_slots (omega (arith, few_ranges z keep x, can.core.settings.batch.0)) queues (stack_ranged z s keep x of.zeroing) leaves (stack_given_back (stack_zeroed z keep x) (stack_kept z keep x) lease.numbers) in
      reset_on_ready (Stack lease) (stack_reset keep lease f.local) c f can is (λ t. omega (arith, queued_last t f.local.slots m, ap (λ (n : SlotName). both_count t n lease.numbers) (stack_name z keep x lease.numbers))) (omega (arith, of.inside))

  pub reset_ready : (g : StepGiven H) (object : Object P) (c : PoolCore P H) (f : Frame P H) → Can maker (Reset object) c f → ResetTold c.settings g object → Shows (Reset object) c f (reset_row g object c (in_phase Idle f))
  reset_ready g (Memory lease) c f can told = memory_reset_ready g.fault g.slot lease c f can told
  reset_ready g (Table lease) c f can told =
      let held : IsTableLease maker c.settings c.plan lease = can.frame.shape.2 in
      let S : Option Told → Type 0 = λ o. Shows (Reset (Table lease)) c f (record { part = c; frame = record f { phase = Idle; local = reset_in c.settings.dirty_pages c.settings.page c.settings.table_keep_resident.bytes lease o f.local }; turn = reset_turn c.settings.batch (reset_in c.settings.dirty_pages c.settings.page c.settings.table_keep_resident.bytes lease o f.local) }) in
      subst S (sym held.lies.is) (table_reset_ready held.region lease c f can held.slot held.lies (subst (λ (o : Option Told). IfSome o TellsMarks) held.lies.is told))
  reset_ready g (Stack lease) c f can told = stack_reset_ready lease c f can

  -- The local queue is appended.
  merged_ready : (b : Bool) (c : PoolCore P H) (f : Frame P H) → Can maker Merge c f → nat_le c.settings.batch (length (after_append (queue_at (queue_tried 0 c.plan f) c) f.local).ranges) ≡ b → Shows Merge c f (in_queue (queue_tried 0 c.plan f) c (merged b (after_append (queue_at (queue_tried 0 c.plan f) c) f.local) (record f { phase = Idle; local = drained f.local })))
  merged_ready true c f can is =
      let e : Frame P H = in_phase Merge f in
      let i : ℕ = queue_tried 0 c.plan f in
      let q : Queue = queue_at i c in
      let whole : Queue = after_append q f.local in
      let below : IsQueuePlace c.plan i = tried_is_queue 0 c.plan (length c.parts) f can.core.plan in
      let shape = can.frame.shape in
      let shared : IsShared maker c.settings q = sound_queue maker i c can.core below in
      let both : IsLocal maker c.settings whole = joined_local maker c.settings q f.local shared can.frame.queue (local_is_apart maker i c e can.core can.fits below) shape.2 shape.4 in
      let slots : length whole.slots ≡ length q.slots + length f.local.slots = long_by_kind (q.slots ++ f.local.slots) ∙ length-append q.slots f.local.slots in
      let has : Frame P H = record f { phase = Idle; local = taken_into (drained f.local) whole } in
      record {
        kept = kept_part maker old new c e (with_queue i (drained whole) c) has
            (core_with_queue maker i (drained whole) c can.core below (drained_shared maker c.settings whole can.core.settings both.range_room both.slot_room))
            (record {
              stripe = can.frame.stripe;
              queue = taken_local maker c.settings (drained f.local) whole (drained_local maker c.settings f.local can.frame.queue.range_room can.frame.queue.slot_room) both;
              freed_room = (can.frame.freed_room.0, omega (arith, shared.short, shared.slots, slots, shape.2, ap (length {A = FreedSlot}) shape.1));
              freed_each = can.frame.freed_each;
              freed_order = none_waits f.freed.items shape.1;
              objects = can.frame.objects;
            })
            refl refl refl refl;
        shape = aims_back c.settings c.plan f.ending f.asked f.queues f.objects shape.0;
        even = λ w. omega (arith, kept_queue w.unit i (drained whole) c (queue_part maker i c can.core below), away_queue w.unit i (drained whole) c (queue_part maker i c can.core below), queued_joined w.unit q.slots f.local.slots);
        fewer = omega (arith, flush_few (sizes_of c.settings c.plan) (all_slots c.plan) (taken_into (drained f.local) whole) f.freed both.grouped (few_in_both maker i c e can below), next_returns (sizes_of c.settings c.plan) f.ending f.queues f.asked f.objects shape.0);
        way = same_way maker old new c e f.asked f.ending (objects_in f.objects);
        searched = λ s. searched_back f.ending _ shape.0;
      }
  merged_ready false c f can is =
      let e : Frame P H = in_phase Merge f in
      let i : ℕ = queue_tried 0 c.plan f in
      let q : Queue = queue_at i c in
      let whole : Queue = after_append q f.local in
      let below : IsQueuePlace c.plan i = tried_is_queue 0 c.plan (length c.parts) f can.core.plan in
      let shape = can.frame.shape in
      let shared : IsShared maker c.settings q = sound_queue maker i c can.core below in
      let both : IsLocal maker c.settings whole = joined_local maker c.settings q f.local shared can.frame.queue (local_is_apart maker i c e can.core can.fits below) shape.2 shape.4 in
      let has : Frame P H = record f { phase = Idle; local = drained f.local } in
      record {
        kept = kept_part maker old new c e (with_queue i whole c) has
            (core_with_queue maker i whole c can.core below (joined_shared maker c.settings q f.local shared both shape.5 shape.2 shape.3 (leb-false c.settings.batch (length whole.ranges) is)))
            (record {
              stripe = can.frame.stripe;
              queue = drained_local maker c.settings f.local can.frame.queue.range_room can.frame.queue.slot_room;
              freed_room = (can.frame.freed_room.0, omega (arith, can.frame.freed_room.1));
              freed_each = can.frame.freed_each;
              freed_order = none_waits f.freed.items shape.1;
              objects = can.frame.objects;
            })
            refl refl refl refl;
        shape = (record { no_ranges = refl; no_slots = refl; none_freed = shape.1 }, aims_back c.settings c.plan f.ending f.asked f.queues f.objects shape.0);
        even = λ w. omega (arith, kept_queue w.unit i whole c (queue_part maker i c can.core below), away_queue w.unit i whole c (queue_part maker i c can.core below), queued_joined w.unit q.slots f.local.slots);
        fewer = omega (arith, next_returns (sizes_of c.settings c.plan) f.ending f.queues f.asked f.objects shape.0);
        way = same_way maker old new c e f.asked f.ending (objects_in f.objects);
        searched = λ s. searched_back f.ending _ shape.0;
      }

  pub merge_ready : (c : PoolCore P H) (f : Frame P H) → Can maker Merge c f → Shows Merge c f (in_queue (queue_tried 0 c.plan f) c (merge_on c.settings (queue_at (queue_tried 0 c.plan f) c) (in_phase Idle f)))
  merge_ready c f can = merged_ready (nat_le c.settings.batch (length (after_append (queue_at (queue_tried 0 c.plan f) c) f.local).ranges)) c f can refl

  -- The instance is given back, and the call ends.
  pub uncount_instance_ready : (c : PoolCore P H) (f : Frame P H) → Can maker UncountInstance c f → Shows UncountInstance c f (uncount_instance_row c (in_phase Idle f))
  uncount_instance_ready c f can =
      let e : Frame P H = in_phase UncountInstance f in
      let one : instances_for f.asked ≡ 1 = counts_one f.asked can.frame.shape.2 in
      let some : 0 < c.counters.core_instances = omega (arith, counted_fits c e can.fits (only counted_instance), one) in
      record {
        kept = record { core = core_with_counters maker (record c.counters { core_instances = c.counters.core_instances - 1 }) c can.core; held = held_of maker c.settings c.plan e can.frame; asked = refl; settings = refl; plan = refl; by_one = λ k. omega (arith, one_less c.counters.core_instances (only k counted_instance) some) };
        shape = (can.frame.shape.0, none_granted _ f.ending);
        even = λ w. omega (arith, none_counted {P = P} {H = H} (grant_weight w) f.ending, one_less c.counters.core_instances (w.counts counted_instance) some, ap (λ (n : ℕ). n * w.counts counted_instance) one);
        fewer = omega arith;
        way = ends_way maker old new c e f.asked f.ending (objects_in f.objects) can.frame.shape.1;
        searched = λ s. tt;
      }

  -- Ranges are decommitted.
  decommit_ready : (fault : Bool) (queue : Queue) (c : PoolCore P H) (f : Frame P H) → Can maker Flush c f → Decommits fault f.local queue → 0 < length f.local.ranges → Shows Flush c f (decommit_row queue c (in_phase Idle f))
  decommit_ready fault queue c f can told some =
      let e : Frame P H = in_phase Flush f in
      let still : IsStillLocal maker c.settings f.local queue = decommitted_local maker c.settings fault f.local queue told some can.frame.queue in
      let has : Frame P H = record f { phase = Idle; local = queue } in
      record {
        kept = kept_part maker old new c e c has can.core
            (record { stripe = can.frame.stripe; queue = still.queue; freed_room = (can.frame.freed_room.0, rw still.long can.frame.freed_room.1); freed_each = can.frame.freed_each; freed_order = can.frame.freed_order; objects = can.frame.objects })
            refl refl refl refl;
        shape = can.frame.shape.0;
        even = λ w. omega (arith, decommit_counts w.unit fault f.local queue told);
        fewer = omega (arith, decommit_fewer (sizes_of c.settings c.plan) fault f.local queue f.freed told some);
        way = same_way maker old new c e f.asked f.ending (objects_in f.objects);
        searched = λ s. s;
      }

  -- A slot is zeroed by hand.
  zero_ready : (kind : SlotKind) (c : PoolCore P H) (f : Frame P H) → Can maker Flush c f → f.local.ranges ≡ [] → list_any (is_to_zero kind) f.local.slots ≡ true → Shows Flush c f (zero_row kind c (in_phase Idle f))
  zero_ready kind c f can none some =
      let e : Frame P H = in_phase Flush f in
      let slots : List Queued = first_zeroed kind f.local.slots in
      let long : length slots ≡ length f.local.slots = zeroed_long kind f.local.slots in
      let has : Frame P H = record f { phase = Idle; local = record f.local { slots = slots } } in
      record {
        kept = kept_part maker old new c e c has can.core
            (record {
              stripe = can.frame.stripe;
              queue = zeroed_local maker c.settings kind f.local none can.frame.queue;
              freed_room = (can.frame.freed_room.0, omega (arith, can.frame.freed_room.1, long));
              freed_each = can.frame.freed_each;
              freed_order = can.frame.freed_order;
              objects = can.frame.objects;
            })
            refl refl refl refl;
        shape = can.frame.shape.0;
        even = λ w. omega (arith, zeroed_counts w.unit kind f.local.slots);
        fewer = omega (arith, zero_fewer (sizes_of c.settings c.plan) kind f.local f.freed none some);
        way = same_way maker old new c e f.asked f.ending (objects_in f.objects);
        searched = λ s. s;
      }

  -- A region is put back.
  put_ready : (kind : SlotKind) (m : Queued) (c : PoolCore P H) (f : Frame P H) → Can maker Flush c f → f.local.ranges ≡ [] → FindsPut kind f.local.slots f.freed.items → first_of_kind kind f.local.slots ≡ Some m → Shows Flush c f (put_first (Some m) (others_of_kind kind f.local.slots) c (in_phase Idle f))
  put_ready kind m c f can none found is =
      let e : Frame P H = in_phase Flush f in
      let of = first_of_all (IsQueuedOf maker c.settings) kind m f.local.slots is can.frame.queue.regions in
      let settled : IsSettled m = subst (λ (o : Option Queued). IfSome o IsSettled) is (first_settled kind f.local can.frame.queue.queue none) in
      let x : FreedSlot = record { name = m.name; bytes = m.bytes } in
      let cell : CellState = cell_filled (cell_returned m) (cell_named m.name c) in
      let d : PoolCore P H = with_cell m.name cell c in
      let has : Frame P H = record f { phase = Idle; local = record f.local { slots = others_of_kind kind f.local.slots }; freed = with_item x f.freed } in
      let long : length f.local.slots ≡ length (others_of_kind kind f.local.slots) + 1 = others_long kind m f.local.slots is in
      let more : length (f.freed.items ++ x ∷ []) ≡ length f.freed.items + 1 = length_push f.freed.items x in
      let can_put = first_can_be_put maker c f kind m can.core can.fits (queued_cells maker c.settings m of) is in
      let back : IsBack m = is_back kind m f.local f.freed.items can.frame.queue.queue found is in
      record {
        kept = kept_part maker old new c e d has
            (core_with_cell maker m.name cell c can.core can_put.named (record { named = (sound_cell maker m.name c can.core can_put.named).named; holds = returned_may maker c.settings m.name.kind m.name.slot m can.core.page can.core.settings of.slot of.by_hand settled.clean back }))
            (record {
              stripe = can.frame.stripe;
              queue = rest_local maker c.settings kind f.local none can.frame.queue;
              freed_room = (can.frame.freed_room.0, omega (arith, can.frame.freed_room.1, more, long));
              freed_each = All-push (IsFreedOf c.plan) f.freed.items x can.frame.freed_each (record { named = can_put.named; bytes = settled.bytes });
              freed_order = order_put kind f.local.slots f.freed.items x found (sym (first_kind kind m f.local.slots is)) can.frame.freed_order;
              objects = can.frame.objects;
            })
            refl refl refl refl;
        shape = can.frame.shape.0;
        even = λ w. omega (arith, counts_first w.unit kind m f.local.slots is, (region_returns maker w.unit m.name (cell_returned m) c can.core can_put.named can_put.away (returned_has m.name.kind m)).0, (region_returns maker w.unit m.name (cell_returned m) c can.core can_put.named can_put.away (returned_has m.name.kind m)).1, ap (region_count w.unit m.name) can_put.out, freed_last w.unit f.freed.items x);
        fewer = omega (arith, put_fewer (sizes_of c.settings c.plan) kind m f.local f.freed is);
        way = same_way maker old new c e f.asked f.ending (objects_in f.objects);
        searched = searched_still f.ending (AreEmpty f.queues c f) (AreEmpty f.queues d f) (still_empty f.queues (cell_place c.plan m.name) _ c f can.core.plan (λ q queue. queue_no_cell c.plan (length c.parts) q m.name can.core.plan can_put.named queue));
      }

  put_first_ready : (kind : SlotKind) (o : Option Queued) (c : PoolCore P H) (f : Frame P H) → Can maker Flush c f → f.local.ranges ≡ [] → FindsPut kind f.local.slots f.freed.items → first_of_kind kind f.local.slots ≡ o → Shows Flush c f (put_first o (others_of_kind kind f.local.slots) c (in_phase Idle f))
  put_first_ready kind None c f can none found is = absurd (puts_some kind f.local.slots f.freed.items found is)
  put_first_ready kind (Some m) c f can none found is = put_ready kind m c f can none found is

  -- The slots of one shard are freed.
  free_ready : (c : PoolCore P H) (f : Frame P H) → Can maker Flush c f → FindsFreed f.local.slots f.freed.items → Shows Flush c f (free_row c (in_phase Idle f))
  free_ready c f can found =
      let e : Frame P H = in_phase Flush f in
      let frees : FreesFirst c.plan f.local.slots f.freed.items = first_freed maker c f can found in
      let first = first_can_be_freed maker c f can frees.some in
      let j : ℕ = first_shard c.plan f.freed.items in
      let shard : ShardState = after_frees c.plan (freed_of c.plan j f.freed.items) (shard_at j c) in
      let d : PoolCore P H = with_shard j shard c in
      let has : Frame P H = record f { phase = Idle; freed = record f.freed { items = freed_elsewhere c.plan j f.freed.items } } in
      let less : length (freed_elsewhere c.plan j f.freed.items) ≤ length f.freed.items = fewer_left (λ x. (home_of c.plan x.name).place == j) f.freed.items in
      record {
        kept = kept_part maker old new c e d has
            (core_after_frees maker j (freed_of c.plan j f.freed.items) c can.core first.shard first.used (All-filter (λ x. (home_of c.plan x.name).place == j) (λ x. x.bytes ≤ 2 ^ 32) f.freed.items (bytes_of c.plan f.freed.items can.frame.freed_each)))
            (record {
              stripe = can.frame.stripe;
              queue = can.frame.queue;
              freed_room = (can.frame.freed_room.0, omega (arith, can.frame.freed_room.1, less));
              freed_each = All-filter (λ x. not ((home_of c.plan x.name).place == j)) (IsFreedOf c.plan) f.freed.items can.frame.freed_each;
              freed_order = order_freed f.freed.items (freed_elsewhere c.plan j f.freed.items) (λ Q each. All-filter (λ x. not ((home_of c.plan x.name).place == j)) Q f.freed.items each) can.frame.freed_order;
              objects = can.frame.objects;
            })
            refl refl refl refl;
        shape = can.frame.shape.0;
        even = λ w. omega (arith, kept_shard w.unit j shard c (shard_part maker j c can.core first.shard), away_shard w.unit j shard c (shard_part maker j c can.core first.shard), freed_counts w.unit maker j c e can.core can.fits can.frame.freed_each first.shard, freed_parted w.unit (λ x. (home_of c.plan x.name).place == j) f.freed.items);
        fewer = omega (arith, free_fewer c.settings c.plan (length c.parts) f.local.slots f.freed.items can.core.plan can.frame.freed_each frees.apart frees.some);
        way = same_way maker old new c e f.asked f.ending (objects_in f.objects);
        searched = searched_still f.ending (AreEmpty f.queues c f) (AreEmpty f.queues d f) (still_empty f.queues j (part.Shard shard) c f can.core.plan (λ q queue e. apart_places c.plan j q first.shard queue (sym e)));
      }

  flush_ready_by : (step : FlushStep) (g : StepGiven H) (c : PoolCore P H) (f : Frame P H) → Can maker Flush c f → Finds step f.local f.freed.items → FlushTold step g f.local → Shows Flush c f (flush_row step g.queue c (in_phase Idle f))
  flush_ready_by run g c f can found told = decommit_ready g.fault g.queue c f can told found
  flush_ready_by (zero kind) g c f can found told = zero_ready kind c f can found.0 found.1
  flush_ready_by (put kind) g c f can found told = put_first_ready kind (first_of_kind kind f.local.slots) c f can found.0 found.1 refl
  flush_ready_by free g c f can found told = free_ready c f can found.1

  pub flush_ready : (g : StepGiven H) (c : PoolCore P H) (f : Frame P H) → Can maker Flush c f → FlushTold (flush_step f.local f.freed.items) g f.local → Shows Flush c f (flush_row (flush_step f.local f.freed.items) g.queue c (in_phase Idle f))
  flush_ready g c f can told = flush_ready_by (flush_step f.local f.freed.items) g c f can (finds f.local f.freed.items) told

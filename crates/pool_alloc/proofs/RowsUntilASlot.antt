-- The rows of a request until it has a slot.
use Rattle.std.proofs.Common.{slice_get, ◌≡◌, ℕ, ◌+◌, ◌-◌, ◌<◌, ◌≤◌, Bool, true, false, List, [], length, refl, sym, ap, subst, inl, arith, Option, Some, None, ◌==◌, ◌%◌, nat_lt, IfSome, ◌*◌}
use Rattle.pool_alloc.proofs.Imports.{told_weaker, refused_limits, of_kind, memory_kind, table_kind, stack_kind, heap_kind, Allocator, SlotName, SlotKind, pick_unit, ltb-true, ltb-false, eqb-true, eqb-false, All-nil, mod-lt, MakerTold, Unsupported, ShardState, slot_number, after_pick, pick_answer, SlotId, Queue, after_take, taken_into, AllocError, no_slots}
use Rattle.pool_alloc.specs.declared.frame.Outcome.TheVariants as answer
use Rattle.pool_alloc.proofs.RowsWithASlot.{heap_is_next}
use Rattle.pool_alloc.proofs.PlanPlaces.{allocator_is, IsShardPlace, IsQueuePlace, apart_places, tried_role, tried_is_shard, tried_is_queue, allocator_most, allocator_holds}
use Rattle.pool_alloc.specs.PartyTold.{PartyTold}
use Rattle.pool_alloc.specs.declared.pool_core.PoolCore.{PoolCore}
use Rattle.pool_alloc.specs.declared.frame.Ending.{Ending}
use Rattle.pool_alloc.specs.declared.frame.Asked.{Asked}
use Rattle.pool_alloc.specs.declared.frame.Asked.TheVariants.{Module as module_asked, Stack as stack_asked}
use Rattle.pool_alloc.specs.declared.pool_core.Settings.{Settings}
use Rattle.pool_alloc.specs.declared.frame.Frame.{Frame}
use Rattle.pool_alloc.specs.declared.frame.FreedSlot.{FreedSlot}
use Rattle.pool_alloc.specs.declared.frame.Phase.{Phase}
use Rattle.pool_alloc.specs.declared.frame.Phase.TheVariants.{Idle, Key, Validate, TestStack, CountInstance, Pick, TakeQueue, TakeRegion}
use Rattle.pool_slots.specs.declared.errors.AllocError.TheVariants as refusal
use Rattle.pool_alloc.specs.StepBounds.{all_slots, flush_bound, PoolSizes, give_back_bound, sizes_of, flush_left, objects_left, steps_left}
use Rattle.pool_alloc.specs.Leases.{Lease}
use Rattle.pool_alloc.specs.PoolTables.{IsTableLease}
use Rattle.pool_alloc.specs.TableLeases.{LeasedTable}
use Rattle.pool_alloc.specs.Places.{instances_for, right_to, queued_count, freed_count, Thing, slot_count, phase_count, phase_instances, Weight, counted_instance, phase_counted}
use Rattle.pool_alloc.specs.Refusals.{module_refused}
use Rattle.pool_alloc.specs.StepTable.{stacks_tested, test_stack_row, key_row, refused_at_once, reserved, validated, validate_row, counted, count_instance_row, picked, pick_on, in_shard, take_queue_on, in_queue, taken_next}
use Rattle.pool_alloc.specs.Searches.{AreFull, AreEmpty, IsSearchedBy}
use Rattle.pool_alloc.specs.Objects.{objects_in, no_objects}
use Rattle.pool_alloc.specs.BetweenSteps.{IsTableSupported, IsCore, IsSlotName, IsShared, IsLeaseOf, IsToGrant, AreBegun, IsEnabled, IsAtRest}
use Rattle.pool_alloc.specs.CallStages.{Progress, uncounted, seeks_stack, asks, stage_by, IsUntested, Follows, Goes, stage_of, no_call}
use Rattle.pool_alloc.specs.StepReads.{memories_wanted, tables_wanted, stacks_wanted, IsModule, kind_next, wanted, shard_at, queue_at, with_shard, with_queue, counting_instances, shard_tried, queue_tried, allocator_for, info_wanted, IsForInstance}
use Rattle.pool_alloc.specs.Turns.{goes, next, flush, Row, failing, no_slot_left, slot_search}
use Rattle.pool_alloc.proofs.CoreChanges.{core_with_shard, core_with_queue, core_with_counters}
use Rattle.pool_alloc.proofs.FlushFinds.{none_waits}
use Rattle.pool_alloc.proofs.FlushSteps.{few_in_queue, flush_few}
use Rattle.pool_alloc.proofs.FullShards.{nothing_left}
use Rattle.pool_alloc.proofs.BeforeTheTurn.{kept_of, empty_length, counts_one, is_admitted, none_for_stack, Hand, in_phase, hand, held_of, Even, Kept, Ready, IsReadyRow, either_ready, only_one, none_weighs}
use Rattle.pool_alloc.proofs.KeptCounts.{kept_shard, kept_queue, away_shard, away_queue}
use Rattle.pool_alloc.proofs.LocalQueues.{taken_shared, taken_local, local_of_shared}
use Rattle.pool_alloc.proofs.Picks.{picked_sound, picked_same, picked_inside}
use Rattle.pool_alloc.proofs.Searches.{tried_full, still_full, taken_empty, was_empty, still_empty, full_beside}
use Rattle.pool_alloc.proofs.SlotCounts.{picked_count, pick_counts}
use Rattle.pool_alloc.proofs.SupportedModules.{asked_supported}
use Rattle.pool_alloc.proofs.SharedByRows.{Can, aims_grant, same_times, first_object, next_round, next_queue, kept_part, same_way, full_way}
use Rattle.pool_alloc.proofs.PoolParts.{planned_shard, sound_shard, sound_queue, shard_part, queue_part, slot_of_shard}
use Rattle.pool_slots.specs.declared.part.PoolPart.TheVariants as part

-- the slot of an allocator that a pick answered, how much it weighs, and what the pick has in hand
abbrev picked_name : Allocator → ShardState → ℕ → SlotName
picked_name a s k = record { kind = a.kind; slot = slot_number s k }

abbrev picked_slot : Thing → Allocator → ShardState → Option (SlotId × ℕ) → ℕ
picked_slot t a s (Some p) = slot_count t (picked_name a s p.0.0)
picked_slot t a s None = 0

abbrev picked_hand : Asked → Allocator → ShardState → Option (SlotId × ℕ) → Hand
picked_hand asked a shard o w = picked_slot w.unit a shard o + instances_for asked * w.counts counted_instance

picked_as : (t : Thing) (a : Allocator) (s : ShardState) (o : Option (SlotId × ℕ)) → s.kind ≡ a.kind → picked_count t s o ≡ picked_slot t a s o
picked_as t a s None kind = refl
picked_as t a s (Some p) kind = ap (λ (k : SlotKind). t (pick_unit k (slot_number s p.0.0))) kind

-- a module's call is for no object by itself
module_is_one : (asked : Asked) → IsModule asked → IsForInstance asked
module_is_one (module_asked m) is = record { no_stack = refl; no_heap = refl; no_single = refl }
module_is_one asked is = absurd is

module_enabled : (s : Settings) (asked : Asked) → IsModule asked → IsEnabled s asked
module_enabled s (module_asked m) is = tt
module_enabled s asked is = absurd is

-- what a call has in hand that has picked a slot
abbrev one_slot : Asked → SlotName → Hand
one_slot asked name w = slot_count w.unit name + instances_for asked * w.counts counted_instance

module _ {P H : Type 0} (maker : MakerTold) (old new : PartyTold) where
  abbrev Shows : Phase P H → PoolCore P H → Frame P H → Row (PoolCore P H) P H → Type 0
  Shows p c f r = IsReadyRow maker old new c (in_phase p f) r

  -- A number is drawn from the key counter.
  pub key_ready : (c : PoolCore P H) (f : Frame P H) → Can maker Key c f → Shows Key c f (key_row c (in_phase Idle f))
  key_ready c f can = record {
    kept = record {
      core = core_with_counters maker (record c.counters { key = _ }) c can.core;
      held = record { stripe = mod-lt c.counters.key can.core.plan.stripes; queue = can.frame.queue; freed_room = can.frame.freed_room; freed_each = can.frame.freed_each; freed_order = can.frame.freed_order; objects = can.frame.objects };
      asked = refl;
      settings = refl;
      plan = refl;
      by_one = λ k. omega arith;
    };
    shape = (can.frame.shape, tt);
    even = λ w. omega arith;
    fewer = omega arith;
    way = tt;
    searched = λ s. tt;
  }

  -- A request is refused before anything is granted.
  pub refused_ready : (p : Phase P H) (e : AllocError) (c : PoolCore P H) (f : Frame P H) → Can maker p c f → IsAtRest f → ((w : Weight) → phase_count w.unit p + phase_counted w.counts p ≡ 0) → phase_instances p ≡ 0
      → 1 ≤ steps_left c (in_phase p f) → Goes maker old new c (in_phase p f) (stage_of (in_phase p f)) no_call (Some (answer.Refused e)) → Shows p c f (refused_at_once e c (in_phase Idle f))
  refused_ready p e c f can rest nothing none fewer way = record {
    kept = kept_part maker old new c (in_phase p f) c (failing e (in_phase Idle f)) can.core (held_of maker c.settings c.plan (in_phase p f) can.frame) refl refl refl refl;
    shape = (rest, tt);
    even = λ w. omega (arith, nothing w, ap (λ (n : ℕ). n * instances_for f.asked * w.counts counted_instance) none);
    fewer = fewer;
    way = way;
    searched = λ s. tt;
  }

  reserved_ready : (wants : Bool) (c : PoolCore P H) (f : Frame P H) → Can maker Validate c f → module_refused c.settings c.plan.totals.table (info_wanted f.asked) ≡ None → Shows Validate c f (reserved wants CountInstance c (in_phase Idle f))
  reserved_ready true c f can is = refused_ready Validate refusal.Memory c f can can.frame.shape.0 (λ w. refl) refl (omega arith) (let U : Option Unsupported → Type 0 = λ o. IsUntested o refusal.Memory in subst U (sym is) refl)
  reserved_ready false c f can is =
      let rest = can.frame.shape.0 in
      let asking = can.frame.shape.1 in
      let none : f.objects.memories.items ≡ [] = rest.no_memories in
      let none_more : f.objects.tables.items ≡ [] = rest.no_tables in
      let has : Frame P H = record f { phase = Idle; objects = record { memories = record { items = []; room = length (memories_wanted f.asked) }; tables = record { items = []; room = length (tables_wanted f.asked) } } } in
      let both = asked_supported c.settings c.plan.totals.table f.asked can.core.settings.memories asking.asked_for can.frame.shape.2 is in
      record {
        kept = kept_part maker old new c (in_phase Validate f) c has can.core
            (record { stripe = can.frame.stripe; queue = can.frame.queue; freed_room = can.frame.freed_room; freed_each = can.frame.freed_each; freed_order = can.frame.freed_order; objects = (All-nil (IsLeaseOf maker c.settings c.plan), All-nil (IsTableLease maker c.settings c.plan)) })
            refl refl refl refl;
        shape = (refl, (record { settled = rest.settled; no_memories = refl; no_tables = refl }, asking, both.0, refl, refl, both.1));
        even = λ w. omega (arith, none_weighs w f.objects none none_more);
        fewer = omega arith;
        way = is;
        searched = λ s. tt;
      }

  validated_ready : (o : Option Unsupported) (wants : Bool) (c : PoolCore P H) (f : Frame P H) → Can maker Validate c f → module_refused c.settings c.plan.totals.table (info_wanted f.asked) ≡ o → Shows Validate c f (validated o wants CountInstance c (in_phase Idle f))
  validated_ready (Some rule) wants c f can is = refused_ready Validate (refusal.Unsupported rule) c f can can.frame.shape.0 (λ w. refl) refl (omega arith) (let U : Option Unsupported → Type 0 = λ o. IsUntested o (refusal.Unsupported rule) in subst U (sym is) refl)
  validated_ready None wants c f can is = reserved_ready wants c f can is

  pub validate_ready : (wants : Bool) (c : PoolCore P H) (f : Frame P H) → Can maker Validate c f → Shows Validate c f (validate_row wants c (in_phase Idle f))
  validate_ready wants c f can = validated_ready (module_refused c.settings c.plan.totals.table (info_wanted f.asked)) wants c f can refl

  -- The instance is counted.
  counted_ready : (b : Bool) (c : PoolCore P H) (f : Frame P H) → Can maker CountInstance c f → nat_lt c.counters.core_instances c.settings.max_core_instances ≡ b → Shows CountInstance c f (counted b c (in_phase Idle f))
  counted_ready true c f can is =
      let rest = can.frame.shape.0 in
      let asking = can.frame.shape.1 in
      let none : f.objects.memories.items ≡ [] = rest.no_memories in
      let none_more : f.objects.tables.items ≡ [] = rest.no_tables in
      let nothing : objects_in f.objects ≡ 0 = omega (arith, ap (length {A = Lease}) none, ap (length {A = LeasedTable}) none_more) in
      let now : PoolCore P H = counting_instances (c.counters.core_instances + 1) c in
      let one : IsForInstance f.asked = module_is_one f.asked asking.asked_for in
      let of = kept_of f.asked in
      let B : List Lease → List LeasedTable → Type 0 = λ ls ts. AreBegun {P = P} c.settings f.asked (record { memories = record f.objects.memories { items = ls }; tables = record f.objects.tables { items = ts } }) in
      let to_grant : IsToGrant c.settings c.plan f.asked f.queues f.objects = record {
        supported = can.frame.shape.2;
        tables = λ none. can.frame.shape.5;
        limits = λ k. told_weaker (IsTableSupported c.settings) (λ ty. refused_limits ty.limits ≡ None) (slice_get (tables_wanted f.asked) k) (λ ty is. is.limits) (can.frame.shape.5.each k);
        enabled = module_enabled c.settings f.asked asking.asked_for;
        images = asking.images;
        room = omega (arith, can.frame.shape.3, of.memories);
        table_room = omega (arith, can.frame.shape.4, of.tables);
        few = omega (arith, ap (length {A = Lease}) none);
        few_tables = omega (arith, ap (length {A = LeasedTable}) none_more);
        order = λ less. none_more;
        begun = subst (λ ts. B f.objects.memories.items ts) (sym none_more) (subst (λ ls. B ls []) (sym none) (λ k. tt, λ k. tt));
        taken = omega (arith, asking.none_taken);
      } in
      let S : Ending → Type 0 = λ x. IsSearchedBy x (AreEmpty f.queues now (in_phase Idle f)) in
      let W : Ending → Type 0 = λ x. Goes maker old new c (in_phase CountInstance f) (asks uncounted) (stage_by f.asked x (objects_in f.objects)) None in
      let F : Progress → Type 0 = λ p. Follows old new c (in_phase CountInstance f) uncounted p in
      record {
        kept = record { core = core_with_counters maker (record c.counters { core_instances = c.counters.core_instances + 1 }) c can.core; held = held_of maker c.settings c.plan (in_phase CountInstance f) can.frame; asked = refl; settings = refl; plan = refl; by_one = λ k. omega (arith, only_one k counted_instance) };
        shape = (rest.settled, aims_grant c.settings c.plan f.ending f.asked f.queues f.objects asking.ending to_grant);
        even = λ w. omega (arith, ap (λ (n : ℕ). n * w.counts counted_instance) (counts_one f.asked one));
        fewer = first_object (sizes_of c.settings c.plan) f.ending f.queues f.asked f.objects asking.ending asking.none_taken nothing one;
        way = subst W (sym asking.ending) (subst F (sym (is_admitted f.asked (objects_in f.objects) one)) (nothing, ltb-true _ _ is));
        searched = λ s. subst S (sym asking.ending) (λ j below. absurd (omega (arith, below, asking.none_taken)));
      }
  counted_ready false c f can is =
      let rest = can.frame.shape.0 in
      let nothing : objects_in f.objects ≡ 0 = omega (arith, ap (length {A = Lease}) rest.no_memories, ap (length {A = LeasedTable}) rest.no_tables) in
      record {
        kept = record { core = core_with_counters maker (record c.counters { core_instances = c.counters.core_instances + 1 }) c can.core; held = held_of maker c.settings c.plan (in_phase CountInstance f) can.frame; asked = refl; settings = refl; plan = refl; by_one = λ k. omega (arith, only_one k counted_instance) };
        shape = (rest.settled, tt);
        even = λ w. omega (arith, ap (λ (n : ℕ). n * w.counts counted_instance) (counts_one f.asked (module_is_one f.asked can.frame.shape.1.asked_for)));
        fewer = omega (arith, same_times (objects_in f.objects) 0 (give_back_bound (sizes_of c.settings c.plan)) nothing);
        way = (refl, ltb-false _ _ is);
        searched = λ s. tt;
      }

  pub count_instance_ready : (c : PoolCore P H) (f : Frame P H) → Can maker CountInstance c f → Shows CountInstance c f (count_instance_row c (in_phase Idle f))
  count_instance_ready c f can = counted_ready (nat_lt c.counters.core_instances c.settings.max_core_instances) c f can refl

  -- Stacks are tested for being enabled.
  stacks_tested_ready : (b : Bool) (c : PoolCore P H) (f : Frame P H) → Can maker TestStack c f → (c.settings.stack_size == 0) ≡ b → Shows TestStack c f (stacks_tested b c (in_phase Idle f))
  stacks_tested_ready true c f can is = refused_ready TestStack refusal.StacksDisabled c f can can.frame.shape.0 (λ w. refl) refl (omega arith) (inl (refl, eqb-true c.settings.stack_size 0 is))
  stacks_tested_ready false c f can is =
      let e : Frame P H = in_phase TestStack f in
      let rest = can.frame.shape.0 in
      let stack : f.asked ≡ stack_asked = can.frame.shape.1.2 in
      let has : Frame P H = record f { phase = Idle; objects = no_objects } in
      let S : Asked → Type 0 = λ a. IsToGrant {P = P} c.settings c.plan a f.queues no_objects in
      let some : 0 < c.settings.stack_size = omega (arith, eqb-false c.settings.stack_size 0 is) in
      let to_grant : S stack_asked = record {
        supported = record { few = omega arith; each = λ k. tt };
        tables = λ none. record { few = omega arith; each = λ k. tt };
        limits = λ k. tt;
        enabled = some;
        images = tt;
        room = omega arith;
        table_room = omega arith;
        few = omega arith;
        few_tables = omega arith;
        order = λ less. refl;
        begun = (λ k. tt, λ k. tt);
        taken = omega (arith, can.frame.shape.1.1);
      } in
      let W : Asked → Type 0 = λ a. Goes maker old new c e (asks seeks_stack) (stage_by a f.ending 0) None in
      let E : Ending → Type 0 = λ x. Goes maker old new c e (asks seeks_stack) (stage_by stack_asked x 0) None in
      let one : stacks_wanted f.asked ≡ 1 = rw stack refl in
      let none : objects_left {P = P} (sizes_of c.settings c.plan) f.asked no_objects ≡ 0 = ap (λ (a : Asked). objects_left {P = P} (sizes_of c.settings c.plan) a no_objects) stack in
      record {
        kept = kept_part maker old new c e c has can.core
            (record { stripe = can.frame.stripe; queue = can.frame.queue; freed_room = can.frame.freed_room; freed_each = can.frame.freed_each; freed_order = can.frame.freed_order; objects = (All-nil (IsLeaseOf maker c.settings c.plan), All-nil (IsTableLease maker c.settings c.plan)) })
            refl refl refl refl;
        shape = (refl, (rest.settled, record { ending = can.frame.shape.1.0; to_grant = subst S (sym stack) to_grant; more = omega (arith, one) }, (allocator_is c.plan (length c.parts) (kind_next has) f.stripe can.core.plan can.frame.stripe).some));
        even = λ w. omega (arith, none_weighs w f.objects rest.no_memories rest.no_tables, ap (λ (a : Asked). instances_for a * w.counts counted_instance) stack);
        fewer = omega (arith, none, can.frame.shape.1.1, same_times (sizes_of c.settings c.plan).queues ((sizes_of c.settings c.plan).queues - f.queues) (flush_bound (sizes_of c.settings c.plan) + (sizes_of c.settings c.plan).shards) (omega (arith, can.frame.shape.1.1)));
        way = subst W (sym stack) (subst E (sym can.frame.shape.1.0) tt);
        searched = λ s. (λ j below. absurd (omega (arith, below, can.frame.shape.1.1)), λ j below. absurd (omega (arith, below)));
      }

  pub test_stack_ready : (c : PoolCore P H) (f : Frame P H) → Can maker TestStack c f → Shows TestStack c f (test_stack_row c (in_phase Idle f))
  test_stack_ready c f can = stacks_tested_ready (c.settings.stack_size == 0) c f can refl

  -- What is taken of a slot that was picked is its region, or of a heap's slot its heap.
  picked_region : (name : SlotName) (tried : ℕ) (next_shard : ShardState) (c : PoolCore P H) (f : Frame P H) →
      (let d : PoolCore P H = with_shard (shard_tried tried c.plan f) next_shard c in
      let e : Frame P H = in_phase (Pick tried) f in
      Can maker (Pick tried) c f → IsCore maker d → IsSlotName c.plan name → kind_next f ≡ name.kind → Even maker old new c e (one_slot f.asked name) d (in_phase Idle f) → Ready maker old new c e d (in_phase Idle f) (goes (TakeRegion name)))
  picked_region name tried next_shard c f can core named next_is even = record {
    kept = kept_part maker old new c (in_phase (Pick tried) f) _ (in_phase Idle f) core (held_of maker c.settings c.plan (in_phase (Pick tried) f) can.frame) refl refl refl refl;
    shape = (refl, (can.frame.shape.0, can.frame.shape.1, named, sym next_is));
    even = λ w. omega (arith, even w);
    fewer = omega (arith, can.frame.shape.2, allocator_most c.plan (length c.parts) (kind_next f) f.stripe can.core.plan can.frame.stripe);
    way = same_way maker old new c (in_phase (Pick tried) f) f.asked f.ending (objects_in f.objects);
    searched = λ s. tt;
  }

  picked_at : (kind : SlotKind) (tried slot : ℕ) (next_shard : ShardState) (c : PoolCore P H) (f : Frame P H) →
      (let d : PoolCore P H = with_shard (shard_tried tried c.plan f) next_shard c in
      let e : Frame P H = in_phase (Pick tried) f in
      let name : SlotName = record { kind = kind; slot = slot } in
      Can maker (Pick tried) c f → IsCore maker d → kind_next f ≡ kind → slot < of_kind kind c.plan.totals → Even maker old new c e (one_slot f.asked name) d (in_phase Idle f) → Ready maker old new c e d (in_phase Idle f) (goes (taken_next kind name)))
  picked_at memory_kind tried slot next_shard c f can core next_is inside even = picked_region (record { kind = memory_kind; slot = slot }) tried next_shard c f can core (record { cells = tt; inside = inside }) next_is even
  picked_at table_kind tried slot next_shard c f can core next_is inside even = picked_region (record { kind = table_kind; slot = slot }) tried next_shard c f can core (record { cells = tt; inside = inside }) next_is even
  picked_at stack_kind tried slot next_shard c f can core next_is inside even = picked_region (record { kind = stack_kind; slot = slot }) tried next_shard c f can core (record { cells = tt; inside = inside }) next_is even
  picked_at heap_kind tried slot next_shard c f can core next_is inside even = record {
    kept = kept_part maker old new c (in_phase (Pick tried) f) _ (in_phase Idle f) core (held_of maker c.settings c.plan (in_phase (Pick tried) f) can.frame) refl refl refl refl;
    shape = (refl, (can.frame.shape.0, can.frame.shape.1, record { kind = refl; inside = inside }, heap_is_next f next_is));
    even = λ w. omega (arith, even w);
    fewer = omega (arith, can.frame.shape.2, allocator_most c.plan (length c.parts) (kind_next f) f.stripe can.core.plan can.frame.stripe);
    way = same_way maker old new c (in_phase (Pick tried) f) f.asked f.ending (objects_in f.objects);
    searched = λ s. tt;
  }

  -- A slot is picked from a shard, of which this is left.
  picked_ready : (tried : ℕ) (o : Option (SlotId × ℕ)) (shard next_shard : ShardState) (c : PoolCore P H) (f : Frame P H) →
      (let d : PoolCore P H = with_shard (shard_tried tried c.plan f) next_shard c in
      let e : Frame P H = in_phase (Pick tried) f in
      Can maker (Pick tried) c f →
      IsCore maker d →
      IfSome o (λ p. slot_number shard p.0.0 < of_kind (allocator_for c.plan f).kind c.plan.totals) →
      Even maker old new c e (picked_hand f.asked (allocator_for c.plan f) shard o) d (in_phase Idle f) →
      (o ≡ None → AreFull tried c f → AreFull (tried + 1) c f × AreFull (tried + 1) d f) →
      Ready maker old new c e d (in_phase Idle f) (picked c.plan o shard tried (in_phase Idle f)))
  picked_ready tried (Some p) shard next_shard c f can core inside even full =
      picked_at (allocator_for c.plan f).kind tried (slot_number shard p.0.0) next_shard c f can core (sym (allocator_holds c.plan (length c.parts) f can.core.plan can.frame.stripe).kind_is) inside even
  picked_ready tried None shard next_shard c f can core inside even full =
      let d : PoolCore P H = with_shard (shard_tried tried c.plan f) next_shard c in
      let e : Frame P H = in_phase (Pick tried) f in
      let settled = can.frame.shape.0 in
      let allocating = can.frame.shape.1 in
      let tried_place = tried_is_shard tried c.plan (length c.parts) f can.core.plan can.frame.stripe in
      let empty = still_empty f.queues (shard_tried tried c.plan f) (part.Shard next_shard) c f can.core.plan (λ q queue e. apart_places c.plan (shard_tried tried c.plan f) q tried_place queue (sym e)) in
      let kept = kept_part maker old new c e d (in_phase Idle f) core (held_of maker c.settings c.plan e can.frame) refl refl refl refl in
      let stays = same_way maker old new c e f.asked f.ending (objects_in f.objects) in
      either_ready maker old new c e d (in_phase Idle f) (nat_lt (tried + 1) (allocator_for c.plan f).shards) (goes (Pick (tried + 1))) (slot_search c.plan f)
      (λ more. record {
        kept = kept;
        shape = (refl, (settled, allocating, ltb-true _ _ more));
        even = λ w. omega (arith, even w);
        fewer = omega (arith, can.frame.shape.2, allocator_most c.plan (length c.parts) (kind_next f) f.stripe can.core.plan can.frame.stripe);
        way = stays;
        searched = λ s. (empty s.0, (full refl s.1).1);
      })
      (λ last.
      let round : (allocator_for c.plan f).shards ≤ tried + 1 = ltb-false _ _ last in
      record {
        kept = kept;
        shape = (refl, settled, allocating);
        even = λ w. omega (arith, even w);
        fewer = omega (arith, can.frame.shape.2, allocator_most c.plan (length c.parts) (kind_next f) f.stripe can.core.plan can.frame.stripe);
        way = (
          stays,
          λ gone. full_way maker old new c e f.asked f.ending (objects_in f.objects) (no_slot_left c.plan f) allocating.ending (none_for_stack c.settings c.plan f.asked f.queues f.objects allocating.to_grant) (record {
            is = refl;
            number = refl;
            allocating = can.frame.shape.1;
            has = λ name. omega (arith, ap (queued_count (right_to name)) settled.no_slots, ap (freed_count (right_to name)) settled.none_freed);
            none = λ s k number. nothing_left maker c f can.core can.frame.stripe (λ j below. s.0 j (omega (arith, below, gone))) (λ j below. (full refl s.1).0 j (omega (arith, below, round))) k number;
          }),
        );
        searched = λ s. (empty s.0, λ j below. (full refl s.1).1 j (omega (arith, below, round)));
      })

  pub pick_ready : (tried : ℕ) (c : PoolCore P H) (f : Frame P H) → Can maker (Pick tried) c f → Shows (Pick tried) c f (in_shard (shard_tried tried c.plan f) c (pick_on c.plan tried (shard_at (shard_tried tried c.plan f) c) (in_phase Idle f)))
  pick_ready tried c f can =
      let j : ℕ = shard_tried tried c.plan f in
      let shard : ShardState = shard_at j c in
      let a : Allocator = allocator_for c.plan f in
      let below : IsShardPlace c.plan j = record { allocator = a; index = (f.home + tried) % a.shards; role = tried_role tried c.plan (length c.parts) f can.core.plan can.frame.stripe } in
      let sound = sound_shard maker j c can.core below in
      let kind : shard.kind ≡ a.kind = (planned_shard maker j c can.core below).kind in
      picked_ready tried (pick_answer (wanted f) shard) shard (after_pick (wanted f) shard) c f can
      (core_with_shard maker j (after_pick (wanted f) shard) c can.core below (picked_sound (wanted f) shard sound) (picked_same (wanted f) shard))
      (told_weaker (λ p. p.0.0 < shard.capacity) (λ p. slot_number shard p.0.0 < of_kind a.kind c.plan.totals) (pick_answer (wanted f) shard) (λ p within. subst (λ (k : SlotKind). slot_number shard p.0.0 < of_kind k c.plan.totals) kind (slot_of_shard maker j p.0.0 c can.core below within).inside) (picked_inside (wanted f) shard sound))
      (λ w. omega (arith, kept_shard w.unit j (after_pick (wanted f) shard) c (shard_part maker j c can.core below), away_shard w.unit j (after_pick (wanted f) shard) c (shard_part maker j c can.core below), pick_counts w.unit (wanted f) shard sound, picked_as w.unit a shard (pick_answer (wanted f) shard) kind))
      (λ none full. let more = tried_full maker tried c f can.core can.frame.stripe none full in (more, still_full maker (tried + 1) tried c f can.core can.frame.stripe none more))

  -- A queue is taken.
  pub take_queue_ready : (c : PoolCore P H) (f : Frame P H) → Can maker TakeQueue c f → Shows TakeQueue c f (in_queue (queue_tried f.queues c.plan f) c (take_queue_on c.plan (queue_at (queue_tried f.queues c.plan f) c) (in_phase Idle f)))
  take_queue_ready c f can =
      let i : ℕ = queue_tried f.queues c.plan f in
      let q : Queue = queue_at i c in
      let below : IsQueuePlace c.plan i = tried_is_queue f.queues c.plan (length c.parts) f can.core.plan in
      let shared : IsShared maker c.settings q = sound_queue maker i c can.core below in
      let d : PoolCore P H = with_queue i (after_take q) c in
      let e : Frame P H = in_phase TakeQueue f in
      let has : Frame P H = record f { phase = Idle; local = taken_into f.local q; queues = f.queues + 1 } in
      let settled = can.frame.shape.0 in
      let was = can.frame.shape.1.to_grant in
      let z : PoolSizes = sizes_of c.settings c.plan in
      let to_grant : IsToGrant c.settings c.plan f.asked (f.queues + 1) f.objects = record {
        supported = was.supported;
        tables = was.tables;
        limits = was.limits;
        enabled = was.enabled;
        images = was.images;
        room = was.room;
        table_room = was.table_room;
        few = was.few;
        few_tables = was.few_tables;
        order = was.order;
        begun = was.begun;
        taken = omega (arith, can.frame.shape.2);
      } in
      let kept : Kept maker old new c e d has = kept_part maker old new c e d has
      (core_with_queue maker i (after_take q) c can.core below (taken_shared maker c.settings q can.core.settings shared.range_room shared.slot_room))
      (record {
        stripe = can.frame.stripe;
        queue = taken_local maker c.settings f.local q can.frame.queue (local_of_shared maker c.settings q shared);
        freed_room = (can.frame.freed_room.0, omega (arith, shared.slots, shared.short, ap (length {A = FreedSlot}) settled.none_freed));
        freed_each = can.frame.freed_each;
        freed_order = none_waits f.freed.items settled.none_freed;
        objects = can.frame.objects;
      })
      refl refl refl refl in
      let even : Even maker old new c e (hand {P = P} {H = H} f.asked next) d has = λ w. omega (arith, kept_queue w.unit i (after_take q) c (queue_part maker i c can.core below), away_queue w.unit i (after_take q) c (queue_part maker i c can.core below), ap (queued_count w.unit) settled.no_slots) in
      let few = flush_few z (all_slots c.plan) has.local f.freed shared.grouped (few_in_queue maker i c e can below) in
      let stays = same_way maker old new c e f.asked f.ending (objects_in f.objects) in
      either_ready maker old new c e d has (length q.slots == 0) (slot_search c.plan has) flush
      (λ none.
      let empty = empty_length q.slots none in
      record {
        kept = kept;
        shape = (refl, record { no_ranges = no_slots q.ranges q.slots empty shared.owners; no_slots = empty; none_freed = settled.none_freed }, record { ending = can.frame.shape.1.ending; to_grant = to_grant; more = can.frame.shape.1.more });
        even = λ w. omega (arith, even w);
        fewer = omega (arith, next_queue z f.queues 0 (6 + objects_left z f.asked f.objects) can.frame.shape.2 (omega arith));
        way = (
          stays,
          λ gone. full_way maker old new c e f.asked f.ending (objects_in f.objects) (no_slot_left c.plan f) can.frame.shape.1.ending (none_for_stack c.settings c.plan f.asked f.queues f.objects was) (record {
            is = refl;
            number = refl;
            allocating = can.frame.shape.1;
            has = λ name. omega (arith, ap (queued_count (right_to name)) settled.no_slots, ap (freed_count (right_to name)) settled.none_freed);
            none = λ s k number. nothing_left maker c f can.core can.frame.stripe (λ j under. was_empty f.queues c f empty s.0 j (omega (arith, under, gone))) s.1 k number;
          }),
        );
        searched = λ s. (taken_empty maker f.queues (after_take q) c f can.core refl s.0, full_beside (allocator_for c.plan f).shards i (part.Queue (after_take q)) c f can.core.plan can.frame.stripe below s.1);
      })
      (λ some.
      let S : Ending → Type 0 = λ x. IsSearchedBy x (AreEmpty (f.queues + 1) d has) in
      record {
        kept = kept;
        shape = aims_grant c.settings c.plan f.ending f.asked (f.queues + 1) f.objects can.frame.shape.1.ending to_grant;
        even = λ w. omega (arith, even w);
        fewer = omega (arith, few, next_round z f.ending (f.queues + 1) f.asked f.objects can.frame.shape.1.ending, next_queue z f.queues (flush_left z has.local f.freed) (6 + objects_left z f.asked f.objects) can.frame.shape.2 (omega (arith, few)));
        way = stays;
        searched = λ s. subst S (sym can.frame.shape.1.ending) (taken_empty maker f.queues (after_take q) c f can.core refl s.0);
      })

-- What a call picks is one of its allocator's slots, so that its memories lie in its party's stripe.
use Rattle.std.proofs.Common.{◌≡◌, ℕ, ◌+◌, ◌*◌, ◌<◌, ◌==◌, ◌&&◌, ◌||◌, ◌%◌, Bool, true, false, not, List, [], ◌∷◌, ◌++◌, length, drop, Option, Some, None, Result, Ok, Err, refl, sym, ap, ◌∙◌, subst, arith, nat_lt, nat_le, if◌then◌else◌, IfSome}
use Rattle.pool_alloc.proofs.Imports.{sum_by-cons, sum_by_push, one_if, same_kind, MakerTold, ShardState, SlotId, pick_answer, slot_number, Slot, MemoryState, Told, Unsupported, Queue, Queued, first_of_kind, others_of_kind, AllocError, HeapMakeFault, Cell, unmapped, unknown, previously_used, taken, Allocator, Plan, has_number, number_in, SlotKind, memory_kind, table_kind, stack_kind, heap_kind, SlotName, RegionNumbers, heap_in, cell_numbers, slot_of, IsShardOf, told_weaker}
use Rattle.pool_alloc.specs.CallStages.{keys, stage_of}
use Rattle.pool_alloc.specs.HeapLeases.{LeasedHeap, heap_slot_taken, heap_numbers, memory_under}
use Rattle.pool_alloc.specs.Leases.{Lease, memory_slot, slot_taken}
use Rattle.pool_alloc.specs.MemorySteps.{memory_made, reset_into}
use Rattle.pool_alloc.specs.Objects.{objects_in, objects_wanted, no_objects}
use Rattle.pool_alloc.specs.PartyTold.{PartyTold}
use Rattle.pool_alloc.specs.Places.{Thing, slot_count, region_count, both_count, taken_count, leased_count, tables_count, instance_count}
use Rattle.pool_alloc.specs.Purges.{purge_row, purge_to, affine_picked, pick_affine_row, behind_memory, has_turns, purged_stripe}
use Rattle.pool_alloc.specs.Refusals.{heap_refused, module_refused, component_refused}
use Rattle.pool_alloc.specs.Releases.{release_row, reserve_row, warm_taken, drain_from, drain_at, free_first, behind_stripe, not_resident, released_stripe, taking}
use Rattle.pool_alloc.specs.StackLeases.{LeasedStack, stack_taken}
use Rattle.pool_alloc.specs.PoolStacks.{stack_made, stack_reset}
use Rattle.pool_alloc.specs.StepReads.{StepGiven, allocator_of, allocator_for, kind_next, stripe_allocator, info_wanted, memories_wanted, tables_wanted, shard_at, shard_tried, queue_at, queue_tried, heaps_at, wanted, cell_named}
use Rattle.pool_alloc.specs.StepTable.{FlushStep, run, zero, put, free, flush_step, memory_kept, memory_turn, table_kept, table_turn, merged, validated, counted, stacks_tested, heaps_tested, heap_granted, heap_next, make_heap_row, component_tested, component_counted, paged, was_made, was_made_table, was_reset, reset_turn, put_first, flush_row, row_of, picked, taken_next, region_next, unmapped_next, memory_tested, heap_counted}
use Rattle.pool_alloc.specs.Stepping.{CanStep, StepsTo, grant_count, count_granted}
use Rattle.pool_alloc.specs.StripesOfGrants.{right_outside, in_hand, KeepsToItsStripe}
use Rattle.pool_alloc.specs.TableLeases.{LeasedTable, table_slot, table_taken}
use Rattle.pool_alloc.specs.TableSteps.{table_made, table_reset_into}
use Rattle.pool_alloc.specs.Turns.{After, Left, Turn, goes, ends, next, flush, search, stays, after, answer_of, ends_with, goes_to, is_flushed, is_granting, all_returned, returned_next, next_by, slot_search, failing}
use Rattle.pool_alloc.specs.declared.frame.Asked.{Asked}
use Rattle.pool_alloc.specs.declared.frame.Asked.TheVariants.{Memory as memory_asked, Table as table_asked, Stack as stack_asked, Heap as heap_asked, HeapOver as heap_over_asked}
use Rattle.pool_alloc.specs.declared.frame.Ending.{Ending}
use Rattle.pool_alloc.specs.declared.frame.Ending.TheVariants.{Granted as granted, Returned as returned, Refused as refused}
use Rattle.pool_alloc.specs.declared.frame.Frame.{Frame}
use Rattle.pool_alloc.specs.declared.frame.Object.TheVariants as object
use Rattle.pool_alloc.specs.declared.frame.Outcome.{Outcome}
use Rattle.pool_alloc.specs.declared.frame.Outcome.TheVariants as answer
use Rattle.pool_alloc.specs.declared.frame.Phase.{Phase}
use Rattle.pool_alloc.specs.declared.frame.Phase.TheVariants.{Idle, Key, Validate, TestStack, TestHeap, CountInstance, Pick, TakeQueue, TakeRegion, Empty, Instantiate, MakeMemory, MakeTable, CountObject, TakeHeap, MakeHeap, CountHeap, PutNoHeap, PutBack, FreeOne, UncountObject, UncountHeap, PutHeap, FreeHeap, Reset, Merge, Flush, UncountInstance, ValidateComponent, CountComponent, UncountComponent, Purge, Release}
use Rattle.pool_alloc.specs.declared.frame.TakenSlot.{TakenSlot}
use Rattle.pool_alloc.specs.declared.pool_core.PoolCore.{PoolCore}
use Rattle.pool_alloc.specs.declared.purge.PurgeCursor.{PurgeCursor}
use Rattle.pool_alloc.specs.declared.purge.PurgeStep.{PurgeStep}
use Rattle.pool_alloc.specs.declared.purge.PurgeStep.TheVariants as purging
use Rattle.pool_alloc.specs.declared.release.ReleaseCursor.{ReleaseCursor}
use Rattle.pool_alloc.specs.declared.release.ReleaseStep.{ReleaseStep}
use Rattle.pool_alloc.specs.declared.release.ReleaseStep.TheVariants as releasing
use Rattle.pool_alloc.specs.declared.frame.FreedSlot.{FreedSlot}
use Rattle.pool_alloc.specs.declared.pool_core.Settings.{Settings}
use Rattle.pool_alloc.specs.declared.frame.Grant.TheVariants.{Instance}
use Rattle.pool_alloc.proofs.BeforeTheTurn.{in_phase}
use Rattle.pool_alloc.proofs.Picks.{picked_inside}
use Rattle.pool_alloc.proofs.PlanPlaces.{allocator_is, allocator_holds, stripe_holds, IsShardPlace, tried_role}
use Rattle.pool_alloc.proofs.PoolParts.{number_of, planned_shard}
use Rattle.pool_alloc.proofs.SlotsOfAllocators.{has_its}
use Rattle.pool_alloc.proofs.StripesKept.{step_stripe}

-- A weight of memories' slots alone.
pub record IsOfMemories (t : Thing) : Type 0 where
  pub regions : (name : SlotName) (numbers : RegionNumbers) → region_count t name numbers ≡ 0
  pub tables : (k : ℕ) → slot_count t (record { kind = table_kind; slot = k }) ≡ 0
  pub stacks : (k : ℕ) → slot_count t (record { kind = stack_kind; slot = k }) ≡ 0
  pub heaps : (k : ℕ) → slot_count t (record { kind = heap_kind; slot = k }) ≡ 0

idle_of : {X : Type 0} (e : Ending) → is_granting e ≡ false → is_granting e ≡ true → X
idle_of e back on = let wrong : true ≡ false = sym on ∙ back in absurd cc

module _ (t : Thing) (of : IsOfMemories t) where
  -- The objects that are no memories have none of it.
  no_tables : (leases : List LeasedTable) → tables_count t leases ≡ 0
  no_tables [] = refl
  no_tables (l ∷ leases) = omega (arith, sum_by-cons (λ (x : LeasedTable). both_count t (table_slot x.index) x.numbers) l leases, of.tables l.index, of.regions (table_slot l.index) l.numbers, no_tables leases)

  no_table : (l : LeasedTable) → taken_count t (table_taken l) ≡ 0
  no_table l = omega (arith, of.tables l.index, of.regions (table_slot l.index) l.numbers)

  no_stack : (l : LeasedStack) → taken_count t (stack_taken l) ≡ 0
  no_stack l = omega (arith, of.stacks l.stack.index, of.regions (stack_taken l).name (stack_taken l).numbers)

  module _ {H : Type 0} where
    no_heap : (l : LeasedHeap H) → taken_count t (heap_slot_taken l) ≡ 0
    no_heap l = omega (arith, of.heaps l.index, of.regions (heap_slot_taken l).name (heap_slot_taken l).numbers)

module _ {P H : Type 0} (t : Thing) (of : IsOfMemories t) where
  -- nothing of it is in hand
  abbrev Clear : Frame P H → Phase P H → Type 0
  Clear f p = is_granting f.ending ≡ true → instance_count t f.objects + in_hand t p ≡ 0

  abbrev ClearObjects : Frame P H → Type 0
  ClearObjects f = is_granting f.ending ≡ true → instance_count t f.objects ≡ 0

  abbrev ClearOutcome : Option (Outcome P H) → Type 0
  ClearOutcome o = count_granted (grant_count t) o ≡ 0

  abbrev ClearTurn : Frame P H → Turn P H → Type 0
  ClearTurn f (goes p) = Clear f p
  ClearTurn f (ends o) = ClearOutcome (Some o)
  ClearTurn f stays = Clear f f.phase
  ClearTurn f _ = ClearObjects f

  abbrev ClearLeft : Left P H → Type 0
  ClearLeft l = Clear l.frame l.frame.phase × ClearOutcome l.outcome

  either : (f : Frame P H) (b : Bool) (x y : Turn P H) → ClearTurn f x → ClearTurn f y → ClearTurn f (if b then x else y)
  either f true x y one other = one
  either f false x y one other = other

  answered : (f : Frame P H) (e : Ending) → ClearOutcome (Some (answer_of {P = P} {H = H} e))
  answered f (refused e) = refl
  answered f granted = refl
  answered f returned = refl

  all_back : (asked : Asked) (f : Frame P H) → is_granting f.ending ≡ false → ClearLeft (all_returned asked f)
  all_back (memory_asked m) f back = (λ on. absurd cc, answered f f.ending)
  all_back (table_asked ty) f back = (λ on. absurd cc, answered f f.ending)
  all_back stack_asked f back = (λ on. absurd cc, answered f f.ending)
  all_back (heap_asked ty) f back = (λ on. absurd cc, answered f f.ending)
  all_back (heap_over_asked memory) f back = (λ on. absurd cc, answered f f.ending)
  all_back _ f back = (λ on. idle_of f.ending back on, refl)

  returned_clear : (ms : List Lease) (ts : List LeasedTable) (f : Frame P H) → is_granting f.ending ≡ false → ClearLeft (returned_next ms ts f)
  returned_clear (l ∷ ls) ts f back = (λ on. idle_of f.ending back on, refl)
  returned_clear [] (l ∷ ls) f back = (λ on. idle_of f.ending back on, refl)
  returned_clear [] [] f back = all_back f.asked f back

  next_clear : (e : Ending) (f : Frame P H) → f.ending ≡ e → ClearObjects f → ClearLeft (next_by e f)
  next_clear granted f is clear = granting (nat_lt (objects_in f.objects) (objects_wanted f.asked))
    where
      granting : (b : Bool) → ClearLeft (if b then goes_to f (Pick 0) else ends_with (record f { objects = no_objects }) (answer.Granted (Instance f.objects)))
      granting true = (λ on. omega (arith, clear on), refl)
      granting false = (λ on. absurd cc, clear (ap is_granting is))
  next_clear returned f is clear = returned_clear f.objects.memories.items f.objects.tables.items f (ap is_granting is)
  next_clear (refused e) f is clear = returned_clear f.objects.memories.items f.objects.tables.items f (ap is_granting is)

  after_clear : (f : Frame P H) (turn : Turn P H) → ClearTurn f turn → ClearLeft (after f turn)
  after_clear f (goes p) clear = (clear, refl)
  after_clear f (ends o) clear = (λ on. absurd cc, clear)
  after_clear f next clear = next_clear f.ending f refl clear
  after_clear f flush clear = flushed (is_flushed f)
    where
      flushed : (b : Bool) → ClearLeft (if b then next_by f.ending f else goes_to f Flush)
      flushed true = next_clear f.ending f refl clear
      flushed false = (λ on. omega (arith, clear on), refl)
  after_clear f (search queues e) clear = searched (nat_lt f.queues queues)
    where
      searched : (b : Bool) → ClearLeft (if b then goes_to f TakeQueue else returned_next f.objects.memories.items f.objects.tables.items (failing e f))
      searched true = (λ on. omega (arith, clear on), refl)
      searched false = returned_clear f.objects.memories.items f.objects.tables.items (failing e f) refl
  after_clear f stays clear = (clear, refl)

  objects_clear : (f : Frame P H) (p : Phase P H) → Clear f p → ClearObjects f
  objects_clear f p clear on = omega (arith, clear on)

  taken_clear : (f : Frame P H) (kind : SlotKind) (name : SlotName) → ClearObjects f → slot_count t name ≡ 0 → Clear f (taken_next kind name)
  taken_clear f heap_kind name clear none on = omega (arith, clear on, none)
  taken_clear f memory_kind name clear none on = omega (arith, clear on, none)
  taken_clear f table_kind name clear none on = omega (arith, clear on, none)
  taken_clear f stack_kind name clear none on = omega (arith, clear on, none)

  region_clear : (s : Settings) (at : TakenSlot) (held : Cell) (f : Frame P H) → ClearObjects f → (is_granting f.ending ≡ true → slot_count t at.name ≡ 0) → ClearTurn f (region_next s at held)
  region_clear s at (unmapped region) f clear none = made at.name.kind
    where
      made : (kind : SlotKind) → ClearTurn f (unmapped_next s kind at region)
      made memory_kind = λ on. omega (arith, clear on, none on, of.regions at.name at.numbers)
      made table_kind = λ on. omega (arith, clear on, none on, of.regions at.name at.numbers)
      made stack_kind = λ on. omega (arith, clear on, no_stack t of (stack_made s at region))
      made heap_kind = λ on. omega (arith, clear on)
  region_clear s at (unknown held) f clear none = λ on. omega (arith, clear on, none on, of.regions at.name at.numbers)
  region_clear s at (previously_used held) f clear none = λ on. omega (arith, clear on, none on, of.regions at.name at.numbers)
  region_clear s at taken f clear none = λ on. omega (arith, clear on)

  validated_clear : (o : Option Unsupported) (wants : Bool) (phase : Phase P H) (c : PoolCore P H) (f : Frame P H) → in_hand t phase ≡ 0 → ClearTurn (validated o wants phase c f).frame (validated o wants phase c f).turn
  validated_clear (Some rule) wants phase c f none = refl
  validated_clear None true phase c f none = refl
  validated_clear None false phase c f none = λ on. omega (arith, none)

  counted_clear : (b : Bool) (c : PoolCore P H) (f : Frame P H) → ClearObjects f → ClearTurn (counted b c f).frame (counted b c f).turn
  counted_clear true c f clear = clear
  counted_clear false c f clear = λ on. absurd cc

  stacks_clear : (b : Bool) (c : PoolCore P H) (f : Frame P H) → ClearTurn (stacks_tested b c f).frame (stacks_tested b c f).turn
  stacks_clear true c f = refl
  stacks_clear false c f = λ on. omega arith

  tested_memory_clear : (asked : Asked) (wants : Bool) (c : PoolCore P H) (f : Frame P H) → ClearObjects f → ClearTurn (memory_tested asked wants c f).frame (memory_tested asked wants c f).turn
  tested_memory_clear (heap_over_asked memory) wants c f clear = λ on. omega (arith, clear on)
  tested_memory_clear asked wants c f clear = validated_clear (heap_refused c.settings asked) wants (Pick 0) c f refl

  heaps_clear : (enabled wants : Bool) (c : PoolCore P H) (f : Frame P H) → ClearObjects f → ClearTurn (heaps_tested enabled wants c f).frame (heaps_tested enabled wants c f).turn
  heaps_clear false wants c f clear = refl
  heaps_clear true wants c f clear = tested_memory_clear f.asked wants c f clear

  picked_clear : (plan : Plan) (o : Option (SlotId × ℕ)) (shard : ShardState) (tried : ℕ) (f : Frame P H) → ClearObjects f → IfSome o (λ p. slot_count t (record { kind = (allocator_for plan f).kind; slot = slot_number shard p.0.0 }) ≡ 0) → ClearTurn f (picked plan o shard tried f)
  picked_clear plan (Some p) shard tried f clear none = taken_clear f (allocator_for plan f).kind (record { kind = (allocator_for plan f).kind; slot = slot_number shard p.0.0 }) clear none
  picked_clear plan None shard tried f clear none = either f (nat_lt (tried + 1) (allocator_for plan f).shards) (goes (Pick (tried + 1))) (slot_search plan f) (λ on. omega (arith, clear on)) clear

  paged_clear : (b : Bool) (at : TakenSlot) (held : Slot) (phase : Phase P H) (c : PoolCore P H) (f : Frame P H) → Clear f phase → ClearTurn (paged b at held phase c f).frame (paged b at held phase c f).turn
  paged_clear true at held phase c f clear = λ on. absurd cc
  paged_clear false at held phase c f clear = clear

  made_clear : (at : TakenSlot) (held : Slot) (r : Result MemoryState AllocError) (c : PoolCore P H) (f : Frame P H) → at.name.kind ≡ memory_kind → Clear f (MakeMemory at held) → ClearTurn (was_made at held r c f).frame (was_made at held r c f).turn
  made_clear at held (Ok memory) c f kind clear = λ on.
      let Weighs : SlotKind → Type 0 = λ k. instance_count t f.objects + both_count t (record { kind = k; slot = at.name.slot }) at.numbers ≡ 0 in
      let now : Weighs memory_kind = subst Weighs kind (clear on) in omega (arith, now)
  made_clear at held (Err e) c f kind clear = λ on. absurd cc

  table_clear : (at : TakenSlot) (region : Told) (r : Result LeasedTable AllocError) (c : PoolCore P H) (f : Frame P H) → ClearObjects f → ClearTurn (was_made_table at region r c f).frame (was_made_table at region r c f).turn
  table_clear at region (Ok lease) c f clear = λ on. omega (arith, clear on, no_table t of lease)
  table_clear at region (Err e) c f clear = λ on. absurd cc

  -- A memory that is granted comes to the others.
  memory_more : (f : Frame P H) (lease : Lease) → Clear f (CountObject (object.Memory lease)) → is_granting f.ending ≡ true → leased_count t (f.objects.memories.items ++ lease ∷ []) + tables_count t f.objects.tables.items ≡ 0
  memory_more f lease clear on = omega (arith, clear on, sum_by_push (λ (x : Lease). both_count t (memory_slot x.index) x.numbers) f.objects.memories.items lease)

  memory_clear : (asked : Asked) (lease : Lease) (f : Frame P H) → is_granting f.ending ≡ true → Clear f (CountObject (object.Memory lease)) → ClearTurn (memory_kept asked lease f) (memory_turn asked lease)
  memory_clear (memory_asked m) lease f now clear = omega (arith, clear now)
  memory_clear _ lease f now clear = λ on. memory_more f lease clear on

  table_more : (asked : Asked) (lease : LeasedTable) (f : Frame P H) → ClearObjects f → ClearTurn (table_kept asked lease f) (table_turn asked lease)
  table_more (table_asked ty) lease f clear = no_table t of lease
  table_more _ lease f clear = λ on. omega (arith, clear on, no_tables t of f.objects.tables.items, no_tables t of (f.objects.tables.items ++ lease ∷ []))

  heap_clear : (at : TakenSlot) (o : Option H) (f : Frame P H) → ClearObjects f → (is_granting f.ending ≡ true → taken_count t at ≡ 0) → ClearTurn f (heap_next at o)
  heap_clear at (Some heap) f clear none = λ on. omega (arith, clear on, no_heap t of (record { index = at.name.slot; heap = heap; numbers = at.numbers }))
  heap_clear at None f clear none = λ on. omega (arith, clear on, none on)

  maker_clear : (r : Result H HeapMakeFault) (at : TakenSlot) (c : PoolCore P H) (f : Frame P H) → ClearObjects f → ClearTurn (make_heap_row r at c f).frame (make_heap_row r at c f).turn
  maker_clear (Ok heap) at c f clear = λ on. omega (arith, clear on, no_heap t of (record { index = at.name.slot; heap = heap; numbers = at.numbers }))
  maker_clear (Err fault) at c f clear = λ on. absurd cc

  granted_clear : (ms : List Lease) (lease : LeasedHeap H) (c : PoolCore P H) (f : Frame P H) → f.objects.memories.items ≡ ms → is_granting f.ending ≡ true → ClearObjects f → ClearTurn (heap_granted ms lease c f).frame (heap_granted ms lease c f).turn
  granted_clear [] lease c f is now clear = λ on. omega (arith, clear on)
  granted_clear (memory ∷ rest) lease c f is now clear =
      let all : leased_count t f.objects.memories.items ≡ leased_count t (memory ∷ rest) = ap (leased_count t) is in
      omega (arith, clear now, all, sum_by-cons (λ (x : Lease). both_count t (memory_slot x.index) x.numbers) memory rest, no_heap t of lease)

  heap_counted_clear : (asked : Asked) (lease : LeasedHeap H) (c : PoolCore P H) (f : Frame P H) → is_granting f.ending ≡ true → ClearObjects f → ClearTurn (heap_counted asked lease c f).frame (heap_counted asked lease c f).turn
  heap_counted_clear (heap_over_asked memory) lease c f now clear = no_heap t of lease
  heap_counted_clear asked lease c f now clear = granted_clear f.objects.memories.items lease c f refl now clear

  put_clear : (o : Option Queued) (rest : List Queued) (c : PoolCore P H) (f : Frame P H) → ClearObjects f → ClearTurn (put_first o rest c f).frame (put_first o rest c f).turn
  put_clear None rest c f clear = λ on. omega (arith, clear on)
  put_clear (Some m) rest c f clear = clear

  flush_clear : (step : FlushStep) (queue : Queue) (c : PoolCore P H) (f : Frame P H) → ClearObjects f → ClearTurn (flush_row step queue c f).frame (flush_row step queue c f).turn
  flush_clear run queue c f clear = clear
  flush_clear (zero kind) queue c f clear = clear
  flush_clear (put kind) queue c f clear = put_clear (first_of_kind kind f.local.slots) (others_of_kind kind f.local.slots) c f clear
  flush_clear free queue c f clear = clear

  tested_clear : (o : Option Unsupported) (c : PoolCore P H) (f : Frame P H) → ClearObjects f → ClearTurn (component_tested o c f).frame (component_tested o c f).turn
  tested_clear (Some rule) c f clear = refl
  tested_clear None c f clear = λ on. omega (arith, clear on)

  component_clear : (b : Bool) (c : PoolCore P H) (f : Frame P H) → ClearTurn (component_counted b c f).frame (component_counted b c f).turn
  component_clear true c f = refl
  component_clear false c f = λ on. absurd cc

  queue_clear : (batch : ℕ) (local : Queue) (f : Frame P H) → is_granting f.ending ≡ false → ClearTurn (record f { local = local }) (reset_turn batch local)
  queue_clear batch local f back = either (record f { local = local }) ((length local.ranges == 0) || nat_le batch (length local.ranges)) flush (goes Merge) (λ on. idle_of f.ending back on) (λ on. idle_of f.ending back on)

  reset_clear : (b : Bool) (held : Slot) (lease : Lease) (c : PoolCore P H) (f : Frame P H) → is_granting f.ending ≡ false → ClearTurn (was_reset b held lease c f).frame (was_reset b held lease c f).turn
  reset_clear true held lease c f back = λ on. idle_of f.ending back on
  reset_clear false held lease c f back = queue_clear c.settings.batch (reset_into c.settings.dirty_pages c.settings.keep_resident.bytes (slot_taken lease) (slot_of lease.memory) f.local) f back

  merged_clear : (b : Bool) (whole : Queue) (f : Frame P H) → is_granting f.ending ≡ false → ClearTurn (merged b whole f).frame (merged b whole f).turn
  merged_clear true whole f back = λ on. idle_of f.ending back on
  merged_clear false whole f back = λ on. idle_of f.ending back on

  purge_on : (p : PurgeCursor) (o : Option PurgeCursor) (f : Frame P H) → ClearObjects f → ClearTurn f (purge_to p o)
  purge_on p (Some q) f clear = λ on. omega (arith, clear on)
  purge_on p None f clear = refl

  affine_clear : (per_module : ℕ) (plan : Plan) (p : PurgeCursor) (o : Option SlotId) (shard : ShardState) (tried : ℕ) (f : Frame P H) → ClearObjects f → ClearTurn f (affine_picked per_module plan p o shard tried)
  affine_clear per_module plan p (Some slot) shard tried f clear = λ on. omega (arith, clear on)
  affine_clear per_module plan p None shard tried f clear = either f (nat_lt (tried + 1) (purged_stripe plan p).shards) (goes (Purge p (purging.Pick (tried + 1)))) (purge_to p (behind_memory per_module plan p)) (λ on. omega (arith, clear on)) (purge_on p (behind_memory per_module plan p) f clear)

  purge_clear : (g : StepGiven H) (p : PurgeCursor) (step : PurgeStep P) (c : PoolCore P H) (f : Frame P H) → ClearObjects f → ClearTurn (purge_row g p step c f).frame (purge_row g p step c f).turn
  purge_clear g p (purging.Pick tried) c f clear = picks (has_turns c.settings.max_memories_per_module c.plan)
    where
      picks : (b : Bool) → ClearTurn (pick_affine_row b p tried c f).frame (pick_affine_row b p tried c f).turn
      picks true = affine_clear c.settings.max_memories_per_module c.plan p _ _ tried f clear
      picks false = refl
  purge_clear g p (purging.TakeRegion name) c f clear = λ on. omega (arith, clear on)
  purge_clear g p (purging.Forget at held) c f clear = λ on. omega (arith, clear on)
  purge_clear g p (purging.PutRegion at held) c f clear = λ on. omega (arith, clear on)
  purge_clear g p (purging.Free name) c f clear = purge_on p _ f clear

  stripe_done : (plan : Plan) (r : ReleaseCursor) (f : Frame P H) → ClearObjects f → ClearTurn f (behind_stripe plan r)
  stripe_done plan r f clear = either f (nat_lt (r.stripe + 1) (length plan.memories)) _ _ (λ on. omega (arith, clear on)) refl

  first_freed : (plan : Plan) (xs : List FreedSlot) (r : ReleaseCursor) (f : Frame P H) → ClearObjects f → ClearTurn f (free_first plan xs r)
  first_freed plan [] r f clear = stripe_done plan r f clear
  first_freed plan (x ∷ rest) r f clear = λ on. omega (arith, clear on)

  drains : (plan : Plan) (r : ReleaseCursor) (k : ℕ) (f : Frame P H) → ClearObjects f → ClearTurn f (drain_at plan r k)
  drains plan r k f clear = either f (nat_lt k (length r.taken.items)) _ _ (λ on. omega (arith, clear on)) (first_freed plan r.taken.items r f clear)

  warms : (plan : Plan) (r : ReleaseCursor) (j : ℕ) (f : Frame P H) → ClearObjects f → ClearTurn f (warm_taken plan r j)
  warms plan r j f clear = either f (nat_lt (j + 1) (released_stripe plan r).shards) (goes (Release (releasing.TakeWarm r (j + 1)))) (drain_from plan r 0) (λ on. omega (arith, clear on)) (drains plan r (0 + not_resident (drop 0 r.taken.items)) f clear)

  reserved_clear : (wants : Bool) (c : PoolCore P H) (f : Frame P H) → ClearObjects f → ClearTurn (reserve_row {P = P} wants c f).frame (reserve_row {P = P} wants c f).turn
  reserved_clear true c f clear = refl
  reserved_clear false c f clear = λ on. omega (arith, clear on)

  release_clear : (g : StepGiven H) (step : ReleaseStep P) (c : PoolCore P H) (f : Frame P H) → ClearObjects f → ClearTurn (release_row g step c f).frame (release_row g step c f).turn
  release_clear g releasing.Reserve c f clear = reserved_clear g.wants c f clear
  release_clear g (releasing.TakeWarm r j) c f clear = warms c.plan (taking (shard_at ((released_stripe c.plan r).first_place + j) c) r) j f clear
  release_clear g (releasing.TakeRegion r k) c f clear = λ on. omega (arith, clear on)
  release_clear g (releasing.Decommit r k at held) c f clear = λ on. omega (arith, clear on)
  release_clear g (releasing.PutRegion r k at held) c f clear = drains c.plan r _ f clear
  release_clear g (releasing.Free r x) c f clear = first_freed c.plan r.taken.items _ f clear

  back_on : (f : Frame P H) (p : Phase P H) → is_granting f.ending ≡ false → Clear f p
  back_on f p back on = idle_of f.ending back on

  -- Each row leaves nothing of it in hand.
  row_clear : (maker : MakerTold) (g : StepGiven H) (p : Phase P H) (c : PoolCore P H) (f : Frame P H) → CanStep maker c (in_phase p f) → ((tried : ℕ) → p ≡ Pick tried → IfSome (pick_answer (wanted f) (shard_at (shard_tried tried c.plan f) c)) (λ x. slot_count t (record { kind = (allocator_for c.plan f).kind; slot = slot_number (shard_at (shard_tried tried c.plan f) c) x.0.0 }) ≡ 0)) → Clear f p
      → ClearTurn (row_of g p c (in_phase Idle f)).frame (row_of g p c (in_phase Idle f)).turn
  row_clear maker g Idle c f can picks clear = clear
  row_clear maker g Key c f can picks clear = refl
  row_clear maker g Validate c f can picks clear = validated_clear (module_refused c.settings c.plan.totals.table (info_wanted f.asked)) g.wants CountInstance c (in_phase Idle f) refl
  row_clear maker g TestStack c f can picks clear = stacks_clear (c.settings.stack_size == 0) c (in_phase Idle f)
  row_clear maker g TestHeap c f can picks clear = heaps_clear c.settings.tunables.tunables.collector g.wants c (in_phase Idle f) (objects_clear (in_phase Idle f) TestHeap clear)
  row_clear maker g CountInstance c f can picks clear = counted_clear (nat_lt c.counters.core_instances c.settings.max_core_instances) c (in_phase Idle f) (objects_clear (in_phase Idle f) CountInstance clear)
  row_clear maker g (Pick tried) c f can picks clear = picked_clear c.plan (pick_answer (wanted f) (shard_at (shard_tried tried c.plan f) c)) (shard_at (shard_tried tried c.plan f) c) tried (in_phase Idle f) (objects_clear (in_phase Idle f) (Pick tried) clear) (picks tried refl)
  row_clear maker g TakeQueue c f can picks clear =
      let r = row_of g TakeQueue c (in_phase Idle f) in
      either r.frame (length (queue_at (queue_tried f.queues c.plan f) c).slots == 0) (slot_search c.plan (in_phase Idle f)) flush (objects_clear (in_phase Idle f) TakeQueue clear) (objects_clear (in_phase Idle f) TakeQueue clear)
  row_clear maker g (TakeRegion name) c f can picks clear =
      region_clear c.settings (record { name = name; numbers = cell_numbers (cell_named name c) }) (cell_named name c).holds (in_phase Idle f) (objects_clear (in_phase Idle f) (TakeRegion name) clear) (λ on. omega (arith, clear on))
  row_clear maker g (Empty at held) c f can picks clear = paged_clear g.fault at g.slot (Instantiate at g.slot) c (in_phase Idle f) clear
  row_clear maker g (Instantiate at held) c f can picks clear = paged_clear g.fault at g.slot (MakeMemory at g.slot) c (in_phase Idle f) clear
  row_clear maker g (MakeMemory at held) c f can picks clear = made_clear at held (memory_made c.settings (memories_wanted f.asked) (length f.objects.memories.items) g.limiter held) c (in_phase Idle f) can.frame.shape.2.kind clear
  row_clear maker g (MakeTable at region) c f can picks clear = table_clear at region (table_made c.settings (tables_wanted f.asked) (length f.objects.tables.items) g.limiter at region) c (in_phase Idle f) (objects_clear (in_phase Idle f) (MakeTable at region) clear)
  row_clear maker g (CountObject (object.Memory lease)) c f can picks clear = memory_clear f.asked lease (in_phase Idle f) (ap is_granting can.frame.shape.1.ending) clear
  row_clear maker g (CountObject (object.Table lease)) c f can picks clear = table_more f.asked lease (in_phase Idle f) (objects_clear (in_phase Idle f) (CountObject (object.Table lease)) clear)
  row_clear maker g (CountObject (object.Stack lease)) c f can picks clear = no_stack t of lease
  row_clear maker g (TakeHeap name) c f can picks clear =
      let memory : ℕ = memory_under f.asked f.objects.memories.items in
      heap_clear (record { name = name; numbers = heap_numbers memory }) (heap_in name.slot (heaps_at c)) (in_phase Idle f) (objects_clear (in_phase Idle f) (TakeHeap name) clear) (λ on. omega (arith, clear on, of.regions name (heap_numbers memory)))
  row_clear maker g (MakeHeap at) c f can picks clear = maker_clear g.heap at c (in_phase Idle f) (objects_clear (in_phase Idle f) (MakeHeap at) clear)
  row_clear maker g (CountHeap lease) c f can picks clear = heap_counted_clear f.asked lease c (in_phase Idle f) (ap is_granting can.frame.shape.1.ending) (objects_clear (in_phase Idle f) (CountHeap lease) clear)
  row_clear maker g (PutNoHeap at) c f can picks clear = back_on (in_phase Idle f) (FreeOne at.name) can.frame.shape.1
  row_clear maker g (PutBack at held) c f can picks clear = back_on (in_phase Idle f) (FreeOne at.name) can.frame.shape.1
  row_clear maker g (FreeOne name) c f can picks clear = λ on. idle_of f.ending can.frame.shape.1 on
  row_clear maker g (UncountObject (object.Memory lease)) c f can picks clear = λ on. idle_of f.ending can.frame.shape.1 on
  row_clear maker g (UncountObject (object.Table lease)) c f can picks clear = λ on. idle_of f.ending can.frame.shape.1 on
  row_clear maker g (UncountObject (object.Stack lease)) c f can picks clear = λ on. idle_of f.ending can.frame.shape.1 on
  row_clear maker g (UncountHeap lease memory) c f can picks clear = λ on. idle_of f.ending can.frame.shape.1 on
  row_clear maker g (PutHeap lease memory) c f can picks clear = λ on. idle_of f.ending can.frame.shape.1 on
  row_clear maker g (FreeHeap name memory) c f can picks clear = λ on. idle_of f.ending can.frame.shape.1 on
  row_clear maker g (Reset (object.Memory lease)) c f can picks clear = reset_clear g.fault g.slot lease c (in_phase Idle f) can.frame.shape.1
  row_clear maker g (Reset (object.Table lease)) c f can picks clear = queue_clear c.settings.batch (table_reset_into c.settings lease f.local) (in_phase Idle f) can.frame.shape.1
  row_clear maker g (Reset (object.Stack lease)) c f can picks clear = queue_clear c.settings.batch (stack_reset c.settings.stack_keep_resident.bytes lease f.local) (in_phase Idle f) can.frame.shape.1
  row_clear maker g Merge c f can picks clear = merged_clear _ _ _ can.frame.shape.0
  row_clear maker g Flush c f can picks clear = flush_clear (flush_step f.local f.freed.items) g.queue c (in_phase Idle f) (objects_clear (in_phase Idle f) Flush clear)
  row_clear maker g UncountInstance c f can picks clear = answered f f.ending
  row_clear maker g (ValidateComponent info) c f can picks clear = tested_clear (component_refused c.settings info) c (in_phase Idle f) (objects_clear (in_phase Idle f) (ValidateComponent info) clear)
  row_clear maker g CountComponent c f can picks clear = component_clear (nat_lt c.counters.component_instances c.settings.max_component_instances) c (in_phase Idle f)
  row_clear maker g UncountComponent c f can picks clear = answered f f.ending
  row_clear maker g (Purge p step) c f can picks clear = purge_clear g p step c (in_phase Idle f) (objects_clear (in_phase Idle f) (Purge p step) clear)
  row_clear maker g (Release step) c f can picks clear = release_clear g step c (in_phase Idle f) (objects_clear (in_phase Idle f) (Release step) clear)

-- the weight, by the kind of the allocator's slots
abbrev outside : SlotKind → Allocator → Thing
outside kind a u = one_if (not u.region && (same_kind kind u.kind && not (has_number a u.slot)))

-- It is one of memories where the allocator is.
of_memories : (a : Allocator) → a.kind ≡ memory_kind → IsOfMemories (right_outside a)
of_memories a is =
    let None_of : SlotKind → SlotKind → Type 0 = λ k other. (n : ℕ) → slot_count (outside k a) (record { kind = other; slot = n }) ≡ 0 in
    let none : (other : SlotKind) → None_of memory_kind other → None_of a.kind other = λ other zero. subst (λ (k : SlotKind). None_of k other) (sym is) zero in
    record {
      regions = λ name numbers. refl;
      tables = none table_kind (λ n. refl);
      stacks = none stack_kind (λ n. refl);
      heaps = none heap_kind (λ n. refl);
    }

-- None of the allocator's slots weighs anything.
no_own : (b : Bool) (a : Allocator) (k : SlotKind) (n : ℕ) → has_number a n ≡ true → one_if (b && not (has_number a n)) ≡ 0
no_own true a k n has = rw has refl
no_own false a k n has = refl

module _ {P H : Type 0} where
  -- A pick for a memory gives a slot of the stripe.
  picks_own : (maker : MakerTold) (c : PoolCore P H) (f : Frame P H) (tried : ℕ) → CanStep maker c f → IfSome (pick_answer (wanted f) (shard_at (shard_tried tried c.plan f) c)) (λ x. slot_count (right_outside (stripe_allocator c.plan f.stripe)) (record { kind = (allocator_for c.plan f).kind; slot = slot_number (shard_at (shard_tried tried c.plan f) c) x.0.0 }) ≡ 0)
  picks_own maker c f tried can =
      let a : Allocator = allocator_for c.plan f in
      let t : Thing = right_outside (stripe_allocator c.plan f.stripe) in
      let shard : ShardState = shard_at (shard_tried tried c.plan f) c in
      let place : IsShardPlace c.plan (shard_tried tried c.plan f) = record { allocator = a; index = (f.home + tried) % a.shards; role = tried_role tried c.plan (length c.parts) f can.core.plan can.frame.stripe } in
      let is : IsShardOf a ((f.home + tried) % a.shards) shard = planned_shard maker (shard_tried tried c.plan f) c can.core place in
      let kind : a.kind ≡ kind_next f = (allocator_holds c.plan (length c.parts) f can.core.plan can.frame.stripe).kind_is in
      let own : a.kind ≡ memory_kind → a ≡ stripe_allocator c.plan f.stripe = λ memory. ap (λ (k : SlotKind). allocator_of c.plan k f.stripe) (sym kind ∙ memory) in
      let of = of_memories (stripe_allocator c.plan f.stripe) (stripe_holds c.plan (length c.parts) f.stripe can.core.plan can.frame.stripe).kind_is in
      told_weaker (λ x. x.0.0 < shard.capacity) (λ x. slot_count t (record { kind = a.kind; slot = slot_number shard x.0.0 }) ≡ 0) (pick_answer (wanted f) shard)
      (λ x inside.
      let j : ℕ = (f.home + tried) % a.shards in
      let number : slot_number shard x.0.0 ≡ number_in a (j * a.slots_per_shard + x.0.0) = number_of a j x.0.0 shard is in
      let few : j * a.slots_per_shard + x.0.0 < a.capacity = omega (arith, inside, is.capacity) in
      let apart : 0 < a.step = (allocator_is c.plan (length c.parts) (kind_next f) f.stripe can.core.plan can.frame.stripe).placed.apart in
      let has : has_number a (slot_number shard x.0.0) ≡ true = subst (λ (n : ℕ). has_number a n ≡ true) (sym number) (has_its a (j * a.slots_per_shard + x.0.0) apart few) in
      by_kind a.kind (stripe_allocator c.plan f.stripe) (slot_number shard x.0.0) of (λ memory. subst (λ (b : Allocator). has_number b (slot_number shard x.0.0) ≡ true) (own memory) has))
      (picked_inside (wanted f) shard is.sound)
    where
      by_kind : (k : SlotKind) (b : Allocator) (n : ℕ) → IsOfMemories (right_outside b) → (k ≡ memory_kind → has_number b n ≡ true) → slot_count (right_outside b) (record { kind = k; slot = n }) ≡ 0
      by_kind memory_kind b n of has = no_own (same_kind b.kind memory_kind) b memory_kind n (has refl)
      by_kind table_kind b n of has = of.tables n
      by_kind stack_kind b n of has = of.stacks n
      by_kind heap_kind b n of has = of.heaps n

  -- A step keeps a call to its stripe, and what it is granted lies there.
  pub keeps_on : (maker : MakerTold) (old new : PartyTold) (c : PoolCore P H) (f : Frame P H) (a : After P H) → CanStep maker c f → (stage_of f ≡ keys → ⊥) → StepsTo old new c f a → KeepsToItsStripe c.plan f → KeepsToItsStripe c.plan a.frame × (count_granted (grant_count (right_outside (stripe_allocator c.plan f.stripe))) a.outcome ≡ 0)
  keeps_on maker old new c f a can key steps keeps =
      let t : Thing = right_outside (stripe_allocator c.plan f.stripe) in
      let of = of_memories (stripe_allocator c.plan f.stripe) (stripe_holds c.plan (length c.parts) f.stripe can.core.plan can.frame.stripe).kind_is in
      let r = row_of steps.0 f.phase c (in_phase Idle f) in
      let left : ClearLeft t of (after r.frame r.turn) = after_clear t of r.frame r.turn (row_clear t of maker steps.0 f.phase c f can (λ tried is. picks_own maker c f tried can) keeps) in
      let stripe : f.stripe ≡ a.frame.stripe = sym (step_stripe old new c f a key steps) in
      let Of : After P H → Type 0 = λ x. (is_granting x.frame.ending ≡ true → instance_count t x.frame.objects + in_hand t x.frame.phase ≡ 0) × (count_granted (grant_count t) x.outcome ≡ 0) in
      let now : Of a = subst Of (sym steps.1.is) left in
      let K : ℕ → Type 0 = λ n. is_granting a.frame.ending ≡ true → instance_count (right_outside (stripe_allocator c.plan n)) a.frame.objects + in_hand (right_outside (stripe_allocator c.plan n)) a.frame.phase ≡ 0 in
      (subst K stripe now.0, now.1)

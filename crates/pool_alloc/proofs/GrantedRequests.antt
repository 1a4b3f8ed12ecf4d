-- Where nothing that its steps ask for fails, a request is refused for room or for want of memory alone. So one that has all it needs is
-- granted, or finds no memory.
use Rattle.std.proofs.Common.{◌≡◌, ℕ, ◌+◌, ◌<◌, ◌==◌, ◌||◌, ◌⊎◌, Bool, true, false, List, [], ◌∷◌, length, drop, Option, Some, None, Result, Ok, Err, refl, sym, ap, ◌∙◌, subst, inl, inr, arith, nat_lt, nat_le, if◌then◌else◌, IfErr, IfSome}
use Rattle.std.proofs.lemmas.Bool.{ne_eqb}
use Rattle.pool_slots.specs.declared.heap_maker.HeapMakeFault.TheVariants as no_heap
use Rattle.pool_alloc.proofs.Imports.{MakerTold, ShardState, SlotId, pick_answer, slot_number, Slot, MemoryState, Told, Unsupported, Queue, Queued, first_of_kind, others_of_kind, AllocError, HeapMakeFault, LimiterError, Cell, unmapped, unknown, previously_used, taken, slot_of, Plan, SlotKind, memory_kind, table_kind, stack_kind, heap_kind, SlotName, heap_in, cell_numbers, heap_slot}
use Rattle.pool_alloc.specs.CallStages.{untested, seeks_single, seeks_stack, tests_heap, seeks_heap, counts_heap, Stage, no_call, keys, asks as asking, tests_component, counts_component, returning, refusing, purging, reserving, releasing, Goes, stage_at, stage_by, stage_of}
use Rattle.pool_alloc.specs.BetweenSteps.{IsShapedAt}
use Rattle.pool_alloc.specs.Calls.{MayBegin, begun_call}
use Rattle.pool_alloc.specs.GrantedRequests.{IsWant, CanBeMade, BreaksNoRule, NothingFails, GoesWell, AllGoWell, IsGranted}
use Rattle.pool_alloc.specs.HeapLeases.{LeasedHeap, heap_numbers, memory_under}
use Rattle.pool_alloc.specs.Leases.{Lease, slot_taken}
use Rattle.pool_alloc.specs.MemorySteps.{heap_refusal, memory_made, reset_into}
use Rattle.pool_alloc.specs.Objects.{objects_in, objects_wanted}
use Rattle.pool_alloc.specs.PartyTold.{PartyTold}
use Rattle.pool_alloc.specs.PoolStacks.{stack_reset}
use Rattle.pool_alloc.specs.Purges.{purge_row, purge_to, affine_picked, pick_affine_row, behind_memory, has_turns, purged_stripe}
use Rattle.pool_alloc.specs.Refusals.{heap_refused, module_refused, component_refused}
use Rattle.pool_alloc.specs.Releases.{release_row, reserve_row, warm_taken, drain_from, drain_at, free_first, behind_stripe, not_resident, released_stripe, taking}
use Rattle.pool_alloc.specs.StepReads.{StepGiven, allocator_for, info_wanted, memories_wanted, tables_wanted, shard_at, shard_tried, queue_at, queue_tried, heaps_at, wanted, cell_named}
use Rattle.pool_alloc.specs.StepTable.{FlushStep, run, zero, put, free, flush_step, memory_kept, memory_turn, table_kept, table_turn, merged, validated, counted, stacks_tested, heaps_tested, heap_granted, heap_next, make_heap_row, component_tested, component_counted, paged, was_made, was_made_table, was_reset, reset_turn, put_first, flush_row, row_of, picked, taken_next, region_next, unmapped_next, heap_freed, memory_tested, heap_counted}
use Rattle.pool_alloc.specs.Stepping.{CanStep, StepsTo, Takes}
use Rattle.pool_alloc.specs.TableLeases.{LeasedTable}
use Rattle.pool_alloc.specs.TableSteps.{table_made, table_reset_into}
use Rattle.pool_alloc.specs.Turns.{After, Left, Row, Turn, goes, ends, next, flush, search, stays, after, answer_of, ends_with, goes_to, is_flushed, all_returned, returned_next, next_by, slot_search}
use Rattle.pool_alloc.specs.UnhinderedRequests.{is_for_room, asked_by, HasAllItNeeds, IsForGrant}
use Rattle.pool_alloc.specs.declared.frame.Asked.{Asked}
use Rattle.pool_alloc.specs.declared.frame.Asked.TheVariants.{Module as module_asked, Memory as memory_asked, Table as table_asked, Stack as stack_asked, Heap as heap_asked, HeapOver as heap_over_asked}
use Rattle.pool_alloc.specs.declared.frame.Call.{Call}
use Rattle.pool_alloc.specs.declared.frame.Call.TheVariants as call
use Rattle.pool_alloc.specs.declared.frame.Ending.{Ending}
use Rattle.pool_alloc.specs.declared.frame.Ending.TheVariants.{Granted as granted, Returned as returned, Refused as refused}
use Rattle.pool_alloc.specs.declared.frame.Frame.{Frame}
use Rattle.pool_alloc.specs.declared.frame.FreedSlot.{FreedSlot}
use Rattle.pool_alloc.specs.declared.frame.Grant.TheVariants as grant
use Rattle.pool_alloc.specs.declared.frame.Object.TheVariants as object
use Rattle.pool_alloc.specs.declared.frame.Outcome.{Outcome}
use Rattle.pool_alloc.specs.declared.frame.Outcome.TheVariants as answer
use Rattle.pool_alloc.specs.declared.frame.Phase.{Phase}
use Rattle.pool_alloc.specs.declared.frame.Phase.TheVariants.{Idle, Key, Validate, TestStack, TestHeap, CountInstance, Pick, TakeQueue, TakeRegion, Empty, Instantiate, MakeMemory, MakeTable, CountObject, TakeHeap, MakeHeap, CountHeap, PutNoHeap, PutBack, FreeOne, UncountObject, UncountHeap, PutHeap, FreeHeap, Reset, Merge, Flush, UncountInstance, ValidateComponent, CountComponent, UncountComponent, Purge, Release}
use Rattle.pool_alloc.specs.declared.frame.TakenSlot.{TakenSlot}
use Rattle.pool_alloc.specs.declared.pool_core.PoolCore.{PoolCore}
use Rattle.pool_alloc.specs.declared.pool_core.Settings.{Settings}
use Rattle.pool_alloc.specs.declared.purge.PurgeCursor.{PurgeCursor}
use Rattle.pool_alloc.specs.declared.purge.PurgeStep.{PurgeStep}
use Rattle.pool_alloc.specs.declared.purge.PurgeStep.TheVariants as purging_step
use Rattle.pool_alloc.specs.declared.release.ReleaseCursor.{ReleaseCursor}
use Rattle.pool_alloc.specs.declared.release.ReleaseStep.{ReleaseStep}
use Rattle.pool_alloc.specs.declared.release.ReleaseStep.TheVariants as releasing_step
use Rattle.pool_alloc.proofs.BeforeTheTurn.{in_phase}
use Rattle.pool_alloc.proofs.StepNeeds.{step_ok}
use Rattle.pool_alloc.proofs.UnhinderedRequests.{AtStage, Seeks, seeks_on, begun_seeks}

-- The refusal is for want of memory, or for room.
abbrev OnlyRoom : AllocError → Type 0
OnlyRoom e = IsWant e ⊎ (is_for_room e ≡ true)

-- The call isn't to be refused for anything else.
abbrev FineEnding : Ending → Type 0
FineEnding (refused e) = OnlyRoom e
FineEnding _ = Unit {0}

-- What a memory or a table comes to where the limiter lets it be made.
made_well : (s : Settings) (asked : Asked) (k : ℕ) (given : Result Bool LimiterError) (held : Slot) → CanBeMade s asked → given ≡ Ok true → IfErr (memory_made s (memories_wanted asked) k given held) IsWant
made_well s asked k given held can lets = subst (λ (r : Result Bool LimiterError). IfErr (memory_made s (memories_wanted asked) k r held) IsWant) (sym lets) (can.memories k held)

tables_well : (s : Settings) (asked : Asked) (k : ℕ) (given : Result Bool LimiterError) (at : TakenSlot) (region : Told) → CanBeMade s asked → given ≡ Ok true → IfErr (table_made s (tables_wanted asked) k given at region) IsWant
tables_well s asked k given at region can lets = subst (λ (r : Result Bool LimiterError). IfErr (table_made s (tables_wanted asked) k r at region) IsWant) (sym lets) (can.tables k at region)

-- A size that isn't none.
enabled : (n : ℕ) → 0 < n → (n == 0) ≡ false
enabled n some = ne_eqb n 0 (λ none. absurd (omega (arith, some, none)))

module _ {P H : Type 0} where
  abbrev FineOutcome : Option (Outcome P H) → Type 0
  FineOutcome (Some (answer.Refused e)) = OnlyRoom e
  FineOutcome _ = Unit {0}

  -- The call is past its tests.
  abbrev PastTests : Phase P H → Type 0
  PastTests Validate = ⊥
  PastTests TestStack = ⊥
  PastTests TestHeap = ⊥
  PastTests (ValidateComponent info) = ⊥
  PastTests _ = Unit {0}

  abbrev FineTurn : Frame P H → Turn P H → Type 0
  FineTurn f (goes p) = FineEnding f.ending × PastTests p
  FineTurn f (ends o) = FineOutcome (Some o)
  FineTurn f (search queues e) = FineEnding f.ending × OnlyRoom e
  FineTurn f stays = FineEnding f.ending × PastTests f.phase
  FineTurn f _ = FineEnding f.ending

  pub record IsFine (f : Frame P H) (o : Option (Outcome P H)) : Type 0 where
    pub ending : FineEnding f.ending
    pub past : PastTests f.phase
    pub outcome : FineOutcome o

  abbrev FineLeft : Left P H → Type 0
  FineLeft l = IsFine l.frame l.outcome

  either : (f : Frame P H) (b : Bool) (x y : Turn P H) → FineTurn f x → FineTurn f y → FineTurn f (if b then x else y)
  either f true x y one other = one
  either f false x y one other = other

  goes_fine : (f : Frame P H) (p : Phase P H) → FineEnding f.ending → PastTests p → FineLeft (goes_to f p)
  goes_fine f p fine past = record { ending = fine; past = past; outcome = tt }

  ends_fine : (f : Frame P H) (o : Outcome P H) → FineOutcome (Some o) → FineLeft (ends_with f o)
  ends_fine f o fine = record { ending = tt; past = tt; outcome = fine }

  answer_fine : (f : Frame P H) (e : Ending) → FineEnding e → FineOutcome (Some (answer_of {P = P} {H = H} e))
  answer_fine f (refused e) fine = fine
  answer_fine f granted fine = tt
  answer_fine f returned fine = tt

  all_fine : (asked : Asked) (f : Frame P H) → FineEnding f.ending → FineLeft (all_returned asked f)
  all_fine (memory_asked m) f fine = ends_fine f (answer_of f.ending) (answer_fine f f.ending fine)
  all_fine (table_asked ty) f fine = ends_fine f (answer_of f.ending) (answer_fine f f.ending fine)
  all_fine stack_asked f fine = ends_fine f (answer_of f.ending) (answer_fine f f.ending fine)
  all_fine (heap_asked ty) f fine = ends_fine f (answer_of f.ending) (answer_fine f f.ending fine)
  all_fine (heap_over_asked memory) f fine = ends_fine f (answer_of f.ending) (answer_fine f f.ending fine)
  all_fine _ f fine = goes_fine f UncountInstance fine tt

  returned_fine : (ms : List Lease) (ts : List LeasedTable) (f : Frame P H) → FineEnding f.ending → FineLeft (returned_next ms ts f)
  returned_fine (l ∷ ls) ts f fine = record { ending = fine; past = tt; outcome = tt }
  returned_fine [] (l ∷ ls) f fine = record { ending = fine; past = tt; outcome = tt }
  returned_fine [] [] f fine = all_fine f.asked f fine

  next_fine : (e : Ending) (f : Frame P H) → FineEnding f.ending → FineLeft (next_by e f)
  next_fine granted f fine = granting (nat_lt (objects_in f.objects) (objects_wanted f.asked))
    where
      granting : (b : Bool) → FineLeft (if b then goes_to f (Pick 0) else ends_with (record f { objects = record { memories = record { items = []; room = 0 }; tables = record { items = []; room = 0 } } }) (answer.Granted (grant.Instance f.objects)))
      granting true = goes_fine f (Pick 0) fine tt
      granting false = record { ending = tt; past = tt; outcome = tt }
  next_fine returned f fine = returned_fine f.objects.memories.items f.objects.tables.items f fine
  next_fine (refused e) f fine = returned_fine f.objects.memories.items f.objects.tables.items f fine

  after_fine : (f : Frame P H) (turn : Turn P H) → FineTurn f turn → FineLeft (after f turn)
  after_fine f (goes p) fine = goes_fine f p fine.0 fine.1
  after_fine f (ends o) fine = ends_fine f o fine
  after_fine f next fine = next_fine f.ending f fine
  after_fine f flush fine = flushed (is_flushed f)
    where
      flushed : (b : Bool) → FineLeft (if b then next_by f.ending f else goes_to f Flush)
      flushed true = next_fine f.ending f fine
      flushed false = goes_fine f Flush fine tt
  after_fine f (search queues e) fine = searched (nat_lt f.queues queues)
    where
      searched : (b : Bool) → FineLeft (if b then goes_to f TakeQueue else returned_next f.objects.memories.items f.objects.tables.items (record f { ending = refused e }))
      searched true = goes_fine f TakeQueue fine.0 tt
      searched false = returned_fine f.objects.memories.items f.objects.tables.items (record f { ending = refused e }) fine.1
  after_fine f stays fine = record { ending = fine.0; past = fine.1; outcome = tt }

  -- Rows that have several ends.
  validated_fine : (o : Option Unsupported) (wants : Bool) (phase : Phase P H) (c : PoolCore P H) (f : Frame P H) → o ≡ None → PastTests phase → FineEnding f.ending → FineTurn (validated o wants phase c f).frame (validated o wants phase c f).turn
  validated_fine (Some rule) wants phase c f none past fine = absurd cc
  validated_fine None true phase c f none past fine = inl refl
  validated_fine None false phase c f none past fine = (fine, past)

  counted_fine : (b : Bool) (c : PoolCore P H) (f : Frame P H) → FineEnding f.ending → FineTurn (counted b c f).frame (counted b c f).turn
  counted_fine true c f fine = fine
  counted_fine false c f fine = inr refl

  stacks_fine : (b : Bool) (c : PoolCore P H) (f : Frame P H) → b ≡ false → FineEnding f.ending → FineTurn (stacks_tested b c f).frame (stacks_tested b c f).turn
  stacks_fine true c f enabled fine = absurd cc
  stacks_fine false c f enabled fine = (fine, tt)

  asked_fine : (asked : Asked) (wants : Bool) (c : PoolCore P H) (f : Frame P H) → heap_refused c.settings asked ≡ None → FineEnding f.ending → FineTurn (memory_tested asked wants c f).frame (memory_tested asked wants c f).turn
  asked_fine (heap_over_asked memory) wants c f none fine = (fine, tt)
  asked_fine asked wants c f none fine = validated_fine (heap_refused c.settings asked) wants (Pick 0) c f none tt fine

  heaps_fine : (b wants : Bool) (c : PoolCore P H) (f : Frame P H) → b ≡ true → heap_refused c.settings f.asked ≡ None → FineEnding f.ending → FineTurn (heaps_tested b wants c f).frame (heaps_tested b wants c f).turn
  heaps_fine false wants c f enabled none fine = absurd cc
  heaps_fine true wants c f enabled none fine = asked_fine f.asked wants c f none fine

  taken_past : (f : Frame P H) (kind : SlotKind) (name : SlotName) → PastTests (taken_next {P = P} {H = H} kind name)
  taken_past f heap_kind name = tt
  taken_past f memory_kind name = tt
  taken_past f table_kind name = tt
  taken_past f stack_kind name = tt

  picked_fine : (plan : Plan) (o : Option (SlotId × ℕ)) (shard : ShardState) (tried : ℕ) (f : Frame P H) → FineEnding f.ending → FineTurn f (picked plan o shard tried f)
  picked_fine plan (Some p) shard tried f fine = (fine, taken_past f (allocator_for plan f).kind (record { kind = (allocator_for plan f).kind; slot = slot_number shard p.0.0 }))
  picked_fine plan None shard tried f fine = either f (nat_lt (tried + 1) (allocator_for plan f).shards) (goes (Pick (tried + 1))) (slot_search plan f) (fine, tt) (fine, inr refl)

  region_fine : (s : Settings) (at : TakenSlot) (held : Cell) (f : Frame P H) → FineEnding f.ending → FineTurn f (region_next s at held)
  region_fine s at (unmapped region) f fine = made at.name.kind
    where
      made : (kind : SlotKind) → FineTurn f (unmapped_next s kind at region)
      made memory_kind = (fine, tt)
      made table_kind = (fine, tt)
      made stack_kind = (fine, tt)
      made heap_kind = (fine, tt)
  region_fine s at (unknown held) f fine = (fine, tt)
  region_fine s at (previously_used held) f fine = (fine, tt)
  region_fine s at taken f fine = (fine, tt)

  paged_fine : (b : Bool) (at : TakenSlot) (held : Slot) (phase : Phase P H) (c : PoolCore P H) (f : Frame P H) → b ≡ false → PastTests phase → FineEnding f.ending → FineTurn (paged b at held phase c f).frame (paged b at held phase c f).turn
  paged_fine true at held phase c f none past fine = absurd cc
  paged_fine false at held phase c f none past fine = (fine, past)

  made_fine : (at : TakenSlot) (held : Slot) (r : Result MemoryState AllocError) (c : PoolCore P H) (f : Frame P H) → IfErr r IsWant → FineEnding f.ending → FineTurn (was_made at held r c f).frame (was_made at held r c f).turn
  made_fine at held (Ok memory) c f wants fine = (fine, tt)
  made_fine at held (Err e) c f wants fine = (inl wants, tt)

  table_fine : (at : TakenSlot) (region : Told) (r : Result LeasedTable AllocError) (c : PoolCore P H) (f : Frame P H) → IfErr r IsWant → FineEnding f.ending → FineTurn (was_made_table at region r c f).frame (was_made_table at region r c f).turn
  table_fine at region (Ok lease) c f wants fine = (fine, tt)
  table_fine at region (Err e) c f wants fine = (inl wants, tt)

  memory_fine : (asked : Asked) (lease : Lease) (f : Frame P H) → FineEnding f.ending → FineTurn (memory_kept asked lease f) (memory_turn asked lease)
  memory_fine (memory_asked m) lease f fine = tt
  memory_fine _ lease f fine = fine

  kept_fine : (asked : Asked) (lease : LeasedTable) (f : Frame P H) → FineEnding f.ending → FineTurn (table_kept asked lease f) (table_turn asked lease)
  kept_fine (table_asked ty) lease f fine = tt
  kept_fine _ lease f fine = fine

  heap_fine : (at : TakenSlot) (o : Option H) (f : Frame P H) → FineEnding f.ending → FineTurn f (heap_next at o)
  heap_fine at (Some heap) f fine = (fine, tt)
  heap_fine at None f fine = (fine, tt)

  maker_fine : (r : Result H HeapMakeFault) (at : TakenSlot) (c : PoolCore P H) (f : Frame P H) → IfErr r (λ fault. fault ≡ no_heap.Memory) → FineEnding f.ending → FineTurn (make_heap_row r at c f).frame (make_heap_row r at c f).turn
  maker_fine (Ok heap) at c f wants fine = (fine, tt)
  maker_fine (Err fault) at c f wants fine = (inl (ap heap_refusal wants), tt)

  granted_fine : (ms : List Lease) (lease : LeasedHeap H) (c : PoolCore P H) (f : Frame P H) → FineEnding f.ending → FineTurn (heap_granted ms lease c f).frame (heap_granted ms lease c f).turn
  granted_fine [] lease c f fine = (fine, tt)
  granted_fine (memory ∷ rest) lease c f fine = tt

  heap_counted_fine : (asked : Asked) (lease : LeasedHeap H) (c : PoolCore P H) (f : Frame P H) → FineEnding f.ending → FineTurn (heap_counted asked lease c f).frame (heap_counted asked lease c f).turn
  heap_counted_fine (heap_over_asked memory) lease c f fine = tt
  heap_counted_fine asked lease c f fine = granted_fine f.objects.memories.items lease c f fine

  freed_past : (f : Frame P H) (name : SlotName) (memory : Option Lease) → PastTests (heap_freed {P = P} {H = H} name memory)
  freed_past f name (Some memory) = tt
  freed_past f name None = tt

  put_fine : (o : Option Queued) (rest : List Queued) (c : PoolCore P H) (f : Frame P H) → FineEnding f.ending → FineTurn (put_first o rest c f).frame (put_first o rest c f).turn
  put_fine None rest c f fine = (fine, tt)
  put_fine (Some m) rest c f fine = fine

  flush_fine : (step : FlushStep) (queue : Queue) (c : PoolCore P H) (f : Frame P H) → FineEnding f.ending → FineTurn (flush_row step queue c f).frame (flush_row step queue c f).turn
  flush_fine run queue c f fine = fine
  flush_fine (zero kind) queue c f fine = fine
  flush_fine (put kind) queue c f fine = put_fine (first_of_kind kind f.local.slots) (others_of_kind kind f.local.slots) c f fine
  flush_fine free queue c f fine = fine

  tested_fine : (o : Option Unsupported) (c : PoolCore P H) (f : Frame P H) → o ≡ None → FineEnding f.ending → FineTurn (component_tested o c f).frame (component_tested o c f).turn
  tested_fine (Some rule) c f none fine = absurd cc
  tested_fine None c f none fine = (fine, tt)

  component_fine : (b : Bool) (c : PoolCore P H) (f : Frame P H) → FineEnding f.ending → FineTurn (component_counted b c f).frame (component_counted b c f).turn
  component_fine true c f fine = tt
  component_fine false c f fine = (inr refl, tt)

  queue_fine : (batch : ℕ) (local : Queue) (f : Frame P H) → FineEnding f.ending → FineTurn (record f { local = local }) (reset_turn batch local)
  queue_fine batch local f fine = either (record f { local = local }) ((length local.ranges == 0) || nat_le batch (length local.ranges)) flush (goes Merge) fine (fine, tt)

  reset_fine : (b : Bool) (held : Slot) (lease : Lease) (c : PoolCore P H) (f : Frame P H) → FineEnding f.ending → FineTurn (was_reset b held lease c f).frame (was_reset b held lease c f).turn
  reset_fine true held lease c f fine = (fine, tt)
  reset_fine false held lease c f fine = queue_fine c.settings.batch (reset_into c.settings.dirty_pages c.settings.keep_resident.bytes (slot_taken lease) (slot_of lease.memory) f.local) f fine

  merged_fine : (b : Bool) (whole : Queue) (f : Frame P H) → FineEnding f.ending → FineTurn (merged b whole f).frame (merged b whole f).turn
  merged_fine true whole f fine = fine
  merged_fine false whole f fine = fine

  purge_on : (p : PurgeCursor) (o : Option PurgeCursor) (f : Frame P H) → FineEnding f.ending → FineTurn f (purge_to p o)
  purge_on p (Some q) f fine = (fine, tt)
  purge_on p None f fine = tt

  affine_fine : (per_module : ℕ) (plan : Plan) (p : PurgeCursor) (o : Option SlotId) (shard : ShardState) (tried : ℕ) (f : Frame P H) → FineEnding f.ending → FineTurn f (affine_picked per_module plan p o shard tried)
  affine_fine per_module plan p (Some slot) shard tried f fine = (fine, tt)
  affine_fine per_module plan p None shard tried f fine = either f (nat_lt (tried + 1) (purged_stripe plan p).shards) (goes (Purge p (purging_step.Pick (tried + 1)))) (purge_to p (behind_memory per_module plan p)) (fine, tt) (purge_on p (behind_memory per_module plan p) f fine)

  purge_fine : (g : StepGiven H) (p : PurgeCursor) (step : PurgeStep P) (c : PoolCore P H) (f : Frame P H) → FineEnding f.ending → FineTurn (purge_row g p step c f).frame (purge_row g p step c f).turn
  purge_fine g p (purging_step.Pick tried) c f fine = picks (has_turns c.settings.max_memories_per_module c.plan)
    where
      picks : (b : Bool) → FineTurn (pick_affine_row b p tried c f).frame (pick_affine_row b p tried c f).turn
      picks true = affine_fine c.settings.max_memories_per_module c.plan p _ _ tried f fine
      picks false = tt
  purge_fine g p (purging_step.TakeRegion name) c f fine = (fine, tt)
  purge_fine g p (purging_step.Forget at held) c f fine = (fine, tt)
  purge_fine g p (purging_step.PutRegion at held) c f fine = (fine, tt)
  purge_fine g p (purging_step.Free name) c f fine = purge_on p _ f fine

  stripe_done : (plan : Plan) (r : ReleaseCursor) (f : Frame P H) → FineEnding f.ending → FineTurn f (behind_stripe plan r)
  stripe_done plan r f fine = either f (nat_lt (r.stripe + 1) (length plan.memories)) _ _ (fine, tt) tt

  first_freed : (plan : Plan) (xs : List FreedSlot) (r : ReleaseCursor) (f : Frame P H) → FineEnding f.ending → FineTurn f (free_first plan xs r)
  first_freed plan [] r f fine = stripe_done plan r f fine
  first_freed plan (x ∷ rest) r f fine = (fine, tt)

  drains : (plan : Plan) (r : ReleaseCursor) (k : ℕ) (f : Frame P H) → FineEnding f.ending → FineTurn f (drain_at plan r k)
  drains plan r k f fine = either f (nat_lt k (length r.taken.items)) _ _ (fine, tt) (first_freed plan r.taken.items r f fine)

  warms : (plan : Plan) (r : ReleaseCursor) (j : ℕ) (f : Frame P H) → FineEnding f.ending → FineTurn f (warm_taken plan r j)
  warms plan r j f fine = either f (nat_lt (j + 1) (released_stripe plan r).shards) (goes (Release (releasing_step.TakeWarm r (j + 1)))) (drain_from plan r 0) (fine, tt) (drains plan r (0 + not_resident (drop 0 r.taken.items)) f fine)

  reserved_fine : (wants : Bool) (c : PoolCore P H) (f : Frame P H) → FineEnding f.ending → FineTurn (reserve_row {P = P} wants c f).frame (reserve_row {P = P} wants c f).turn
  reserved_fine true c f fine = inl refl
  reserved_fine false c f fine = (fine, tt)

  release_fine : (g : StepGiven H) (step : ReleaseStep P) (c : PoolCore P H) (f : Frame P H) → FineEnding f.ending → FineTurn (release_row g step c f).frame (release_row g step c f).turn
  release_fine g releasing_step.Reserve c f fine = reserved_fine g.wants c f fine
  release_fine g (releasing_step.TakeWarm r j) c f fine = warms c.plan (taking (shard_at ((released_stripe c.plan r).first_place + j) c) r) j f fine
  release_fine g (releasing_step.TakeRegion r k) c f fine = (fine, tt)
  release_fine g (releasing_step.Decommit r k at held) c f fine = (fine, tt)
  release_fine g (releasing_step.PutRegion r k at held) c f fine = drains c.plan r _ f fine
  release_fine g (releasing_step.Free r x) c f fine = first_freed c.plan r.taken.items _ f fine

  -- What a row that makes a memory or a table needs.
  abbrev NeedsMade : Settings → Phase P H → Asked → Type 0
  NeedsMade s (MakeMemory at held) asked = CanBeMade s asked
  NeedsMade s (MakeTable at region) asked = CanBeMade s asked
  NeedsMade s _ asked = Unit {0}

  -- Each row past the tests.
  row_fine : (g : StepGiven H) (p : Phase P H) (c : PoolCore P H) (f : Frame P H) → PastTests p → FineEnding f.ending → NeedsMade c.settings p f.asked → NothingFails g p → FineTurn (row_of g p c (in_phase Idle f)).frame (row_of g p c (in_phase Idle f)).turn
  row_fine g Idle c f past fine can well = (fine, tt)
  row_fine g Key c f past fine can well = tt
  row_fine g Validate c f past fine can well = absurd past
  row_fine g TestStack c f past fine can well = absurd past
  row_fine g TestHeap c f past fine can well = absurd past
  row_fine g (ValidateComponent info) c f past fine can well = absurd past
  row_fine g CountInstance c f past fine can well = counted_fine (nat_lt c.counters.core_instances c.settings.max_core_instances) c (in_phase Idle f) fine
  row_fine g (Pick tried) c f past fine can well = picked_fine c.plan (pick_answer (wanted f) (shard_at (shard_tried tried c.plan f) c)) (shard_at (shard_tried tried c.plan f) c) tried (in_phase Idle f) fine
  row_fine g TakeQueue c f past fine can well =
      let r = row_of g TakeQueue c (in_phase Idle f) in
      either r.frame (length (queue_at (queue_tried f.queues c.plan f) c).slots == 0) (slot_search c.plan (in_phase Idle f)) flush (fine, inr refl) fine
  row_fine g (TakeRegion name) c f past fine can well = region_fine c.settings (record { name = name; numbers = cell_numbers (cell_named name c) }) (cell_named name c).holds (in_phase Idle f) fine
  row_fine g (Empty at held) c f past fine can well = paged_fine g.fault at g.slot (Instantiate at g.slot) c (in_phase Idle f) well tt fine
  row_fine g (Instantiate at held) c f past fine can well = paged_fine g.fault at g.slot (MakeMemory at g.slot) c (in_phase Idle f) well tt fine
  row_fine g (MakeMemory at held) c f past fine can well = made_fine at held (memory_made c.settings (memories_wanted f.asked) (length f.objects.memories.items) g.limiter held) c (in_phase Idle f) (made_well c.settings f.asked (length f.objects.memories.items) g.limiter held can well) fine
  row_fine g (MakeTable at region) c f past fine can well = table_fine at region (table_made c.settings (tables_wanted f.asked) (length f.objects.tables.items) g.limiter at region) c (in_phase Idle f) (tables_well c.settings f.asked (length f.objects.tables.items) g.limiter at region can well) fine
  row_fine g (CountObject (object.Memory lease)) c f past fine can well = memory_fine f.asked lease (in_phase Idle f) fine
  row_fine g (CountObject (object.Table lease)) c f past fine can well = kept_fine f.asked lease (in_phase Idle f) fine
  row_fine g (CountObject (object.Stack lease)) c f past fine can well = tt
  row_fine g (TakeHeap name) c f past fine can well = heap_fine (record { name = name; numbers = heap_numbers (memory_under f.asked f.objects.memories.items) }) (heap_in name.slot (heaps_at c)) (in_phase Idle f) fine
  row_fine g (MakeHeap at) c f past fine can well = maker_fine g.heap at c (in_phase Idle f) well fine
  row_fine g (CountHeap lease) c f past fine can well = heap_counted_fine f.asked lease c (in_phase Idle f) fine
  row_fine g (PutNoHeap at) c f past fine can well = (fine, tt)
  row_fine g (PutBack at held) c f past fine can well = (fine, tt)
  row_fine g (FreeOne name) c f past fine can well = fine
  row_fine g (UncountObject (object.Memory lease)) c f past fine can well = (fine, tt)
  row_fine g (UncountObject (object.Table lease)) c f past fine can well = (fine, tt)
  row_fine g (UncountObject (object.Stack lease)) c f past fine can well = (fine, tt)
  row_fine g (UncountHeap lease memory) c f past fine can well = (fine, tt)
  row_fine g (PutHeap lease memory) c f past fine can well = (fine, freed_past f (heap_slot lease.index) memory)
  row_fine g (FreeHeap name memory) c f past fine can well = (fine, tt)
  row_fine g (Reset (object.Memory lease)) c f past fine can well = reset_fine g.fault g.slot lease c (in_phase Idle f) fine
  row_fine g (Reset (object.Table lease)) c f past fine can well = queue_fine c.settings.batch (table_reset_into c.settings lease f.local) (in_phase Idle f) fine
  row_fine g (Reset (object.Stack lease)) c f past fine can well = queue_fine c.settings.batch (stack_reset c.settings.stack_keep_resident.bytes lease f.local) (in_phase Idle f) fine
  row_fine g Merge c f past fine can well = merged_fine _ _ _ fine
  row_fine g Flush c f past fine can well = flush_fine (flush_step f.local f.freed.items) g.queue c (in_phase Idle f) fine
  row_fine g UncountInstance c f past fine can well = answer_fine f f.ending fine
  row_fine g CountComponent c f past fine can well = component_fine (nat_lt c.counters.component_instances c.settings.max_component_instances) c (in_phase Idle f) fine
  row_fine g UncountComponent c f past fine can well = answer_fine f f.ending fine
  row_fine g (Purge p step) c f past fine can well = purge_fine g p step c (in_phase Idle f) fine
  row_fine g (Release step) c f past fine can well = release_fine g step c (in_phase Idle f) fine

  -- And that with which a request begins.
  first_fine : (request : Call P H) (g : StepGiven H) (c : PoolCore P H) (f : Frame P H) → IsForGrant request → BreaksNoRule c request → NothingFails g (begun_call request f).phase
      → FineTurn (row_of g (begun_call request f).phase c (in_phase Idle (begun_call request f))).frame (row_of g (begun_call request f).phase c (in_phase Idle (begun_call request f))).turn
  first_fine (call.Module m) g c f is rules well = validated_fine (module_refused c.settings c.plan.totals.table (info_wanted (module_asked m))) g.wants CountInstance c (in_phase Idle (begun_call (call.Module m) f)) rules tt tt
  first_fine (call.Component info) g c f is rules well = tested_fine (component_refused c.settings info) c (in_phase Idle (begun_call (call.Component info) f)) rules tt
  first_fine (call.Memory m) g c f is rules well = row_fine g (Pick 0) c (begun_call (call.Memory m) f) tt tt tt well
  first_fine (call.Table ty) g c f is rules well = row_fine g (Pick 0) c (begun_call (call.Table ty) f) tt tt tt well
  first_fine call.Stack g c f is rules well = stacks_fine (c.settings.stack_size == 0) c (in_phase Idle (begun_call call.Stack f)) (enabled c.settings.stack_size rules) tt
  first_fine (call.Heap ty) g c f is rules well = heaps_fine c.settings.tunables.tunables.collector g.wants c (in_phase Idle (begun_call (call.Heap ty) f)) rules.0 rules.1 tt
  first_fine (call.HeapOver memory) g c f is rules well = heaps_fine c.settings.tunables.tunables.collector g.wants c (in_phase Idle (begun_call (call.HeapOver memory) f)) rules refl tt
  first_fine _ g c f is rules well = absurd is

  -- So each step leaves it.
  step_fine : (old new : PartyTold) (g : StepGiven H) (c : PoolCore P H) (f : Frame P H) (a : After P H) → Takes old new g c f a → FineTurn (row_of g f.phase c (in_phase Idle f)).frame (row_of g f.phase c (in_phase Idle f)).turn → IsFine a.frame a.outcome
  step_fine old new g c f a takes fine =
      let r : Row (PoolCore P H) P H = row_of g f.phase c (in_phase Idle f) in
      let left : FineLeft (after r.frame r.turn) = after_fine r.frame r.turn fine in
      let Of : After P H → Type 0 = λ x. IsFine x.frame x.outcome in
      subst Of (sym takes.is) left

-- A request that has all it needs, and of which each memory and table can be made.
module _ {P H : Type 0} (maker : MakerTold) (first : PoolCore P H) (stripe : ℕ) (request : Call P H) (has : HasAllItNeeds first stripe request) (made : CanBeMade first.settings (asked_by request)) where
  abbrev Seeking : PoolCore P H → Frame P H → Type 0
  Seeking c f = Seeks maker has.grants first stripe request has.enough c f

  no_room : (e : AllocError) → OnlyRoom e → is_for_room e ≡ false → IsWant e
  no_room e only none = elim only [ inl wants ↦ wants | inr room ↦ absurd (let wrong : true ≡ false = sym room ∙ none in cc) ]

  -- What the call ends with, from its stage.
  ended : (old new : PartyTold) (c : PoolCore P H) (f : Frame P H) (s t : Stage) (o : Option (Outcome P H)) → AtStage request s f.asked → Goes maker old new c f s t o → FineOutcome o → ((e : AllocError) → o ≡ Some (answer.Refused e) → is_for_room e ≡ false) → IfSome o IsGranted
  ended old new c f (asking p) (asking q) None at way fine none = tt
  ended old new c f (asking p) (refusing e) None at way fine none = tt
  ended old new c f (asking p) no_call (Some (answer.Granted (grant.Memory lease))) at way fine none = tt
  ended old new c f (asking p) no_call (Some (answer.Granted (grant.Table lease))) at way fine none = tt
  ended old new c f (asking p) no_call (Some (answer.Granted (grant.Stack lease))) at way fine none = tt
  ended old new c f (asking p) no_call (Some (answer.Granted (grant.Instance lease))) at way fine none = tt
  ended old new c f (asking counts_heap) no_call (Some (answer.Granted (grant.Heap lease memory))) at way fine none = tt
  ended old new c f (asking counts_heap) no_call (Some (answer.Granted (grant.HeapOver lease))) at way fine none = tt
  ended old new c f (asking untested) no_call (Some (answer.Refused e)) at way fine none = no_room e fine (none e refl)
  ended old new c f (asking seeks_stack) no_call (Some (answer.Refused e)) at way fine none = no_room e fine (none e refl)
  ended old new c f (asking tests_heap) no_call (Some (answer.Refused e)) at way fine none = no_room e fine (none e refl)
  ended old new c f (asking (seeks_single n)) no_call (Some (answer.Refused e)) at way fine none = no_room e fine (none e refl)
  ended old new c f (asking (seeks_heap n)) no_call (Some (answer.Refused e)) at way fine none = no_room e fine (none e refl)
  ended old new c f (tests_component info) counts_component None at way fine none = tt
  ended old new c f (tests_component info) no_call (Some (answer.Refused e)) at way fine none = no_room e fine (none e refl)
  ended old new c f counts_component no_call (Some (answer.Granted grant.Component)) at way fine none = tt
  ended old new c f counts_component (refusing e) None at way fine none = tt
  ended old new c f (refusing e) (refusing d) None at way fine none = tt
  ended old new c f (refusing e) no_call (Some (answer.Refused d)) at way fine none = no_room d fine (none d refl)
  ended old new c f no_call t o at way fine none = absurd at
  ended old new c f keys t o at way fine none = absurd at
  ended old new c f returning t o at way fine none = absurd at
  ended old new c f purging t o at way fine none = absurd at
  ended old new c f reserving t o at way fine none = absurd at
  ended old new c f releasing t o at way fine none = absurd at
  ended old new c f _ _ _ at way fine none = absurd way

  -- While it makes memories and tables, it asks for what it was begun for.
  still_made : (c : PoolCore P H) (f : Frame P H) → Seeking c f → f.ending ≡ granted → AtStage request (stage_by f.asked f.ending (objects_in f.objects)) f.asked → CanBeMade c.settings f.asked
  still_made c f seeks ending at =
      let By : Ending → Type 0 = λ e. AtStage request (stage_by f.asked e (objects_in f.objects)) f.asked in
      let asked : f.asked ≡ asked_by request = (let now : By granted = subst By ending at in now.0) in
      subst (λ (s : Settings). CanBeMade s f.asked) (sym seeks.settings) (subst (CanBeMade first.settings) (sym asked) made)

  needs_made : (c : PoolCore P H) (f : Frame P H) (p : Phase P H) → Seeking c f → f.phase ≡ p → NeedsMade c.settings p f.asked
  needs_made c f (MakeMemory at held) seeks is =
      let Shape : Phase P H → Type 0 = λ q. IsShapedAt maker c.settings c.plan q f in
      let At : Phase P H → Type 0 = λ q. AtStage request (stage_at q f.asked f.ending (objects_in f.objects)) f.asked in
      let shape : Shape (MakeMemory at held) = subst Shape is seeks.can.frame.shape in
      still_made c f seeks shape.1.ending (subst At is seeks.stage)
  needs_made c f (MakeTable at region) seeks is =
      let Shape : Phase P H → Type 0 = λ q. IsShapedAt maker c.settings c.plan q f in
      let At : Phase P H → Type 0 = λ q. AtStage request (stage_at q f.asked f.ending (objects_in f.objects)) f.asked in
      let shape : Shape (MakeTable at region) = subst Shape is seeks.can.frame.shape in
      still_made c f seeks shape.1.ending (subst At is seeks.stage)
  needs_made c f _ seeks is = tt

  -- A step: it answers so, or the request goes on.
  pub record HasGone (a : After P H) : Type 0 where
    pub answer : (o : Outcome P H) → a.outcome ≡ Some o → IsGranted o
    pub on : a.outcome ≡ None → Seeking a.core a.frame
    pub fine : IsFine a.frame a.outcome

  gone : (c : PoolCore P H) (f : Frame P H) (a : After P H) (well : GoesWell c f a) → Seeking c f → FineTurn (row_of well.1.1.0 f.phase c (in_phase Idle f)).frame (row_of well.1.1.0 f.phase c (in_phase Idle f)).turn → HasGone a
  gone c f a well seeks turn =
      let old : PartyTold = well.0 in
      let new : PartyTold = well.1.0 in
      let steps : StepsTo old new c f a = (well.1.1.0, well.1.1.1.0) in
      let ok = step_ok maker old new c f a seeks.can steps in
      let on = seeks_on maker has.grants first stripe request has.enough c f a seeks (old, (new, steps)) in
      let fine : IsFine a.frame a.outcome = step_fine old new well.1.1.0 c f a well.1.1.1.0 turn in
      let all : IfSome a.outcome IsGranted = ended old new c f (stage_of f) (stage_of a.frame) a.outcome seeks.stage ok.goes.way fine.outcome on.1 in
      record {
        answer = λ o is. subst (λ (x : Option (Outcome P H)). IfSome x IsGranted) is all;
        on = on.0;
        fine = fine;
      }

  all_gone : (c : PoolCore P H) (f : Frame P H) (before : List (After P H)) (a : After P H) (o : Outcome P H) → Seeking c f → FineEnding f.ending → PastTests f.phase → AllGoWell c f before a → a.outcome ≡ Some o → IsGranted o
  all_gone c f [] a o seeks fine past well is = (gone c f a well seeks (row_fine well.1.1.0 f.phase c f past fine (needs_made c f f.phase seeks refl) well.1.1.1.1)).answer o is
  all_gone c f (b ∷ rest) a o seeks fine past well is =
      let next : HasGone b = gone c f b well.0 seeks (row_fine well.0.1.1.0 f.phase c f past fine (needs_made c f f.phase seeks refl) well.0.1.1.1.1) in
      all_gone b.core b.frame rest a o (next.on well.1.0) next.fine.ending next.fine.past well.1.1 is

module _ {P H : Type 0} where
  -- A request that has all it needs, breaks no rule and in whose steps nothing fails is granted, or finds no memory.
  pub are_granted : (maker : MakerTold) (c : PoolCore P H) (f : Frame P H) (request : Call P H) (before : List (After P H)) (a : After P H) (o : Outcome P H) → IsForGrant request → CanStep maker c f → MayBegin maker c.settings c.plan request f → HasAllItNeeds c f.stripe request → BreaksNoRule c request → CanBeMade c.settings (asked_by request) → AllGoWell c (begun_call request f) before a → a.outcome ≡ Some o → IsGranted o
  are_granted maker c f request [] a o is can may has rules made well end =
      (gone maker c f.stripe request has made c (begun_call request f) a well (begun_seeks maker c f request is can may has) (first_fine request well.1.1.0 c f is rules well.1.1.1.1)).answer o end
  are_granted maker c f request (b ∷ rest) a o is can may has rules made well end =
      let next = gone maker c f.stripe request has made c (begun_call request f) b well.0 (begun_seeks maker c f request is can may has) (first_fine request well.0.1.1.0 c f is rules well.0.1.1.1.1) in
      all_gone maker c f.stripe request has made b.core b.frame rest a o (next.on well.1.0) next.fine.ending next.fine.past well.1.1 end

-- A region is erased only where nothing is known of it, and its unit tells that erase beforehand.
use Rattle.std.proofs.Common.{◌≡◌, ⊎_elim, ℕ, ◌+◌, ◌≤◌, Bool, true, false, List, [], ◌∷◌, length, sym, refl, ap, subst, ◌∙◌, arith, slice_get, nat_lt, Option, Some, None, Result, Ok, Err}
use Rattle.std.specs.Prelude.{◌&&◌, ◌-◌, ◌==◌, ◌^◌, min, if◌then◌else◌, nat_le}
use Rattle.std.specs.List.{AllByRecursion}
use Rattle.pool_limits.specs.Exchanges.{Exchange}
use Rattle.pool_limits.specs.declared.errors.LimiterError.{LimiterError}
use Rattle.pool_types.specs.Rising.{risen}
use Rattle.pool_types.specs.MemoryTypes.{minimum_byte_size}
use Rattle.pool_types.specs.declared.module_types.MemoryDecl.{MemoryDecl}
use Rattle.pool_types.specs.declared.module_types.MemoryType.{MemoryType}
use Rattle.pool_types.specs.declared.unsupported.Unsupported.{Unsupported}
use Rattle.pool_types.specs.declared.unsupported.Unsupported.TheVariants.{InitialSize}
use Rattle.pool_pages.specs.MakerTold.{MakerTold}
use Rattle.pool_pages.specs.Told.{PageCall, Told, erasing, exposing, hiding, mapping, recolouring, remapping, succeeded}
use Rattle.pool_pages.specs.declared.pages.PageCalls.{PageCalls}
use Rattle.pool_pages.proofs.Small.{told_weaker}
use Rattle.pool_hall.specs.declared.unit_name.SlotKind.{SlotKind}
use Rattle.pool_hall.specs.declared.unit_name.SlotKind.TheVariants.{Memory as memory_kind, Table as table_kind, Stack as stack_kind, Heap as heap_kind}
use Rattle.pool_hall.specs.declared.view.View.{View}
use Rattle.pool_images.specs.Images.{Image}
use Rattle.pool_images.specs.declared.image_slot.ImageName.{ImageName}
use Rattle.pool_images.specs.Slots.{Slot, coloured, hides, renewed, replaced, resized, size_of, with_image, without_image, without_mapped, wiped}
use Rattle.pool_index.specs.Shard.{ShardState}
use Rattle.pool_index.specs.declared.ids.SlotId.{SlotId}
use Rattle.pool_memory.specs.Making.{limits_answer}
use Rattle.pool_memory.specs.Memories.{MemoryState, slot_of}
use Rattle.pool_memory.specs.Static.{static_capacity}
use Rattle.pool_memory.specs.declared.memory_error.MemoryError.{MemoryError}
use Rattle.pool_slots.specs.Cells.{Cell, unmapped, unknown, previously_used, taken}
use Rattle.pool_slots.specs.HeapLists.{heap_in}
use Rattle.pool_slots.specs.RegionCells.{erases_told, numbers_by}
use Rattle.pool_slots.specs.SlotQueues.{Queue, Queued, first_of_kind, others_of_kind}
use Rattle.pool_slots.specs.declared.errors.AllocError.{AllocError}
use Rattle.pool_slots.specs.declared.heap_maker.HeapMakeFault.{HeapMakeFault}
use Rattle.pool_slots.specs.declared.part.PoolPart.{PoolPart}
use Rattle.pool_slots.specs.declared.plan.Plan.{Plan}
use Rattle.pool_slots.specs.declared.slot_name.RegionNumbers.{RegionNumbers}
use Rattle.pool_slots.specs.declared.slot_name.SlotName.{SlotName}
use Rattle.pool_slots.proofs.Lists.{each_append}
use Rattle.pool_alloc.specs.BetweenSteps.{IsAtRest, IsCore, IsMemoryNext, IsShapedAt, MayHold}
use Rattle.pool_alloc.specs.CallStages.{stage_at, stage_of}
use Rattle.pool_alloc.specs.Calls.{IfGranted, begun_call}
use Rattle.pool_alloc.specs.HeapLeases.{LeasedHeap}
use Rattle.pool_alloc.specs.Leases.{Lease}
use Rattle.pool_alloc.specs.MemorySteps.{made_for, made_of, made_of_limits}
use Rattle.pool_alloc.specs.Modules.{IfAllocated}
use Rattle.pool_alloc.specs.Objects.{objects_in, objects_wanted}
use Rattle.pool_alloc.specs.PageCallAnswers.{Empties, InstantiatesFor, IsInstantiated, MayBeTold}
use Rattle.pool_alloc.specs.PartyTold.{PartyTold}
use Rattle.pool_alloc.specs.StepReads.{StepGiven, allocator_for, cell_named, heaps_at, image_wanted, memories_wanted, queue_at, queue_tried, shard_at, shard_tried}
use Rattle.pool_alloc.specs.StepTable as rows
use Rattle.pool_alloc.specs.StepTable.{row_of}
use Rattle.pool_alloc.specs.TableLeases.{LeasedTable}
use Rattle.pool_alloc.specs.Turns.{After, Left, Row, Turn, after, all_returned, answer_of, ends, flush as flushes, flush_next, goes as turns_to, granted_next, is_flushed, is_granting, next as goes_next, next_by, resting, returned_next, search as searches, search_next, slot_search, stays}
use Rattle.pool_alloc.specs.declared.frame.Asked.{Asked}
use Rattle.pool_alloc.specs.declared.frame.Asked.TheVariants as asked
use Rattle.pool_alloc.specs.declared.frame.Call.{Call}
use Rattle.pool_alloc.specs.declared.frame.Call.TheVariants as call
use Rattle.pool_alloc.specs.declared.frame.Ending.{Ending}
use Rattle.pool_alloc.specs.declared.frame.Ending.TheVariants.{Granted as granted, Returned as returned, Refused as refused}
use Rattle.pool_alloc.specs.declared.frame.Frame.{Frame}
use Rattle.pool_alloc.specs.declared.frame.Grant.TheVariants as grant
use Rattle.pool_alloc.specs.declared.frame.Object.TheVariants as object
use Rattle.pool_alloc.specs.declared.frame.Outcome.{Outcome}
use Rattle.pool_alloc.specs.declared.frame.Outcome.TheVariants as answer
use Rattle.pool_alloc.specs.declared.frame.Phase.{Phase}
use Rattle.pool_alloc.specs.declared.frame.Phase.TheVariants.{Idle, Key, Validate, TestStack, TestHeap, CountInstance, Pick, TakeQueue, TakeRegion, Empty, Instantiate, MakeMemory, MakeTable, CountObject, TakeHeap, MakeHeap, CountHeap, PutNoHeap, PutBack, FreeOne, UncountObject, UncountHeap, PutHeap, FreeHeap, Reset, Merge, Flush, UncountInstance, ValidateComponent, CountComponent, UncountComponent, Purge, Release}
use Rattle.pool_alloc.specs.declared.frame.TakenSlot.{TakenSlot}
use Rattle.pool_alloc.specs.declared.pool_core.PoolCore.{PoolCore}
use Rattle.pool_alloc.specs.declared.pool_core.Settings.{Settings}
use Rattle.pool_alloc.specs.Refusals.{heap_refused}
use Rattle.pool_alloc.proofs.PoolParts.{sound_cell}
use Rattle.pool_alloc.proofs.ToldElements.{told_there}
use Rattle.pool_driver.specs.Calling.{CallKind, MayAnswer, asks_component, asks_for, draws_key, gives_back, is_refused, kind_at, kind_of, purges, releases}
use Rattle.pool_driver.specs.Driving.{SeesStep}
use Rattle.pool_driver.specs.Erasing.{FrameErased, GrantErased, LeaseErased, PhaseErased, erases_of}
use Rattle.pool_driver.specs.Placed.{About}
use Rattle.pool_driver.proofs.Picking.{never_back, never_counted_off, never_release}
use Rattle.pool_driver.proofs.QueueFaults.{by_choice}

-- A call on pages that isn't an erase leaves their number.
same_erases : (call : PageCall) (t : Told) → ((c : PageCalls) → (call.raise c).erase ≡ c.erase) → (succeeded call t).calls.erase ≡ t.calls.erase
same_erases call t keeps = go (call.len == 0)
  where
    go : (b : Bool) → (if b then t.calls else call.raise t.calls).erase ≡ t.calls.erase
    go true = refl
    go false = keeps t.calls

coloured_erases : (o : Option ℕ) (from len : ℕ) (t : Told) → (coloured o from len t).calls.erase ≡ t.calls.erase
coloured_erases None from len t = refl
coloured_erases (Some colour) from len t = same_erases (recolouring from len colour) t (λ c. refl)

renewed_erases : (call : PageCall) (s : Slot) → ((c : PageCalls) → (call.raise c).erase ≡ c.erase) → (renewed call s).region.calls.erase ≡ s.region.calls.erase
renewed_erases call s keeps = coloured_erases s.colour call.start call.len (succeeded call s.region) ∙ same_erases call s.region keeps

resized_erases : (size : ℕ) (hide : Bool) (s : Slot) → (resized size hide s).region.calls.erase ≡ s.region.calls.erase
resized_erases size hide s = go (nat_lt s.accessible.bytes size) (hide && nat_lt size s.accessible.bytes)
  where
    exposed : Slot
    exposed = record s { region = succeeded (exposing (s.base.bytes + s.accessible.bytes) (size - s.accessible.bytes)) s.region; accessible = record { page = s.region.page; bytes = size } }

    hidden : Slot
    hidden = record s { region = succeeded (hiding (s.base.bytes + size) (s.accessible.bytes - size)) s.region; accessible = record { page = s.region.page; bytes = size } }

    go : (b d : Bool) → (if b then exposed else (if d then hidden else s)).region.calls.erase ≡ s.region.calls.erase
    go true d = same_erases (exposing (s.base.bytes + s.accessible.bytes) (size - s.accessible.bytes)) s.region (λ c. refl)
    go false true = same_erases (hiding (s.base.bytes + size) (s.accessible.bytes - size)) s.region (λ c. refl)
    go false false = refl

without_erases : (o : Option ImageName) (s : Slot) → (without_mapped o s).region.calls.erase ≡ s.region.calls.erase
without_erases None s = refl
without_erases (Some name) s = renewed_erases (remapping (s.base.bytes + name.offset) name.len) s (λ c. refl)

with_erases : (o : Option Image) (s : Slot) → (with_image o s).region.calls.erase ≡ s.region.calls.erase
with_erases None s = refl
with_erases (Some i) s = renewed_erases (mapping s.region.behaviour (s.base.bytes + i.offset) i.bytes) s (λ c. refl)

replaced_erases : (size : ℕ) (hide : Bool) (image : Option Image) (s : Slot) → (replaced size hide image s).region.calls.erase ≡ s.region.calls.erase
replaced_erases size hide image s = with_erases image (resized size hide (without_image s)) ∙ resized_erases size hide (without_image s) ∙ without_erases s.image s

-- So an instantiation leaves it,
instantiated_erases : (initial : ℕ) (hide : Bool) (image : Option Image) (old new : Slot) → IsInstantiated initial hide image old new → new.region.calls.erase ≡ old.region.calls.erase
instantiated_erases initial hide image old new is = ⊎_elim
    (λ same. ap (λ (s : Slot). s.region.calls.erase) same ∙ resized_erases _ hide old)
    (λ same. ap (λ (s : Slot). s.region.calls.erase) same ∙ replaced_erases _ hide image old)
    is.slot.either

-- and a wipe adds one at most.
wiped_erases : (s : Slot) → erases_of (wiped s).region ≤ risen s.region.calls.erase
wiped_erases s =
    let call : PageCall = erasing s.base.bytes (size_of s) in
    let same : (coloured s.colour call.start call.len (succeeded call s.region)).calls.erase ≡ (succeeded call s.region).calls.erase = coloured_erases s.colour call.start call.len (succeeded call s.region) in
    omega (arith, go (call.len == 0), same)
  where
    go : (b : Bool) → min (if b then s.region.calls else (erasing s.base.bytes (size_of s)).raise s.region.calls).erase (2 ^ 64 - 1) ≤ risen s.region.calls.erase
    go true = omega arith
    go false = omega arith

-- the memory that is made in a slot lies in that slot
abbrev MadeErased : ℕ → Result MemoryState AllocError → Type 0
MadeErased told (Ok memory) = erases_of (slot_of memory).region ≤ told
MadeErased told (Err e) = Unit {0}

limits_erased : (told : ℕ) (r : Result (ℕ × Option ℕ) MemoryError) (ty : MemoryType) (room : ℕ) (held : Slot) → erases_of held.region ≤ told → MadeErased told (made_of_limits r ty room held)
limits_erased told (Err e) ty room held k = tt
limits_erased told (Ok limits) ty room held k =
    by_choice (λ r. MadeErased told (made_of ty r)) (nat_le limits.0 room) (Ok (record { slot = held; size = limits.0; capacity = static_capacity room limits.1 })) (Err (held, InitialSize)) k tt

made_erased : (told room : ℕ) (answer : Result Bool LimiterError) (held : Slot) (o : Option MemoryDecl) → erases_of held.region ≤ told → MadeErased told (made_for room answer held o)
made_erased told room answer held None k = tt
made_erased told room answer held (Some decl) k = limits_erased told (limits_answer answer decl.ty) decl.ty room held k

-- An answer that is no grant has nothing.
answer_erased : (P H : Type 0) (e : Ending) → IfGranted {P = P} {H = H} GrantErased (Some (answer_of e))
answer_erased P H granted = tt
answer_erased P H returned = tt
answer_erased P H (refused x) = tt

module _ {P H : Type 0} where
  -- What a step leaves of a call for objects.
  pub record LeftErased (l : Left P H) : Type 0 where
    pub frame : kind_at (stage_of l.frame) ≡ asks_for → FrameErased l.frame
    pub answer : IfGranted GrantErased l.outcome

  abbrev TurnErased : Turn P H → Type 0
  TurnErased (turns_to phase) = PhaseErased phase
  TurnErased (ends outcome) = IfGranted GrantErased (Some outcome)
  TurnErased stays = ⊥
  TurnErased _ = Unit {0}

  abbrev Has : Frame P H → Type 0
  Has g = AllByRecursion LeaseErased g.objects.memories.items

  back_erased : (memories : List Lease) (tables : List LeasedTable) (g : Frame P H) → is_granting g.ending ≡ false → LeftErased (returned_next memories tables g)
  back_erased (lease ∷ memories) tables g back = let left = (returned_next (lease ∷ memories) tables g).frame in record { frame = λ asks. never_back left.asked left.ending (objects_in left.objects) back asks; answer = tt }
  back_erased [] (lease ∷ tables) g back = let left = (returned_next [] (lease ∷ tables) g).frame in record { frame = λ asks. never_back left.asked left.ending (objects_in left.objects) back asks; answer = tt }
  back_erased [] [] g back = all g.asked
    where
      all : (what : Asked) → LeftErased (all_returned what g)
      all (asked.Memory m) = record { frame = λ asks. absurd cc; answer = answer_erased P H g.ending }
      all (asked.Table ty) = record { frame = λ asks. absurd cc; answer = answer_erased P H g.ending }
      all asked.Stack = record { frame = λ asks. absurd cc; answer = answer_erased P H g.ending }
      all (asked.Heap ty) = record { frame = λ asks. absurd cc; answer = answer_erased P H g.ending }
      all (asked.HeapOver memory) = record { frame = λ asks. absurd cc; answer = answer_erased P H g.ending }
      all asked.Nothing = record { frame = λ asks. never_back g.asked g.ending (objects_in g.objects) back asks; answer = tt }
      all (asked.Module m) = record { frame = λ asks. never_back g.asked g.ending (objects_in g.objects) back asks; answer = tt }

  granting_erased : (g : Frame P H) → Has g → LeftErased (granted_next g)
  granting_erased g has = go (nat_lt (objects_in g.objects) (objects_wanted g.asked)) refl
    where
      go : (b : Bool) → nat_lt (objects_in g.objects) (objects_wanted g.asked) ≡ b → LeftErased (granted_next g)
      go true more = rw more (record { frame = λ asks. record { objects = has; hand = tt }; answer = tt })
      go false none = rw none (record { frame = λ asks. absurd cc; answer = has })

  next_erased : (e : Ending) (g : Frame P H) → g.ending ≡ e → Has g → LeftErased (next_by e g)
  next_erased granted g is has = granting_erased g has
  next_erased returned g is has = back_erased g.objects.memories.items g.objects.tables.items g (ap is_granting is)
  next_erased (refused x) g is has = back_erased g.objects.memories.items g.objects.tables.items g (ap is_granting is)

  flush_erased : (g : Frame P H) → Has g → LeftErased (flush_next g)
  flush_erased g has = go (is_flushed g) refl
    where
      go : (b : Bool) → is_flushed g ≡ b → LeftErased (flush_next g)
      go true flushed = rw flushed (next_erased g.ending g refl has)
      go false more = rw more (record { frame = λ asks. record { objects = has; hand = tt }; answer = tt })

  search_erased : (queues : ℕ) (x : AllocError) (g : Frame P H) → Has g → LeftErased (search_next queues x g)
  search_erased queues x g has = go (nat_lt g.queues queues) refl
    where
      go : (b : Bool) → nat_lt g.queues queues ≡ b → LeftErased (search_next queues x g)
      go true more = rw more (record { frame = λ asks. record { objects = has; hand = tt }; answer = tt })
      go false none = rw none (back_erased g.objects.memories.items g.objects.tables.items (record g { ending = refused x }) refl)

  -- A turn keeps what the row's frame has, and grants that.
  turn_erased : (t : Turn P H) (g : Frame P H) → Has g → TurnErased t → LeftErased (after g t)
  turn_erased (turns_to phase) g has hand = record { frame = λ asks. record { objects = has; hand = hand }; answer = tt }
  turn_erased (ends outcome) g has hand = record { frame = λ asks. absurd cc; answer = hand }
  turn_erased goes_next g has hand = next_erased g.ending g refl has
  turn_erased flushes g has hand = flush_erased g has
  turn_erased (searches queues x) g has hand = search_erased queues x g has
  turn_erased stays g has hand = absurd hand

module _ (P H : Type 0) where
  taken_erased : (k : SlotKind) (name : SlotName) → PhaseErased {P = P} {H = H} (rows.taken_next k name)
  taken_erased memory_kind name = tt
  taken_erased table_kind name = tt
  taken_erased stack_kind name = tt
  taken_erased heap_kind name = tt

  picked_erased : (plan : Plan) (o : Option (SlotId × ℕ)) (shard : ShardState) (tried : ℕ) (f : Frame P H) → TurnErased (rows.picked plan o shard tried f)
  picked_erased plan (Some q) shard tried f = taken_erased (allocator_for plan f).kind _
  picked_erased plan None shard tried f = by_choice TurnErased (nat_lt (tried + 1) (allocator_for plan f).shards) (turns_to (Pick (tried + 1))) (slot_search plan f) tt tt

  -- What goes out of a cell goes with its own number, and with one more where nothing is known of it.
  region_erased : (maker : MakerTold) (s : Settings) (k kind : SlotKind) (slot : ℕ) (out : RegionNumbers) (held : Cell) → kind ≡ k → MayHold maker s k slot held → TurnErased {P = P} {H = H} (rows.region_next s (record { name = record { kind = k; slot = slot }; numbers = numbers_by out kind held }) held)
  region_erased maker s memory_kind kind slot out (unmapped region) is holds = let e : erases_told kind (unmapped region) ≡ region.calls.erase = ap (λ (j : SlotKind). erases_told j (unmapped region)) is in omega (arith, e)
  region_erased maker s table_kind kind slot out (unmapped region) is holds = tt
  region_erased maker s stack_kind kind slot out (unmapped region) is holds = tt
  region_erased maker s heap_kind kind slot out (unmapped region) is holds = tt
  region_erased maker s memory_kind kind slot out (unknown held) is holds = let e : erases_told kind (unknown held) ≡ risen held.region.calls.erase = ap (λ (j : SlotKind). erases_told j (unknown held)) is in omega (arith, e)
  region_erased maker s memory_kind kind slot out (previously_used held) is holds = let e : erases_told kind (previously_used held) ≡ held.region.calls.erase = ap (λ (j : SlotKind). erases_told j (previously_used held)) is in omega (arith, e)
  region_erased maker s table_kind kind slot out (unknown held) is holds = absurd holds
  region_erased maker s table_kind kind slot out (previously_used held) is holds = absurd holds
  region_erased maker s stack_kind kind slot out (unknown held) is holds = absurd holds
  region_erased maker s stack_kind kind slot out (previously_used held) is holds = absurd holds
  region_erased maker s heap_kind kind slot out (unknown held) is holds = absurd holds
  region_erased maker s heap_kind kind slot out (previously_used held) is holds = absurd holds
  region_erased maker s k kind slot out taken is holds = tt

module _ {P H : Type 0} (c : PoolCore P H) (f : Frame P H) (has : AllByRecursion LeaseErased f.objects.memories.items) where
  abbrev e : Frame P H
  e = resting f

  abbrev RowErased : Row (PoolCore P H) P H → Type 0
  RowErased r = LeftErased (after r.frame r.turn)

  by_turn : (r : Row (PoolCore P H) P H) → AllByRecursion LeaseErased r.frame.objects.memories.items → TurnErased r.turn → RowErased r
  by_turn r had hand = turn_erased r.turn r.frame had hand

  reserved_erased : (wants : Bool) (phase : Phase P H) → PhaseErased phase → RowErased (rows.reserved wants phase c e)
  reserved_erased true phase k = by_turn (rows.reserved true phase c e) has tt
  reserved_erased false phase k = by_turn (rows.reserved false phase c e) tt k

  validated_erased : (o : Option Unsupported) (wants : Bool) (phase : Phase P H) → PhaseErased phase → RowErased (rows.validated o wants phase c e)
  validated_erased (Some rule) wants phase k = by_turn (rows.validated (Some rule) wants phase c e) has tt
  validated_erased None wants phase k = reserved_erased wants phase k

  stacks_erased : (b : Bool) → RowErased (rows.stacks_tested b c e)
  stacks_erased true = by_turn (rows.stacks_tested true c e) has tt
  stacks_erased false = by_turn (rows.stacks_tested false c e) tt tt

  tested_erased : (what : Asked) (wants : Bool) → RowErased (rows.memory_tested what wants c e)
  tested_erased (asked.HeapOver memory) wants = by_turn (rows.memory_tested (asked.HeapOver memory) wants c e) has tt
  tested_erased what wants = validated_erased (heap_refused c.settings what) wants (Pick 0) tt

  heaps_erased : (b wants : Bool) → RowErased (rows.heaps_tested b wants c e)
  heaps_erased false wants = by_turn (rows.heaps_tested false wants c e) has tt
  heaps_erased true wants = tested_erased f.asked wants

  counted_erased : (b : Bool) → RowErased (rows.counted b c e)
  counted_erased true = by_turn (rows.counted true c e) has tt
  counted_erased false = by_turn (rows.counted false c e) has tt

  take_queue_erased : (g : Frame P H) → AllByRecursion LeaseErased g.objects.memories.items → (b : Bool) → LeftErased (after g (if b then slot_search c.plan e else flushes))
  take_queue_erased g had true = turn_erased (slot_search c.plan e) g had tt
  take_queue_erased g had false = turn_erased flushes g had tt

  paged_erased : (fault : Bool) (at : TakenSlot) (held : Slot) (phase : Phase P H) → (fault ≡ false → PhaseErased phase) → RowErased (rows.paged fault at held phase c e)
  paged_erased true at held phase k = by_turn (rows.paged true at held phase c e) has tt
  paged_erased false at held phase k = by_turn (rows.paged false at held phase c e) has (k refl)

  empties_erased : (fault : Bool) (at : TakenSlot) (old new : Slot) → Empties fault old new → risen old.region.calls.erase ≤ at.numbers.erases → fault ≡ false → erases_of new.region ≤ at.numbers.erases
  empties_erased true at old new told k is = absurd cc
  empties_erased false at old new told k is = let same : erases_of new.region ≡ erases_of (wiped old).region = ap (λ (s : Slot). erases_of s.region) told.0 in omega (arith, same, wiped_erases old, k)

  instantiates_erased : (fault : Bool) (at : TakenSlot) (old new : Slot) (decl : MemoryDecl) → InstantiatesFor c.settings decl fault (image_wanted f) old new → erases_of old.region ≤ at.numbers.erases → fault ≡ false → erases_of new.region ≤ at.numbers.erases
  instantiates_erased true at old new decl told k is = absurd cc
  instantiates_erased false at old new decl told k is =
      let same : new.region.calls.erase ≡ old.region.calls.erase = instantiated_erases (minimum_byte_size decl.ty) (hides decl.ty c.settings.tunables old.region.page) (image_wanted f) old new told in
      omega (arith, same, k)

  instantiate_erased : (fault : Bool) (at : TakenSlot) (old new : Slot) → IsMemoryNext f → IfAllocated f (λ decl. InstantiatesFor c.settings decl fault (image_wanted f) old new) → erases_of old.region ≤ at.numbers.erases → fault ≡ false → erases_of new.region ≤ at.numbers.erases
  instantiate_erased fault at old new more told k is =
      let K : Type 0 = erases_of new.region ≤ at.numbers.erases in
      told_there K (memories_wanted f.asked) (length f.objects.memories.items) more
      (told_weaker (λ decl. InstantiatesFor c.settings decl fault (image_wanted f) old new) (λ decl. K) (slice_get (memories_wanted f.asked) (length f.objects.memories.items))
      (λ decl tells. instantiates_erased fault at old new decl tells k is) told)

  was_made_erased : (at : TakenSlot) (held : Slot) (r : Result MemoryState AllocError) → MadeErased at.numbers.erases r → RowErased (rows.was_made at held r c e)
  was_made_erased at held (Ok memory) one = by_turn (rows.was_made at held (Ok memory) c e) has one
  was_made_erased at held (Err x) one = by_turn (rows.was_made at held (Err x) c e) has tt

  was_made_table_erased : (at : TakenSlot) (region : Told) (r : Result LeasedTable AllocError) → RowErased (rows.was_made_table at region r c e)
  was_made_table_erased at region (Ok lease) = by_turn (rows.was_made_table at region (Ok lease) c e) has tt
  was_made_table_erased at region (Err x) = by_turn (rows.was_made_table at region (Err x) c e) has tt

  memory_erased : (lease : Lease) (what : Asked) → LeaseErased lease → LeftErased (after (rows.memory_kept what lease e) (rows.memory_turn what lease))
  memory_erased lease (asked.Memory m) one = turn_erased (rows.memory_turn (asked.Memory m) lease) e has one
  memory_erased lease what one = turn_erased goes_next (rows.memory_kept what lease e) (each_append LeaseErased f.objects.memories.items (lease ∷ []) has (one, tt)) tt

  table_erased : (lease : LeasedTable) (what : Asked) → LeftErased (after (rows.table_kept what lease e) (rows.table_turn what lease))
  table_erased lease (asked.Table ty) = turn_erased (rows.table_turn (asked.Table ty) lease) e has tt
  table_erased lease what = turn_erased goes_next (rows.table_kept what lease e) has tt

  heap_next_erased : (at : TakenSlot) (o : Option H) → TurnErased {P = P} {H = H} (rows.heap_next at o)
  heap_next_erased at None = tt
  heap_next_erased at (Some heap) = tt

  made_heap_erased : (r : Result H HeapMakeFault) (at : TakenSlot) → RowErased (rows.make_heap_row r at c e)
  made_heap_erased (Ok heap) at = by_turn (rows.make_heap_row (Ok heap) at c e) has tt
  made_heap_erased (Err fault) at = by_turn (rows.make_heap_row (Err fault) at c e) has tt

  heap_granted_erased : (memories : List Lease) (lease : LeasedHeap H) → AllByRecursion LeaseErased memories → RowErased (rows.heap_granted memories lease c e)
  heap_granted_erased [] lease ms = by_turn (rows.heap_granted [] lease c e) has tt
  heap_granted_erased (memory ∷ rest) lease ms = by_turn (rows.heap_granted (memory ∷ rest) lease c e) tt ms.0

  heap_counted_erased : (what : Asked) (lease : LeasedHeap H) → RowErased (rows.heap_counted what lease c e)
  heap_counted_erased (asked.HeapOver memory) lease = by_turn (rows.heap_counted (asked.HeapOver memory) lease c e) has tt
  heap_counted_erased what lease = heap_granted_erased f.objects.memories.items lease has

  put_first_erased : (o : Option Queued) (rest : List Queued) → RowErased (rows.put_first o rest c e)
  put_first_erased None rest = by_turn (rows.put_first None rest c e) has tt
  put_first_erased (Some m) rest = by_turn (rows.put_first (Some m) rest c e) has tt

  flush_row_erased : (step : rows.FlushStep) (queue : Queue) → RowErased (rows.flush_row step queue c e)
  flush_row_erased rows.run queue = by_turn (rows.flush_row rows.run queue c e) has tt
  flush_row_erased (rows.zero kind) queue = by_turn (rows.flush_row (rows.zero kind) queue c e) has tt
  flush_row_erased (rows.put kind) queue = put_first_erased (first_of_kind kind f.local.slots) (others_of_kind kind f.local.slots)
  flush_row_erased rows.free queue = by_turn (rows.flush_row rows.free queue c e) has tt

  -- Row by row.
  row_erased : (maker : MakerTold) (g : StepGiven H) (p : Phase P H) → IsCore maker c → IsShapedAt maker c.settings c.plan p f → MayBeTold c.settings g p f → kind_at (stage_at p f.asked f.ending (objects_in f.objects)) ≡ asks_for → PhaseErased p → RowErased (row_of g p c e)
  row_erased maker g Idle core shape told asks hand = absurd cc
  row_erased maker g Key core shape told asks hand = absurd cc
  row_erased maker g Validate core shape told asks hand = validated_erased _ g.wants CountInstance tt
  row_erased maker g TestStack core shape told asks hand = stacks_erased _
  row_erased maker g TestHeap core shape told asks hand = heaps_erased _ g.wants
  row_erased maker g CountInstance core shape told asks hand = counted_erased _
  row_erased maker g (Pick tried) core shape told asks hand = by_turn (row_of g (Pick tried) c e) has (picked_erased P H c.plan _ (shard_at (shard_tried tried c.plan f) c) tried e)
  row_erased maker g TakeQueue core shape told asks hand =
      let q : Queue = queue_at (queue_tried f.queues c.plan f) c in
      take_queue_erased (row_of g TakeQueue c e).frame has (length q.slots == 0)
  row_erased maker g (TakeRegion name) core shape told asks hand =
      let cell = sound_cell maker name c core shape.2 in
      by_turn (row_of g (TakeRegion name) c e) has (region_erased P H maker c.settings name.kind (cell_named name c).name.kind name.slot (cell_named name c).out (cell_named name c).holds (ap (λ (n : SlotName). n.kind) cell.named) cell.holds)
  row_erased maker g (Empty at held) core shape told asks hand = paged_erased g.fault at g.slot (Instantiate at g.slot) (empties_erased g.fault at held g.slot told hand)
  row_erased maker g (Instantiate at held) core shape told asks hand = paged_erased g.fault at g.slot (MakeMemory at g.slot) (instantiate_erased g.fault at held g.slot shape.4 told hand)
  row_erased maker g (MakeMemory at held) core shape told asks hand = was_made_erased at held _ (made_erased at.numbers.erases c.settings.max_memory_size g.limiter held (slice_get (memories_wanted f.asked) (length f.objects.memories.items)) hand)
  row_erased maker g (MakeTable at region) core shape told asks hand = was_made_table_erased at region _
  row_erased maker g (CountObject (object.Memory lease)) core shape told asks hand = memory_erased lease f.asked hand
  row_erased maker g (CountObject (object.Table lease)) core shape told asks hand = table_erased lease f.asked
  row_erased maker g (CountObject (object.Stack lease)) core shape told asks hand = by_turn (row_of g (CountObject (object.Stack lease)) c e) has tt
  row_erased maker g (TakeHeap name) core shape told asks hand = by_turn (row_of g (TakeHeap name) c e) has (heap_next_erased _ (heap_in name.slot (heaps_at c)))
  row_erased maker g (MakeHeap at) core shape told asks hand = made_heap_erased g.heap at
  row_erased maker g (CountHeap lease) core shape told asks hand = heap_counted_erased f.asked lease
  row_erased maker g (PutNoHeap at) core shape told asks hand = never_back f.asked f.ending (objects_in f.objects) shape.1 asks
  row_erased maker g (PutBack at held) core shape told asks hand = never_back f.asked f.ending (objects_in f.objects) shape.1 asks
  row_erased maker g (FreeOne name) core shape told asks hand = never_back f.asked f.ending (objects_in f.objects) shape.1 asks
  row_erased maker g (UncountObject held) core shape told asks hand = never_back f.asked f.ending (objects_in f.objects) shape.1 asks
  row_erased maker g (UncountHeap lease memory) core shape told asks hand = never_back f.asked f.ending (objects_in f.objects) shape.1 asks
  row_erased maker g (PutHeap lease memory) core shape told asks hand = never_back f.asked f.ending (objects_in f.objects) shape.1 asks
  row_erased maker g (FreeHeap name memory) core shape told asks hand = never_back f.asked f.ending (objects_in f.objects) shape.1 asks
  row_erased maker g (Reset held) core shape told asks hand = never_back f.asked f.ending (objects_in f.objects) shape.1 asks
  row_erased maker g Merge core shape told asks hand = never_back f.asked f.ending (objects_in f.objects) shape.0 asks
  row_erased maker g Flush core shape told asks hand = flush_row_erased (rows.flush_step f.local f.freed.items) g.queue
  row_erased maker g UncountInstance core shape told asks hand = never_back f.asked f.ending (objects_in f.objects) shape.1 asks
  row_erased maker g (ValidateComponent info) core shape told asks hand = absurd cc
  row_erased maker g CountComponent core shape told asks hand = absurd cc
  row_erased maker g UncountComponent core shape told asks hand = never_counted_off f.ending asks
  row_erased maker g (Purge p step) core shape told asks hand = absurd cc
  row_erased maker g (Release step) core shape told asks hand = never_release step asks

-- A call that begins has no memories.
pub erased_begins : {P H : Type 0} (c : Call P H) (f : Frame P H) → IsAtRest f → kind_at (stage_of (begun_call c f)) ≡ kind_of c → kind_at (stage_of (begun_call c f)) ≡ asks_for → FrameErased (begun_call c f)
erased_begins {P} {H} c f rests kind asks = go c (sym kind ∙ asks)
  where
    none : AllByRecursion LeaseErased f.objects.memories.items
    none = subst (AllByRecursion LeaseErased) (sym rests.no_memories) tt

    go : (d : Call P H) → kind_of d ≡ asks_for → FrameErased (begun_call d f)
    go call.Key is = absurd cc
    go (call.Module m) is = record { objects = none; hand = tt }
    go (call.Component info) is = absurd cc
    go (call.Memory m) is = record { objects = none; hand = tt }
    go (call.Table ty) is = record { objects = none; hand = tt }
    go call.Stack is = record { objects = none; hand = tt }
    go (call.Heap ty) is = record { objects = none; hand = tt }
    go (call.HeapOver memory) is = record { objects = none; hand = tt }
    go (call.GiveBack x) is = absurd cc
    go (call.Purge id) is = absurd cc
    go call.Release is = absurd cc

module _ {T P H : Type 0} (about : T → About) (inner : T → PoolPart P H) (Passes : List Exchange → Type 0) (old new : PartyTold) (a : About) (v w : View T) (f next : Frame P H) (o : Option (Outcome P H)) (s : SeesStep about inner Passes old new a v w f next o) where
  -- It goes on with each step,
  pub erased_step : kind_at (stage_of f) ≡ asks_for → FrameErased f → LeftErased {P = P} {H = H} (record { frame = next; outcome = o })
  erased_step asks had =
      let row = row_erased s.core f had.objects a.maker s.row.0 f.phase s.can.core s.can.frame.shape s.row.1.0.told asks had.hand in
      subst LeftErased (ap left_of (sym s.row.1.0.is)) row
    where
      left_of : After P H → Left P H
      left_of z = record { frame = z.frame; outcome = z.outcome }

  -- up to the answer, which is a grant only where the call asked.
  pub erased_last : (x : Outcome P H) → o ≡ Some x → MayAnswer (kind_at (stage_of f)) x → (kind_at (stage_of f) ≡ asks_for → FrameErased f) → IfGranted GrantErased (Some x)
  erased_last x some may had = by (kind_at (stage_of f)) x may (λ asks. subst (λ (z : Option (Outcome P H)). IfGranted GrantErased z) some (erased_step asks (had asks)).answer)
    where
      by : (k : CallKind) (z : Outcome P H) → MayAnswer k z → (k ≡ asks_for → IfGranted GrantErased (Some z)) → IfGranted GrantErased (Some z)
      by asks_for z may known = known refl
      by k answer.Key may known = tt
      by k answer.Returned may known = tt
      by k (answer.Purged n) may known = tt
      by k (answer.Released n) may known = tt
      by k (answer.Refused x) may known = tt
      by asks_component (answer.Granted grant.Component) may known = tt
      by asks_component (answer.Granted (grant.Instance lease)) may known = absurd may
      by asks_component (answer.Granted (grant.Memory lease)) may known = absurd may
      by asks_component (answer.Granted (grant.Table lease)) may known = tt
      by asks_component (answer.Granted (grant.Stack lease)) may known = tt
      by asks_component (answer.Granted (grant.Heap lease memory)) may known = absurd may
      by asks_component (answer.Granted (grant.HeapOver lease)) may known = absurd may
      by draws_key (answer.Granted x) may known = absurd may
      by is_refused (answer.Granted x) may known = absurd may
      by gives_back (answer.Granted x) may known = absurd may
      by purges (answer.Granted x) may known = absurd may
      by releases (answer.Granted x) may known = absurd may

-- A slot is picked for the next object alone. So of each kind a call has as many slots as it had, and one more where it picked one, and
-- there is room for that among what is asked for.
use Rattle.std.proofs.Common.{◌≡◌, ℕ, ◌+◌, ◌<◌, ◌≤◌, Bool, true, false, List, [], ◌∷◌, length, refl, ap, arith, Option, Some, None, Result, Ok, Err}
use Rattle.std.specs.Prelude.{nat_lt, if◌then◌else◌}
use Rattle.std.proofs.lemmas.Bool.{ltb-false, ltb-true}
use Rattle.std.proofs.lemmas.List.{length-append}
use Rattle.pool_pages.specs.MakerTold.{MakerTold}
use Rattle.pool_pages.specs.Told.{Told}
use Rattle.pool_hall.specs.declared.unit_name.SlotKind.{SlotKind}
use Rattle.pool_hall.specs.declared.unit_name.SlotKind.TheVariants.{Memory as memory_kind, Table as table_kind, Stack as stack_kind, Heap as heap_kind}
use Rattle.pool_images.specs.Slots.{Slot}
use Rattle.pool_memory.specs.Memories.{MemoryState}
use Rattle.pool_slots.specs.Cells.{Cell, unmapped, unknown, previously_used, taken}
use Rattle.pool_slots.specs.HeapLists.{heap_in}
use Rattle.pool_slots.specs.SlotQueues.{Queue, Queued, first_of_kind, others_of_kind, same_kind}
use Rattle.pool_slots.specs.declared.errors.AllocError.{AllocError}
use Rattle.pool_slots.specs.declared.heap_maker.HeapMakeFault.{HeapMakeFault}
use Rattle.pool_slots.specs.declared.plan.Plan.{Plan}
use Rattle.pool_slots.specs.declared.slot_name.SlotName.{SlotName}
use Rattle.pool_alloc.specs.BetweenSteps.{GrantsMore, IsAtRest, IsShapedAt}
use Rattle.pool_alloc.specs.CallStages.{stage_at, stage_back, stage_by, stage_of, stage_of_release}
use Rattle.pool_alloc.specs.HeapLeases.{LeasedHeap}
use Rattle.pool_alloc.specs.Leases.{Lease}
use Rattle.pool_alloc.specs.MemorySteps.{image_made}
use Rattle.pool_alloc.specs.Objects.{objects_in, objects_wanted}
use Rattle.pool_alloc.specs.PoolStacks.{stack_made}
use Rattle.pool_alloc.specs.StepReads.{IsForObjects, StepGiven, cell_named, heaps_at, kind_by, kind_next, memories_wanted}
use Rattle.pool_alloc.specs.StepTable.{FlushStep, run, zero, put, free, count_object_row, memory_kept, memory_turn, table_kept, table_turn, flush_row, flush_step, heap_granted, heap_next, make_heap_row, paged, put_first, region_next, row_of, unmapped_next, was_made, was_made_table, heap_counted}
use Rattle.pool_alloc.specs.TableLeases.{LeasedTable}
use Rattle.pool_alloc.specs.Reserved.{with_item}
use Rattle.pool_alloc.proofs.BeforeTheTurn.{kept_of}
use Rattle.pool_alloc.specs.Turns.{Left, Row, Turn, after, all_returned, ends, failing, flush as flushes, flush_next, goes, goes_to, gone_to, granted_next, is_flushed, is_granting, next as goes_next, next_by, resting, returned_next, search as searches, search_next, stays}
use Rattle.pool_alloc.specs.declared.frame.Asked.{Asked}
use Rattle.pool_alloc.specs.declared.frame.Asked.TheVariants as asked
use Rattle.pool_alloc.specs.declared.frame.Ending.{Ending}
use Rattle.pool_alloc.specs.declared.frame.Ending.TheVariants.{Granted as granted, Returned as returned, Refused as refused}
use Rattle.pool_alloc.specs.declared.frame.Frame.{Frame}
use Rattle.pool_alloc.specs.declared.frame.Object.TheVariants as object
use Rattle.pool_alloc.specs.declared.frame.Phase.{Phase}
use Rattle.pool_alloc.specs.declared.frame.Phase.TheVariants.{Idle, Key, Validate, TestStack, TestHeap, CountInstance, Pick, TakeQueue, TakeRegion, Empty, Instantiate, MakeMemory, MakeTable, CountObject, TakeHeap, MakeHeap, CountHeap, PutNoHeap, PutBack, FreeOne, UncountObject, UncountHeap, PutHeap, FreeHeap, Reset, Merge, Flush, UncountInstance, ValidateComponent, CountComponent, UncountComponent, Purge, Release}
use Rattle.pool_alloc.specs.declared.frame.TakenSlot.{TakenSlot}
use Rattle.pool_alloc.specs.declared.leases.instance.InstanceLease.{InstanceLease}
use Rattle.pool_alloc.specs.declared.pool_core.PoolCore.{PoolCore}
use Rattle.pool_alloc.specs.declared.pool_core.Settings.{Settings}
use Rattle.pool_alloc.specs.declared.release.ReleaseStep.{ReleaseStep}
use Rattle.pool_alloc.specs.declared.release.ReleaseStep.TheVariants as releasing_step
use Rattle.pool_driver.specs.Calling.{asks_for, kind_at}
use Rattle.pool_driver.specs.Spending.{granted_of, in_hand, slots_of, wanted_of}

same_le : (a b : ℕ) → a ≡ b → a ≤ b
same_le a b same = omega (arith, same)

-- A call asks for objects exactly where it is to be granted.
pub granted_asks : (what : Asked) (e : Ending) (n : ℕ) → e ≡ granted → kind_at (stage_by what e n) ≡ asks_for
granted_asks what granted n is = refl
granted_asks what returned n is = absurd cc
granted_asks what (refused x) n is = absurd cc

pub never_back : {X : Type 0} (what : Asked) (e : Ending) (n : ℕ) → is_granting e ≡ false → kind_at (stage_by what e n) ≡ asks_for → X
never_back what granted n back is = absurd cc
never_back what returned n back is = absurd cc
never_back what (refused x) n back is = absurd cc

pub never_counted_off : {X : Type 0} (e : Ending) → kind_at (stage_back e) ≡ asks_for → X
never_counted_off granted is = absurd cc
never_counted_off returned is = absurd cc
never_counted_off (refused x) is = absurd cc

pub never_release : {X P : Type 0} (step : ReleaseStep P) → kind_at (stage_of_release step) ≡ asks_for → X
never_release releasing_step.Reserve is = absurd cc
never_release (releasing_step.TakeWarm r j) is = absurd cc
never_release (releasing_step.TakeRegion r k) is = absurd cc
never_release (releasing_step.Decommit r k at held) is = absurd cc
never_release (releasing_step.PutRegion r k at held) is = absurd cc
never_release (releasing_step.Free r x) is = absurd cc

-- a memory is next while there are fewer than are asked for, and then a table
if_memory : (n m : ℕ) (k : SlotKind) → n < m → (if nat_lt n m then memory_kind else k) ≡ memory_kind
if_memory n m k below = go (nat_lt n m) refl
  where
    go : (b : Bool) → nat_lt n m ≡ b → (if b then memory_kind else k) ≡ memory_kind
    go true is = refl
    go false is = absurd (let most = ltb-false n m is in omega arith)

if_last : (n m : ℕ) (k : SlotKind) → m ≤ n → (if nat_lt n m then memory_kind else k) ≡ k
if_last n m k most = go (nat_lt n m) refl
  where
    go : (b : Bool) → nat_lt n m ≡ b → (if b then memory_kind else k) ≡ k
    go true is = absurd (let below = ltb-true n m is in omega arith)
    go false is = refl

kind_memory : (what : Asked) (n : ℕ) → n < length (memories_wanted what) → kind_by what n ≡ memory_kind
kind_memory asked.Stack n below = absurd (omega (arith, below))
kind_memory (asked.Table ty) n below = absurd (omega (arith, below))
kind_memory (asked.Memory m) n below = if_memory n _ _ below
kind_memory asked.Nothing n below = absurd (omega (arith, below))
kind_memory (asked.Module m) n below = if_memory n _ _ below
kind_memory (asked.Heap ty) n below = if_memory n _ _ below
kind_memory (asked.HeapOver memory) n below = absurd (omega (arith, below))

kind_table : (what : Asked) (n : ℕ) → length (memories_wanted what) ≤ n → IsForObjects what → kind_by what n ≡ table_kind
kind_table asked.Stack n most for = absurd (omega (arith, for.no_stack))
kind_table (asked.Heap ty) n most for = absurd (omega (arith, for.no_heap))
kind_table (asked.HeapOver memory) n most for = absurd (omega (arith, for.no_heap))
kind_table (asked.Memory m) n most for = if_last n _ _ most
kind_table (asked.Table ty) n most for = if_last n _ _ most
kind_table asked.Nothing n most for = if_last n _ _ most
kind_table (asked.Module m) n most for = if_last n _ _ most

-- There is room for the next object, and what was granted is no more than was asked for.
module _ {P : Type 0} (s : Settings) (plan : Plan) (aim : Ending) (queues : ℕ) (objects : InstanceLease P) where
  room_next : (what : Asked) → GrantsMore s plan aim what queues objects → granted_of (kind_by what (length objects.memories.items)) objects < wanted_of (kind_by what (length objects.memories.items)) what
  room_next asked.Stack grants = omega arith
  room_next (asked.Memory m) grants = go (nat_lt (length objects.memories.items) 1) refl
    where
      go : (b : Bool) → nat_lt (length objects.memories.items) 1 ≡ b → granted_of (if b then memory_kind else table_kind) objects < wanted_of (if b then memory_kind else table_kind) (asked.Memory m)
      go true is = ltb-true _ _ is
      go false is = absurd (omega (arith, ltb-false (length objects.memories.items) 1 is, grants.to_grant.few))
  room_next (asked.Table ty) grants = go (nat_lt (length objects.memories.items) 0) refl
    where
      go : (b : Bool) → nat_lt (length objects.memories.items) 0 ≡ b → granted_of (if b then memory_kind else table_kind) objects < wanted_of (if b then memory_kind else table_kind) (asked.Table ty)
      go true is = absurd (omega (arith, ltb-true (length objects.memories.items) 0 is))
      go false is = omega (arith, grants.to_grant.few_tables)
  room_next asked.Nothing grants = absurd (omega (arith, grants.more))
  room_next (asked.Module m) grants = go (nat_lt (length objects.memories.items) (length m.info.memories)) refl
    where
      go : (b : Bool) → nat_lt (length objects.memories.items) (length m.info.memories) ≡ b → granted_of (if b then memory_kind else table_kind) objects < wanted_of (if b then memory_kind else table_kind) (asked.Module m)
      go true is = ltb-true _ _ is
      go false is = omega (arith, ltb-false (length objects.memories.items) (length m.info.memories) is, grants.more, grants.to_grant.few)
  room_next (asked.Heap ty) grants = go (nat_lt (length objects.memories.items) 1) refl
    where
      go : (b : Bool) → nat_lt (length objects.memories.items) 1 ≡ b → granted_of (if b then memory_kind else heap_kind) objects < wanted_of (if b then memory_kind else heap_kind) (asked.Heap ty)
      go true is = ltb-true _ _ is
      go false is = omega arith
  room_next (asked.HeapOver memory) grants = go (nat_lt (length objects.memories.items) 0) refl
    where
      go : (b : Bool) → nat_lt (length objects.memories.items) 0 ≡ b → granted_of (if b then memory_kind else heap_kind) objects < wanted_of (if b then memory_kind else heap_kind) (asked.HeapOver memory)
      go true is = absurd (omega (arith, ltb-true (length objects.memories.items) 0 is))
      go false is = omega arith

  few_granted : (what : Asked) → GrantsMore s plan aim what queues objects → (kind : SlotKind) → granted_of kind objects ≤ wanted_of kind what
  few_granted what grants memory_kind = omega (arith, grants.to_grant.few, (kept_of what).memories)
  few_granted what grants table_kind = omega (arith, grants.to_grant.few_tables, (kept_of what).tables)
  few_granted what grants stack_kind = omega arith
  few_granted what grants heap_kind = omega arith

room_within : (kind k : SlotKind) (x y : SlotKind → ℕ) → x k < y k → ((j : SlotKind) → x j ≤ y j) → x kind + (if same_kind kind k then 1 else 0) ≤ y kind
room_within memory_kind memory_kind x y more few = omega (arith, more)
room_within table_kind table_kind x y more few = omega (arith, more)
room_within stack_kind stack_kind x y more few = omega (arith, more)
room_within heap_kind heap_kind x y more few = omega (arith, more)
room_within memory_kind table_kind x y more few = omega (arith, few memory_kind)
room_within memory_kind stack_kind x y more few = omega (arith, few memory_kind)
room_within memory_kind heap_kind x y more few = omega (arith, few memory_kind)
room_within table_kind memory_kind x y more few = omega (arith, few table_kind)
room_within table_kind stack_kind x y more few = omega (arith, few table_kind)
room_within table_kind heap_kind x y more few = omega (arith, few table_kind)
room_within stack_kind memory_kind x y more few = omega (arith, few stack_kind)
room_within stack_kind table_kind x y more few = omega (arith, few stack_kind)
room_within stack_kind heap_kind x y more few = omega (arith, few stack_kind)
room_within heap_kind memory_kind x y more few = omega (arith, few heap_kind)
room_within heap_kind table_kind x y more few = omega (arith, few heap_kind)
room_within heap_kind stack_kind x y more few = omega (arith, few heap_kind)

module _ {P H : Type 0} (s : Settings) (plan : Plan) (f : Frame P H) (grants : GrantsMore s plan f.ending f.asked f.queues f.objects) where
  -- There is room for the next object,
  pub next_fits : granted_of (kind_next f) f.objects < wanted_of (kind_next f) f.asked
  next_fits = room_next s plan f.ending f.queues f.objects f.asked grants

  -- and so for what was granted and one of its kind.
  pub all_fit : (kind : SlotKind) → granted_of kind f.objects + (if same_kind kind (kind_next f) then 1 else 0) ≤ wanted_of kind f.asked
  all_fit kind = room_within kind (kind_next f) (λ k. granted_of k f.objects) (λ k. wanted_of k f.asked) next_fits (few_granted s plan f.ending f.queues f.objects f.asked grants)

module _ {P H : Type 0} where
  -- What is left has at least so many slots of each kind, where the call asks still.
  abbrev pub Keeps : (SlotKind → ℕ) → Left P H → Type 0
  Keeps n l = kind_at (stage_of l.frame) ≡ asks_for → (kind : SlotKind) → n kind ≤ slots_of kind l.frame

  module _ (n : SlotKind → ℕ) where
    abbrev Has : Frame P H → Type 0
    Has g = (kind : SlotKind) → n kind ≤ granted_of kind g.objects

    back_keeps : (memories : List Lease) (tables : List LeasedTable) (g : Frame P H) → is_granting g.ending ≡ false → Keeps n (returned_next memories tables g)
    back_keeps (lease ∷ memories) tables g back = let left = (returned_next (lease ∷ memories) tables g).frame in λ asks. never_back left.asked left.ending (objects_in left.objects) back asks
    back_keeps [] (lease ∷ tables) g back = let left = (returned_next [] (lease ∷ tables) g).frame in λ asks. never_back left.asked left.ending (objects_in left.objects) back asks
    back_keeps [] [] g back = all g.asked
      where
        all : (what : Asked) → Keeps n (all_returned what g)
        all (asked.Memory m) = λ asks. absurd cc
        all (asked.Table ty) = λ asks. absurd cc
        all asked.Stack = λ asks. absurd cc
        all (asked.Heap ty) = λ asks. absurd cc
        all (asked.HeapOver memory) = λ asks. absurd cc
        all asked.Nothing = λ asks. never_back g.asked g.ending (objects_in g.objects) back asks
        all (asked.Module m) = λ asks. never_back g.asked g.ending (objects_in g.objects) back asks

    granting_keeps : (g : Frame P H) → Has g → Keeps n (granted_next g)
    granting_keeps g has = go (nat_lt (objects_in g.objects) (objects_wanted g.asked)) refl
      where
        go : (b : Bool) → nat_lt (objects_in g.objects) (objects_wanted g.asked) ≡ b → Keeps n (granted_next g)
        go true more = rw more (λ asks kind. omega (arith, has kind))
        go false none = rw none (λ asks. absurd cc)

    next_keeps : (e : Ending) (g : Frame P H) → g.ending ≡ e → Has g → Keeps n (next_by e g)
    next_keeps granted g is has = granting_keeps g has
    next_keeps returned g is has = back_keeps g.objects.memories.items g.objects.tables.items g (ap is_granting is)
    next_keeps (refused x) g is has = back_keeps g.objects.memories.items g.objects.tables.items g (ap is_granting is)

    flush_keeps : (g : Frame P H) → Has g → Keeps n (flush_next g)
    flush_keeps g has = go (is_flushed g) refl
      where
        go : (b : Bool) → is_flushed g ≡ b → Keeps n (flush_next g)
        go true flushed = rw flushed (next_keeps g.ending g refl has)
        go false more = rw more (λ asks kind. omega (arith, has kind))

    search_keeps : (queues : ℕ) (x : AllocError) (g : Frame P H) → Has g → Keeps n (search_next queues x g)
    search_keeps queues x g has = go (nat_lt g.queues queues) refl
      where
        go : (b : Bool) → nat_lt g.queues queues ≡ b → Keeps n (search_next queues x g)
        go true more = rw more (λ asks kind. omega (arith, has kind))
        go false none = rw none (back_keeps g.objects.memories.items g.objects.tables.items (failing x g) refl)

    -- A turn keeps what the row's frame was granted.
    turn_keeps : (t : Turn P H) (g : Frame P H) → Has g → Keeps n (after g t)
    turn_keeps (goes phase) g has = λ asks kind. omega (arith, has kind)
    turn_keeps (ends outcome) g has = λ asks. absurd cc
    turn_keeps goes_next g has = next_keeps g.ending g refl has
    turn_keeps flushes g has = flush_keeps g has
    turn_keeps (searches queues x) g has = search_keeps queues x g has
    turn_keeps stays g has = λ asks kind. omega (arith, has kind)

module _ {P H : Type 0} (c : PoolCore P H) (f : Frame P H) where
  abbrev e : Frame P H
  e = resting f

  -- What the frame has before a step of this phase.
  abbrev pub had : Phase P H → SlotKind → ℕ
  had p kind = granted_of kind f.objects + (if same_kind kind (kind_next f) then in_hand p else 0)

  abbrev pub RowKeeps : Phase P H → Row (PoolCore P H) P H → Type 0
  RowKeeps p r = Keeps (had p) (after r.frame r.turn)

  -- where nothing is in hand
  pub none_in_hand : (p : Phase P H) → in_hand p ≡ 0 → (kind : SlotKind) → had p kind ≤ granted_of kind f.objects
  none_in_hand p none kind = go (same_kind kind (kind_next f))
    where
      go : (b : Bool) → granted_of kind f.objects + (if b then in_hand p else 0) ≤ granted_of kind f.objects
      go true = omega (arith, none)
      go false = omega arith

  row_turn : (p : Phase P H) → in_hand p ≡ 0 → (r : Row (PoolCore P H) P H) → ((kind : SlotKind) → granted_of kind r.frame.objects ≡ granted_of kind f.objects) → RowKeeps p r
  row_turn p none r same = turn_keeps (had p) r.turn r.frame (λ kind. omega (arith, none_in_hand p none kind, same kind))

  -- and nothing granted
  rest_keeps : (p : Phase P H) → in_hand p ≡ 0 → IsAtRest f → (r : Row (PoolCore P H) P H) → RowKeeps p r
  rest_keeps p none rest r = λ asks kind. omega (arith, none_in_hand p none kind, nothing kind)
    where
      nothing : (kind : SlotKind) → granted_of kind f.objects ≡ 0
      nothing memory_kind = ap length rest.no_memories
      nothing table_kind = ap length rest.no_tables
      nothing stack_kind = refl
      nothing heap_kind = refl

  -- where the slot in hand stays there
  hand_keeps : (p q : Phase P H) → in_hand p ≡ in_hand q → Keeps (had p) (goes_to e q)
  hand_keeps p q same = λ asks kind. same_le (had p kind) (slots_of kind (gone_to q e)) (ap (λ (n : ℕ). granted_of kind f.objects + (if same_kind kind (kind_next f) then n else 0)) same)

  unmapped_keeps : (name : SlotName) (s : Settings) (kind : SlotKind) (at : TakenSlot) (region : Told) → Keeps (had (TakeRegion name)) (after e (unmapped_next s kind at region))
  unmapped_keeps name s memory_kind at region = hand_keeps (TakeRegion name) (Instantiate at (image_made s at.name.slot region)) refl
  unmapped_keeps name s table_kind at region = hand_keeps (TakeRegion name) (MakeTable at region) refl
  unmapped_keeps name s stack_kind at region = hand_keeps (TakeRegion name) (CountObject (object.Stack (stack_made s at region))) refl
  unmapped_keeps name s heap_kind at region = λ asks. absurd cc

  region_keeps : (name : SlotName) (s : Settings) (at : TakenSlot) (held : Cell) → Keeps (had (TakeRegion name)) (after e (region_next s at held))
  region_keeps name s at (unmapped region) = unmapped_keeps name s at.name.kind at region
  region_keeps name s at (unknown held) = hand_keeps (TakeRegion name) (Empty at held) refl
  region_keeps name s at (previously_used held) = hand_keeps (TakeRegion name) (Instantiate at held) refl
  region_keeps name s at taken = λ asks. absurd cc

  paged_keeps : (p q : Phase P H) → in_hand p ≡ in_hand q → (fault : Bool) (at : TakenSlot) (held : Slot) → RowKeeps p (paged fault at held q c e)
  paged_keeps p q same true at held = λ asks. absurd cc
  paged_keeps p q same false at held = hand_keeps p q same

  made_keeps : (p : Phase P H) → in_hand p ≡ 1 → (at : TakenSlot) (held : Slot) (r : Result MemoryState AllocError) → RowKeeps p (was_made at held r c e)
  made_keeps p one at held (Ok memory) = hand_keeps p (CountObject (object.Memory (record { index = at.name.slot; memory = memory; numbers = at.numbers }))) one
  made_keeps p one at held (Err x) = λ asks. absurd cc

  table_made_keeps : (p : Phase P H) → in_hand p ≡ 1 → (at : TakenSlot) (region : Told) (r : Result LeasedTable AllocError) → RowKeeps p (was_made_table at region r c e)
  table_made_keeps p one at region (Ok lease) = hand_keeps p (CountObject (object.Table lease)) one
  table_made_keeps p one at region (Err x) = λ asks. absurd cc

  heap_keeps : (p : Phase P H) → in_hand p ≡ 1 → (at : TakenSlot) (heap : Option H) → Keeps (had p) (after e (heap_next at heap))
  heap_keeps p one at (Some heap) = hand_keeps p (CountHeap (record { index = at.name.slot; heap = heap; numbers = at.numbers })) one
  heap_keeps p one at None = hand_keeps p (MakeHeap at) one

  heap_made_keeps : (p : Phase P H) → in_hand p ≡ 1 → (r : Result H HeapMakeFault) (at : TakenSlot) → RowKeeps p (make_heap_row r at c e)
  heap_made_keeps p one (Ok heap) at = hand_keeps p (CountHeap (record { index = at.name.slot; heap = heap; numbers = at.numbers })) one
  heap_made_keeps p one (Err fault) at = λ asks. absurd cc

  heap_granted_keeps : (p : Phase P H) (leases : List Lease) (lease : LeasedHeap H) → RowKeeps p (heap_granted leases lease c e)
  heap_granted_keeps p [] lease = λ asks. absurd cc
  heap_granted_keeps p (memory ∷ rest) lease = λ asks. absurd cc

  heap_counted_keeps : (p : Phase P H) (what : Asked) (lease : LeasedHeap H) → RowKeeps p (heap_counted what lease c e)
  heap_counted_keeps p (asked.HeapOver memory) lease = λ asks. absurd cc
  heap_counted_keeps p what lease = heap_granted_keeps p f.objects.memories.items lease

  -- An object in hand is granted.
  one_at_most : (b : Bool) → (if b then 1 else 0) ≤ 1
  one_at_most true = omega arith
  one_at_most false = omega arith

  -- none of another kind is in hand
  abbrev hand_by : SlotKind → SlotKind → ℕ
  hand_by kind k = if same_kind kind k then 1 else 0

  memory_keeps : (lease : Lease) → kind_next f ≡ memory_kind → RowKeeps (CountObject (object.Memory lease)) (count_object_row (object.Memory lease) c e)
  memory_keeps lease is = by f.asked
    where
      kept : Frame P H
      kept = record e { objects = record e.objects { memories = with_item lease e.objects.memories }; queues = 0 }

      has : (kind : SlotKind) → had (CountObject (object.Memory lease)) kind ≤ granted_of kind kept.objects
      has memory_kind = omega (arith, one_at_most (same_kind memory_kind (kind_next f)), length-append f.objects.memories.items (lease ∷ []))
      has table_kind = let none : hand_by table_kind (kind_next f) ≡ 0 = ap (hand_by table_kind) is in omega (arith, none)
      has stack_kind = let none : hand_by stack_kind (kind_next f) ≡ 0 = ap (hand_by stack_kind) is in omega (arith, none)
      has heap_kind = let none : hand_by heap_kind (kind_next f) ≡ 0 = ap (hand_by heap_kind) is in omega (arith, none)

      by : (what : Asked) → Keeps (had (CountObject (object.Memory lease))) (after (memory_kept what lease e) (memory_turn what lease))
      by (asked.Memory m) = λ asks. absurd cc
      by what = turn_keeps (had (CountObject (object.Memory lease))) goes_next kept has

  table_keeps : (lease : LeasedTable) → kind_next f ≡ table_kind → RowKeeps (CountObject (object.Table lease)) (count_object_row (object.Table lease) c e)
  table_keeps lease is = by f.asked
    where
      kept : Frame P H
      kept = record e { objects = record e.objects { tables = with_item lease e.objects.tables }; queues = 0 }

      has : (kind : SlotKind) → had (CountObject (object.Table lease)) kind ≤ granted_of kind kept.objects
      has memory_kind = let none : hand_by memory_kind (kind_next f) ≡ 0 = ap (hand_by memory_kind) is in omega (arith, none)
      has table_kind = omega (arith, one_at_most (same_kind table_kind (kind_next f)), length-append f.objects.tables.items (lease ∷ []))
      has stack_kind = let none : hand_by stack_kind (kind_next f) ≡ 0 = ap (hand_by stack_kind) is in omega (arith, none)
      has heap_kind = let none : hand_by heap_kind (kind_next f) ≡ 0 = ap (hand_by heap_kind) is in omega (arith, none)

      by : (what : Asked) → Keeps (had (CountObject (object.Table lease))) (after (table_kept what lease e) (table_turn what lease))
      by (asked.Table ty) = λ asks. absurd cc
      by what = turn_keeps (had (CountObject (object.Table lease))) goes_next kept has

  put_first_keeps : (o : Option Queued) (rest : List Queued) → RowKeeps Flush (put_first o rest c e)
  put_first_keeps None rest = row_turn Flush refl (put_first None rest c e) (λ kind. refl)
  put_first_keeps (Some m) rest = row_turn Flush refl (put_first (Some m) rest c e) (λ kind. refl)

  flush_row_keeps : (step : FlushStep) (queue : Queue) → RowKeeps Flush (flush_row step queue c e)
  flush_row_keeps run queue = row_turn Flush refl (flush_row run queue c e) (λ kind. refl)
  flush_row_keeps (zero kind) queue = row_turn Flush refl (flush_row (zero kind) queue c e) (λ kind. refl)
  flush_row_keeps (put kind) queue = put_first_keeps (first_of_kind kind f.local.slots) (others_of_kind kind f.local.slots)
  flush_row_keeps free queue = row_turn Flush refl (flush_row free queue c e) (λ kind. refl)

  -- Row by row.
  pub row_keeps : (maker : MakerTold) (g : StepGiven H) (p : Phase P H) → IsShapedAt maker c.settings c.plan p f → kind_at (stage_at p f.asked f.ending (objects_in f.objects)) ≡ asks_for → RowKeeps p (row_of g p c e)
  row_keeps maker g Idle shape asks = absurd cc
  row_keeps maker g Key shape asks = absurd cc
  row_keeps maker g Validate shape asks = rest_keeps Validate refl shape.0 (row_of g Validate c e)
  row_keeps maker g TestStack shape asks = rest_keeps TestStack refl shape.0 (row_of g TestStack c e)
  row_keeps maker g TestHeap shape asks = rest_keeps TestHeap refl shape.0 (row_of g TestHeap c e)
  row_keeps maker g CountInstance shape asks = rest_keeps CountInstance refl shape.0 (row_of g CountInstance c e)
  row_keeps maker g (Pick tried) shape asks = row_turn (Pick tried) refl (row_of g (Pick tried) c e) (λ kind. refl)
  row_keeps maker g TakeQueue shape asks = row_turn TakeQueue refl (row_of g TakeQueue c e) (λ kind. refl)
  row_keeps maker g (TakeRegion name) shape asks = region_keeps name c.settings _ (cell_named name c).holds
  row_keeps maker g (Empty at has) shape asks = paged_keeps (Empty at has) (Instantiate at g.slot) refl g.fault at g.slot
  row_keeps maker g (Instantiate at has) shape asks = paged_keeps (Instantiate at has) (MakeMemory at g.slot) refl g.fault at g.slot
  row_keeps maker g (MakeMemory at has) shape asks = made_keeps (MakeMemory at has) refl at has _
  row_keeps maker g (MakeTable at region) shape asks = table_made_keeps (MakeTable at region) refl at region _
  row_keeps maker g (CountObject (object.Memory lease)) shape asks = memory_keeps lease (kind_memory f.asked (length f.objects.memories.items) shape.4)
  row_keeps maker g (CountObject (object.Table lease)) shape asks = table_keeps lease (kind_table f.asked (length f.objects.memories.items) shape.4.0 shape.4.1)
  row_keeps maker g (CountObject (object.Stack lease)) shape asks = λ on. absurd cc
  row_keeps maker g (TakeHeap name) shape asks = heap_keeps (TakeHeap name) refl _ (heap_in name.slot (heaps_at c))
  row_keeps maker g (MakeHeap at) shape asks = heap_made_keeps (MakeHeap at) refl g.heap at
  row_keeps maker g (CountHeap lease) shape asks = heap_counted_keeps (CountHeap lease) f.asked lease
  row_keeps maker g (PutNoHeap at) shape asks = never_back f.asked f.ending (objects_in f.objects) shape.1 asks
  row_keeps maker g (PutBack at has) shape asks = never_back f.asked f.ending (objects_in f.objects) shape.1 asks
  row_keeps maker g (FreeOne name) shape asks = never_back f.asked f.ending (objects_in f.objects) shape.1 asks
  row_keeps maker g (UncountObject held) shape asks = never_back f.asked f.ending (objects_in f.objects) shape.1 asks
  row_keeps maker g (UncountHeap lease memory) shape asks = never_back f.asked f.ending (objects_in f.objects) shape.1 asks
  row_keeps maker g (PutHeap lease memory) shape asks = never_back f.asked f.ending (objects_in f.objects) shape.1 asks
  row_keeps maker g (FreeHeap name memory) shape asks = never_back f.asked f.ending (objects_in f.objects) shape.1 asks
  row_keeps maker g (Reset held) shape asks = never_back f.asked f.ending (objects_in f.objects) shape.1 asks
  row_keeps maker g Merge shape asks = never_back f.asked f.ending (objects_in f.objects) shape.0 asks
  row_keeps maker g Flush shape asks = flush_row_keeps (flush_step f.local f.freed.items) g.queue
  row_keeps maker g UncountInstance shape asks = never_back f.asked f.ending (objects_in f.objects) shape.1 asks
  row_keeps maker g (ValidateComponent info) shape asks = absurd cc
  row_keeps maker g CountComponent shape asks = absurd cc
  row_keeps maker g UncountComponent shape asks = never_counted_off f.ending asks
  row_keeps maker g (Purge p step) shape asks = absurd cc
  row_keeps maker g (Release step) shape asks = never_release step asks

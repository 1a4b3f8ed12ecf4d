-- How far a call is, as its party may know it, and how a step takes it on: to which stage, with which answer, and what is
-- known then.
use Rattle.std.specs.Prelude.{◌≡◌, ◌⊎◌, ℕ, ◌+◌, ◌<◌, ◌≤◌, length, Bool, false, Option, Some, None, Result, Ok, Err, true}
use Rattle.pool_alloc.specs.Imports.{MakerTold, ComponentInfo, Unsupported, Slot, IsLeft, HeapMakeFault, LimiterError, MemoryState, AllocError, Told, SlotName, has_number}
use Rattle.pool_alloc.specs.PartyTold.{PartyTold, MakesHeap}
use Rattle.pool_slots.specs.declared.errors.AllocError.TheVariants as refusal
use Rattle.pool_alloc.specs.PageCallAnswers.{AsksForMemory}
use Rattle.pool_alloc.specs.Modules.{IfAllocated, IfTable}
use Rattle.pool_alloc.specs.Objects.{objects_in, objects_wanted}
use Rattle.pool_alloc.specs.MemorySteps.{memory_made, heap_refusal}
use Rattle.pool_alloc.specs.TableLeases.{LeasedTable}
use Rattle.pool_alloc.specs.TableSteps.{AsksForTable, table_made}
use Rattle.pool_alloc.specs.declared.frame.TakenSlot.{TakenSlot}
use Rattle.pool_alloc.specs.Places.{right_to, slot_count, instance_count, kept_count, away_count, frame_count}
use Rattle.pool_alloc.specs.Refusals.{module_refused, heap_refused, component_refused}
use Rattle.pool_alloc.specs.StepTable.{no_instance_left, no_component_left}
use Rattle.pool_alloc.specs.Searches.{IsSearched}
use Rattle.pool_alloc.specs.BetweenSteps.{AreSupported, AreTablesSupported, IsAllocating, IsMemoryNext, IsTableNext, IsHeapNext, HasSlot}
use Rattle.pool_alloc.specs.StepReads.{HasMemories, info_wanted, memories_wanted, images_wanted, tables_wanted, allocator_for, slot_next}
use Rattle.pool_alloc.specs.Stepping.{is_idle}
use Rattle.pool_alloc.specs.Turns.{After, no_slot_left}
use Rattle.pool_alloc.specs.declared.pool_core.PoolCore.{PoolCore}
use Rattle.pool_alloc.specs.declared.frame.Ending.{Ending}
use Rattle.pool_alloc.specs.declared.frame.Ending.TheVariants.{Granted as granted, Returned as returned, Refused as refused}
use Rattle.pool_alloc.specs.declared.frame.Asked.{Asked}
use Rattle.pool_alloc.specs.declared.frame.Asked.TheVariants.{Memory as memory_asked, Table as table_asked, Stack as stack_asked, Heap as heap_asked, HeapOver as heap_over_asked}
use Rattle.pool_alloc.specs.declared.frame.Grant.TheVariants.{Instance, Memory, Table, Stack, Heap, HeapOver, Component}
use Rattle.pool_alloc.specs.declared.frame.Frame.{Frame}
use Rattle.pool_alloc.specs.declared.frame.Outcome.{Outcome}
use Rattle.pool_alloc.specs.declared.frame.Outcome.TheVariants as answer
use Rattle.pool_alloc.specs.declared.frame.Phase.{Phase}
use Rattle.pool_alloc.specs.declared.frame.Phase.TheVariants.{Idle, Key, Validate, TestStack, TestHeap, CountInstance, CountObject, CountHeap, ValidateComponent, CountComponent, UncountComponent, Purge, Release}
use Rattle.pool_alloc.specs.declared.release.ReleaseStep.{ReleaseStep}
use Rattle.pool_alloc.specs.declared.release.ReleaseStep.TheVariants.{Reserve}

-- how far a request is: its module isn't tested yet; its instance isn't counted yet; it is, and so many of its objects
-- are made; it is for a memory or a table by itself, which is made or isn't; it is for a stack; or it is for a heap, and isn't tested yet, or so many of its objects are made, of which the memory is the
-- first, if it is for one, or the heap is in hand, which is counted next
pub data Progress : Type 0 where
  untested : Progress
  uncounted : Progress
  admitted : ℕ → Progress
  seeks_single : ℕ → Progress
  seeks_stack : Progress
  tests_heap : Progress
  seeks_heap : ℕ → Progress
  counts_heap : Progress

-- what a party's call is about: nothing; its stripe; a request for an instance; a component that isn't tested yet, or that
-- isn't counted yet; a grant that is given back; and a request that is refused once all is given back that it got. It may
-- also be a purge, a release that has no room reserved yet, or one that has.
pub data Stage : Type 0 where
  no_call : Stage
  keys : Stage
  asks : Progress → Stage
  tests_component : ComponentInfo → Stage
  counts_component : Stage
  returning : Stage
  refusing : AllocError → Stage
  purging : Stage
  reserving : Stage
  releasing : Stage

-- The refusal with which the test of a component ends it at once.
abbrev pub IsBroken : Option Unsupported → AllocError → Type 0
IsBroken (Some rule) e = e ≡ refusal.Unsupported rule
IsBroken None e = ⊥

-- How far a request is where so many objects are made, by what is asked for.
abbrev pub progress_by : Asked → ℕ → Progress
progress_by (memory_asked m) made = seeks_single made
progress_by (table_asked ty) made = seeks_single made
progress_by stack_asked made = seeks_stack
progress_by (heap_asked ty) made = seeks_heap made
progress_by (heap_over_asked memory) made = seeks_heap made
progress_by _ made = admitted made

-- The stage of a call that is under way with its objects, by its ending.
abbrev pub stage_by : Asked → Ending → ℕ → Stage
stage_by asked granted made = asks (progress_by asked made)
stage_by asked returned made = returning
stage_by asked (refused e) made = refusing e

-- the stage of what is counted off
abbrev pub stage_back : Ending → Stage
stage_back (refused e) = refusing e
stage_back _ = returning

-- what the test of a module, or of a heap's memory, ends with, where it isn't passed
abbrev pub IsUntested : Option Unsupported → AllocError → Type 0
IsUntested (Some rule) e = e ≡ refusal.Unsupported rule
IsUntested None e = e ≡ refusal.Memory

module _ {P : Type 0} where
  -- A release before its room is reserved, or after that.
  abbrev pub stage_of_release : ReleaseStep P → Stage
  stage_of_release Reserve = reserving
  stage_of_release _ = releasing

module _ {P H : Type 0} where
  -- How far a call is, by its phase, its ending and the objects that it has.
  abbrev pub stage_at : Phase P H → Asked → Ending → ℕ → Stage
  stage_at Idle asked ending granted_so_far = no_call
  stage_at Key asked ending granted_so_far = keys
  stage_at Validate asked ending granted_so_far = asks untested
  stage_at TestStack asked ending granted_so_far = asks seeks_stack
  stage_at TestHeap asked ending granted_so_far = asks tests_heap
  stage_at (CountHeap lease) asked ending granted_so_far = asks counts_heap
  stage_at CountInstance asked ending granted_so_far = asks uncounted
  stage_at (ValidateComponent info) asked ending granted_so_far = tests_component info
  stage_at CountComponent asked ending granted_so_far = counts_component
  stage_at UncountComponent asked ending granted_so_far = stage_back ending
  stage_at (CountObject object) asked ending granted_so_far = stage_by asked ending (granted_so_far + 1)
  stage_at (Purge p step) asked ending granted_so_far = purging
  stage_at (Release step) asked ending granted_so_far = stage_of_release step
  stage_at _ asked ending granted_so_far = stage_by asked ending granted_so_far

  -- How far a frame's call is, which is all that its party knows of it.
  abbrev pub stage_of : Frame P H → Stage
  stage_of f = stage_at f.phase f.asked f.ending (objects_in f.objects)

  -- No slot is found for the next object. The call has no slots but those of its objects, and where nobody freed one
  -- meanwhile, each of the allocator is given out, and none lies in a queue.
  pub record FindsNone (c : PoolCore P H) (f : Frame P H) (n : ℕ) (e : AllocError) : Type 0 where
    pub is : e ≡ no_slot_left c.plan f
    pub number : n ≡ objects_in f.objects
    pub allocating : IsAllocating c.settings c.plan f
    pub has : (name : SlotName) → frame_count (right_to name) f ≡ instance_count (right_to name) f.objects
    pub none : IsSearched c f → (k : ℕ) → has_number (allocator_for c.plan f) k ≡ true → (kept_count (right_to (slot_next k f)) c ≡ 0) × (away_count (right_to (slot_next k f)) c ≡ 1)

  -- A page call failed on the region of a memory's slot that the call has.
  pub record IsPageFaulted (maker : MakerTold) (c : PoolCore P H) (f : Frame P H) (n : ℕ) (e : AllocError) : Type 0 where
    pub is : e ≡ refusal.PageFault
    pub number : n ≡ objects_in f.objects
    pub allocating : IsAllocating c.settings c.plan f
    pub next : IsMemoryNext f
    pub name : SlotName
    pub old : Slot
    pub new : Slot
    pub region : HasSlot maker c.settings c.plan name old
    pub left : IsLeft old new
    pub has : (other : SlotName) → slot_count (right_to other) name ≤ frame_count (right_to other) f

  -- The limiter is asked for memory n, and this comes of making it.
  pub record Makes (old new : PartyTold) (c : PoolCore P H) (f : Frame P H) (n : ℕ) (made : Result MemoryState AllocError) : Type 0 where
    pub number : n ≡ objects_in f.objects
    pub allocating : IsAllocating c.settings c.plan f
    pub next : IsMemoryNext f
    pub given : Result Bool LimiterError
    pub held : Slot
    pub asked : IfAllocated f (AsksForMemory given old.limiter new.limiter)
    pub is : memory_made c.settings (memories_wanted f.asked) (length f.objects.memories.items) given held ≡ made

  -- A step of the call makes table n, or fails to.
  pub record MakesTable (old new : PartyTold) (c : PoolCore P H) (f : Frame P H) (n : ℕ) (made : Result LeasedTable AllocError) : Type 0 where
    pub number : n ≡ objects_in f.objects
    pub allocating : IsAllocating c.settings c.plan f
    pub next : IsTableNext f
    pub given : Result Bool LimiterError
    pub at : TakenSlot
    pub region : Told
    pub asked : IfTable f (AsksForTable given old.limiter new.limiter)
    pub is : table_made c.settings (tables_wanted f.asked) (length f.objects.tables.items) given at region ≡ made

  -- Why memory or table n fails: there is no slot for it, a page call failed, or it isn't made.
  abbrev pub FailsObject : MakerTold → PartyTold → PartyTold → PoolCore P H → Frame P H → ℕ → AllocError → Type 0
  FailsObject maker old new c f n e = FindsNone c f n e ⊎ (IsPageFaulted maker c f n e ⊎ (Makes old new c f n (Err e) ⊎ MakesTable old new c f n (Err e)))

  -- As many objects are made as before, or one more is.
  abbrev pub HasObject : PartyTold → PartyTold → PoolCore P H → Frame P H → ℕ → ℕ → Type 0
  HasObject old new c f n m = (m ≡ n) ⊎ ((m ≡ n + 1) × (((memory : MemoryState) × Makes old new c f n (Ok memory)) ⊎ ((lease : LeasedTable) × MakesTable old new c f n (Ok lease))))

  -- A heap is next, whose memory is there.
  pub record SeeksHeap (c : PoolCore P H) (f : Frame P H) (n : ℕ) : Type 0 where
    pub number : n ≡ objects_in f.objects
    pub allocating : IsAllocating c.settings c.plan f
    pub next : IsHeapNext f

  -- The maker is asked for it, and makes none.
  abbrev pub FailsHeap : PartyTold → PartyTold → PoolCore P H → Frame P H → ℕ → AllocError → Type 0
  FailsHeap old new c f n e = (fault : HeapMakeFault) × (SeeksHeap c f n × (MakesHeap {H = H} (Err fault) old.heaps new.heaps × (e ≡ heap_refusal fault)))

  -- The slot had one, and no maker is asked; or the maker makes one.
  abbrev pub HasHeap : PartyTold → PartyTold → PoolCore P H → Frame P H → ℕ → Type 0
  HasHeap old new c f n = SeeksHeap c f n × ((new.heaps ≡ old.heaps) ⊎ ((heap : H) × MakesHeap (Ok heap) old.heaps new.heaps))

  -- Why the test of a heap isn't passed: there is no collector; or where a memory is allocated for it, that breaks a rule, or there
  -- was no memory for the list.
  abbrev pub IsHeapUntested : PoolCore P H → Frame P H → AllocError → Type 0
  IsHeapUntested c f e =
      ((c.settings.tunables.tunables.collector ≡ false) × (e ≡ refusal.HeapsDisabled))
      ⊎ ((c.settings.tunables.tunables.collector ≡ true) × HasMemories f.asked × IsUntested (heap_refused c.settings f.asked) e)

  -- A heap may be asked for: there is a collector, and the type of its memory breaks no rule.
  pub record IsHeapTested (c : PoolCore P H) (f : Frame P H) : Type 0 where
    pub enabled : c.settings.tunables.tunables.collector ≡ true
    pub rules : heap_refused c.settings f.asked ≡ None

  -- Why a step fails a request that is so far.
  abbrev pub Raises : MakerTold → PartyTold → PartyTold → PoolCore P H → Frame P H → Progress → AllocError → Type 0
  Raises maker old new c f untested e = IsUntested (module_refused c.settings c.plan.totals.table (info_wanted f.asked)) e
  Raises maker old new c f uncounted e = (e ≡ no_instance_left c.settings) × (c.settings.max_core_instances ≤ c.counters.core_instances)
  Raises maker old new c f seeks_stack e = ((e ≡ refusal.StacksDisabled) × (c.settings.stack_size ≡ 0)) ⊎ FindsNone c f 0 e
  Raises maker old new c f tests_heap e = IsHeapUntested c f e
  Raises maker old new c f (seeks_heap n) e = FindsNone c f n e ⊎ (IsPageFaulted maker c f n e ⊎ (Makes old new c f n (Err e) ⊎ FailsHeap old new c f n e))
  Raises maker old new c f counts_heap e = ⊥
  Raises maker old new c f (admitted n) e = FailsObject maker old new c f n e
  Raises maker old new c f (seeks_single n) e = FailsObject maker old new c f n e

  -- What is known where a step takes a request on.
  abbrev pub Follows : PartyTold → PartyTold → PoolCore P H → Frame P H → Progress → Progress → Type 0
  Follows old new c f untested uncounted = module_refused c.settings c.plan.totals.table (info_wanted f.asked) ≡ None
  Follows old new c f uncounted (admitted n) = (n ≡ 0) × (c.counters.core_instances < c.settings.max_core_instances)
  Follows old new c f (admitted n) (admitted m) = HasObject old new c f n m
  Follows old new c f (seeks_single n) (seeks_single m) = HasObject old new c f n m
  Follows old new c f seeks_stack seeks_stack = Unit {0}
  Follows old new c f tests_heap (seeks_heap n) = (n ≡ 0) × IsHeapTested c f
  Follows old new c f (seeks_heap n) (seeks_heap m) = (m ≡ n) ⊎ ((m ≡ n + 1) × ((memory : MemoryState) × Makes old new c f n (Ok memory)))
  Follows old new c f (seeks_heap n) counts_heap = HasHeap old new c f n
  Follows old new c f _ _ = ⊥

  -- How a step may take a call on from one stage to another, with this answer. Only the test of its module, its
  -- heap or its component ends a request at once with a refusal; one for a stack, for a memory or a table by itself, or for a
  -- heap that has no memory yet, has nothing to give back. The grant of an instance is of all objects that are asked for, which are supported. A purge is never
  -- refused, and a release only for want of memory for its room.
  abbrev pub Goes : MakerTold → PartyTold → PartyTold → PoolCore P H → Frame P H → Stage → Stage → Option (Outcome P H) → Type 0
  Goes maker old new c f no_call no_call None = Unit {0}
  Goes maker old new c f keys no_call (Some answer.Key) = Unit {0}
  Goes maker old new c f (asks p) (asks q) None = Follows old new c f p q
  Goes maker old new c f (asks p) (refusing e) None = Raises maker old new c f p e
  Goes maker old new c f (asks p) no_call (Some (answer.Granted (Memory lease))) = Follows old new c f p (seeks_single 1)
  Goes maker old new c f (asks p) no_call (Some (answer.Granted (Table lease))) = Follows old new c f p (seeks_single 1)
  Goes maker old new c f (asks p) no_call (Some (answer.Granted (Stack lease))) = Follows old new c f p seeks_stack × (0 < c.settings.stack_size)
  Goes maker old new c f (asks p) no_call (Some (answer.Granted (Instance lease))) = Follows old new c f p (admitted (objects_wanted f.asked)) × AreSupported c.settings (memories_wanted f.asked) (images_wanted f.asked) × AreTablesSupported c.settings c.plan.totals.table (tables_wanted f.asked)
  Goes maker old new c f (asks counts_heap) no_call (Some (answer.Granted (Heap lease memory))) = (c.settings.tunables.tunables.collector ≡ true) × AreSupported c.settings (memories_wanted f.asked) (images_wanted f.asked)
  Goes maker old new c f (asks counts_heap) no_call (Some (answer.Granted (HeapOver lease))) = c.settings.tunables.tunables.collector ≡ true
  Goes maker old new c f (asks untested) no_call (Some (answer.Refused e)) = Raises maker old new c f untested e
  Goes maker old new c f (asks seeks_stack) no_call (Some (answer.Refused e)) = Raises maker old new c f seeks_stack e
  Goes maker old new c f (asks tests_heap) no_call (Some (answer.Refused e)) = Raises maker old new c f tests_heap e
  Goes maker old new c f (asks (seeks_single n)) no_call (Some (answer.Refused e)) = Raises maker old new c f (seeks_single n) e × (n ≡ 0)
  Goes maker old new c f (asks (seeks_heap n)) no_call (Some (answer.Refused e)) = Raises maker old new c f (seeks_heap n) e × (n ≡ 0)
  Goes maker old new c f (tests_component info) counts_component None = component_refused c.settings info ≡ None
  Goes maker old new c f (tests_component info) no_call (Some (answer.Refused e)) = IsBroken (component_refused c.settings info) e
  Goes maker old new c f counts_component no_call (Some (answer.Granted Component)) = c.counters.component_instances < c.settings.max_component_instances
  Goes maker old new c f counts_component (refusing e) None = (e ≡ no_component_left c.settings) × (c.settings.max_component_instances ≤ c.counters.component_instances)
  Goes maker old new c f returning returning None = Unit {0}
  Goes maker old new c f returning no_call (Some answer.Returned) = Unit {0}
  Goes maker old new c f (refusing e) (refusing d) None = d ≡ e
  Goes maker old new c f (refusing e) no_call (Some (answer.Refused d)) = d ≡ e
  Goes maker old new c f purging purging None = Unit {0}
  Goes maker old new c f purging no_call (Some (answer.Purged n)) = Unit {0}
  Goes maker old new c f reserving releasing None = Unit {0}
  Goes maker old new c f reserving no_call (Some (answer.Refused e)) = e ≡ refusal.Memory
  Goes maker old new c f releasing releasing None = Unit {0}
  Goes maker old new c f releasing no_call (Some (answer.Released n)) = Unit {0}
  Goes maker old new c f _ _ _ = ⊥

  -- A step takes its call on so. What is asked for stays while it is under way.
  pub record GoesOn (maker : MakerTold) (old new : PartyTold) (c : PoolCore P H) (f : Frame P H) (a : After P H) : Type 0 where
    pub asked : is_idle a.frame.phase ≡ false → a.frame.asked ≡ f.asked
    pub way : Goes maker old new c f (stage_of f) (stage_of a.frame) a.outcome

-- What the steps of a call read: what is asked for, and the parts of the pool.
use Rattle.std.specs.Prelude.{◌≡◌, ℕ, ◌==◌, ◌<◌, List, [], ◌∷◌, length, filter, min, slice_index_or, slice_set, Bool, not, Option, Some, None, option_map, Result, if◌then◌else◌, nat_lt}
use Rattle.pool_alloc.specs.Imports.{TableType, MemoryDecl, MemoryType, ModuleInfo, Image, Slot, ShardState, fresh_shard, after_free, MemoryInModule, SlotKind, memory_kind, table_kind, stack_kind, heap_kind, LimiterError, Cell, unmapped, unknown, previously_used, CellState, HeapEntry, HeapMakeFault, part_at, cell_of_part, cell_place, home_of, queues_for, nth_shard_tried, nth_queue_tried, Allocator, SlotName, Plan, PoolPart, Queue, Queued, empty_queue}
use Rattle.pool_slots.specs.declared.part.PoolPart.TheVariants as part
use Rattle.pool_alloc.specs.declared.pool_core.PoolCore.{PoolCore}
use Rattle.pool_alloc.specs.declared.pool_core.Settings.{Settings}
use Rattle.pool_alloc.specs.declared.frame.Frame.{Frame}
use Rattle.pool_alloc.specs.declared.frame.Asked.{Asked}
use Rattle.pool_alloc.specs.declared.frame.Asked.TheVariants.{Module as module_asked, Memory as memory_asked, Table as table_asked, Stack as stack_asked, Heap as heap_asked, HeapOver as heap_over_asked}
use Rattle.pool_alloc.specs.declared.frame.FreedSlot.{FreedSlot}

-- What a step is told from outside the table: whether memory was wanting, whether a page call of the step failed, what
-- the slot or the local queue is after the step's page calls, and what the limiter and the maker of heaps answered.
pub record StepGiven (H : Type 0) : Type 0 where
  pub wants : Bool
  pub fault : Bool
  pub slot : Slot
  pub queue : Queue
  pub limiter : Result Bool LimiterError
  pub heap : Result H HeapMakeFault

-- A module of nothing.
abbrev pub no_module : ModuleInfo
no_module = record { memories = []; tables = []; state_bytes = 0; parts = [] }

-- The module that is asked for; one without objects where it is none.
abbrev pub info_wanted : Asked → ModuleInfo
info_wanted (module_asked m) = m.info
info_wanted _ = no_module

-- a memory of this type, without an image
abbrev pub plain_decl : MemoryType → MemoryDecl
plain_decl ty = record { ty = ty; image = None }

-- The memories that are asked for; a heap is asked for with one memory, unless it is asked for over one that there is.
abbrev pub memories_wanted : Asked → List MemoryDecl
memories_wanted (module_asked m) = m.info.memories
memories_wanted (memory_asked m) = plain_decl m.ty ∷ []
memories_wanted (heap_asked ty) = plain_decl ty ∷ []
memories_wanted _ = []

-- The images that were made of a module; none where they weren't.
abbrev pub images_made : Option (List (Option Image)) → List (Option Image)
images_made None = []
images_made (Some images) = images

-- The images of the memories that are asked for.
abbrev pub images_wanted : Asked → List (Option Image)
images_wanted (module_asked m) = images_made m.images
images_wanted (memory_asked m) = m.image ∷ []
images_wanted _ = []

-- The tables that are asked for.
abbrev pub tables_wanted : Asked → List TableType
tables_wanted (module_asked m) = m.info.tables
tables_wanted (table_asked ty) = ty ∷ []
tables_wanted _ = []

-- 1 where a stack is asked for.
abbrev pub stacks_wanted : Asked → ℕ
stacks_wanted stack_asked = 1
stacks_wanted _ = 0

-- 1 where a heap is asked for.
abbrev pub heaps_wanted : Asked → ℕ
heaps_wanted (heap_asked ty) = 1
heaps_wanted (heap_over_asked memory) = 1
heaps_wanted _ = 0

-- 1 where one memory or one table is asked for by itself.
abbrev pub singles_wanted : Asked → ℕ
singles_wanted (memory_asked m) = 1
singles_wanted (table_asked ty) = 1
singles_wanted _ = 0

-- How many memories a call keeps until all that it asks for is granted: one that is asked for by itself is granted at once.
abbrev pub memories_kept : Asked → ℕ
memories_kept (memory_asked m) = 0
memories_kept asked = length (memories_wanted asked)

-- How many tables it keeps, likewise.
abbrev pub tables_kept : Asked → ℕ
tables_kept (table_asked ty) = 0
tables_kept asked = length (tables_wanted asked)

-- Neither a stack nor a heap is asked for.
pub record IsForObjects (asked : Asked) : Type 0 where
  pub no_stack : stacks_wanted asked ≡ 0
  pub no_heap : heaps_wanted asked ≡ 0

-- No object is asked for by itself: an instance is asked for or given back, if anything is.
pub record IsForInstance (asked : Asked) : Type 0 where
  pub no_stack : stacks_wanted asked ≡ 0
  pub no_heap : heaps_wanted asked ≡ 0
  pub no_single : singles_wanted asked ≡ 0

-- a module is asked for
abbrev pub IsModule : Asked → Type 0
IsModule (module_asked m) = Unit {0}
IsModule _ = ⊥

-- A heap is asked for, with a memory of a type that makes sense, or over a memory that there is.
abbrev pub IsHeapAsked : Asked → Type 0
IsHeapAsked (heap_asked ty) = ty.page_size_log2 < 64
IsHeapAsked (heap_over_asked memory) = Unit {0}
IsHeapAsked _ = ⊥

-- A module, a memory or a heap is asked for, which have memories.
abbrev pub HasMemories : Asked → Type 0
HasMemories (module_asked m) = Unit {0}
HasMemories (memory_asked m) = Unit {0}
HasMemories (heap_asked ty) = Unit {0}
HasMemories _ = ⊥

-- A module or a table is asked for, which have tables.
abbrev pub HasTables : Asked → Type 0
HasTables (module_asked m) = Unit {0}
HasTables (table_asked ty) = Unit {0}
HasTables _ = ⊥

-- How many memory slots the pool has.
abbrev pub memory_slots : Plan → ℕ
memory_slots plan = plan.totals.memory

-- Through how many queues a search for a slot of a memory, a table or a stack goes.
abbrev pub queues_searched : Plan → ℕ
queues_searched plan = queues_for plan memory_kind

-- An allocator without slots, for a stripe that isn't there.
abbrev pub no_allocator : Allocator
no_allocator = record { kind = memory_kind; first_place = 0; shards = 0; slots_per_shard = 0; first = 0; step = 0; capacity = 0 }

-- The allocator of a stripe's memories.
abbrev pub stripe_allocator : Plan → ℕ → Allocator
stripe_allocator plan stripe = slice_index_or plan.memories stripe no_allocator

-- The allocator of slots of a kind: of memories that of a stripe; tables, stacks and heaps have one each.
abbrev pub allocator_of : Plan → SlotKind → ℕ → Allocator
allocator_of plan table_kind stripe = slice_index_or plan.tables 0 no_allocator
allocator_of plan stack_kind stripe = slice_index_or plan.stacks 0 no_allocator
allocator_of plan heap_kind stripe = slice_index_or plan.heaps 0 no_allocator
allocator_of plan _ stripe = stripe_allocator plan stripe

-- Of slots that wait to be freed, those that are at home in the shard at a place.
abbrev pub freed_of : Plan → ℕ → List FreedSlot → List FreedSlot
freed_of plan place slots = filter (λ x. (home_of plan x.name).place == place) slots

-- Of slots that wait to be freed, those that are at home in other shards.
abbrev pub freed_elsewhere : Plan → ℕ → List FreedSlot → List FreedSlot
freed_elsewhere plan place slots = filter (λ x. not ((home_of plan x.name).place == place)) slots

-- The place of the first shard for which a slot waits to be freed.
abbrev pub first_shard : Plan → List FreedSlot → ℕ
first_shard plan [] = 0
first_shard plan (x ∷ []) = (home_of plan x.name).place
first_shard plan (x ∷ y ∷ rest) = min ((home_of plan x.name).place) (first_shard plan (y ∷ rest))

-- A shard once these slots were freed in it, in order.
abbrev pub after_frees : Plan → List FreedSlot → ShardState → ShardState
after_frees plan [] shard = shard
after_frees plan (x ∷ rest) shard = after_frees plan rest (after_free (home_of plan x.name).local x.bytes shard)

-- The memory with this number of the module that is asked for, if that has a name, or the one to which a memory by itself may be affine.
abbrev pub wanted_of : Asked → ℕ → Option MemoryInModule
wanted_of (module_asked m) index = option_map (λ id. record { 0 = id; 1 = record { 0 = index } }) m.id
wanted_of (memory_asked m) index = m.affine
wanted_of _ index = None

-- For which memory of which module a slot is wanted; slots of other kinds are wanted for nothing in particular.
abbrev pub affine_of : SlotKind → Asked → ℕ → Option MemoryInModule
affine_of memory_kind asked index = wanted_of asked index
affine_of _ asked index = None

-- What is allocated after the memories: the heap, or tables.
abbrev pub kind_last : Asked → SlotKind
kind_last (heap_asked ty) = heap_kind
kind_last (heap_over_asked memory) = heap_kind
kind_last _ = table_kind

-- The kind of what is allocated next, by how many memories are granted so far.
abbrev pub kind_by : Asked → ℕ → SlotKind
kind_by stack_asked granted_so_far = stack_kind
kind_by asked granted_so_far = if nat_lt granted_so_far (length (memories_wanted asked)) then memory_kind else kind_last asked

-- What a slot's cell holds once it comes back, by its kind: a memory's slot known or unknown, another's region as it
-- is.
abbrev pub returned_as : SlotKind → Queued → Cell
returned_as memory_kind m = if m.known then previously_used m.slot else unknown m.slot
returned_as _ m = unmapped m.slot.region

-- What a slot's cell holds once it comes back from a queue.
abbrev pub cell_returned : Queued → Cell
cell_returned m = returned_as m.name.kind m

module _ {P H : Type 0} where
  -- The part is a queue.
  abbrev pub IsQueuePart : PoolPart P H → Type 0
  IsQueuePart (part.Queue q) = Unit {0}
  IsQueuePart _ = ⊥

  -- The part is the list of heaps.
  abbrev pub IsHeapsPart : PoolPart P H → Type 0
  IsHeapsPart (part.Heaps heaps) = Unit {0}
  IsHeapsPart _ = ⊥

  -- The shard that a part is; one without slots where it is none.
  abbrev pub shard_in : PoolPart P H → ShardState
  shard_in (part.Shard s) = s
  shard_in _ = fresh_shard memory_kind 0 1 0 0

  -- The queue that a part is; an empty one without room where it is none.
  abbrev pub queue_in : PoolPart P H → Queue
  queue_in (part.Queue q) = q
  queue_in _ = empty_queue 0 0

  -- The list of heaps that a part is; an empty one where it is none.
  abbrev pub heaps_in : PoolPart P H → List (HeapEntry H)
  heaps_in (part.Heaps heaps) = heaps
  heaps_in _ = []

  -- the cell that a part is, in another state
  abbrev pub part_holding : CellState → PoolPart P H → PoolPart P H
  part_holding cell (part.Memory old) = part.Memory cell
  part_holding cell (part.Table old) = part.Table cell
  part_holding cell (part.Stack old) = part.Stack cell
  part_holding cell x = x

  -- The pool with these settings and this plan.
  abbrev pub under : Settings → Plan → PoolCore P H → PoolCore P H
  under s plan c = record c { settings = s; plan = plan }

  -- The shard at a place of the pool.
  abbrev pub shard_at : ℕ → PoolCore P H → ShardState
  shard_at place c = shard_in (part_at place c.parts)

  -- The cell of a slot, at the place where the plan has it.
  abbrev pub cell_named : SlotName → PoolCore P H → CellState
  cell_named name c = cell_of_part (part_at (cell_place c.plan name) c.parts)

  -- The queue at a place of the pool.
  abbrev pub queue_at : ℕ → PoolCore P H → Queue
  queue_at place c = queue_in (part_at place c.parts)

  -- The pool's list of heaps.
  abbrev pub heaps_at : PoolCore P H → List (HeapEntry H)
  heaps_at c = heaps_in (part_at c.plan.heap_list c.parts)

  -- The pool with another part at a place.
  abbrev pub with_part : ℕ → PoolPart P H → PoolCore P H → PoolCore P H
  with_part place x c = record c { parts = slice_set c.parts place x }

  -- The pool with another state of the shard at a place.
  abbrev pub with_shard : ℕ → ShardState → PoolCore P H → PoolCore P H
  with_shard place shard c = with_part place (part.Shard shard) c

  -- The pool with another state of the cell of a slot.
  abbrev pub with_cell : SlotName → CellState → PoolCore P H → PoolCore P H
  with_cell name cell c = with_part (cell_place c.plan name) (part_holding cell (part_at (cell_place c.plan name) c.parts)) c

  -- The pool with another state of the queue at a place.
  abbrev pub with_queue : ℕ → Queue → PoolCore P H → PoolCore P H
  with_queue place queue c = with_part place (part.Queue queue) c

  -- The pool with another state of its list of heaps.
  abbrev pub with_heaps : List (HeapEntry H) → PoolCore P H → PoolCore P H
  with_heaps heaps c = with_part c.plan.heap_list (part.Heaps heaps) c

  -- The pool with another number of its key counter.
  abbrev pub counting_keys : ℕ → PoolCore P H → PoolCore P H
  counting_keys n c = record c { counters = record c.counters { key = n } }

  -- The pool with another count of instances.
  abbrev pub counting_instances : ℕ → PoolCore P H → PoolCore P H
  counting_instances n c = record c { counters = record c.counters { core_instances = n } }

  -- The pool with another count of components.
  abbrev pub counting_components : ℕ → PoolCore P H → PoolCore P H
  counting_components n c = record c { counters = record c.counters { component_instances = n } }

  -- The pool with another count of memories.
  abbrev pub counting_memories : ℕ → PoolCore P H → PoolCore P H
  counting_memories n c = record c { counters = record c.counters { memories = n } }

  -- The pool with another count of tables.
  abbrev pub counting_tables : ℕ → PoolCore P H → PoolCore P H
  counting_tables n c = record c { counters = record c.counters { tables = n } }

  -- The pool with another count of stacks.
  abbrev pub counting_stacks : ℕ → PoolCore P H → PoolCore P H
  counting_stacks n c = record c { counters = record c.counters { stacks = n } }

  -- The pool with another count of heaps.
  abbrev pub counting_heaps : ℕ → PoolCore P H → PoolCore P H
  counting_heaps n c = record c { counters = record c.counters { gc_heaps = n } }

  -- The kind of what a frame's call allocates next.
  abbrev pub kind_next : Frame P H → SlotKind
  kind_next f = kind_by f.asked (length f.objects.memories.items)

  -- The slot with this number, of the kind that is allocated next.
  abbrev pub slot_next : ℕ → Frame P H → SlotName
  slot_next k f = record { kind = kind_next f; slot = k }

  -- For which memory of which module the next slot is wanted.
  abbrev pub wanted : Frame P H → Option MemoryInModule
  wanted f = affine_of (kind_next f) f.asked (length f.objects.memories.items)

  -- The image with which the next memory begins, if it has one.
  abbrev pub image_wanted : Frame P H → Option Image
  image_wanted f = slice_index_or (images_wanted f.asked) (length f.objects.memories.items) None

  -- through how many queues the search for what is allocated goes
  abbrev pub queues_next : Plan → Frame P H → ℕ
  queues_next plan f = queues_for plan (kind_next f)

  -- the allocator of what is allocated: of a memory, that of the party's stripe
  abbrev pub allocator_for : Plan → Frame P H → Allocator
  allocator_for plan f = allocator_of plan (kind_next f) f.stripe

  -- The place of the shard that is so many after the party's home one.
  abbrev pub shard_tried : ℕ → Plan → Frame P H → ℕ
  shard_tried tried plan f = nth_shard_tried (allocator_for plan f) f.home tried

  -- The place of the queue that is so many after the party's home one.
  abbrev pub queue_tried : ℕ → Plan → Frame P H → ℕ
  queue_tried queues plan f = nth_queue_tried plan f.home queues

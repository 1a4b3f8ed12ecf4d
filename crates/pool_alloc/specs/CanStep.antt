-- Just what the code of each step needs of the pool's parts and of the frame.
use Rattle.std.specs.Prelude.{◌≡◌, ℕ, ◌+◌, ◌^◌, ◌<◌, ◌≤◌, ◌%◌, List, [], length, slice_get, All, false, Option, None, IsSome, IfSome, true, Some}
use Rattle.pool_alloc.specs.Imports.{count, rounded_up, Told, minimum_byte_size, refused_limits, MemoryDecl, Image, Slot, IsClean, IsFresh, FitsInto, IsRangeOf, ShardState, use_of, memory_kind, stack_kind, slot_of, CanHold, is_taken, unmapped, IsCleanOnceUsed, stripe_colour, CellState, IsAwaited, plain_slot, Queue, Queued, first_of_kind, HasOwners, IsSpareOf, Plan, cell_of, cell_place, home_of, IsPlacedAllocator, SlotName, TableType, room_of, IsRoom, type_maximum, Allocator, CanMerge, IsAt, IsShardPart, IsCellPart, IsHere, IsOut, IsPlain, ImageSlot, Unknown, PreviouslyUsed}
use Rattle.pool_alloc.specs.Freeing.{AreUsedInTurn, HasHome, CanBeFreed}
use Rattle.pool_alloc.specs.TableLeases.{LeasedTable, table_slot}
use Rattle.pool_alloc.specs.TableSteps.{IsInRegion, CanQueue, table_bytes}
use Rattle.pool_alloc.specs.Modules.{HasImages, IfAllocated, IfTable}
use Rattle.pool_alloc.specs.Reserved.{Reserved}
use Rattle.pool_alloc.specs.StepTable.{FlushStep, run, zero, put, free, flush_step}
use Rattle.pool_alloc.specs.StepReads.{cell_returned, HasMemories, HasTables, IsHeapAsked, IsHeapsPart, heaps_at, memories_wanted, tables_wanted, image_wanted, IsQueuePart, allocator_for, queues_searched, shard_at, cell_named, queue_at, freed_of, first_shard, shard_tried, queue_tried}
use Rattle.pool_alloc.specs.declared.pool_core.PoolCore.{PoolCore}
use Rattle.pool_alloc.specs.declared.pool_core.Settings.{Settings}
use Rattle.pool_alloc.specs.declared.frame.Frame.{Frame}
use Rattle.pool_alloc.specs.declared.frame.FreedSlot.{FreedSlot}
use Rattle.pool_alloc.specs.declared.frame.Object.{Object}
use Rattle.pool_alloc.specs.declared.frame.Object.TheVariants.{Memory, Table, Stack}
use Rattle.pool_alloc.specs.StackLeases.{LeasedStack, stack_slot}
use Rattle.pool_alloc.specs.declared.frame.Asked.{Asked}
use Rattle.pool_alloc.specs.declared.frame.Asked.TheVariants.{Memory as memory_asked, Table as table_asked, HeapOver as heap_over_asked}
use Rattle.pool_alloc.specs.declared.leases.instance.InstanceLease.{InstanceLease}
use Rattle.pool_alloc.specs.declared.frame.Phase.{Phase}
use Rattle.pool_alloc.specs.declared.frame.Phase.TheVariants.{Idle, Key, Validate, TestStack, TestHeap, CountInstance, Pick, TakeQueue, TakeRegion, Empty, Instantiate, MakeMemory, MakeTable, CountObject, TakeHeap, MakeHeap, CountHeap, PutNoHeap, PutBack, FreeOne, UncountObject, UncountHeap, PutHeap, FreeHeap, Reset, Merge, Flush, UncountInstance, ValidateComponent, CountComponent, UncountComponent, Purge, Release}
use Rattle.pool_alloc.specs.Purges.{has_turns, purged_stripe}
use Rattle.pool_alloc.specs.Releases.{released_stripe, nth_taken}
use Rattle.pool_alloc.specs.declared.purge.PurgeCursor.{PurgeCursor}
use Rattle.pool_alloc.specs.declared.purge.PurgeStep.{PurgeStep}
use Rattle.pool_alloc.specs.declared.purge.PurgeStep.TheVariants as purging_step
use Rattle.pool_alloc.specs.declared.release.ReleaseCursor.{ReleaseCursor}
use Rattle.pool_alloc.specs.declared.release.ReleaseStep.{ReleaseStep}
use Rattle.pool_alloc.specs.declared.release.ReleaseStep.TheVariants as releasing_step

-- the place of a slot's cell, that of a shard that is tried, and that of a queue are numbers that the code can compute
abbrev pub CanPlace : Plan → SlotName → Type 0
CanPlace plan name = cell_place plan name < 2 ^ 32

-- the plan has the allocators of a stripe's memories, of tables, of stacks and of heaps
pub record HasAllocators (plan : Plan) (stripe : ℕ) : Type 0 where
  pub memories : stripe < length plan.memories
  pub tables : 0 < length plan.tables
  pub stacks : 0 < length plan.stacks
  pub heaps : 0 < length plan.heaps

-- The allocator has a shard so many after the home one, and the numbers of its places fit 32 bits.
pub record CanTryShard (plan : Plan) (a : Allocator) (tried : ℕ) : Type 0 where
  pub inside : tried < a.shards
  pub placed : IsPlacedAllocator a

-- There is a queue to try, and the numbers of the queues' places fit 32 bits.
pub record CanTryQueue (plan : Plan) : Type 0 where
  pub some : 0 < plan.queues
  pub few : queues_searched plan < 2 ^ 32
  pub placed : plan.first_queue + plan.queues ≤ 2 ^ 32

-- the sizes of a module's memories can be computed
abbrev pub CanValidate : List MemoryDecl → Type 0
CanValidate decls = (k : ℕ) → IfSome (slice_get decls k) (λ decl. decl.ty.page_size_log2 < 64)

-- an image slot of memory slot i, in the colour of its stripe, can be made of the region
pub record CanBeImage (s : Settings) (i : ℕ) (region : Told) : Type 0 where
  pub stripes : (0 < s.num_stripes) × (s.num_stripes < 256)
  pub fresh : IsFresh (count s.page 0) (count s.page 0) s.max_memory_size (stripe_colour s.num_stripes i) region

-- What is made of a region that lies in its cell as it was made, or that is a table's or a stack's, can be made: an image slot
-- of a memory's, and a stack of a stack's.
pub record CanUnmap (s : Settings) (name : SlotName) (region : Told) : Type 0 where
  pub image : name.kind ≡ memory_kind → CanBeImage s name.slot region
  pub plain : name.kind ≡ stack_kind → IsPlain (plain_slot s.page region)

-- the region of a slot lies in the cell
pub record CanTakeRegion (s : Settings) (name : SlotName) (cell : CellState) : Type 0 where
  pub there : is_taken cell.holds ≡ false
  pub fresh : (region : Told) → cell.holds ≡ unmapped region → CanUnmap s name region

-- a memory of the module or of the heap, or the one that is asked for, is the next one
pub record HasNext (call : Asked) (granted : ℕ) : Type 0 where
  pub asked : HasMemories call
  pub images : HasImages call
  pub small : granted < 2 ^ 32
  pub more : granted < length (memories_wanted call)

-- the memory and its image fit the slot
pub record CanBegin (held : Slot) (image : Option Image) (decl : MemoryDecl) : Type 0 where
  pub page_log2 : decl.ty.page_size_log2 < 64
  pub minimum : minimum_byte_size decl.ty ≤ held.static_size
  pub bounded : held.static_size < 2 ^ 64
  pub image_fits : IfSome image (FitsInto held.region.page (minimum_byte_size decl.ty))

-- the slot, in use, holds the memory
pub record CanMake (s : Settings) (held : Slot) (decl : MemoryDecl) : Type 0 where
  pub page_log2 : decl.ty.page_size_log2 < 64
  pub limits : refused_limits decl.ty.limits ≡ None
  pub slot : minimum_byte_size decl.ty < 2 ^ 64 → CanHold (minimum_byte_size decl.ty) held
  pub room : rounded_up held.region.page s.max_memory_size ≤ held.static_size

-- a table of the module, or the one that is asked for, is the next one
pub record HasTableNext (call : Asked) (granted : ℕ) : Type 0 where
  pub asked : HasTables call
  pub more : granted < length (tables_wanted call)

-- There is room for one memory more among those that were granted. One that is asked for by itself needs none.
abbrev pub CanKeepMemory : {P : Type 0} → Asked → InstanceLease P → Type 0
CanKeepMemory (memory_asked m) objects = Unit {0}
CanKeepMemory _ objects = length objects.memories.items < objects.memories.room

-- There is room for one table more, likewise.
abbrev pub CanKeepTable : {P : Type 0} → Asked → InstanceLease P → Type 0
CanKeepTable (table_asked ty) objects = Unit {0}
CanKeepTable _ objects = length objects.tables.items < objects.tables.room

-- The memory of the heap was granted. A heap over one that there is needs none.
abbrev pub CanTakeMemory : {P : Type 0} → Asked → InstanceLease P → Type 0
CanTakeMemory (heap_over_asked memory) objects = Unit {0}
CanTakeMemory _ objects = 0 < length objects.memories.items

-- the region has room for the table
pub record CanMakeTable (s : Settings) (region : Told) (ty : TableType) : Type 0 where
  pub limits : ty.limits.min ≤ room_of ty (table_bytes s ty) → ty.limits.min ≤ type_maximum ty
  pub inside : table_bytes s ty ≤ region.len
  pub zeros : IfSome region.contents (IsRoom region.page region.len 0 (table_bytes s ty))

-- a slot of a shard is used
pub record CanFreeOne (name : SlotName) (plan : Plan) (shard : ShardState) : Type 0 where
  pub home : HasHome plan name
  pub used : IsSome (use_of shard (home_of plan name).local.0)

-- the local queue is empty, and has room for a slot and the ranges that its reset may leave
pub record CanReset (s : Settings) (held : Slot) (local : Queue) : Type 0 where
  pub page : s.keep_resident.page ≡ held.region.page
  pub kept : s.keep_resident.bytes ≤ 2 ^ 32
  pub no_ranges : local.ranges ≡ []
  pub no_slots : local.slots ≡ []
  pub owners : HasOwners local
  pub range_room : 8 ≤ local.range_room
  pub slot_room : 0 < local.slot_room

-- the table lies in its region, and the local queue has room for its slot
pub record CanResetTable (s : Settings) (lease : LeasedTable) (local : Queue) : Type 0 where
  pub page : s.table_keep_resident.page ≡ s.page
  pub region : (region : Told) × IsInRegion s.page lease region
  pub room : CanQueue (table_slot lease.index) local

-- The stack keeps whole pages resident, and the local queue has room for its slot.
pub record CanResetStack (s : Settings) (lease : LeasedStack) (local : Queue) : Type 0 where
  pub page : s.stack_keep_resident.page ≡ lease.stack.slot.region.page
  pub plain : IsPlain lease.stack.slot
  pub few : lease.stack.slot.static_size ≤ 2 ^ 32
  pub room : CanQueue (stack_slot lease.stack.index) local

-- An object can be reset into the local queue, by what it is.
abbrev pub CanResetObject : {P : Type 0} → Settings → Object P → Queue → Type 0
CanResetObject s (Memory lease) local = CanReset s (slot_of lease.memory) local
CanResetObject s (Table lease) local = CanResetTable s lease local
CanResetObject s (Stack lease) local = CanResetStack s lease local

-- the queue has no ranges, and there is room among the slots to be freed
pub record CanPutNext (local : Queue) (freed : Reserved FreedSlot) : Type 0 where
  pub no_ranges : local.ranges ≡ []
  pub room : length freed.items < freed.room

-- the slots are used in their shard
pub record CanFree (plan : Plan) (freed : List FreedSlot) (shard : ShardState) : Type 0 where
  pub used : AreUsedInTurn plan (freed_of plan (first_shard plan freed) freed) shard
  pub each : All (CanBeFreed plan) freed

-- a purge can go on behind a memory, and behind a turn
pub record CanGoOn (s : Settings) (plan : Plan) (p : PurgeCursor) : Type 0 where
  pub stripe : p.stripe < length plan.memories
  pub few : length plan.memories < 2 ^ 32
  pub memory : p.memory < s.max_memories_per_module
  pub turn : p.turn < (purged_stripe plan p).capacity

-- a release can go on behind a stripe
pub record CanEndStripe (plan : Plan) (r : ReleaseCursor) : Type 0 where
  pub stripe : r.stripe < length plan.memories
  pub few : length plan.memories < 2 ^ 32

-- the whole region of a slot can be decommitted
pub record CanDecommit (s : Settings) (held : Slot) : Type 0 where
  pub whole : s.max_memory_size % s.page ≡ 0
  pub bounded : s.max_memory_size < 2 ^ 64
  pub range : IsRangeOf (count s.page 0) (count s.page s.max_memory_size) held

module _ {P H : Type 0} where
  -- just the next part of a flush
  abbrev pub CanFlush : FlushStep → PoolCore P H → Frame P H → Type 0
  CanFlush run c f = (0 < length f.local.ranges) × HasOwners f.local
  CanFlush (zero kind) c f = f.local.ranges ≡ []
  CanFlush (put kind) c f = ((m : Queued) → first_of_kind kind f.local.slots ≡ Some m → CanPlace c.plan m.name × IsAt IsCellPart (cell_place c.plan m.name) c.parts × IsAwaited (cell_returned m) (cell_named m.name c)) × CanPutNext f.local f.freed
  CanFlush free c f = IsAt IsShardPart (first_shard c.plan f.freed.items) c.parts × CanFree c.plan f.freed.items (shard_at (first_shard c.plan f.freed.items) c)

  -- A slot's cell is there, and a region lies in it.
  abbrev pub CanTakeOf : SlotName → PoolCore P H → Type 0
  CanTakeOf name c = CanPlace c.plan name × IsAt IsCellPart (cell_place c.plan name) c.parts × (is_taken (cell_named name c).holds ≡ false)

  -- This can be put into the cell of a slot: it is the slot's region, and the cell is empty.
  abbrev pub CanPutOf : SlotName → ImageSlot P → PoolCore P H → Type 0
  CanPutOf name held c = CanPlace c.plan name × IsAt IsCellPart (cell_place c.plan name) c.parts × IsCleanOnceUsed (cell_of held) × IsAwaited (cell_of held) (cell_named name c)

  -- The slot can be freed in the shard where it is at home.
  abbrev pub CanFreeOf : SlotName → PoolCore P H → Type 0
  CanFreeOf name c = IsAt IsShardPart (home_of c.plan name).place c.parts × CanFreeOne name c.plan (shard_at (home_of c.plan name).place c)

  -- The list of heaps has this slot, and its heap can be taken.
  pub record CanTakeHeapOf (slot : ℕ) (c : PoolCore P H) : Type 0 where
    pub list : IsAt IsHeapsPart c.plan.heap_list c.parts
    pub inside : slot < length (heaps_at c)
    pub here : IsHere slot (heaps_at c)

  -- A heap can come back to this slot, which is out.
  pub record CanPutHeapOf (slot : ℕ) (c : PoolCore P H) : Type 0 where
    pub list : IsAt IsHeapsPart c.plan.heap_list c.parts
    pub out : IsOut slot (heaps_at c)

  -- a purge can pick from the shard of its stripe with this number
  pub record CanPickAffine (c : PoolCore P H) (p : PurgeCursor) (j : ℕ) : Type 0 where
    pub going : CanGoOn c.settings c.plan p
    pub tried : j < (purged_stripe c.plan p).shards
    pub placed : IsPlacedAllocator (purged_stripe c.plan p)
    pub shard : IsAt IsShardPart ((purged_stripe c.plan p).first_place + j) c.parts

module _ {P : Type 0} where
  -- what a slot holds can be forgotten
  abbrev pub CanForget : ImageSlot P → Type 0
  CanForget (PreviouslyUsed held) = IsClean held
  CanForget _ = Unit {0}

module _ {P H : Type 0} where
  -- What the next step of a purge needs of the pool's parts.
  abbrev pub CanPurge : PurgeCursor → PurgeStep P → PoolCore P H → Type 0
  CanPurge p (purging_step.Pick tried) c = has_turns c.settings.max_memories_per_module c.plan ≡ true → CanPickAffine c p tried
  CanPurge p (purging_step.TakeRegion name) c = CanTakeOf name c
  CanPurge p (purging_step.Forget at held) c = CanForget held × (is_taken (cell_of held) ≡ false)
  CanPurge p (purging_step.PutRegion at held) c = CanPutOf at.name held c
  CanPurge p (purging_step.Free name) c = CanGoOn c.settings c.plan p × CanFreeOf name c

  -- a release can take the warm slots of a shard
  pub record CanTakeWarm (c : PoolCore P H) (r : ReleaseCursor) (j : ℕ) : Type 0 where
    pub going : CanEndStripe c.plan r
    pub inside : j < (released_stripe c.plan r).shards
    pub placed : IsPlacedAllocator (released_stripe c.plan r)
    pub shard : IsAt IsShardPart ((released_stripe c.plan r).first_place + j) c.parts
    pub local : length r.local.items + length (shard_at ((released_stripe c.plan r).first_place + j) c).warm ≤ r.local.room
    pub taken : length r.taken.items + length (shard_at ((released_stripe c.plan r).first_place + j) c).warm ≤ r.taken.room

module _ {P : Type 0} where
  -- what a slot holds can be decommitted
  abbrev pub CanDrain : Settings → ImageSlot P → Type 0
  CanDrain s (Unknown held) = CanDecommit s held
  CanDrain s (PreviouslyUsed held) = CanDecommit s held × IsClean held
  CanDrain s _ = Unit {0}

module _ {P H : Type 0} where
  -- What the next step of a release needs of the pool's parts.
  abbrev pub CanRelease : ReleaseStep P → PoolCore P H → Type 0
  CanRelease releasing_step.Reserve c = length c.plan.memories < 2 ^ 32
  CanRelease (releasing_step.TakeWarm r j) c = CanTakeWarm c r j
  CanRelease (releasing_step.TakeRegion r k) c = (k < length r.taken.items) × CanTakeOf (nth_taken r k).name c
  CanRelease (releasing_step.Decommit r k at held) c = CanDrain c.settings held × (is_taken (cell_of held) ≡ false)
  CanRelease (releasing_step.PutRegion r k at held) c = CanEndStripe c.plan r × (k < length r.taken.items) × CanPutOf at.name held c
  CanRelease (releasing_step.Free r x) c = CanEndStripe c.plan r × (x.bytes ≤ 2 ^ 32) × CanFreeOf x.name c

  -- What the code of a step needs, in each phase.
  abbrev pub CanStepAt : Phase P H → PoolCore P H → Frame P H → Type 0
  CanStepAt Idle c f = Unit {0}
  CanStepAt Key c f = (0 < length c.plan.memories) × (length c.plan.memories < 2 ^ 32)
  CanStepAt Validate c f = CanValidate (memories_wanted f.asked)
  CanStepAt TestStack c f = Unit {0}
  CanStepAt TestHeap c f = IsHeapAsked f.asked
  CanStepAt CountInstance c f = c.counters.core_instances + 1 < 2 ^ 64
  CanStepAt (Pick tried) c f = HasAllocators c.plan f.stripe × CanTryShard c.plan (allocator_for c.plan f) tried × IsAt IsShardPart (shard_tried tried c.plan f) c.parts × (length f.objects.memories.items < 2 ^ 32)
  CanStepAt TakeQueue c f = (f.queues < queues_searched c.plan) × HasAllocators c.plan f.stripe × CanTryQueue c.plan × IsAt IsQueuePart (queue_tried f.queues c.plan f) c.parts × IsSpareOf (queue_at (queue_tried f.queues c.plan f) c) f.local
  CanStepAt (TakeRegion name) c f = CanPlace c.plan name × IsAt IsCellPart (cell_place c.plan name) c.parts × CanTakeRegion c.settings name (cell_named name c)
  CanStepAt (Empty at held) c f = Unit {0}
  CanStepAt (Instantiate at held) c f = HasNext f.asked (length f.objects.memories.items) × IsClean held × IfAllocated f (CanBegin held (image_wanted f))
  CanStepAt (MakeMemory at held) c f = HasNext f.asked (length f.objects.memories.items) × IfAllocated f (CanMake c.settings held)
  CanStepAt (MakeTable at region) c f = HasTableNext f.asked (length f.objects.tables.items) × IfTable f (CanMakeTable c.settings region)
  CanStepAt (CountObject (Memory lease)) c f = (c.counters.memories + 1 < 2 ^ 64) × CanKeepMemory f.asked f.objects
  CanStepAt (CountObject (Table lease)) c f = (c.counters.tables + 1 < 2 ^ 64) × CanKeepTable f.asked f.objects
  CanStepAt (CountObject (Stack lease)) c f = c.counters.stacks + 1 < 2 ^ 64
  CanStepAt (PutBack at held) c f = CanPutOf at.name held c
  CanStepAt (TakeHeap name) c f = CanTakeHeapOf name.slot c
  CanStepAt (MakeHeap at) c f = Unit {0}
  CanStepAt (CountHeap lease) c f = (c.counters.gc_heaps + 1 < 2 ^ 64) × CanTakeMemory f.asked f.objects
  CanStepAt (PutNoHeap at) c f = CanPutHeapOf at.name.slot c
  CanStepAt (FreeOne name) c f = IsAt IsShardPart (home_of c.plan name).place c.parts × CanFreeOne name c.plan (shard_at (home_of c.plan name).place c)
  CanStepAt (UncountObject (Memory lease)) c f = 0 < c.counters.memories
  CanStepAt (UncountObject (Table lease)) c f = 0 < c.counters.tables
  CanStepAt (UncountObject (Stack lease)) c f = 0 < c.counters.stacks
  CanStepAt (UncountHeap lease memory) c f = 0 < c.counters.gc_heaps
  CanStepAt (PutHeap lease memory) c f = CanPutHeapOf lease.index c
  CanStepAt (FreeHeap name memory) c f = CanFreeOf name c
  CanStepAt (Reset held) c f = CanResetObject c.settings held f.local
  CanStepAt Merge c f = CanTryQueue c.plan × IsAt IsQueuePart (queue_tried 0 c.plan f) c.parts × CanMerge (queue_at (queue_tried 0 c.plan f) c) f.local
  CanStepAt Flush c f = CanFlush (flush_step f.local f.freed.items) c f
  CanStepAt UncountInstance c f = 0 < c.counters.core_instances
  CanStepAt (ValidateComponent info) c f = Unit {0}
  CanStepAt CountComponent c f = c.counters.component_instances + 1 < 2 ^ 64
  CanStepAt UncountComponent c f = 0 < c.counters.component_instances
  CanStepAt (Purge p step) c f = CanPurge p step c
  CanStepAt (Release step) c f = CanRelease step c

-- What holds of the pool's parts, and of a party's frame, between steps.
use Rattle.std.specs.Prelude.{◌≡◌, ℕ, ◌+◌, ◌*◌, ◌%◌, ◌^◌, ◌<◌, ◌≤◌, List, [], length, slice_get, slice_index_or, All, Bool, false, true, Option, None, IsSome, IfSome, ◌⊎◌, ◌-◌, drop}
use Rattle.pool_alloc.specs.Imports.{AllByRecursion, IsPageSize, count, rounded_up, MakerTold, minimum_byte_size, refused_limits, MemoryDecl, Image, Slot, IsClean, IsBegun, FitsInto, memory_kind, table_kind, stack_kind, heap_kind, MemoryState, image_slot_of, maximum_asked, CanHold, static_capacity, Cell, IsCell, IsSlotOf, is_taken, coloured_region, stripe_colour, cell_of, of_kind, RegionNumbers, SlotName, SlotKind, CellState, IsShardOf, part_at, Role, shard_role, cell_role, queue_role, heaps_role, role_at, IsPlacedAllocator, IsPlanned, Allocator, Plan, PoolPart, Queue, Queued, HasOwners, IsGivenBack, IsQueue, owner, Told, TableType, QueuedRange}
use Rattle.pool_alloc.specs.Objects.{objects_in, objects_wanted}
use Rattle.pool_alloc.specs.declared.frame.Object.{Object}
use Rattle.pool_alloc.specs.declared.frame.Object.TheVariants.{Memory, Table, Stack}
use Rattle.pool_alloc.specs.declared.leases.instance.InstanceLease.{InstanceLease}
use Rattle.pool_slots.specs.declared.part.PoolPart.TheVariants as part
use Rattle.pool_alloc.specs.Reserved.{Reserved}
use Rattle.pool_alloc.specs.HeapLeases.{IsHeapLease, heap_numbers, memory_under}
use Rattle.pool_alloc.specs.Leases.{Lease, IsUsable}
use Rattle.pool_alloc.specs.PoolStacks.{IsInStackCell, IsNewStack, IsQueuedStack, IsStackLease}
use Rattle.pool_alloc.specs.PoolTables.{IsPoolTable, IsInTableCell, IsTableRegion, IsTableLease, IsBegunTable}
use Rattle.pool_alloc.specs.Modules.{HasImages, IfAllocated, IfTable}
use Rattle.pool_alloc.specs.RangeRuns.{IsGrouped}
use Rattle.pool_alloc.specs.Turns.{is_granting, is_flushed}
use Rattle.pool_alloc.specs.StepReads.{memories_wanted, images_wanted, image_wanted, memory_slots, queues_searched, allocator_for, tables_wanted, heaps_wanted, singles_wanted, memories_kept, tables_kept, IsForObjects, IsForInstance, IsHeapAsked, kind_next, IsModule}
use Rattle.pool_alloc.specs.Places.{right_to, region_of, Weight, kept_count, away_count, away_weight, frame_count, frame_weight}
use Rattle.pool_alloc.specs.declared.pool_core.PoolCore.{PoolCore}
use Rattle.pool_alloc.specs.declared.pool_core.Settings.{Settings}
use Rattle.pool_alloc.specs.declared.frame.Ending.{Ending}
use Rattle.pool_alloc.specs.declared.frame.Ending.TheVariants.{Granted as granted, Returned as returned, Refused as refused}
use Rattle.pool_alloc.specs.declared.frame.Frame.{Frame}
use Rattle.pool_alloc.specs.declared.frame.Asked.{Asked}
use Rattle.pool_alloc.specs.declared.frame.Asked.TheVariants.{Stack as stack_asked, Heap as heap_asked, HeapOver as heap_over_asked}
use Rattle.pool_alloc.specs.declared.frame.FreedSlot.{FreedSlot}
use Rattle.pool_alloc.specs.declared.frame.Phase.{Phase}
use Rattle.pool_alloc.specs.declared.frame.Phase.TheVariants.{Idle, Key, Validate, TestStack, TestHeap, CountInstance, Pick, TakeQueue, TakeRegion, Empty, Instantiate, MakeMemory, MakeTable, CountObject, TakeHeap, MakeHeap, CountHeap, PutNoHeap, PutBack, FreeOne, UncountObject, UncountHeap, PutHeap, FreeHeap, Reset, Merge, Flush, UncountInstance, ValidateComponent, CountComponent, UncountComponent, Purge, Release}
use Rattle.pool_alloc.specs.Purges.{purged_stripe}
use Rattle.pool_alloc.specs.Releases.{slots_in, released_stripe, nth_taken}
use Rattle.pool_alloc.specs.declared.purge.PurgeCursor.{PurgeCursor}
use Rattle.pool_alloc.specs.declared.purge.PurgeStep.{PurgeStep}
use Rattle.pool_alloc.specs.declared.purge.PurgeStep.TheVariants as purging_step
use Rattle.pool_alloc.specs.declared.release.ReleaseCursor.{ReleaseCursor}
use Rattle.pool_alloc.specs.declared.release.ReleaseStep.{ReleaseStep}
use Rattle.pool_alloc.specs.declared.release.ReleaseStep.TheVariants as releasing_step

-- the settings make sense
pub record IsSettings (s : Settings) : Type 0 where
  pub page : IsPageSize s.page
  pub stripes : (0 < s.num_stripes) × (s.num_stripes < 256)
  pub keep_page : s.keep_resident.page ≡ s.page
  pub kept : s.keep_resident.bytes ≤ 2 ^ 32
  pub whole : s.max_memory_size % s.page ≡ 0
  pub bounded : s.max_memory_size + s.page ≤ 2 ^ 64
  pub batch : (1 ≤ s.batch) × (s.batch ≤ 4096)
  pub memories : s.max_memories_per_module < 2 ^ 32
  pub tables : s.max_tables_per_module < 2 ^ 32
  pub table_keep_page : s.table_keep_resident.page ≡ s.page
  pub table_kept : s.table_keep_resident.bytes % s.page ≡ 0
  pub table_whole : s.table_slot % s.page ≡ 0
  pub table_few : s.table_slot ≤ 2 ^ 32
  pub stack_keep_page : s.stack_keep_resident.page ≡ s.page
  pub stack_kept : s.stack_keep_resident.bytes % s.page ≡ 0
  pub stack_whole : s.stack_size % s.page ≡ 0
  pub stack_few : s.stack_size ≤ 2 ^ 32

-- slots of this kind have regions, which lie in cells
abbrev pub HasCells : SlotKind → Type 0
HasCells memory_kind = Unit {0}
HasCells table_kind = Unit {0}
HasCells stack_kind = Unit {0}
HasCells heap_kind = ⊥

-- the allocator of a stripe, of tables, of stacks or of heaps has shards, whose places are numbers of 32 bits
pub record IsStripe (a : Allocator) : Type 0 where
  pub some : 0 < a.shards
  pub placed : IsPlacedAllocator a

-- The plan is right for a pool with so many places. It has stripes, each with shards, and with slots where there are any; shards
-- of tables, of stacks and of heaps; and queues that all parties share.
pub record IsPoolPlan (plan : Plan) (places : ℕ) : Type 0 where
  pub planned : IsPlanned plan places
  pub small : places < 2 ^ 32
  pub stripes : 0 < length plan.memories
  pub few : length plan.memories < 2 ^ 32
  pub filled : 0 < plan.totals.memory → AllByRecursion (λ a. 0 < a.capacity) plan.memories
  pub shards : AllByRecursion IsStripe plan.memories
  pub tables : 0 < length plan.tables
  pub table_shards : AllByRecursion IsStripe plan.tables
  pub stacks : 0 < length plan.stacks
  pub stack_shards : AllByRecursion IsStripe plan.stacks
  pub heaps : 0 < length plan.heaps
  pub heap_shards : AllByRecursion IsStripe plan.heaps
  pub queues : 0 < plan.queues

-- the region of memory slot i of the pool as it is made, in the colour of its stripe where there are two or more
abbrev pub memory_region : MakerTold → Settings → ℕ → Told
memory_region maker s i = coloured_region s.num_stripes maker s.behaviour (count maker.page (rounded_up maker.page s.max_memory_size)) i

-- the image slot of memory slot i of the pool: the one that was made of its region, in that colour
abbrev pub IsPoolSlot : MakerTold → Settings → ℕ → Slot → Type 0
IsPoolSlot maker s i slot = IsSlotOf (memory_region maker s i) (stripe_colour s.num_stripes i) s.max_memory_size slot

-- The name of one of the pool's slots that have cells: a memory's, a table's or a stack's.
pub record IsSlotName (plan : Plan) (name : SlotName) : Type 0 where
  pub cells : HasCells name.kind
  pub inside : name.slot < of_kind name.kind plan.totals

-- The name of one of the pool's heaps.
pub record IsHeapName (plan : Plan) (name : SlotName) : Type 0 where
  pub kind : name.kind ≡ heap_kind
  pub inside : name.slot < plan.totals.heap

-- What the cell of a slot may hold, by the slot's kind.
abbrev pub MayHold : MakerTold → Settings → SlotKind → ℕ → Cell → Type 0
MayHold maker s memory_kind i held = IsCell (memory_region maker s i) (stripe_colour s.num_stripes i) s.max_memory_size held
MayHold maker s table_kind i held = IsInTableCell maker s i held
MayHold maker s stack_kind i held = IsInStackCell maker s i held
MayHold maker s _ i held = ⊥

-- The cell of a slot: it has the slot's name, and holds what such a cell may hold.
pub record IsCellOf (maker : MakerTold) (s : Settings) (name : SlotName) (cell : CellState) : Type 0 where
  pub named : cell.name ≡ name
  pub holds : MayHold maker s name.kind name.slot cell.holds

-- As what a slot may lie in a queue, by its kind.
abbrev pub MayQueue : MakerTold → Settings → SlotKind → ℕ → Slot → Type 0
MayQueue maker s memory_kind i slot = IsPoolSlot maker s i slot
MayQueue maker s table_kind i slot = IsPoolTable maker s i slot
MayQueue maker s stack_kind i slot = IsQueuedStack maker s i slot
MayQueue maker s _ i slot = ⊥

-- What is zeroed by hand after a failed decommit: something where slots are given back zeroed, and nothing otherwise.
pub record IsByHand (zeroing : Bool) (by_hand : Option ℕ) : Type 0 where
  pub zeroed : zeroing ≡ true → IsSome by_hand
  pub left : zeroing ≡ false → by_hand ≡ None

-- Which queued slots are to be zeroed by hand after a failed decommit: each table, and stacks that are given back
-- zeroed.
abbrev pub MustBeByHand : Settings → SlotKind → Option ℕ → Type 0
MustBeByHand s table_kind by_hand = IsSome by_hand
MustBeByHand s stack_kind by_hand = IsByHand s.stack_zeroing by_hand
MustBeByHand s _ by_hand = Unit {0}

-- A queued slot lies in the region of its slot, and is zeroed by hand exactly where its kind is.
pub record IsQueuedOf (maker : MakerTold) (s : Settings) (m : Queued) : Type 0 where
  pub slot : MayQueue maker s m.name.kind m.name.slot m.slot
  pub by_hand : MustBeByHand s m.name.kind m.by_hand

-- Where stacks aren't given back zeroed, nothing of them is decommitted.
abbrev pub MayBeRanged : Settings → QueuedRange → Type 0
MayBeRanged s r = (owner r).kind ≡ stack_kind → s.stack_zeroing ≡ true

-- How many ranges a queue has room for, and how many slots: those of a shared queue and of the slot that is merged into
-- it, each fewer than a batch, and whatever the batch the eight ranges that one reset may leave.
abbrev pub queue_room : ℕ → ℕ
queue_room batch = 2 * batch + 6

-- A shared queue has fewer ranges than a batch, and no more slots than ranges. The ranges of each slot lie together, and
-- each slot is known but a stack that isn't zeroed.
pub record IsShared (maker : MakerTold) (s : Settings) (q : Queue) : Type 0 where
  pub owners : HasOwners q
  pub short : length q.ranges + 1 ≤ s.batch
  pub slots : length q.slots ≤ length q.ranges
  pub range_room : q.range_room ≡ queue_room s.batch
  pub slot_room : q.slot_room ≡ queue_room s.batch
  pub regions : All (IsQueuedOf maker s) q.slots
  pub known : All IsGivenBack q.slots
  pub ranged : All (MayBeRanged s) q.ranges
  pub queue : IsQueue q
  pub grouped : IsGrouped q

-- The part has a role: it is a shard of an allocator, the cell of a slot, a queue, or the list of heaps.
abbrev pub IsPartFor : {P H : Type 0} → MakerTold → Settings → Role → PoolPart P H → Type 0
IsPartFor maker s (shard_role a j) (part.Shard shard) = IsShardOf a j shard
IsPartFor maker s (cell_role name) (part.Memory cell) = (name.kind ≡ memory_kind) × IsCellOf maker s name cell
IsPartFor maker s (cell_role name) (part.Table cell) = (name.kind ≡ table_kind) × IsCellOf maker s name cell
IsPartFor maker s (cell_role name) (part.Stack cell) = (name.kind ≡ stack_kind) × IsCellOf maker s name cell
IsPartFor maker s queue_role (part.Queue queue) = IsShared maker s queue
IsPartFor maker s (heaps_role n) (part.Heaps heaps) = length heaps ≡ n
IsPartFor maker s _ _ = ⊥

-- the part at a place is what the plan has the place for
abbrev pub IsPartAt : {P H : Type 0} → MakerTold → Settings → Plan → ℕ → PoolPart P H → Type 0
IsPartAt maker s plan p x = IsPartFor maker s (role_at plan p) x

-- What holds of the pool's parts between steps, whatever parties do: its settings make sense, its plan is right for so
-- many parts, and each part is what the plan has its place for.
pub record IsCore {P H : Type 0} (maker : MakerTold) (c : PoolCore P H) : Type 0 where
  pub settings : IsSettings c.settings
  pub page : c.settings.page ≡ maker.page
  pub plan : IsPoolPlan c.plan (length c.parts)
  pub stripes : length c.plan.memories ≡ c.settings.num_stripes
  pub parts : (p : ℕ) → p < length c.parts → IsPartAt maker c.settings c.plan p (part_at p c.parts)

-- The memory can have no more bytes than a slot of the pool offers, and than its type allows.
abbrev pub FitsSlotAndType : Settings → MemoryState → Type 0
FitsSlotAndType s m = m.linear.capacity ≤ static_capacity s.max_memory_size (maximum_asked m.ty)

-- A lease of the pool: its memory lies in the region of its slot.
pub record IsLeaseOf (maker : MakerTold) (s : Settings) (plan : Plan) (l : Lease) : Type 0 where
  pub inside : l.index < memory_slots plan
  pub slot : IsPoolSlot maker s l.index (image_slot_of l.memory)
  pub memory : IsUsable l.memory
  pub room : FitsSlotAndType s l.memory

-- An object is a lease of the pool.
abbrev pub IsObjectOf : {P : Type 0} → MakerTold → Settings → Plan → Object P → Type 0
IsObjectOf maker s plan (Memory lease) = IsLeaseOf maker s plan lease
IsObjectOf maker s plan (Table lease) = IsTableLease maker s plan lease
IsObjectOf maker s plan (Stack lease) = IsStackLease maker s plan lease

-- Each memory and each table of an instance lies in the region of its slot of the pool.
abbrev pub AreLeasesOf : {P : Type 0} → MakerTold → Settings → Plan → InstanceLease P → Type 0
AreLeasesOf maker s plan lease = All (IsLeaseOf maker s plan) lease.memories.items × All (IsTableLease maker s plan) lease.tables.items

-- a slot of the pool that is to be freed, and keeps no more bytes resident than a slot may
pub record IsFreedOf (plan : Plan) (x : FreedSlot) : Type 0 where
  pub named : IsSlotName plan x.name
  pub bytes : x.bytes ≤ 2 ^ 32

-- The slots of one kind are freed before those of the next are put back: those that wait to be freed are of one kind.
abbrev pub AreOfOneKind : List FreedSlot → Type 0
AreOfOneKind freed = (kind : SlotKind) × All (λ x. x.name.kind ≡ kind) freed

-- the slots that a party has on their way back
pub record IsLocal (maker : MakerTold) (s : Settings) (q : Queue) : Type 0 where
  pub owners : HasOwners q
  pub range_room : q.range_room ≡ queue_room s.batch
  pub slot_room : q.slot_room ≡ queue_room s.batch
  pub regions : All (IsQueuedOf maker s) q.slots
  pub ranged : All (MayBeRanged s) q.ranges
  pub queue : IsQueue q
  pub grouped : IsGrouped q

-- a memory fits a slot, and its image fits it
pub record IsSupported (s : Settings) (decl : MemoryDecl) (image : Option Image) : Type 0 where
  pub page_log2 : decl.ty.page_size_log2 < 64
  pub limits : refused_limits decl.ty.limits ≡ None
  pub minimum : minimum_byte_size decl.ty ≤ s.max_memory_size
  pub image_fits : IfSome image (FitsInto s.page (minimum_byte_size decl.ty))

-- every memory of the module does
pub record AreSupported (s : Settings) (memories : List MemoryDecl) (images : List (Option Image)) : Type 0 where
  pub few : length memories < 2 ^ 32
  pub each : (k : ℕ) → IfSome (slice_get memories k) (λ decl. IsSupported s decl (slice_index_or images k None))

-- A table doesn't begin with more elements than it may have, nor with more than a table of the pool.
pub record IsTableSupported (s : Settings) (ty : TableType) : Type 0 where
  pub limits : refused_limits ty.limits ≡ None
  pub minimum : ty.limits.min ≤ s.table_elements

-- Every table of the module fits a slot, and there are no more than the pool has slots for tables.
pub record AreTablesSupported (s : Settings) (total : ℕ) (tables : List TableType) : Type 0 where
  pub few : length tables ≤ total
  pub each : (k : ℕ) → IfSome (slice_get tables k) (IsTableSupported s)

-- no table of these begins with more elements than it may have
abbrev pub AreLimited : List TableType → Type 0
AreLimited tables = (k : ℕ) → IfSome (slice_get tables k) (λ ty. refused_limits ty.limits ≡ None)

-- an image that is given is one of its memory: it ends within the memory's minimum
pub record AreImagesOf (s : Settings) (memories : List MemoryDecl) (images : List (Option Image)) : Type 0 where
  pub each : (k : ℕ) → IfSome (slice_get memories k) (λ decl. (decl.ty.page_size_log2 < 64) × IfSome (slice_index_or images k None) (FitsInto s.page (minimum_byte_size decl.ty)))

-- the memory slot of the pool with this name, as a call has it in its hands
pub record HasSlot (maker : MakerTold) (s : Settings) (plan : Plan) (name : SlotName) (held : Slot) : Type 0 where
  pub kind : name.kind ≡ memory_kind
  pub inside : name.slot < memory_slots plan
  pub region : IsPoolSlot maker s name.slot held

-- the region of a table's slot, likewise
pub record HasTable (maker : MakerTold) (s : Settings) (plan : Plan) (name : SlotName) (held : Told) : Type 0 where
  pub kind : name.kind ≡ table_kind
  pub inside : name.slot < plan.totals.table
  pub region : IsTableRegion maker s name.slot held

-- the region of a slot, as a call puts it back into its cell
pub record HasRegion (maker : MakerTold) (s : Settings) (plan : Plan) (name : SlotName) (held : Cell) : Type 0 where
  pub named : IsSlotName plan name
  pub holds : MayHold maker s name.kind name.slot held
  pub there : is_taken held ≡ false

-- it is in use, and begins with this image
pub record HasBegun (image : Option Image) (held : Slot) (decl : MemoryDecl) : Type 0 where
  pub begun : IsBegun image held
  pub holds : CanHold (minimum_byte_size decl.ty) held

-- the memory is as one of its type begins, and may have as much as its slot offers and the type allows
pub record IsMadeOf (room : ℕ) (m : MemoryState) (decl : MemoryDecl) : Type 0 where
  pub size : m.linear.size ≡ minimum_byte_size decl.ty
  pub capacity : m.linear.capacity ≡ static_capacity room (maximum_asked decl.ty)
  pub ty : m.ty ≡ decl.ty
  pub fixed : m.may_move ≡ false

-- and begins with this image
pub record IsNew (room : ℕ) (image : Option Image) (m : MemoryState) (decl : MemoryDecl) : Type 0 where
  pub slot : HasBegun image (image_slot_of m) decl
  pub made : IsMadeOf room m decl

-- nothing is queued or waits to be freed
pub record NothingWaits (local : Queue) (freed : Reserved FreedSlot) : Type 0 where
  pub no_ranges : local.ranges ≡ []
  pub no_slots : local.slots ≡ []
  pub none_freed : freed.items ≡ []

-- A party has no slots queued or waiting, and no objects granted or given back.
pub record NothingHeld {P : Type 0} (local : Queue) (freed : Reserved FreedSlot) (objects : InstanceLease P) : Type 0 where
  pub settled : NothingWaits local freed
  pub no_memories : objects.memories.items ≡ []
  pub no_tables : objects.tables.items ≡ []

-- the objects that were granted so far begin as asked
abbrev pub AreBegun : {P : Type 0} → Settings → Asked → InstanceLease P → Type 0
AreBegun s asked lease =
    ((k : ℕ) → IfSome (slice_get lease.memories.items k) (λ lease. IfSome (slice_get (memories_wanted asked) k) (IsNew s.max_memory_size (slice_index_or (images_wanted asked) k None) lease.memory)))
    × ((k : ℕ) → IfSome (slice_get lease.tables.items k) (λ lease. IfSome (slice_get (tables_wanted asked) k) (IsBegunTable s lease)))

-- stacks are enabled where one is asked for, and there is a collector where a heap is
abbrev pub IsEnabled : Settings → Asked → Type 0
IsEnabled s stack_asked = 0 < s.stack_size
IsEnabled s (heap_asked ty) = s.tunables.tunables.collector ≡ true
IsEnabled s (heap_over_asked memory) = s.tunables.tunables.collector ≡ true
IsEnabled s _ = Unit {0}

-- A call that is to be granted what it asks for: its module, its memory, or the heap's memory is supported; of a table by
-- itself only the limits are known. What it was granted so far begins as asked, memories first; there is room for what it keeps;
-- and it has taken no more queues than there are.
pub record IsToGrant {P : Type 0} (s : Settings) (plan : Plan) (asked : Asked) (queues : ℕ) (objects : InstanceLease P) : Type 0 where
  pub supported : AreSupported s (memories_wanted asked) (images_wanted asked)
  pub tables : singles_wanted asked ≡ 0 → AreTablesSupported s plan.totals.table (tables_wanted asked)
  pub limits : AreLimited (tables_wanted asked)
  pub enabled : IsEnabled s asked
  pub images : HasImages asked
  pub room : memories_kept asked ≤ objects.memories.room
  pub table_room : tables_kept asked ≤ objects.tables.room
  pub few : length objects.memories.items ≤ memories_kept asked
  pub few_tables : length objects.tables.items ≤ tables_kept asked
  pub order : length objects.memories.items < length (memories_wanted asked) → objects.tables.items ≡ []
  pub begun : AreBegun s asked objects
  pub taken : queues ≤ queues_searched plan

-- a request is to be granted, and there is a next object
pub record GrantsMore {P : Type 0} (s : Settings) (plan : Plan) (aim : Ending) (asked : Asked) (queues : ℕ) (objects : InstanceLease P) : Type 0 where
  pub ending : aim ≡ granted
  pub to_grant : IsToGrant s plan asked queues objects
  pub more : objects_in objects < objects_wanted asked

-- a request as it begins, and once its module was tested
pub record IsRequest (aim : Ending) (asked : Asked) (queues : ℕ) : Type 0 where
  pub ending : aim ≡ granted
  pub none_taken : queues ≡ 0
  pub asked_for : IsModule asked
  pub images : HasImages asked

-- What a call has beside its next step, by its ending.
abbrev pub Aims : {P : Type 0} → Settings → Plan → Ending → Asked → ℕ → InstanceLease P → Type 0
Aims s plan granted asked queues objects = IsToGrant s plan asked queues objects
Aims s plan returned asked queues objects = Unit {0}
Aims s plan (refused e) asked queues objects = Unit {0}

-- A purge stands at a memory that a module may have, in a turn for which the stripe has slots.
pub record IsPurging (s : Settings) (plan : Plan) (p : PurgeCursor) : Type 0 where
  pub stripe : p.stripe < length plan.memories
  pub memory : p.memory < s.max_memories_per_module
  pub turn : p.turn < (purged_stripe plan p).capacity
  pub some : 0 < plan.totals.memory

-- A purge is at its first pick.
pub record IsFirstPick (p : PurgeCursor) (j : ℕ) : Type 0 where
  pub stripe : p.stripe ≡ 0
  pub memory : p.memory ≡ 0
  pub turn : p.turn ≡ 0
  pub first : j ≡ 0

-- A purge picks from this shard of its stripe.
pub record IsPicking (s : Settings) (plan : Plan) (p : PurgeCursor) (j : ℕ) : Type 0 where
  pub purging : IsPurging s plan p
  pub tried : j < (purged_stripe plan p).shards

-- What a purge has for its next step.
abbrev pub IsPurgeAt : {P : Type 0} → MakerTold → Settings → Plan → PurgeCursor → PurgeStep P → Type 0
IsPurgeAt maker s plan p (purging_step.Pick tried) = IsFirstPick p tried ⊎ IsPicking s plan p tried
IsPurgeAt maker s plan p (purging_step.TakeRegion name) = IsPurging s plan p × IsSlotName plan name × (name.kind ≡ memory_kind)
IsPurgeAt maker s plan p (purging_step.Forget at held) = IsPurging s plan p × HasRegion maker s plan at.name (cell_of held) × (at.name.kind ≡ memory_kind)
IsPurgeAt maker s plan p (purging_step.PutRegion at held) = IsPurging s plan p × HasRegion maker s plan at.name (cell_of held) × (at.name.kind ≡ memory_kind)
IsPurgeAt maker s plan p (purging_step.Free name) = IsPurging s plan p × IsSlotName plan name

-- how many slots of an allocator its shards from this one on have
abbrev pub slots_left : Allocator → ℕ → ℕ
slots_left a j = a.capacity - j * a.slots_per_shard

-- A release stands at a stripe. The slots that it took are memories, no more than the stripe has but for so many that may still
-- come, and there is room for those and for the slots of the later stripes.
pub record IsReleasing (plan : Plan) (r : ReleaseCursor) (left : ℕ) : Type 0 where
  pub stripe : r.stripe < length plan.memories
  pub taken : All (IsFreedOf plan) r.taken.items
  pub memories : All (λ x. x.name.kind ≡ memory_kind) r.taken.items
  pub few : length r.taken.items + left ≤ (released_stripe plan r).capacity
  pub all : length r.taken.items ≤ length r.local.items
  pub room : length r.local.items + (left + slots_in (drop (r.stripe + 1) plan.memories)) ≤ r.local.room
  pub taken_room : r.taken.room ≡ r.local.room

-- A release has the region of one of the slots that it took.
pub record IsDraining (maker : MakerTold) (s : Settings) (plan : Plan) (r : ReleaseCursor) (k : ℕ) (name : SlotName) (held : Cell) : Type 0 where
  pub releasing : IsReleasing plan r 0
  pub place : k < length r.taken.items
  pub named : (nth_taken r k).name ≡ name
  pub region : HasRegion maker s plan name held

-- What a release has for its next step.
abbrev pub IsReleaseAt : {P : Type 0} → MakerTold → Settings → Plan → ReleaseStep P → Type 0
IsReleaseAt maker s plan releasing_step.Reserve = Unit {0}
IsReleaseAt maker s plan (releasing_step.TakeWarm r j) = IsReleasing plan r (slots_left (released_stripe plan r) j) × (j < (released_stripe plan r).shards)
IsReleaseAt maker s plan (releasing_step.TakeRegion r k) = IsReleasing plan r 0 × (k < length r.taken.items)
IsReleaseAt maker s plan (releasing_step.Decommit r k at held) = IsDraining maker s plan r k at.name (cell_of held)
IsReleaseAt maker s plan (releasing_step.PutRegion r k at held) = IsDraining maker s plan r k at.name (cell_of held)
IsReleaseAt maker s plan (releasing_step.Free r x) = IsReleasing plan r 0 × IsFreedOf plan x × (x.name.kind ≡ memory_kind)

module _ {P H : Type 0} where
  -- The party's frame has no slots queued, and none that wait to be freed.
  abbrev pub HasNoneWaiting : Frame P H → Type 0
  HasNoneWaiting f = NothingWaits f.local f.freed

  -- The party's frame has no slots queued or waiting, and no objects granted or given back.
  abbrev pub IsAtRest : Frame P H → Type 0
  IsAtRest f = NothingHeld f.local f.freed f.objects

  -- What the frame's call has beside its next step, by its ending.
  abbrev pub IsAiming : Settings → Plan → Frame P H → Type 0
  IsAiming s plan f = Aims s plan f.ending f.asked f.queues f.objects

  -- The frame's call is a request that wants another object.
  abbrev pub IsAllocating : Settings → Plan → Frame P H → Type 0
  IsAllocating s plan f = GrantsMore s plan f.ending f.asked f.queues f.objects

  -- A memory is next.
  abbrev pub IsMemoryNext : Frame P H → Type 0
  IsMemoryNext f = length f.objects.memories.items < length (memories_wanted f.asked)

  -- A table is next: the memories are all there, and neither a stack nor a heap is asked for.
  abbrev pub IsTableNext : Frame P H → Type 0
  IsTableNext f = (length (memories_wanted f.asked) ≤ length f.objects.memories.items) × IsForObjects f.asked

  -- A stack is next.
  abbrev pub IsStackNext : Frame P H → Type 0
  IsStackNext f = f.asked ≡ stack_asked

  -- A heap is next: its memory is there, if one is allocated for it.
  abbrev pub IsHeapNext : Frame P H → Type 0
  IsHeapNext f = (length (memories_wanted f.asked) ≤ length f.objects.memories.items) × (heaps_wanted f.asked ≡ 1)

  -- something is given back
  abbrev pub IsReturning : Frame P H → Type 0
  IsReturning f = is_granting f.ending ≡ false

  -- the freed slots and those still queued have room
  abbrev pub HasFreedRoom : Settings → Frame P H → Type 0
  HasFreedRoom s f = (f.freed.room ≡ queue_room s.batch) × (length f.freed.items + length f.local.slots ≤ queue_room s.batch)

  -- The frame's call is a request at its beginning.
  abbrev pub IsRequested : Frame P H → Type 0
  IsRequested f = IsRequest f.ending f.asked f.queues

  -- a stack is asked for, from the first shard on
  abbrev pub IsStackRequested : Frame P H → Type 0
  IsStackRequested f = (f.ending ≡ granted) × (f.queues ≡ 0) × (f.asked ≡ stack_asked)

  -- a heap is asked for, likewise
  abbrev pub IsHeapRequested : Frame P H → Type 0
  IsHeapRequested f = (f.ending ≡ granted) × (f.queues ≡ 0) × IsHeapAsked f.asked

  -- the slot of a heap is out of the list of heaps, and notes the memory that the heap is over
  abbrev pub NotesMemory : RegionNumbers → Frame P H → Type 0
  NotesMemory numbers f = numbers ≡ heap_numbers (memory_under f.asked f.objects.memories.items)

  -- What a frame has in each phase.
  abbrev pub IsShapedAt : MakerTold → Settings → Plan → Phase P H → Frame P H → Type 0
  IsShapedAt maker s plan Idle f = IsAtRest f
  IsShapedAt maker s plan Key f = IsAtRest f
  IsShapedAt maker s plan Validate f = IsAtRest f × IsRequested f × AreImagesOf s (memories_wanted f.asked) (images_wanted f.asked)
  IsShapedAt maker s plan TestStack f = IsAtRest f × IsStackRequested f
  IsShapedAt maker s plan TestHeap f = IsAtRest f × IsHeapRequested f
  IsShapedAt maker s plan CountInstance f = IsAtRest f × IsRequested f × AreSupported s (memories_wanted f.asked) (images_wanted f.asked) × (f.objects.memories.room ≡ length (memories_wanted f.asked)) × (f.objects.tables.room ≡ length (tables_wanted f.asked)) × AreTablesSupported s plan.totals.table (tables_wanted f.asked)
  IsShapedAt maker s plan (Pick tried) f = HasNoneWaiting f × IsAllocating s plan f × (tried < (allocator_for plan f).shards)
  IsShapedAt maker s plan TakeQueue f = HasNoneWaiting f × IsAllocating s plan f × (f.queues < queues_searched plan)
  IsShapedAt maker s plan (TakeRegion name) f = HasNoneWaiting f × IsAllocating s plan f × IsSlotName plan name × (name.kind ≡ kind_next f)
  IsShapedAt maker s plan (Empty at held) f = HasNoneWaiting f × IsAllocating s plan f × HasSlot maker s plan at.name held × IsMemoryNext f
  IsShapedAt maker s plan (Instantiate at held) f = HasNoneWaiting f × IsAllocating s plan f × HasSlot maker s plan at.name held × IsClean held × IsMemoryNext f
  IsShapedAt maker s plan (MakeMemory at held) f = HasNoneWaiting f × IsAllocating s plan f × HasSlot maker s plan at.name held × IfAllocated f (HasBegun (image_wanted f) held) × IsMemoryNext f
  IsShapedAt maker s plan (MakeTable at region) f = HasNoneWaiting f × IsAllocating s plan f × HasTable maker s plan at.name region × IsTableNext f
  IsShapedAt maker s plan (CountObject (Memory lease)) f = HasNoneWaiting f × IsAllocating s plan f × IsLeaseOf maker s plan lease × IfAllocated f (IsNew s.max_memory_size (image_wanted f) lease.memory) × IsMemoryNext f
  IsShapedAt maker s plan (CountObject (Table lease)) f = HasNoneWaiting f × IsAllocating s plan f × IsTableLease maker s plan lease × IfTable f (IsBegunTable s lease) × IsTableNext f
  IsShapedAt maker s plan (CountObject (Stack lease)) f = HasNoneWaiting f × IsAllocating s plan f × IsStackLease maker s plan lease × IsNewStack s lease × IsStackNext f
  IsShapedAt maker s plan (TakeHeap name) f = HasNoneWaiting f × IsAllocating s plan f × IsHeapName plan name × IsHeapNext f
  IsShapedAt maker s plan (MakeHeap at) f = HasNoneWaiting f × IsAllocating s plan f × IsHeapName plan at.name × NotesMemory at.numbers f × IsHeapNext f
  IsShapedAt maker s plan (CountHeap lease) f = HasNoneWaiting f × IsAllocating s plan f × IsHeapLease plan lease × NotesMemory lease.numbers f × IsHeapNext f
  IsShapedAt maker s plan (PutNoHeap at) f = HasNoneWaiting f × IsReturning f × IsHeapName plan at.name
  IsShapedAt maker s plan (PutBack at held) f = HasNoneWaiting f × IsReturning f × HasRegion maker s plan at.name (cell_of held)
  IsShapedAt maker s plan (FreeOne name) f = HasNoneWaiting f × IsReturning f × (name.slot < of_kind name.kind plan.totals)
  IsShapedAt maker s plan (UncountObject object) f = HasNoneWaiting f × IsReturning f × IsObjectOf maker s plan object
  IsShapedAt maker s plan (UncountHeap lease memory) f = HasNoneWaiting f × IsReturning f × IsHeapLease plan lease × IfSome memory (IsLeaseOf maker s plan)
  IsShapedAt maker s plan (PutHeap lease memory) f = HasNoneWaiting f × IsReturning f × IsHeapLease plan lease × IfSome memory (IsLeaseOf maker s plan)
  IsShapedAt maker s plan (FreeHeap name memory) f = HasNoneWaiting f × IsReturning f × IsHeapName plan name × IsLeaseOf maker s plan memory
  IsShapedAt maker s plan (Reset object) f = HasNoneWaiting f × IsReturning f × IsObjectOf maker s plan object
  IsShapedAt maker s plan Merge f = IsReturning f × (f.freed.items ≡ []) × (length f.local.slots ≡ 1) × (0 < length f.local.ranges) × (length f.local.ranges + 1 ≤ s.batch) × All IsGivenBack f.local.slots
  IsShapedAt maker s plan Flush f = IsAiming s plan f × (is_flushed f ≡ false)
  IsShapedAt maker s plan UncountInstance f = IsAtRest f × IsReturning f × IsForInstance f.asked
  IsShapedAt maker s plan (ValidateComponent info) f = IsAtRest f
  IsShapedAt maker s plan CountComponent f = IsAtRest f
  IsShapedAt maker s plan UncountComponent f = IsAtRest f × IsReturning f
  IsShapedAt maker s plan (Purge p step) f = IsAtRest f × IsPurgeAt maker s plan p step
  IsShapedAt maker s plan (Release step) f = IsAtRest f × IsReleaseAt maker s plan step

  -- What holds of a party's frame between steps, over a pool with these settings and this plan.
  pub record IsFrame (maker : MakerTold) (s : Settings) (plan : Plan) (f : Frame P H) : Type 0 where
    pub stripe : f.stripe < length plan.memories
    pub queue : IsLocal maker s f.local
    pub freed_room : HasFreedRoom s f
    pub freed_each : All (IsFreedOf plan) f.freed.items
    pub freed_order : AreOfOneKind f.freed.items
    pub objects : AreLeasesOf maker s plan f.objects
    pub shape : IsShapedAt maker s plan f.phase f

  -- What the frame has fits what the pool has given out: that is with the frame, in a queue, or with others, who have no
  -- region without its slot. What the frame has counted is counted.
  pub record FitsCore (c : PoolCore P H) (f : Frame P H) : Type 0 where
    pub once : (w : Weight) → kept_count w.unit c + frame_weight w f ≤ away_weight w c
    pub others : (name : SlotName) → away_count (region_of name) c + (kept_count (right_to name) c + frame_count (right_to name) f) ≤ away_count (right_to name) c + (kept_count (region_of name) c + frame_count (region_of name) f)

-- A party's calls: its frame as made, what a call begins with, and what it grants.
use Rattle.std.specs.Prelude.{◌≡◌, ℕ, ◌<◌, [], length, Option, Some, None}
use Rattle.pool_alloc.specs.Imports.{MakerTold, MemoryAllocationIndex, empty_queue, Plan, MemoryType, TableType, SlotKind, memory_kind, table_kind, refused_limits}
use Rattle.pool_alloc.specs.Objects.{no_objects}
use Rattle.pool_alloc.specs.HeapLeases.{LeasedHeap, heap_numbers, IsHeapLease, memory_noted}
use Rattle.pool_alloc.specs.Leases.{Lease}
use Rattle.pool_alloc.specs.StepReads.{IsForInstance, memories_wanted, images_wanted, tables_wanted, plain_decl, allocator_of}
use Rattle.pool_alloc.specs.Turns.{returned_next}
use Rattle.pool_alloc.specs.BetweenSteps.{queue_room, IsLeaseOf, AreLeasesOf, AreImagesOf, AreBegun, IsNew, IsSupported}
use Rattle.pool_alloc.specs.Modules.{HasImages}
use Rattle.pool_alloc.specs.declared.pool_core.Settings.{Settings}
use Rattle.pool_alloc.specs.declared.frame.Frame.{Frame}
use Rattle.pool_alloc.specs.declared.frame.FrameLists.{FrameLists}
use Rattle.pool_alloc.specs.declared.frame.Asked.{Asked}
use Rattle.pool_alloc.specs.declared.frame.Asked.TheVariants.{Nothing as nothing_asked, Module as module_asked, Memory as memory_asked, Table as table_asked, Stack as stack_asked, Heap as heap_asked, HeapOver as heap_over_asked}
use Rattle.pool_alloc.specs.declared.frame.Object.TheVariants as object
use Rattle.pool_alloc.specs.PoolStacks.{IsNewStack, IsStackLease}
use Rattle.pool_alloc.specs.PoolTables.{IsTableLease, IsBegunTable}
use Rattle.pool_alloc.specs.TableLeases.{LeasedTable, type_now}
use Rattle.pool_alloc.specs.declared.frame.Phase.TheVariants.{Idle, Key, Validate, TestStack, TestHeap, Pick, UncountObject, UncountHeap, ValidateComponent, UncountComponent, Purge, Release}
use Rattle.pool_alloc.specs.declared.frame.Ending.TheVariants.{Granted as granted, Returned as returned}
use Rattle.pool_alloc.specs.declared.frame.Grant.{Grant}
use Rattle.pool_alloc.specs.declared.frame.Grant.TheVariants.{Instance, Memory, Table, Stack, Heap, HeapOver, Component}
use Rattle.pool_alloc.specs.PlainModules.{MemoryAsked}
use Rattle.pool_alloc.specs.declared.frame.Call.{Call}
use Rattle.pool_alloc.specs.declared.frame.Call.TheVariants as call
use Rattle.pool_alloc.specs.declared.frame.Outcome.{Outcome}
use Rattle.pool_alloc.specs.declared.frame.Outcome.TheVariants.{Granted}
use Rattle.pool_alloc.specs.Purges.{purge_begun}
use Rattle.pool_alloc.specs.declared.purge.PurgeStep.TheVariants as purging_step
use Rattle.pool_alloc.specs.declared.release.ReleaseStep.TheVariants as releasing_step

-- A heap that was asked for, whose slot notes its memory. That begins as a plain one of the type that was asked for.
pub record IsHeapOf {H : Type 0} (maker : MakerTold) (s : Settings) (plan : Plan) (asked : Asked) (lease : LeasedHeap H) (memory : Lease) : Type 0 where
  pub heap : IsHeapLease plan lease
  pub memory_is : IsLeaseOf maker s plan memory
  pub notes : lease.numbers ≡ heap_numbers memory.index
  pub ty : MemoryType
  pub asked_for : asked ≡ heap_asked ty
  pub begins : IsNew s.max_memory_size None memory.memory (plain_decl ty)

-- A heap that was asked for over a memory that there is, whose slot notes that memory.
pub record IsHeapOverOf {H : Type 0} (plan : Plan) (asked : Asked) (lease : LeasedHeap H) : Type 0 where
  pub heap : IsHeapLease plan lease
  pub memory : MemoryAllocationIndex
  pub asked_for : asked ≡ heap_over_asked memory
  pub notes : lease.numbers ≡ heap_numbers memory.0

-- A memory that was asked for by itself. It begins as its type and its image say.
pub record IsMemoryOf (maker : MakerTold) (s : Settings) (plan : Plan) (asked : Asked) (lease : Lease) : Type 0 where
  pub memory_is : IsLeaseOf maker s plan lease
  pub call : MemoryAsked
  pub asked_for : asked ≡ memory_asked call
  pub begins : IsNew s.max_memory_size call.image lease.memory (plain_decl call.ty)

-- A table that was asked for by itself. It begins as its type says.
pub record IsTableOf (maker : MakerTold) (s : Settings) (plan : Plan) (asked : Asked) (lease : LeasedTable) : Type 0 where
  pub table_is : IsTableLease maker s plan lease
  pub ty : TableType
  pub asked_for : asked ≡ table_asked ty
  pub begins : IsBegunTable s lease ty

-- There is a shard to pick a slot of this kind from: of memories, of the party's stripe.
abbrev pub HasShards : Plan → SlotKind → ℕ → Type 0
HasShards plan kind stripe = 0 < (allocator_of plan kind stripe).shards

-- the lists of a frame as they are made
abbrev pub lists_made : {P : Type 0} → Settings → FrameLists P
lists_made s = record { local = empty_queue (queue_room s.batch) (queue_room s.batch); freed = record { items = []; room = queue_room s.batch } }

module _ {P H : Type 0} where
  -- a frame with these lists, for a home, without a call
  abbrev pub frame_over : ℕ → FrameLists P → Frame P H
  frame_over home lists = record {
    home = home;
    stripe = 0;
    asked = nothing_asked;
    ending = returned;
    objects = no_objects;
    queues = 0;
    local = lists.local;
    freed = lists.freed;
    phase = Idle;
    step_count = 0;
  }

  -- a party's frame as it is made
  abbrev pub frame_made : ℕ → Settings → Frame P H
  frame_made home s = frame_over home (lists_made s)

  -- no call is under way
  abbrev pub IsIdle : Frame P H → Type 0
  IsIdle f = f.phase ≡ Idle

  -- the grant is one of the pool: its objects are leases of it
  abbrev pub IsGrant : MakerTold → Settings → Plan → Grant P H → Type 0
  IsGrant maker s plan (Instance lease) = AreLeasesOf maker s plan lease
  IsGrant maker s plan Component = Unit {0}
  IsGrant maker s plan (Memory lease) = IsLeaseOf maker s plan lease
  IsGrant maker s plan (Table lease) = IsTableLease maker s plan lease
  IsGrant maker s plan (Stack lease) = IsStackLease maker s plan lease
  IsGrant maker s plan (Heap lease memory) = IsHeapLease plan lease × IsLeaseOf maker s plan memory
  IsGrant maker s plan (HeapOver lease) = IsHeapLease plan lease

  -- The grant is one of the pool, and has an object for each that was asked for, which begins as that is to.
  abbrev pub IsGrantOf : MakerTold → Settings → Plan → Asked → Grant P H → Type 0
  IsGrantOf maker s plan asked (Instance lease) = AreLeasesOf maker s plan lease × (length lease.memories.items ≡ length (memories_wanted asked)) × AreBegun s asked lease × (length lease.tables.items ≡ length (tables_wanted asked)) × IsForInstance asked
  IsGrantOf maker s plan asked Component = Unit {0}
  IsGrantOf maker s plan asked (Memory lease) = IsMemoryOf maker s plan asked lease
  IsGrantOf maker s plan asked (Table lease) = IsTableOf maker s plan asked lease
  IsGrantOf maker s plan asked (Stack lease) = IsStackLease maker s plan lease × IsNewStack s lease × (asked ≡ stack_asked)
  IsGrantOf maker s plan asked (Heap lease memory) = IsHeapOf maker s plan asked lease memory
  IsGrantOf maker s plan asked (HeapOver lease) = IsHeapOverOf plan asked lease

  -- what is granted, if a call ends with a grant
  abbrev pub IfGranted : (Grant P H → Type 0) → Option (Outcome P H) → Type 0
  IfGranted Q (Some (Granted grant)) = Q grant
  IfGranted Q _ = Unit {0}

  -- The call may begin: images that are given are those of the module's memories, one place for each, and a grant is one
  -- of the pool. A memory by itself is one that a slot can hold, with its image, and a table has a minimum that its type allows:
  -- they aren't tested again.
  abbrev pub MayBegin : MakerTold → Settings → Plan → Call P H → Frame P H → Type 0
  MayBegin maker s plan call.Key f = IsIdle f
  MayBegin maker s plan (call.Module m) f = IsIdle f × AreImagesOf s (memories_wanted (module_asked m)) (images_wanted (module_asked m)) × HasImages (module_asked m)
  MayBegin maker s plan (call.Component info) f = IsIdle f
  MayBegin maker s plan (call.Memory m) f = IsIdle f × HasShards plan memory_kind f.stripe × IsSupported s (plain_decl m.ty) m.image
  MayBegin maker s plan (call.Table ty) f = IsIdle f × HasShards plan table_kind f.stripe × (refused_limits ty.limits ≡ None)
  MayBegin maker s plan call.Stack f = IsIdle f
  MayBegin maker s plan (call.Heap ty) f = IsIdle f × (ty.page_size_log2 < 64)
  MayBegin maker s plan (call.HeapOver memory) f = IsIdle f
  MayBegin maker s plan (call.GiveBack grant) f = IsIdle f × IsGrant maker s plan grant
  MayBegin maker s plan (call.Purge id) f = IsIdle f
  MayBegin maker s plan call.Release f = IsIdle f

  -- The objects of an instance are given back in order, and then the instance. A component is counted off, and a memory, a table
  -- or a stack is given back at once. A heap is given back, and then the memory that was granted with it.
  abbrev pub gives_back : Grant P H → Frame P H → Frame P H
  gives_back (Instance lease) f = record (returned_next lease.memories.items lease.tables.items (record f { asked = nothing_asked; objects = lease; ending = returned })).frame { step_count = 0 }
  gives_back Component f = record f { ending = returned; phase = UncountComponent; step_count = 0 }
  gives_back (Memory lease) f = record f { asked = memory_asked (record { ty = lease.memory.ty; image = None; affine = None }); ending = returned; phase = UncountObject (object.Memory lease); step_count = 0 }
  gives_back (Table lease) f = record f { asked = table_asked (type_now lease); ending = returned; phase = UncountObject (object.Table lease); step_count = 0 }
  gives_back (Stack lease) f = record f { asked = stack_asked; ending = returned; phase = UncountObject (object.Stack lease); step_count = 0 }
  gives_back (Heap lease memory) f = record f { asked = heap_asked memory.memory.ty; ending = returned; phase = UncountHeap lease (Some memory); step_count = 0 }
  gives_back (HeapOver lease) f = record f { asked = heap_over_asked (record { 0 = memory_noted lease }); ending = returned; phase = UncountHeap lease None; step_count = 0 }

  -- the frame once the call began
  abbrev pub begun_call : Call P H → Frame P H → Frame P H
  begun_call call.Key f = record f { phase = Key; step_count = 0 }
  begun_call (call.Module m) f = record f { asked = module_asked m; ending = granted; queues = 0; phase = Validate; step_count = 0 }
  begun_call (call.Component info) f = record f { ending = granted; phase = ValidateComponent info; step_count = 0 }
  begun_call (call.Memory m) f = record f { asked = memory_asked m; ending = granted; queues = 0; phase = Pick 0; step_count = 0 }
  begun_call (call.Table ty) f = record f { asked = table_asked ty; ending = granted; queues = 0; phase = Pick 0; step_count = 0 }
  begun_call call.Stack f = record f { asked = stack_asked; ending = granted; queues = 0; phase = TestStack; step_count = 0 }
  begun_call (call.Heap ty) f = record f { asked = heap_asked ty; ending = granted; queues = 0; phase = TestHeap; step_count = 0 }
  begun_call (call.HeapOver memory) f = record f { asked = heap_over_asked memory; ending = granted; queues = 0; phase = TestHeap; step_count = 0 }
  begun_call (call.GiveBack grant) f = gives_back grant f
  begun_call (call.Purge id) f = record f { phase = Purge (purge_begun id) (purging_step.Pick 0); step_count = 0 }
  begun_call call.Release f = record f { phase = Release releasing_step.Reserve; step_count = 0 }

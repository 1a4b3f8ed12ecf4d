-- A region that is out, or lies in a queue, has no fewer faults than its unit tells. Whoever puts it back needs that: a cell's faults never fall.
use Rattle.std.specs.Prelude.{◌⊎◌, ℕ, ◌+◌, ◌^◌, ◌<◌, ◌≤◌, Option, Some, IfSome}
use Rattle.std.specs.List.{AllByRecursion}
use Rattle.pool_slots.specs.CellOf.{cell_of}
use Rattle.pool_slots.specs.RegionCells.{faults_in}
use Rattle.pool_slots.specs.SlotQueues.{Queued, Queue}
use Rattle.pool_slots.specs.declared.part.PoolPart.{PoolPart}
use Rattle.pool_slots.specs.declared.part.PoolPart.TheVariants as part
use Rattle.pool_memory.specs.Memories.{slot_of}
use Rattle.pool_alloc.specs.Leases.{Lease}
use Rattle.pool_alloc.specs.StackLeases.{LeasedStack}
use Rattle.pool_alloc.specs.TableLeases.{LeasedTable}
use Rattle.pool_alloc.specs.declared.frame.Frame.{Frame}
use Rattle.pool_alloc.specs.declared.frame.Grant.{Grant}
use Rattle.pool_alloc.specs.declared.frame.Grant.TheVariants.{Instance, Component, Memory as memory_grant, Table as table_grant, Stack as stack_grant, Heap, HeapOver}
use Rattle.pool_alloc.specs.declared.frame.Object.{Object}
use Rattle.pool_alloc.specs.declared.frame.Object.TheVariants.{Memory, Table, Stack}
use Rattle.pool_alloc.specs.declared.frame.Outcome.{Outcome}
use Rattle.pool_alloc.specs.declared.frame.Outcome.TheVariants.{Granted}
use Rattle.pool_alloc.specs.declared.frame.Phase.{Phase}
use Rattle.pool_alloc.specs.declared.frame.Phase.TheVariants.{Empty, Instantiate, MakeMemory, MakeTable, CountObject, PutBack, UncountObject, UncountHeap, PutHeap, FreeHeap, Reset, Purge, Release}
use Rattle.pool_alloc.specs.declared.leases.instance.InstanceLease.{InstanceLease}
use Rattle.pool_alloc.specs.declared.purge.PurgeStep.{PurgeStep}
use Rattle.pool_alloc.specs.declared.purge.PurgeStep.TheVariants as purging_step
use Rattle.pool_alloc.specs.declared.release.ReleaseStep.{ReleaseStep}
use Rattle.pool_alloc.specs.declared.release.ReleaseStep.TheVariants as releasing_step

-- A region has no fewer faults than were told. What was told fits 64 bits, as a count does that stands still at its end.
pub record KeepsFaults (told has : ℕ) : Type 0 where
  pub least : told ≤ has
  pub small : told < 2 ^ 64

-- A region has more faults than were told, or its count stands at the end of its type.
abbrev pub HasFaulted : ℕ → ℕ → Type 0
HasFaulted told has = (told < has) ⊎ (2 ^ 64 ≤ has + 1)

-- The same of the region of a queued slot, and of what the slot's unit tells.
abbrev pub QueuedKeeps : Queued → Type 0
QueuedKeeps m = KeepsFaults m.numbers.faults m.slot.region.faults

-- The same of each slot in a queue.
abbrev pub QueueKeeps : Queue → Type 0
QueueKeeps q = AllByRecursion QueuedKeeps q.slots

-- The same of each slot that a part keeps, as queues alone do.
abbrev pub PartKeeps : {P H : Type 0} → PoolPart P H → Type 0
PartKeeps (part.Queue q) = QueueKeeps q
PartKeeps _ = Unit {0}

-- The same of the region of a memory that was granted, of a table's, and of a stack's.
abbrev pub LeaseKeeps : Lease → Type 0
LeaseKeeps l = KeepsFaults l.numbers.faults (slot_of l.memory).region.faults

abbrev pub TableKeeps : LeasedTable → Type 0
TableKeeps l = IfSome l.table.region (λ region. KeepsFaults l.numbers.faults region.faults)

abbrev pub StackKeeps : LeasedStack → Type 0
StackKeeps l = KeepsFaults l.numbers.faults l.stack.slot.region.faults

module _ {P : Type 0} where
  -- The same of an object, by what it is.
  abbrev pub ObjectKeeps : Object P → Type 0
  ObjectKeeps (Memory lease) = LeaseKeeps lease
  ObjectKeeps (Table lease) = TableKeeps lease
  ObjectKeeps (Stack lease) = StackKeeps lease

  -- The same of each object of an instance.
  abbrev pub InstanceKeeps : InstanceLease P → Type 0
  InstanceKeeps lease = AllByRecursion LeaseKeeps lease.memories.items × AllByRecursion TableKeeps lease.tables.items

  -- The same of what a purge has in hand.
  abbrev pub PurgeKeeps : PurgeStep P → Type 0
  PurgeKeeps (purging_step.Forget at held) = KeepsFaults at.numbers.faults (faults_in (cell_of held))
  PurgeKeeps (purging_step.PutRegion at held) = KeepsFaults at.numbers.faults (faults_in (cell_of held))
  PurgeKeeps _ = Unit {0}

  -- The same of what a release has in hand.
  abbrev pub ReleaseKeeps : ReleaseStep P → Type 0
  ReleaseKeeps (releasing_step.Decommit r k at held) = KeepsFaults at.numbers.faults (faults_in (cell_of held))
  ReleaseKeeps (releasing_step.PutRegion r k at held) = KeepsFaults at.numbers.faults (faults_in (cell_of held))
  ReleaseKeeps _ = Unit {0}

module _ {P H : Type 0} where
  -- The same of each region of a grant.
  abbrev pub GrantKeeps : Grant P H → Type 0
  GrantKeeps (Instance lease) = InstanceKeeps lease
  GrantKeeps Component = Unit {0}
  GrantKeeps (memory_grant lease) = LeaseKeeps lease
  GrantKeeps (table_grant lease) = TableKeeps lease
  GrantKeeps (stack_grant lease) = StackKeeps lease
  GrantKeeps (Heap lease memory) = LeaseKeeps memory
  GrantKeeps (HeapOver lease) = Unit {0}

  -- The same of each region of an answer.
  abbrev pub AnswerKeeps : Option (Outcome P H) → Type 0
  AnswerKeeps (Some (Granted grant)) = GrantKeeps grant
  AnswerKeeps _ = Unit {0}

  -- The same of what a call has taken for its next step.
  abbrev pub PhaseKeeps : Phase P H → Type 0
  PhaseKeeps (Empty at held) = KeepsFaults at.numbers.faults held.region.faults
  PhaseKeeps (Instantiate at held) = KeepsFaults at.numbers.faults held.region.faults
  PhaseKeeps (MakeMemory at held) = KeepsFaults at.numbers.faults held.region.faults
  PhaseKeeps (MakeTable at region) = KeepsFaults at.numbers.faults region.faults
  PhaseKeeps (CountObject object) = ObjectKeeps object
  PhaseKeeps (PutBack at held) = KeepsFaults at.numbers.faults (faults_in (cell_of held))
  PhaseKeeps (UncountObject object) = ObjectKeeps object
  PhaseKeeps (UncountHeap lease memory) = IfSome memory LeaseKeeps
  PhaseKeeps (PutHeap lease memory) = IfSome memory LeaseKeeps
  PhaseKeeps (FreeHeap name memory) = LeaseKeeps memory
  PhaseKeeps (Reset object) = ObjectKeeps object
  PhaseKeeps (Purge p step) = PurgeKeeps step
  PhaseKeeps (Release step) = ReleaseKeeps step
  PhaseKeeps _ = Unit {0}

  -- The same of each region that a party's call has.
  pub record FrameKeeps (f : Frame P H) : Type 0 where
    pub objects : InstanceKeeps f.objects
    pub local : QueueKeeps f.local
    pub phase : PhaseKeeps f.phase

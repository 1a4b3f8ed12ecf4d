-- How many slots a call may take that were never used, of each kind: what a seat's view tells of that.
use Rattle.std.specs.Prelude.{◌≡◌, ℕ, ◌+◌, ◌≤◌, Bool, false, length, slice_index, if◌then◌else◌, Option, Some, None}
use Rattle.pool_hall.specs.Sum.{total}
use Rattle.pool_hall.specs.Tally.{rise}
use Rattle.pool_hall.specs.declared.unit_name.SlotKind.{SlotKind}
use Rattle.pool_hall.specs.declared.unit_name.SlotKind.TheVariants.{Memory as memory_kind, Table as table_kind, Stack as stack_kind, Heap as heap_kind}
use Rattle.pool_hall.specs.declared.view.CountRise.{CountRise}
use Rattle.pool_hall.specs.declared.view.View.{View}
use Rattle.pool_index.specs.Part.{cold_picks}
use Rattle.pool_slots.specs.Plans.{Role, shard_role, role_at}
use Rattle.pool_slots.specs.SlotQueues.{same_kind}
use Rattle.pool_slots.specs.declared.errors.AllocError.{AllocError}
use Rattle.pool_slots.specs.declared.errors.AllocError.TheVariants.{Limit}
use Rattle.pool_slots.specs.declared.errors.ConcurrencyKind.{ConcurrencyKind}
use Rattle.pool_slots.specs.declared.errors.ConcurrencyKind.TheVariants.{MemoryStripe, Tables, Fibers, GcHeaps}
use Rattle.pool_slots.specs.declared.plan.Plan.{Plan}
use Rattle.pool_alloc.specs.StepReads.{heaps_wanted, kind_next, memories_wanted, stacks_wanted, tables_wanted}
use Rattle.pool_alloc.specs.Stepping.{is_idle}
use Rattle.pool_alloc.specs.declared.frame.Asked.{Asked}
use Rattle.pool_alloc.specs.declared.frame.Asked.TheVariants.{Stack as stack_asked}
use Rattle.pool_alloc.specs.declared.frame.Frame.{Frame}
use Rattle.pool_alloc.specs.declared.frame.Outcome.{Outcome}
use Rattle.pool_alloc.specs.declared.frame.Outcome.TheVariants.{Granted}
use Rattle.pool_alloc.specs.declared.leases.instance.InstanceLease.{InstanceLease}
use Rattle.pool_alloc.specs.declared.frame.Phase.{Phase}
use Rattle.pool_alloc.specs.declared.frame.Phase.TheVariants.{TakeRegion, Empty, Instantiate, MakeMemory, MakeTable, CountObject, TakeHeap, MakeHeap, CountHeap}

-- The role is that of a shard of slots of a kind.
abbrev pub is_shard_of : SlotKind → Role → Bool
is_shard_of kind (shard_role a j) = same_kind kind a.kind
is_shard_of kind _ = false

-- How often cold slots were picked, where the rise is one of a shard of slots of a kind.
abbrev pub cold_rise : Plan → SlotKind → CountRise → ℕ
cold_rise plan kind e = if is_shard_of kind (role_at plan e.place) then rise (slice_index e.before cold_picks) (slice_index e.after cold_picks) else 0

-- How often a seat picked cold slots of a kind.
abbrev pub cold_in : {T : Type 0} → Plan → SlotKind → View T → ℕ
cold_in plan kind v = total (cold_rise plan kind) v.rises

-- 1 where a slot was picked for the next object, which isn't granted yet.
abbrev pub in_hand : {P H : Type 0} → Phase P H → ℕ
in_hand (TakeRegion name) = 1
in_hand (Empty at held) = 1
in_hand (Instantiate at held) = 1
in_hand (MakeMemory at held) = 1
in_hand (MakeTable at region) = 1
in_hand (CountObject object) = 1
in_hand (TakeHeap name) = 1
in_hand (MakeHeap at) = 1
in_hand (CountHeap lease) = 1
in_hand _ = 0

-- How many objects of a kind are asked for.
abbrev pub wanted_of : SlotKind → Asked → ℕ
wanted_of memory_kind asked = length (memories_wanted asked)
wanted_of table_kind asked = length (tables_wanted asked)
wanted_of stack_kind asked = stacks_wanted asked
wanted_of heap_kind asked = heaps_wanted asked

-- How many objects of a kind a call was granted so far. It ends with its stack or its heap, or with a memory or a table by
-- itself, and has none of them before.
abbrev pub granted_of : {P : Type 0} → SlotKind → InstanceLease P → ℕ
granted_of memory_kind objects = length objects.memories.items
granted_of table_kind objects = length objects.tables.items
granted_of stack_kind objects = 0
granted_of heap_kind objects = 0

-- How many slots of a kind a call for objects has: those of its objects, and the one in hand.
abbrev pub slots_of : {P H : Type 0} → SlotKind → Frame P H → ℕ
slots_of kind f = granted_of kind f.objects + (if same_kind kind (kind_next f) then in_hand f.phase else 0)

-- Of a call that began with the first view, and has the second now
module _ {T : Type 0} (base v : View T) where
  -- At most so many cold slots of a kind were picked,
  abbrev pub ColdOf : Plan → SlotKind → ℕ → Type 0
  ColdOf plan kind n = cold_in plan kind v ≤ cold_in plan kind base + n

  -- and at most so many for stacks.
  abbrev pub ColdWithin : Plan → ℕ → Type 0
  ColdWithin plan n = ColdOf plan stack_kind n

  -- Of a kind fewer cold slots were picked than objects are asked for.
  abbrev pub FewerCold : Plan → Asked → SlotKind → Type 0
  FewerCold plan asked kind = cold_in plan kind v + 1 ≤ cold_in plan kind base + wanted_of kind asked

  -- So it is of the kind for which there is no room,
  abbrev pub LimitFewer : Plan → Asked → ConcurrencyKind → Type 0
  LimitFewer plan asked (MemoryStripe i) = FewerCold plan asked memory_kind
  LimitFewer plan asked Tables = FewerCold plan asked table_kind
  LimitFewer plan asked Fibers = FewerCold plan asked stack_kind
  LimitFewer plan asked GcHeaps = FewerCold plan asked heap_kind
  LimitFewer plan asked _ = Unit {0}

  -- where the refusal is for that.
  abbrev pub RefusalFewer : Plan → Asked → AllocError → Type 0
  RefusalFewer plan asked (Limit l) = LimitFewer plan asked l.kind
  RefusalFewer plan asked _ = Unit {0}

  module _ {P H : Type 0} where
    -- A call for a stack has picked no cold slot but the one that it has in hand.
    pub record Spends (plan : Plan) (f : Frame P H) : Type 0 where
      pub stack : f.asked ≡ stack_asked → is_idle f.phase ≡ false → ColdWithin plan (in_hand f.phase)

    -- It has picked at most one where it is granted, and none where it ends otherwise.
    abbrev pub AnswerWithin : Plan → Option (Outcome P H) → Type 0
    AnswerWithin plan None = Unit {0}
    AnswerWithin plan (Some (Granted grant)) = ColdWithin plan 1
    AnswerWithin plan (Some _) = ColdWithin plan 0

    -- The same of what a call asks for.
    abbrev pub AnswerSpends : Plan → Asked → Option (Outcome P H) → Type 0
    AnswerSpends plan asked o = asked ≡ stack_asked → AnswerWithin plan o

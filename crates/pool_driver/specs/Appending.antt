-- What a call appends to the decommit queues: what a seat's view tells of that, and what it owes them for each object that it gives back.
use Rattle.std.specs.Prelude.{◌≡◌, ℕ, ◌+◌, ◌*◌, ◌<◌, Bool, true, false, nat_lt, slice_index, if◌then◌else◌, Option, Some, None}
use Rattle.pool_types.specs.declared.decommit_behavior.DecommitBehavior.TheVariants.{RestoreOriginalMapping}
use Rattle.pool_hall.specs.Sum.{one_if, total}
use Rattle.pool_hall.specs.Tally.{rise}
use Rattle.pool_hall.specs.declared.view.CountRise.{CountRise}
use Rattle.pool_hall.specs.declared.view.View.{View}
use Rattle.pool_table.specs.Elements.{width}
use Rattle.pool_slots.specs.Plans.{Role, queue_role, role_at}
use Rattle.pool_slots.specs.declared.plan.Plan.{Plan}
use Rattle.pool_alloc.specs.Leases.{Lease}
use Rattle.pool_alloc.specs.StackLeases.{LeasedStack}
use Rattle.pool_alloc.specs.TableLeases.{LeasedTable}
use Rattle.pool_alloc.specs.declared.frame.Asked.{Asked}
use Rattle.pool_alloc.specs.declared.frame.Asked.TheVariants.{Memory as memory_asked, Table as table_asked, Stack as stack_asked, HeapOver as heap_over_asked}
use Rattle.pool_alloc.specs.declared.frame.Frame.{Frame}
use Rattle.pool_alloc.specs.declared.frame.Grant.{Grant}
use Rattle.pool_alloc.specs.declared.frame.Grant.TheVariants as grant
use Rattle.pool_alloc.specs.declared.frame.Object.{Object}
use Rattle.pool_alloc.specs.declared.frame.Object.TheVariants.{Memory, Table, Stack}
use Rattle.pool_alloc.specs.declared.frame.Phase.{Phase}
use Rattle.pool_alloc.specs.declared.frame.Phase.TheVariants.{FreeHeap, Merge, PutHeap, Reset, UncountHeap, UncountObject}
use Rattle.pool_alloc.specs.declared.leases.instance.InstanceLease.{InstanceLease}
use Rattle.pool_alloc.specs.declared.pool_core.Settings.{Settings}

-- The place among a queue's counts of how many slots were appended to it.
abbrev pub queue_appended : ℕ
queue_appended = 1

-- The role is that of a queue.
abbrev pub is_queue : Role → Bool
is_queue queue_role = true
is_queue _ = false

-- How many slots were appended, where the rise is one of a queue.
abbrev pub appended_rise : Plan → CountRise → ℕ
appended_rise plan e = if is_queue (role_at plan e.place) then rise (slice_index e.before queue_appended) (slice_index e.after queue_appended) else 0

-- How many slots a seat appended to queues, to all of them together.
abbrev pub appended_in : {T : Type 0} → Plan → View T → ℕ
appended_in plan v = total (appended_rise plan) v.rises

-- From the first view to the second nothing was appended to a queue.
abbrev pub NoneAppended : {T : Type 0} → View T → View T → Plan → Type 0
NoneAppended base v plan = appended_in plan v ≡ appended_in plan base

-- One object is asked for by itself: a memory, a table, a stack, or a heap over a memory that there is.
abbrev pub IsForOne : Asked → Type 0
IsForOne (memory_asked m) = Unit {0}
IsForOne (table_asked ty) = Unit {0}
IsForOne stack_asked = Unit {0}
IsForOne (heap_over_asked memory) = Unit {0}
IsForOne _ = ⊥

-- What a reset leaves to be decommitted is put off to a queue: one range isn't a batch yet, pages go back to what they were mapped to, and
-- dirty marks aren't used.
pub record PutsOff (s : Settings) : Type 0 where
  pub batch : 1 < s.batch
  pub behaviour : s.behaviour ≡ RestoreOriginalMapping
  pub marks : s.dirty_pages ≡ false

-- A number for each memory, each table and each stack.
pub record Dues : Type 0 where
  pub memory : Lease → ℕ
  pub table : LeasedTable → ℕ
  pub stack : LeasedStack → ℕ

-- How many bytes a table has, up to its size.
abbrev pub bytes_of_table : LeasedTable → ℕ
bytes_of_table l = l.table.size * width l.table.kind

-- 1 for each object of which a reset leaves something: a memory that is larger than what stays resident of it, a table whose bytes up to
-- its size are more than what stays resident of it, and a stack that is given back zeroed. What stays resident is rounded up to pages.
abbrev pub owed_by : Settings → Dues
owed_by s = record {
  memory = λ l. one_if (nat_lt s.keep_resident.bytes l.memory.linear.size);
  table = λ l. one_if (nat_lt s.table_keep_resident.bytes (bytes_of_table l));
  stack = λ l. one_if l.stack.zeroing;
}

-- 1 for each object.
abbrev pub each_one : Dues
each_one = record { memory = λ l. 1; table = λ l. 1; stack = λ l. 1 }

module _ {P : Type 0} (d : Dues) where
  -- That of an object, by what it is,
  abbrev pub object_dues : Object P → ℕ
  object_dues (Memory lease) = d.memory lease
  object_dues (Table lease) = d.table lease
  object_dues (Stack lease) = d.stack lease

  -- and those of an instance's objects together.
  abbrev pub instance_dues : InstanceLease P → ℕ
  instance_dues lease = total d.memory lease.memories.items + total d.table lease.tables.items

module _ (d : Dues) where
  -- The same of the memory that was granted with a heap, if there is one.
  abbrev pub heap_memory_dues : Option Lease → ℕ
  heap_memory_dues (Some memory) = d.memory memory
  heap_memory_dues None = 0

module _ {P H : Type 0} (d : Dues) where
  -- The same of a grant,
  abbrev pub grant_dues : Grant P H → ℕ
  grant_dues (grant.Instance lease) = instance_dues d lease
  grant_dues grant.Component = 0
  grant_dues (grant.Memory lease) = d.memory lease
  grant_dues (grant.Table lease) = d.table lease
  grant_dues (grant.Stack lease) = d.stack lease
  grant_dues (grant.Heap lease memory) = d.memory memory
  grant_dues (grant.HeapOver lease) = 0

  -- of what a call gives back next, which is 1 once its slot is to be appended,
  abbrev pub phase_dues : Phase P H → ℕ
  phase_dues (UncountObject object) = object_dues d object
  phase_dues (UncountHeap lease memory) = heap_memory_dues d memory
  phase_dues (PutHeap lease memory) = heap_memory_dues d memory
  phase_dues (FreeHeap name memory) = d.memory memory
  phase_dues (Reset object) = object_dues d object
  phase_dues Merge = 1
  phase_dues _ = 0

  -- and of all that it has and is to give back.
  abbrev pub frame_dues : Frame P H → ℕ
  frame_dues f = instance_dues d f.objects + phase_dues f.phase

-- How many steps a call makes at most, by the sizes of the pool alone, and how many it still makes.
use Rattle.std.specs.Prelude.{ℕ, List, ◌+◌, ◌*◌, ◌-◌, length, nat_lt, if◌then◌else◌, Option, Some, None, ◌==◌, zero, suc, sum_by, ◌∷◌, [], max, ◌++◌, Bool, not, is_some, ◌&&◌, ◌||◌, drop}
use Rattle.pool_alloc.specs.Imports.{Queue, Queued, one_if, home_of, SlotName, Allocator, Plan}
use Rattle.pool_alloc.specs.Objects.{objects_in, objects_wanted}
use Rattle.pool_alloc.specs.declared.leases.instance.InstanceLease.{InstanceLease}
use Rattle.pool_alloc.specs.Leases.{Lease}
use Rattle.pool_alloc.specs.Reserved.{Reserved}
use Rattle.pool_alloc.specs.RangeRuns.{runs}
use Rattle.pool_alloc.specs.StepReads.{queues_searched}
use Rattle.pool_alloc.specs.declared.frame.Grant.TheVariants.{Instance, Memory, Table, Stack, Heap, HeapOver, Component}
use Rattle.pool_alloc.specs.declared.pool_core.PoolCore.{PoolCore}
use Rattle.pool_alloc.specs.declared.frame.Call.{Call}
use Rattle.pool_alloc.specs.declared.frame.Call.TheVariants as call
use Rattle.pool_alloc.specs.declared.frame.Ending.{Ending}
use Rattle.pool_alloc.specs.declared.frame.Ending.TheVariants.{Granted as granted, Returned as returned, Refused as refused}
use Rattle.pool_alloc.specs.declared.frame.Frame.{Frame}
use Rattle.pool_alloc.specs.declared.frame.FreedSlot.{FreedSlot}
use Rattle.pool_alloc.specs.declared.frame.Asked.{Asked}
use Rattle.pool_alloc.specs.declared.frame.Asked.TheVariants.{Module as module_asked, Memory as memory_asked, Table as table_asked, Stack as stack_asked, HeapOver as heap_over_asked}
use Rattle.pool_alloc.specs.declared.frame.Phase.{Phase}
use Rattle.pool_alloc.specs.declared.frame.Phase.TheVariants.{Idle, Key, Validate, TestStack, TestHeap, CountInstance, Pick, TakeQueue, TakeRegion, Empty, Instantiate, MakeMemory, MakeTable, CountObject, TakeHeap, MakeHeap, CountHeap, PutNoHeap, PutBack, FreeOne, UncountObject, UncountHeap, PutHeap, FreeHeap, Reset, Merge, Flush, UncountInstance, ValidateComponent, CountComponent, UncountComponent, Purge, Release}
use Rattle.pool_alloc.specs.Purges.{has_turns, purged_stripe}
use Rattle.pool_alloc.specs.Releases.{released_stripe}
use Rattle.pool_alloc.specs.declared.pool_core.Settings.{Settings}
use Rattle.pool_alloc.specs.declared.purge.PurgeCursor.{PurgeCursor}
use Rattle.pool_alloc.specs.declared.purge.PurgeStep.{PurgeStep}
use Rattle.pool_alloc.specs.declared.purge.PurgeStep.TheVariants as purging_step
use Rattle.pool_alloc.specs.declared.release.ReleaseCursor.{ReleaseCursor}
use Rattle.pool_alloc.specs.declared.release.ReleaseStep.{ReleaseStep}
use Rattle.pool_alloc.specs.declared.release.ReleaseStep.TheVariants as releasing_step

-- The sizes on which bounds rest: the most shards of one allocator, the queues, the slots, how many memories a module may have,
-- and where the plan has each slot.
pub record PoolSizes : Type 0 where
  pub shards : ℕ
  pub queues : ℕ
  pub slots : ℕ
  pub per_module : ℕ
  pub plan : Plan

-- The most shards of one of these allocators.
abbrev pub most_shards : List Allocator → ℕ
most_shards [] = 0
most_shards (a ∷ more) = max a.shards (most_shards more)

-- How many shards these allocators have together.
abbrev pub all_shards : List Allocator → ℕ
all_shards [] = 0
all_shards (a ∷ more) = a.shards + all_shards more

-- the allocators of slots that a flush frees
abbrev pub flushed_allocators : Plan → List Allocator
flushed_allocators plan = plan.memories ++ (plan.tables ++ plan.stacks)

-- The allocators of slots of all kinds.
abbrev pub searched_allocators : Plan → List Allocator
searched_allocators plan = flushed_allocators plan ++ plan.heaps

-- the slots of the pool that are flushed
abbrev pub all_slots : Plan → ℕ
all_slots plan = plan.totals.memory + plan.totals.table + plan.totals.stack

-- The sizes of a pool on which bounds rest.
abbrev pub sizes_of : Settings → Plan → PoolSizes
sizes_of s plan = record { shards = most_shards (searched_allocators plan); queues = queues_searched plan; slots = all_slots plan; per_module = s.max_memories_per_module; plan = plan }

-- A flush, with the step that begins it: three steps for each slot, and one for each shard. (Without tables and stacks it makes fewer.)
abbrev pub flush_bound : PoolSizes → ℕ
flush_bound z = 1 + 3 * z.slots + all_shards (flushed_allocators z.plan)

-- an allocation: a round of picks at first and one after the flush of each queue, and what is done with the slot
abbrev pub allocation_bound : PoolSizes → ℕ
allocation_bound z = (z.queues + 1) * z.shards + z.queues * flush_bound z + 8

-- an object's giving back: counted, reset, appended to a queue and flushed
abbrev pub give_back_bound : PoolSizes → ℕ
give_back_bound z = 4 + flush_bound z

-- an instance with so many objects, which may all be given back where it is refused in the end
abbrev pub instance_bound : PoolSizes → ℕ → ℕ
instance_bound z objects = 3 + objects * (allocation_bound z + give_back_bound z)

-- a heap with its memory, of which the memory may be given back
abbrev pub heap_bound : PoolSizes → ℕ
heap_bound z = 1 + 2 * (allocation_bound z + give_back_bound z)

-- What is asked for a heap: its memory and the heap, or a heap over a memory that there is, which is the one object then.
abbrev pub heap_bound_for : PoolSizes → Asked → ℕ
heap_bound_for z (heap_over_asked memory) = 1 + allocation_bound z
heap_bound_for z _ = heap_bound z

-- What is left of a heap's end behind the heap: the giving back of the memory that was granted with it, if there is one.
abbrev pub heap_memory_left : PoolSizes → Option Lease → ℕ
heap_memory_left z (Some memory) = give_back_bound z
heap_memory_left z None = 0

-- the end of an instance with so many objects
abbrev pub return_bound : PoolSizes → ℕ → ℕ
return_bound z objects = 1 + objects * give_back_bound z

-- A purge: for each memory that a module may have, and each stripe, as many turns as the stripe has slots, and the last round
-- of picks. A turn is a round of picks and four steps with the slot.
abbrev pub turns_bound : PoolSizes → Allocator → ℕ
turns_bound z a = a.capacity * (z.shards + 4) + z.shards

-- At most how many steps a purge makes: the turns of each memory number in each stripe, and one.
abbrev pub purge_bound : PoolSizes → ℕ
purge_bound z = 1 + z.per_module * sum_by (turns_bound z) z.plan.memories

-- A release: a stripe's shards are taken, and each of its slots may be decommitted in three steps and is freed.
abbrev pub stripe_bound : PoolSizes → Allocator → ℕ
stripe_bound z a = z.shards + 4 * a.capacity

-- At most how many steps a release makes: those of each stripe, and one.
abbrev pub release_bound : PoolSizes → ℕ
release_bound z = 1 + sum_by (stripe_bound z) z.plan.memories

-- What is left of a purge behind a memory.
abbrev pub memories_left : PoolSizes → PurgeCursor → ℕ
memories_left z p = (z.per_module - (p.memory + 1)) * turns_bound z (purged_stripe z.plan p) + z.per_module * sum_by (turns_bound z) (drop (p.stripe + 1) z.plan.memories)

-- What is left of a purge behind a turn: the other turns for this memory, and all behind that.
abbrev pub turns_left : PoolSizes → PurgeCursor → ℕ
turns_left z p = ((purged_stripe z.plan p).capacity - (p.turn + 1)) * (z.shards + 4) + z.shards + memories_left z p

-- How many of these slots keep bytes resident.
abbrev pub residents : List FreedSlot → ℕ
residents slots = sum_by (λ x. one_if (not (x.bytes == 0))) slots

-- What is left of a release behind its stripe.
abbrev pub stripes_left : PoolSizes → ReleaseCursor → ℕ
stripes_left z r = sum_by (stripe_bound z) (drop (r.stripe + 1) z.plan.memories)

-- what is left where the slots from a place on may still be decommitted
abbrev pub drains_left : PoolSizes → ReleaseCursor → ℕ → ℕ
drains_left z r k = 3 * residents (drop k r.taken.items) + length r.taken.items + stripes_left z r

-- 1 for a slot that is at home in the shard at this place.
abbrev pub is_home : PoolSizes → ℕ → SlotName → ℕ
is_home z place name = one_if ((home_of z.plan name).place == place)

-- How many slots wait for the shard at a place: those queued, and those that are to be freed.
abbrev pub waiting_for : PoolSizes → ℕ → List Queued → List FreedSlot → ℕ
waiting_for z place queued freed = sum_by (λ m. is_home z place m.name) queued + sum_by (λ x. is_home z place x.name) freed

-- For how many of the first n shards from a place on some slot waits.
abbrev pub shards_waiting : PoolSizes → ℕ → ℕ → List Queued → List FreedSlot → ℕ
shards_waiting z first zero queued freed = 0
shards_waiting z first (suc n) queued freed = one_if (nat_lt 0 (waiting_for z (first + n) queued freed)) + shards_waiting z first n queued freed

-- For how many shards of these allocators some slot waits.
abbrev pub all_waiting : PoolSizes → List Allocator → List Queued → List FreedSlot → ℕ
all_waiting z [] queued freed = 0
all_waiting z (a ∷ more) queued freed = shards_waiting z a.first_place a.shards queued freed + all_waiting z more queued freed

-- 1 for a slot that may still have to be zeroed by hand: that is found out once all ranges are gone
abbrev pub may_zero : Bool → Queued → ℕ
may_zero ranges m = one_if (is_some m.by_hand && (ranges || not m.known))

-- How many slots of a queue may still have to be zeroed by hand.
abbrev pub zeroings : Queue → ℕ
zeroings local = sum_by (may_zero (nat_lt 0 (length local.ranges))) local.slots

-- What is left of a flush: each run of ranges, each slot that may be zeroed, each region that is to be put back, and each
-- shard of which slots are to be freed, however many.
abbrev pub flush_left : PoolSizes → Queue → Reserved FreedSlot → ℕ
flush_left z local freed = runs local.ranges + zeroings local + length local.slots + all_waiting z (flushed_allocators z.plan) local.slots freed.items

-- the objects that are still to be given back, and the instance
abbrev pub returns_left : {P : Type 0} → PoolSizes → InstanceLease P → ℕ
returns_left z objects = return_bound z (objects_in objects)

-- What is left once the object that is allocated is granted or refused: the module's other objects, and that all which
-- are granted until then may be given back.
-- Nothing is left of a request for a stack, and of one for a memory, a table or a heap by itself only that it may be refused.
abbrev pub objects_left : {P : Type 0} → PoolSizes → Asked → InstanceLease P → ℕ
objects_left z (memory_asked m) objects = returns_left z objects
objects_left z (table_asked ty) objects = returns_left z objects
objects_left z (heap_over_asked memory) objects = returns_left z objects
objects_left z stack_asked objects = 0
objects_left z asked objects = (objects_wanted asked - (objects_in objects + 1)) * (allocation_bound z + give_back_bound z) + return_bound z (objects_in objects + 1)

-- what is left of an allocation where so many queues were gone through: their flushes with the rounds of picks after them,
-- and six steps with the slot
abbrev pub queues_left : {P : Type 0} → PoolSizes → ℕ → Asked → InstanceLease P → ℕ
queues_left z queues asked objects = (z.queues - queues) * (flush_bound z + z.shards) + (6 + objects_left z asked objects)

-- What is left of an allocation where so many queues were gone through, and then so many shards tried.
abbrev pub picks_left : {P : Type 0} → PoolSizes → ℕ → ℕ → Asked → InstanceLease P → ℕ
picks_left z queues tried asked objects = (z.shards - tried) + queues_left z queues asked objects

-- what is left of a call where its ending says what is next
abbrev pub next_left : {P : Type 0} → PoolSizes → Ending → ℕ → Asked → InstanceLease P → ℕ
next_left z granted queues asked objects = if nat_lt (objects_in objects) (objects_wanted asked) then picks_left z queues 0 asked objects else 0
next_left z returned queues asked objects = returns_left z objects
next_left z (refused e) queues asked objects = returns_left z objects

module _ {P H : Type 0} where
  -- At most how many steps a call makes on a pool of these sizes.
  abbrev pub bound_of_call : PoolSizes → Call P H → ℕ
  bound_of_call z call.Key = 1
  bound_of_call z (call.Module m) = instance_bound z (objects_wanted (module_asked m))
  bound_of_call z (call.Component info) = 3
  bound_of_call z (call.Memory m) = allocation_bound z
  bound_of_call z (call.Table ty) = allocation_bound z
  bound_of_call z call.Stack = 1 + allocation_bound z
  bound_of_call z (call.Heap ty) = heap_bound z
  bound_of_call z (call.HeapOver memory) = 1 + allocation_bound z
  bound_of_call z (call.GiveBack (Instance lease)) = return_bound z (objects_in lease)
  bound_of_call z (call.GiveBack Component) = 1
  bound_of_call z (call.GiveBack (Memory lease)) = return_bound z 1
  bound_of_call z (call.GiveBack (Table lease)) = return_bound z 1
  bound_of_call z (call.GiveBack (Stack lease)) = return_bound z 1
  bound_of_call z (call.GiveBack (Heap lease memory)) = return_bound z 2
  bound_of_call z (call.GiveBack (HeapOver lease)) = return_bound z 1
  bound_of_call z (call.Purge id) = purge_bound z
  bound_of_call z call.Release = release_bound z

  -- At most how many steps a call makes on this pool.
  abbrev pub bound_of : PoolCore P H → Call P H → ℕ
  bound_of c call = bound_of_call (sizes_of c.settings c.plan) call

module _ {P : Type 0} where
  -- At most how many steps a purge still makes.
  abbrev pub purge_left : PoolSizes → PurgeCursor → PurgeStep P → ℕ
  purge_left z p (purging_step.Pick tried) = if has_turns z.per_module z.plan then ((purged_stripe z.plan p).capacity - p.turn) * (z.shards + 4) + (z.shards - tried) + memories_left z p else 1
  purge_left z p (purging_step.TakeRegion name) = 4 + turns_left z p
  purge_left z p (purging_step.Forget at held) = 3 + turns_left z p
  purge_left z p (purging_step.PutRegion at held) = 2 + turns_left z p
  purge_left z p (purging_step.Free name) = 1 + turns_left z p

  -- At most how many steps a release still makes.
  abbrev pub release_left : PoolSizes → ReleaseStep P → ℕ
  release_left z releasing_step.Reserve = release_bound z
  release_left z (releasing_step.TakeWarm r j) = (z.shards - j) + 4 * (released_stripe z.plan r).capacity + stripes_left z r
  release_left z (releasing_step.TakeRegion r k) = 3 + drains_left z r (k + 1)
  release_left z (releasing_step.Decommit r k at held) = 2 + drains_left z r (k + 1)
  release_left z (releasing_step.PutRegion r k at held) = 1 + drains_left z r (k + 1)
  release_left z (releasing_step.Free r x) = 1 + length r.taken.items + stripes_left z r

module _ {P H : Type 0} where
  -- at most how many steps the frame's call still makes, on a pool of these sizes, in each phase
  abbrev pub steps_at : PoolSizes → Phase P H → Frame P H → ℕ
  steps_at z Idle f = 0
  steps_at z Key f = 1
  steps_at z Validate f = instance_bound z (objects_wanted f.asked)
  steps_at z TestStack f = 1 + allocation_bound z
  steps_at z TestHeap f = heap_bound_for z f.asked
  steps_at z CountInstance f = 2 + objects_wanted f.asked * (allocation_bound z + give_back_bound z)
  steps_at z (Pick tried) f = picks_left z f.queues tried f.asked f.objects
  steps_at z TakeQueue f = queues_left z f.queues f.asked f.objects
  steps_at z (TakeRegion name) f = 6 + objects_left z f.asked f.objects
  steps_at z (Empty at held) f = 5 + objects_left z f.asked f.objects
  steps_at z (Instantiate at held) f = 4 + objects_left z f.asked f.objects
  steps_at z (MakeMemory at held) f = 3 + objects_left z f.asked f.objects
  steps_at z (MakeTable at region) f = 3 + objects_left z f.asked f.objects
  steps_at z (CountObject object) f = 1 + objects_left z f.asked f.objects
  steps_at z (TakeHeap name) f = 6 + objects_left z f.asked f.objects
  steps_at z (MakeHeap at) f = 5 + objects_left z f.asked f.objects
  steps_at z (CountHeap lease) f = 1
  steps_at z (PutNoHeap at) f = 2 + returns_left z f.objects
  steps_at z (PutBack at held) f = 2 + returns_left z f.objects
  steps_at z (FreeOne name) f = 1 + returns_left z f.objects
  steps_at z (UncountObject object) f = give_back_bound z + returns_left z f.objects
  steps_at z (UncountHeap lease memory) f = 3 + heap_memory_left z memory + returns_left z f.objects
  steps_at z (PutHeap lease memory) f = 2 + heap_memory_left z memory + returns_left z f.objects
  steps_at z (FreeHeap name memory) f = 1 + give_back_bound z + returns_left z f.objects
  steps_at z (Reset object) f = 1 + flush_bound z + returns_left z f.objects
  steps_at z Merge f = flush_bound z + returns_left z f.objects
  steps_at z Flush f = flush_left z f.local f.freed + next_left z f.ending f.queues f.asked f.objects
  steps_at z UncountInstance f = 1
  steps_at z (ValidateComponent info) f = 3
  steps_at z CountComponent f = 2
  steps_at z UncountComponent f = 1
  steps_at z (Purge p step) f = purge_left z p step
  steps_at z (Release step) f = release_left z step

  -- at most how many steps the frame's call still makes
  abbrev pub steps_left : PoolCore P H → Frame P H → ℕ
  steps_left c f = steps_at (sizes_of c.settings c.plan) f.phase f

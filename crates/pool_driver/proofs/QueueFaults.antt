-- What comes into a queue, or is taken from one, keeps its faults.
use Rattle.std.proofs.Common.{ℕ, Bool, true, false, List, [], ◌∷◌, ◌++◌, Option, Some, None, IfSome}
use Rattle.std.specs.Prelude.{if◌then◌else◌}
use Rattle.std.specs.List.{AllByRecursion}
use Rattle.pool_hall.specs.declared.unit_name.SlotKind.{SlotKind}
use Rattle.pool_memory.specs.Memories.{slot_of}
use Rattle.pool_pages.specs.Told.{Told}
use Rattle.pool_slots.specs.SlotQueues.{Queued, Queue, by_kind, first_zeroed, is_to_zero, others_of_kind, same_kind, zeroed, zeroed_by}
use Rattle.pool_slots.proofs.ByKinds.{each_by_kind}
use Rattle.pool_slots.proofs.Lists.{each_append}
use Rattle.pool_alloc.specs.Leases.{Lease, slot_taken}
use Rattle.pool_alloc.specs.MemorySteps.{reset_into, slot_ended}
use Rattle.pool_alloc.specs.PoolStacks.{stack_reset}
use Rattle.pool_alloc.specs.StackLeases.{LeasedStack}
use Rattle.pool_alloc.specs.TableLeases.{LeasedTable}
use Rattle.pool_alloc.specs.TableSteps.{reset_in, table_queued}
use Rattle.pool_driver.specs.Faults.{KeepsFaults, QueuedKeeps, QueueKeeps, LeaseKeeps, StackKeeps}
use Rattle.pool_driver.proofs.RegionFaults.{reset_keeps, stack_keeps, table_keeps}

-- what both of two have, the one that is chosen has
pub by_choice : {X : Type 0} (Q : X → Type 0) (b : Bool) (x y : X) → Q x → Q y → Q (if b then x else y)
by_choice Q true x y left right = left
by_choice Q false x y left right = right

-- What each queued slot has, each has still where slots come in, one or several,
pub pushed_each : (Q : Queued → Type 0) (m : Queued) (ms : List Queued) → AllByRecursion Q ms → Q m → AllByRecursion Q (by_kind (ms ++ m ∷ []))
pushed_each Q m ms k one = each_by_kind Q (ms ++ m ∷ []) (each_append Q ms (m ∷ []) k (one, tt))

pub joined_each : (Q : Queued → Type 0) (ms more : List Queued) → AllByRecursion Q ms → AllByRecursion Q more → AllByRecursion Q (by_kind (ms ++ more))
joined_each Q ms more k l = each_by_kind Q (ms ++ more) (each_append Q ms more k l)

-- and where the first of a kind leaves, or is zeroed.
pub others_each : (Q : Queued → Type 0) (kind : SlotKind) (ms : List Queued) → AllByRecursion Q ms → AllByRecursion Q (others_of_kind kind ms)
others_each Q kind [] k = tt
others_each Q kind (m ∷ ms) k = by_choice (λ (l : List Queued). AllByRecursion Q l) (same_kind kind m.name.kind) ms (m ∷ others_of_kind kind ms) k.1 (k.0, others_each Q kind ms k.1)

pub first_zeroed_each : (Q : Queued → Type 0) (kind : SlotKind) (ms : List Queued) → ((m : Queued) → Q m → Q (zeroed m)) → AllByRecursion Q ms → AllByRecursion Q (first_zeroed kind ms)
first_zeroed_each Q kind [] still k = tt
first_zeroed_each Q kind (m ∷ ms) still k = by_choice (λ (l : List Queued). AllByRecursion Q l) (is_to_zero kind m) (zeroed m ∷ ms) (m ∷ first_zeroed kind ms) (still m k.0, k.1) (k.0, first_zeroed_each Q kind ms still k.1)

-- Zeroing a slot by hand leaves the faults of its region.
zeroed_by_keeps : (o : Option ℕ) (m : Queued) → QueuedKeeps m → QueuedKeeps (zeroed_by o m)
zeroed_by_keeps None m k = k
zeroed_by_keeps (Some n) m k = k

pub zeroed_keeps : (m : Queued) → QueuedKeeps m → QueuedKeeps (zeroed m)
zeroed_keeps m k = zeroed_by_keeps m.by_hand m k

-- An object is reset into a queue.
pub memory_reset_keeps : (offered : Bool) (keep : ℕ) (lease : Lease) (q : Queue) → LeaseKeeps lease → QueueKeeps q → QueueKeeps (reset_into offered keep (slot_taken lease) (slot_of lease.memory) q)
memory_reset_keeps offered keep lease q one k = pushed_each QueuedKeeps (slot_ended offered keep (slot_taken lease) (slot_of lease.memory)) q.slots k (reset_keeps lease.numbers.faults offered keep (slot_taken lease) (slot_of lease.memory) one)

pub table_reset_keeps : (offered : Bool) (page keep : ℕ) (lease : LeasedTable) (o : Option Told) (q : Queue) → IfSome o (λ region. KeepsFaults lease.numbers.faults region.faults) → QueueKeeps q → QueueKeeps (reset_in offered page keep lease o q)
table_reset_keeps offered page keep lease None q one k = k
table_reset_keeps offered page keep lease (Some region) q one k = pushed_each QueuedKeeps (table_queued offered page keep lease region) q.slots k (table_keeps lease.numbers.faults offered page keep lease region one)

pub stack_reset_keeps : (keep : ℕ) (lease : LeasedStack) (q : Queue) → StackKeeps lease → QueueKeeps q → QueueKeeps (stack_reset keep lease q)
stack_reset_keeps keep lease q one k = pushed_each QueuedKeeps _ q.slots k (stack_keeps lease.numbers.faults lease.stack.zeroing keep lease.stack one)

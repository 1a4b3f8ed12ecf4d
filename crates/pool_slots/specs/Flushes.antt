-- What a flush makes of the slots of a queue. The ranges are decommitted from the first to the last, up to the first that
-- fails. Then the memories go back, then the tables, then the stacks.
use Rattle.std.specs.Prelude.{◌≡◌, ◌<◌, ◌⊎◌, List, ◌++◌, length, map, filter, Bool, true, not, if◌then◌else◌}
use Rattle.pool_slots.specs.Imports.{AllZip, SlotKind, Follows}
use Rattle.pool_hall.specs.declared.unit_name.SlotKind.TheVariants as of_slot
use Rattle.pool_slots.specs.declared.queued_range.QueuedRange.{QueuedRange}
use Rattle.pool_slots.specs.SlotQueues.{Queued, Queue, same_slot, is_of, ranges_of, front, first_slot, settle, settled, IsLeftBy, is_to_zero, zeroed, is_kind, of_kind}
use Rattle.pool_slots.specs.SlotOrders.{decommits}

-- Where the slot's region tells its plan: the slot's own ranges among these were decommitted, each in its turn and no
-- other, up to the first that failed, and they ended so.
abbrev pub FollowsOwn : List QueuedRange → Bool → Queued → Queued → Type 0
FollowsOwn ranges ok old new = Follows (decommits old.slot.base.bytes (ranges_of old.name ranges)) ok old.slot.region new.slot.region

-- all ranges were decommitted
pub record AreDecommitted (q : Queue) (items : List Queued) : Type 0 where
  pub slots : items ≡ settled q
  pub order : AllZip (FollowsOwn q.ranges true) q.slots items

-- the ranges at the front that are of one slot, with that of the first
abbrev pub first_run : List QueuedRange → List QueuedRange
first_run ranges = front (is_of (first_slot ranges)) ranges

-- A slot whose ranges among the first ones were decommitted, before a decommit in the first run of the others failed.
-- Nothing is known of it any more. Where it isn't the slot of that run, no more was done on it.
pub record IsLostAt (done others : List QueuedRange) (old new : Queued) : Type 0 where
  pub left : IsLeftBy (first_slot others) (settle done old) new
  pub order : FollowsOwn (done ++ first_run others) (not (same_slot (first_slot others) old.name)) old new

-- A decommit failed: the ranges before its run were decommitted, and those behind its run weren't tried.
pub record AreLost (q : Queue) (items : List Queued) : Type 0 where
  pub done : List QueuedRange
  pub others : List QueuedRange
  pub split : q.ranges ≡ done ++ others
  pub some : 0 < length others
  pub slots : AllZip (IsLostAt done others) q.slots items

-- what the decommits of a flush leave: each slot that the queue held, in order, after all ranges, or after one failed
abbrev pub IsFlushed : Queue → List Queued → Type 0
IsFlushed q items = AreDecommitted q items ⊎ AreLost q items

-- The queued slots of the other kinds, in order.
abbrev pub without_kind : SlotKind → List Queued → List Queued
without_kind kind ms = filter (λ m. not (is_kind kind m)) ms

-- a slot of a kind is zeroed by hand where it is zeroed so and nothing is known of it, and is clean then
abbrev pub zeroed_of : SlotKind → Queued → Queued
zeroed_of kind m = if is_to_zero kind m then zeroed m else m

-- The slots of a kind as they go back: a memory as it is, a table or a stack zeroed by hand where that is its way.
abbrev pub given_back : SlotKind → List Queued → List Queued
given_back of_slot.Memory items = of_kind of_slot.Memory items
given_back kind items = map (zeroed_of kind) (of_kind kind items)

-- A pool can take slots of a kind back.
abbrev pub Taking : Type 0 → Type 1
Taking S = SlotKind → List Queued → S → Type 0

-- What the return of slots of a kind does to the pool that takes them.
abbrev pub Returning : Type 0 → Type 1
Returning S = SlotKind → List Queued → S → S → Type 0

-- The pool can take the memories, the tables once it has these, and then the stacks.
pub record CanTakeBack {S : Type 0} (accepts : Taking S) (returns : Returning S) (items : List Queued) (pool : S) : Type 0 where
  pub memories : accepts of_slot.Memory (given_back of_slot.Memory items) pool
  pub tables : (p : S) → returns of_slot.Memory (given_back of_slot.Memory items) pool p → accepts of_slot.Table (given_back of_slot.Table items) p
  pub stacks : (p r : S) → returns of_slot.Memory (given_back of_slot.Memory items) pool p → returns of_slot.Table (given_back of_slot.Table items) p r → accepts of_slot.Stack (given_back of_slot.Stack items) r

-- The memories went back, then the tables, and then the stacks.
pub record WentBack {S : Type 0} (returns : Returning S) (items : List Queued) (old new : S) : Type 0 where
  pub with_memories : S
  pub with_tables : S
  pub memories : returns of_slot.Memory (given_back of_slot.Memory items) old with_memories
  pub tables : returns of_slot.Table (given_back of_slot.Table items) with_memories with_tables
  pub stacks : returns of_slot.Stack (given_back of_slot.Stack items) with_tables new

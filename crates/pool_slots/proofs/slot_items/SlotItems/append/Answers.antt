use Rattle.std.proofs.Common.{◌+◌, ◌≤◌, ◌++◌, length}
use Rattle.pool_slots.specs.SlotQueues.{QueuedList}
use Rattle.pool_slots.proofs.KindChanges.{lists_joined}
use Rattle.pool_slots.proofs.slot_items.SlotItems.append.Goals as goal

pub returns-clause-value : goal.returns-clause-value
returns-clause-value g c =
    let m : QueuedList = c.self.inside.memories in
    let t : QueuedList = c.self.inside.tables in
    let s : QueuedList = c.self.inside.stacks in
    let n : QueuedList = c.other.inside.memories in
    let u : QueuedList = c.other.inside.tables in
    let v : QueuedList = c.other.inside.stacks in
    let room : length (m.items ++ (t.items ++ s.items)) + length (n.items ++ (u.items ++ v.items)) ≤ m.room = rw (← c.self.view_is, ← c.other.view_is) at c.requires in
    rw (← c.self.view_is, ← c.other.view_is) (lists_joined m t s n u v c.append.new.self c.append-2.new.self c.append-3.new.self c.self.invariant c.other.invariant room c.append.ensures.value c.append-2.ensures.value c.append-3.ensures.value).1

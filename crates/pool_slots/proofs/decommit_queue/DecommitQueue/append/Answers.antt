use Rattle.std.proofs.Common.{◌+◌, ◌≤◌, length}
use Rattle.pool_slots.specs.SlotQueues.{Queue, HasOwners, AreApart}
use Rattle.pool_slots.proofs.SlotChanges.{queue_joined, owned_joined}
use Rattle.pool_slots.proofs.decommit_queue.DecommitQueue.append.Goals as goal

pub invariant_of-self : goal.invariant_of-self
invariant_of-self g c =
    let i = c.self.inside in
    let o = c.other.inside in
    let q : Queue = record { ranges = i.ranges.items; slots = i.slots.items; range_room = i.ranges.room; slot_room = i.slots.room; takes = i.takes; appended = i.appended } in
    let p : Queue = record { ranges = o.ranges.items; slots = o.slots.items; range_room = o.ranges.room; slot_room = o.slots.room; takes = o.takes; appended = o.appended } in
    let ranges : length q.ranges + length p.ranges ≤ q.range_room = rw (← c.self.view_is, ← c.other.view_is) at c.requires.range_room in
    let slots : length q.slots + length p.slots ≤ q.slot_room = rw (← c.self.view_is, ← c.other.view_is) at c.requires.slot_room in
    let owned : HasOwners q = rw (← c.self.view_is) at c.requires.owners in
    let also : HasOwners p = rw (← c.other.view_is) at c.requires.other_owners in
    let apart : AreApart q.slots p.slots = rw (← c.self.view_is, ← c.other.view_is) at c.requires.apart in
    rw (c.append-2.ensures.value, c.append.ensures.value, c.len.ensures.value) (queue_joined q p c.self.invariant c.other.invariant ranges slots owned also apart)

pub returns-clause-owners : goal.returns-clause-owners
returns-clause-owners g c =
    let i = c.self.inside in
    let o = c.other.inside in
    let q : Queue = record { ranges = i.ranges.items; slots = i.slots.items; range_room = i.ranges.room; slot_room = i.slots.room; takes = i.takes; appended = i.appended } in
    let p : Queue = record { ranges = o.ranges.items; slots = o.slots.items; range_room = o.ranges.room; slot_room = o.slots.room; takes = o.takes; appended = o.appended } in
    let owned : HasOwners q = rw (← c.self.view_is) at c.requires.owners in
    let also : HasOwners p = rw (← c.other.view_is) at c.requires.other_owners in
    rw (c.append-2.ensures.value, c.append.ensures.value) (owned_joined q p owned also)

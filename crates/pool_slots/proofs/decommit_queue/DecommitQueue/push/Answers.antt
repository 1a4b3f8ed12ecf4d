use Rattle.pool_slots.specs.SlotQueues.{Queue}
use Rattle.pool_slots.proofs.SlotChanges.{queue_slot}
use Rattle.pool_slots.proofs.decommit_queue.DecommitQueue.push.Goals as goal

pub invariant_of-self : goal.invariant_of-self
invariant_of-self g c =
    let i = c.self.inside in
    let q : Queue = record { ranges = i.ranges.items; slots = i.slots.items; range_room = i.ranges.room; slot_room = i.slots.room; takes = i.takes; appended = i.appended } in
    rw c.push.ensures (queue_slot c.args.item q c.self.invariant (rw (← c.self.view_is) at c.requires.room) (rw (← c.self.view_is) at c.requires.not_held) (rw (← c.self.view_is) at c.requires.clean))

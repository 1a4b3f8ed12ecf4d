use Rattle.pool_slots.specs.SlotQueues.{Queue}
use Rattle.pool_slots.proofs.SlotPops.{queue_zeroed, can_zero}
use Rattle.pool_slots.proofs.decommit_queue.DecommitQueue.zero_next.Goals as goal

pub zero_first-requires : goal.zero_first-requires
zero_first-requires g c =
    let i = c.self.inside in
    let q : Queue = record { ranges = i.ranges.items; slots = i.slots.items; range_room = i.ranges.room; slot_room = i.slots.room; takes = i.takes; appended = i.appended } in
    can_zero q c.self.invariant

pub invariant_of-self : goal.invariant_of-self
invariant_of-self g c =
    let i = c.self.inside in
    let q : Queue = record { ranges = i.ranges.items; slots = i.slots.items; range_room = i.ranges.room; slot_room = i.slots.room; takes = i.takes; appended = i.appended } in
    rw c.zero_first.ensures.zeroed (queue_zeroed c.args.kind q c.self.invariant (rw (← c.self.view_is) at c.requires))

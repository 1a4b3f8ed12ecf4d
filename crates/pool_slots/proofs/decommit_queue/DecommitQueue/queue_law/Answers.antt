use Rattle.pool_slots.proofs.SlotCoverings.{forgets_nothing}
use Rattle.pool_slots.specs.SlotQueues.{Queue}
use Rattle.pool_slots.proofs.decommit_queue.DecommitQueue.queue_law.Goals as goal

pub returns-clause-forgets_nothing : goal.returns-clause-forgets_nothing
returns-clause-forgets_nothing g c =
    let i = c.self.inside in
    let q : Queue = record { ranges = i.ranges.items; slots = i.slots.items; range_room = i.ranges.room; slot_room = i.slots.room; takes = i.takes; appended = i.appended } in
    rw (← c.self.view_is) (forgets_nothing q c.self.invariant)

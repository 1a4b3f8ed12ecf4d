use Rattle.std.proofs.Common.{◌≡◌, []}
use Rattle.pool_slots.specs.SlotQueues.{Queue}
use Rattle.pool_slots.proofs.SlotPops.{queue_popped, first_settled}
use Rattle.pool_slots.proofs.decommit_queue.DecommitQueue.pop.Goals as goal

pub invariant_of-self : goal.invariant_of-self
invariant_of-self g c =
    let i = c.self.inside in
    let q : Queue = record { ranges = i.ranges.items; slots = i.slots.items; range_room = i.ranges.room; slot_room = i.slots.room; takes = i.takes; appended = i.appended } in
    rw c.take_first.ensures.others (queue_popped c.args.kind q c.self.invariant)

pub returns-clause-settled : goal.returns-clause-settled
returns-clause-settled g c =
    let i = c.self.inside in
    let q : Queue = record { ranges = i.ranges.items; slots = i.slots.items; range_room = i.ranges.room; slot_room = i.slots.room; takes = i.takes; appended = i.appended } in
    let none : q.ranges ≡ [] = rw (← c.self.view_is) at c.requires in
    rw c.take_first.ensures.value (first_settled c.args.kind q c.self.invariant none)

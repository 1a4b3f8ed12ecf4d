use Rattle.std.proofs.Common.{◌+◌, ◌≤◌, length}
use Rattle.pool_slots.proofs.Imports.{Slot, reach_slot}
use Rattle.pool_slots.specs.SlotQueues.{plain_slot}
use Rattle.pool_slots.proofs.plain_slot.PlainSlot.read.Goals as goal

pub read-requires-clause-reachable : goal.read-requires-clause-reachable
read-requires-clause-reachable g c =
    let i = c.self.inside in
    let s : Slot = plain_slot i.base.bytes i.region in
    let within : c.args.at + length c.args.out.now ≤ s.static_size = rw (← c.self.view_is) at c.requires in
    rw c.byte_count.ensures.value (reach_slot s c.args.at (length c.args.out.now) c.self.invariant.fits c.self.invariant.ready within)

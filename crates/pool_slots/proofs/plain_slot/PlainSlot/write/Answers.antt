use Rattle.std.proofs.Common.{◌≡◌, ◌+◌, ◌≤◌, length, sym, subst}
use Rattle.pool_slots.proofs.Imports.{Told, overwritten, Slot, reach_slot}
use Rattle.pool_slots.specs.PlainSlots.{IsPlain}
use Rattle.pool_slots.specs.SlotQueues.{plain_slot}
use Rattle.pool_slots.proofs.PlainSlots.{plain_after}
use Rattle.pool_slots.proofs.plain_slot.PlainSlot.write.Goals as goal

pub write-requires-clause-reachable : goal.write-requires-clause-reachable
write-requires-clause-reachable g c =
    let i = c.self.inside in
    let s : Slot = plain_slot i.base.bytes i.region in
    let within : c.args.at + length c.args.bytes.now ≤ s.static_size = rw (← c.self.view_is) at c.requires in
    rw c.byte_count.ensures.value (reach_slot s c.args.at (length c.args.bytes.now) c.self.invariant.fits c.self.invariant.ready within)

pub invariant_of-self : goal.invariant_of-self
invariant_of-self g c =
    let i = c.self.inside in
    let s : Slot = plain_slot i.base.bytes i.region in
    let within : c.args.at + length c.args.bytes.now ≤ s.static_size = rw (← c.self.view_is) at c.requires in
    let new : c.write.new.self ≡ overwritten (i.base.bytes + c.args.at) c.args.bytes.now i.region = rw c.byte_count.ensures.value at c.write.ensures.written in
    let P : Told → Type 0 = λ t. IsPlain (plain_slot i.base.bytes t) in
    subst P (sym new) (plain_after c.args.at c.args.bytes.now s c.self.invariant within)

use Rattle.std.proofs.Common.{◌≡◌, ℕ, ◌+◌, ◌≤◌, replicate, sym, subst}
use Rattle.pool_slots.proofs.Imports.{length-replicate, Told, overwritten, Slot, reach_slot}
use Rattle.pool_slots.specs.PlainSlots.{IsPlain}
use Rattle.pool_slots.specs.SlotQueues.{plain_slot}
use Rattle.pool_slots.proofs.PlainSlots.{plain_after}
use Rattle.pool_slots.proofs.plain_slot.PlainSlot.fill.Goals as goal

pub fill-requires-clause-reachable : goal.fill-requires-clause-reachable
fill-requires-clause-reachable g c =
    let i = c.self.inside in
    let s : Slot = plain_slot i.base.bytes i.region in
    let within : c.args.at + c.args.len ≤ s.static_size = rw (← c.self.view_is) at c.requires in
    rw c.byte_count.ensures.value (reach_slot s c.args.at c.args.len c.self.invariant.fits c.self.invariant.ready within)

pub invariant_of-self : goal.invariant_of-self
invariant_of-self g c =
    let i = c.self.inside in
    let s : Slot = plain_slot i.base.bytes i.region in
    let within : c.args.at + c.args.len ≤ s.static_size = rw (← c.self.view_is) at c.requires in
    let new : c.fill.new.self ≡ overwritten (i.base.bytes + c.args.at) (replicate c.args.len c.args.byte) i.region = rw c.byte_count.ensures.value at c.fill.ensures.written in
    let P : Told → Type 0 = λ t. IsPlain (plain_slot i.base.bytes t) in
    let N : ℕ → Type 0 = λ n. c.args.at + n ≤ s.accessible.bytes in
    subst P (sym new) (plain_after c.args.at (replicate c.args.len c.args.byte) s c.self.invariant (subst N (sym (length-replicate {A = ℕ} c.args.len c.args.byte)) within))

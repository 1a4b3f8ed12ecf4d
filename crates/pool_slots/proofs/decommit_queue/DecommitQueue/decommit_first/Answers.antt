use Rattle.std.proofs.Common.{◌≡◌, ◌<◌, true, false, length, get_or, map, refl, sym, ap, subst, slice_set}
use Rattle.pool_slots.proofs.Imports.{HoldsAt, each_at}
use Rattle.pool_slots.specs.declared.queued_range.QueuedRange.{QueuedRange}
use Rattle.pool_slots.specs.SlotQueues.{Queued, QueuedList, Queue, LeavesClean, IsQueue, owner, first_slot, forgotten, decommitted_at}
use Rattle.pool_slots.specs.SlotOrders.{first_of, AreInOrder}
use Rattle.pool_slots.specs.SlotSteps.{begins_with}
use Rattle.pool_slots.proofs.SlotFirst.{part_first, first_done, queue_done, queue_left, left_by_all, first_faulted}
use Rattle.pool_slots.proofs.SlotOrders.{order_first, order_forgotten}
use Rattle.pool_slots.proofs.decommit_queue.DecommitQueue.decommit_first.Goals as goal

pub decommit-requires-clause-part : goal.decommit-requires-clause-part
decommit-requires-clause-part g c =
    let i = c.self.inside in
    let q : Queue = record { ranges = i.ranges.items; slots = i.slots.items; range_room = i.ranges.room; slot_room = i.slots.room; takes = i.takes; appended = i.appended } in
    let inside : c.args.at < length q.slots = rw (← c.self.view_is) at c.requires.inside in
    let begins : HoldsAt (λ m. begins_with m.name q.ranges ≡ true) q.slots c.args.at = rw (← c.self.view_is) at c.requires.index in
    λ d. (part_first q c.in-Some.first c.pop_front.new.self.items c.args.at d c.self.invariant c.in-Some.ensures.items inside begins, (each_at (LeavesClean q.ranges) q.slots c.args.at d inside c.self.invariant.each).fits)

pub invariant_of-self : goal.invariant_of-self
invariant_of-self g c =
    let i = c.self.inside in
    let q : Queue = record { ranges = i.ranges.items; slots = i.slots.items; range_room = i.ranges.room; slot_room = i.slots.room; takes = i.takes; appended = i.appended } in
    let inside : c.args.at < length q.slots = rw (← c.self.view_is) at c.requires.inside in
    let begins : HoldsAt (λ m. begins_with m.name q.ranges ≡ true) q.slots c.args.at = rw (← c.self.view_is) at c.requires.index in
    let done = first_done q c.in-Some.first c.pop_front.new.self.items c.args.at c.decommit.new.self c.self.invariant c.in-Some.ensures.items inside begins c.in-Ok.ensures.ok in
    let Q : Queue → Type 0 = λ x. IsQueue x in
    rw c.in-Some.ensures.room (subst Q (sym done) (queue_done q c.in-Some.first c.pop_front.new.self.items c.self.invariant c.in-Some.ensures.items))

pub returns-in-Ok-clause-ok : goal.returns-in-Ok-clause-ok
returns-in-Ok-clause-ok g c =
    let i = c.self.inside in
    let q : Queue = record { ranges = i.ranges.items; slots = i.slots.items; range_room = i.ranges.room; slot_room = i.slots.room; takes = i.takes; appended = i.appended } in
    let inside : c.args.at < length q.slots = rw (← c.self.view_is) at c.requires.inside in
    let begins : HoldsAt (λ m. begins_with m.name q.ranges ≡ true) q.slots c.args.at = rw (← c.self.view_is) at c.requires.index in
    rw (← c.self.view_is, c.in-Some.ensures.room) (first_done q c.in-Some.first c.pop_front.new.self.items c.args.at c.decommit.new.self c.self.invariant c.in-Some.ensures.items inside begins c.in-Ok.ensures.ok)

pub invariant_of-self-in-Err : goal.invariant_of-self-in-Err
invariant_of-self-in-Err g c =
    let i = c.self.inside in
    let q : Queue = record { ranges = i.ranges.items; slots = i.slots.items; range_room = i.ranges.room; slot_room = i.slots.room; takes = i.takes; appended = i.appended } in
    let inside : c.args.at < length q.slots = rw (← c.self.view_is) at c.requires.inside in
    let begins : HoldsAt (λ m. begins_with m.name q.ranges ≡ true) q.slots c.args.at = rw (← c.self.view_is) at c.requires.index in
    let left = first_faulted q c.in-Some.first c.pop_front.new.self.items c.args.at c.decommit.new.self c.self.invariant c.in-Some.ensures.items inside begins c.in-Err.ensures.err in
    rw (c.clear.ensures, c.in-Some.ensures.room, c.forget.ensures, left.1) (queue_left (owner c.in-Some.first) q (map forgotten c.decommit.new.self.items) c.self.invariant left.0)

pub returns-in-Err-clause-err : goal.returns-in-Err-clause-err
returns-in-Err-clause-err g c =
    let i = c.self.inside in
    let q : Queue = record { ranges = i.ranges.items; slots = i.slots.items; range_room = i.ranges.room; slot_room = i.slots.room; takes = i.takes; appended = i.appended } in
    let inside : c.args.at < length q.slots = rw (← c.self.view_is) at c.requires.inside in
    let begins : HoldsAt (λ m. begins_with m.name q.ranges ≡ true) q.slots c.args.at = rw (← c.self.view_is) at c.requires.index in
    let left = first_faulted q c.in-Some.first c.pop_front.new.self.items c.args.at c.decommit.new.self c.self.invariant c.in-Some.ensures.items inside begins c.in-Err.ensures.err in
    rw (← c.self.view_is, c.clear.ensures, c.in-Some.ensures.room) (record {
      ranges = refl;
      slots = rw (c.forget.ensures, c.in-Some.ensures.items) (left_by_all (owner c.in-Some.first) q.slots (map forgotten c.decommit.new.self.items) left.0);
      sound = rw (c.forget.ensures, left.1) (queue_left (owner c.in-Some.first) q (map forgotten c.decommit.new.self.items) c.self.invariant left.0);
      range_room = refl;
      slot_room = rw c.forget.ensures left.1;
      takes = refl;
      appended = refl;
    })

pub returns-in-Ok-clause-order : goal.returns-in-Ok-clause-order
returns-in-Ok-clause-order g c =
    let i = c.self.inside in
    let q : Queue = record { ranges = i.ranges.items; slots = i.slots.items; range_room = i.ranges.room; slot_room = i.slots.room; takes = i.takes; appended = i.appended } in
    let r : QueuedRange = c.in-Some.first in
    let inside : c.args.at < length q.slots = rw (← c.self.view_is) at c.requires.inside in
    let begins : HoldsAt (λ m. begins_with m.name q.ranges ≡ true) q.slots c.args.at = rw (← c.self.view_is) at c.requires.index in
    let set : (d : Queued) → (x : Queued) × (c.decommit.new.self.items ≡ slice_set q.slots c.args.at x) = λ d.
    let m : Queued = get_or q.slots c.args.at d in
    (record m { slot = decommitted_at r.range m.slot }, ap (λ (l : QueuedList). l.items) (c.in-Ok.ensures.ok d)) in
    rw (← c.self.view_is) (order_first q r c.pop_front.new.self.items c.args.at true c.decommit.new.self.items c.self.invariant c.in-Some.ensures.items inside begins set c.in-Ok.ensures.order)

pub returns-in-Err-clause-order : goal.returns-in-Err-clause-order
returns-in-Err-clause-order g c =
    let i = c.self.inside in
    let q : Queue = record { ranges = i.ranges.items; slots = i.slots.items; range_room = i.ranges.room; slot_room = i.slots.room; takes = i.takes; appended = i.appended } in
    let r : QueuedRange = c.in-Some.first in
    let inside : c.args.at < length q.slots = rw (← c.self.view_is) at c.requires.inside in
    let begins : HoldsAt (λ m. begins_with m.name q.ranges ≡ true) q.slots c.args.at = rw (← c.self.view_is) at c.requires.index in
    let set : (d : Queued) → (x : Queued) × (c.decommit.new.self.items ≡ slice_set q.slots c.args.at x) = λ d.
    let w = c.in-Err.ensures.err d in (w.0, ap (λ (l : QueuedList). l.items) w.2) in
    let order : AreInOrder (first_slot q.ranges) (first_of q.ranges) false q.slots c.decommit.new.self.items =
    order_first q r c.pop_front.new.self.items c.args.at false c.decommit.new.self.items c.self.invariant c.in-Some.ensures.items inside begins set c.in-Err.ensures.order in
    rw (← c.self.view_is, c.forget.ensures) (order_forgotten (first_slot q.ranges) (first_of q.ranges) false q.slots c.decommit.new.self.items order)

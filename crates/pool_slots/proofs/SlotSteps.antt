-- The first range of a queue is decommitted.
use Rattle.std.proofs.Common.{◌≡◌, List, ◌∷◌, sym, subst, inl, inr, arith, All}
use Rattle.pool_slots.proofs.Imports.{cases_Bool, IfSome_then, length-map, All-head, All-tail, ByteRange, IsClean, IsPart, size_of, decommitted_all, fits_next}
use Rattle.pool_slots.specs.declared.queued_range.QueuedRange.{QueuedRange}
use Rattle.pool_slots.specs.SlotQueues.{decommitted_at, Queued, Queue, same_slot, owner, ranges_of, HasOwners, LeavesClean, IsQueue, change_at}
use Rattle.pool_slots.specs.SlotSteps.{after_first_of}
use Rattle.pool_slots.proofs.ByHand.{zeroed_next}
use Rattle.pool_slots.proofs.Lists.{each_map}
use Rattle.pool_slots.proofs.SlotLists.{ranges_here, ranges_elsewhere, change_name, change_here, change_elsewhere, distinct_map, owned_map}

clean_first : (r : QueuedRange) (rs : List QueuedRange) (m : Queued) → LeavesClean (r ∷ rs) m → LeavesClean rs (change_at (owner r) (decommitted_at r.range) m)
clean_first r rs m c =
    elim (cases_Bool (same_slot (owner r) m.name)) [
      | inl e ↦
          let here : ranges_of m.name (r ∷ rs) ≡ r.range ∷ ranges_of m.name rs = ranges_here m.name r rs e in
          let P : ByteRange → Type 0 = IsPart m.slot.region.page (size_of m.slot) in
          let parts : All P (r.range ∷ ranges_of m.name rs) = rw here at c.parts in
          let L : Queued → Type 0 = λ n. LeavesClean rs n in
          subst L (sym (change_here (owner r) (decommitted_at r.range) m e)) (record {
            fits = fits_next r.range m.slot c.fits (All-head P r.range (ranges_of m.name rs) parts);
            parts = All-tail P r.range (ranges_of m.name rs) parts;
            clean = λ known. let done : IsClean (decommitted_all (ranges_of m.name (r ∷ rs)) m.slot) = c.clean known in rw here at done;
            by_hand = c.by_hand;
            zeroed = IfSome_then m.by_hand c.zeroed (λ n z. zeroed_next n r.range m.slot (All-head P r.range (ranges_of m.name rs) parts) z);
            bytes = c.bytes;
          })
      | inr e ↦
          let elsewhere : ranges_of m.name (r ∷ rs) ≡ ranges_of m.name rs = ranges_elsewhere m.name r rs e in
          let L : Queued → Type 0 = λ n. LeavesClean rs n in
          subst L (sym (change_elsewhere (owner r) (decommitted_at r.range) m e)) (record {
            fits = c.fits;
            parts = rw elsewhere at c.parts;
            clean = λ known. let done : IsClean (decommitted_all (ranges_of m.name (r ∷ rs)) m.slot) = c.clean known in rw elsewhere at done;
            by_hand = c.by_hand;
            zeroed = c.zeroed;
            bytes = c.bytes;
          })
    ]

-- the queue as it is with a list of ranges
pub queue_first : (r : QueuedRange) (rs : List QueuedRange) (q : Queue) → IsQueue (record q { ranges = r ∷ rs }) → IsQueue (after_first_of (r ∷ rs) q)
queue_first r rs q is =
    let f : Queued → Queued = change_at (owner r) (decommitted_at r.range) in
    record {
      range_room = omega (arith, is.range_room);
      slot_room = omega (arith, is.slot_room, length-map q.slots f);
      distinct = distinct_map f (change_name (owner r) (decommitted_at r.range)) q.slots is.distinct;
      each = each_map (LeavesClean (r ∷ rs)) (LeavesClean rs) f q.slots (clean_first r rs) is.each;
    }

pub owners_first : (r : QueuedRange) (rs : List QueuedRange) (q : Queue) → HasOwners (record q { ranges = r ∷ rs }) → HasOwners (after_first_of (r ∷ rs) q)
owners_first r rs q owned = owned_map (change_at (owner r) (decommitted_at r.range)) (change_name (owner r) (decommitted_at r.range)) rs q.slots owned.1

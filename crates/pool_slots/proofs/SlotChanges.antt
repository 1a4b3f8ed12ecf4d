-- A queue stays one where ranges and slots are pushed, and where two queues are joined.
use Rattle.std.proofs.Common.{◌≡◌, ℕ, ◌+◌, ◌<◌, ◌≤◌, true, false, List, [], ◌∷◌, ◌++◌, length, refl, sym, ap, ◌∙◌, subst, arith, All, map}
use Rattle.pool_slots.proofs.Imports.{or_left, or_right, list_any-append, append-nil, length-append, ByteRange, IsClean, IsPart, size_of, decommitted_all}
use Rattle.pool_slots.specs.SlotNames.{slot_kind}
use Rattle.pool_slots.specs.declared.queued_range.QueueKind.{QueueKind}
use Rattle.pool_slots.specs.declared.slot_name.SlotName.{SlotName}
use Rattle.pool_slots.proofs.SlotFaults.{range_of}
use Rattle.pool_slots.proofs.SlotNames.{slot_if, slot_self}
use Rattle.pool_slots.specs.declared.queued_range.QueuedRange.{QueuedRange}
use Rattle.pool_slots.specs.SlotQueues.{Queued, Queue, owner, is_of, ranges_of, holds, HasOwners, AreApart, same_slot, LeavesClean, IsReset, IsQueue, with_range, with_ranges, with_slot, after_append}
use Rattle.pool_slots.proofs.ByKinds.{long_by_kind, each_by_kind, distinct_by_kind, owned_by_kind}
use Rattle.pool_slots.proofs.Lists.{each_append, each_both}
use Rattle.pool_slots.proofs.SlotLists.{AreOwned, ranges_append, ranges_here, ranges_none, none_unheld, unheld_each, distinct_append, apart_other_way, owned_more, owned_later}

clean_same : (rs ss : List QueuedRange) (m : Queued) → ranges_of m.name ss ≡ ranges_of m.name rs → LeavesClean rs m → LeavesClean ss m
clean_same rs ss m e c =
    let P : List ByteRange → Type 0 = λ l. All (IsPart m.slot.region.page (size_of m.slot)) l in
    let C : List ByteRange → Type 0 = λ l. IsClean (decommitted_all l m.slot) in
    record { fits = c.fits; parts = subst P (sym e) c.parts; clean = λ known. subst C (sym e) (c.clean known); by_hand = c.by_hand; zeroed = c.zeroed; bytes = c.bytes }

-- a range is pushed of a slot that isn't held
pub queue_range : (r : QueuedRange) (q : Queue) → IsQueue q → length q.ranges < q.range_room → holds (owner r) q.slots ≡ false → IsQueue (with_range r q)
queue_range r q is room free =
    record {
      range_room = omega (arith, length-append q.ranges (r ∷ []), room);
      slot_room = is.slot_room;
      distinct = is.distinct;
      each =
          each_both (LeavesClean q.ranges) (λ m. is_of m.name r ≡ false) (LeavesClean (q.ranges ++ r ∷ [])) q.slots
          (λ m c other. clean_same q.ranges (q.ranges ++ r ∷ []) m
          (ranges_append m.name q.ranges (r ∷ [])
          ∙ ap (λ l. ranges_of m.name q.ranges ++ l) (ranges_none m.name (r ∷ []) (other, tt))
          ∙ append-nil (ranges_of m.name q.ranges)) c)
          is.each (unheld_each (owner r) q.slots free);
    }

-- a slot is pushed
pub queue_slot : (m : Queued) (q : Queue) → IsQueue q → length q.slots < q.slot_room → holds m.name q.slots ≡ false → LeavesClean q.ranges m → IsQueue (with_slot m q)
queue_slot m q is room free clean =
    record {
      range_room = is.range_room;
      slot_room = omega (arith, long_by_kind (q.slots ++ m ∷ []), length-append q.slots (m ∷ []), room);
      distinct = distinct_by_kind (q.slots ++ m ∷ []) (distinct_append q.slots (m ∷ []) is.distinct (refl, tt) (apart_other_way (m ∷ []) q.slots (free, tt)));
      each = each_by_kind (LeavesClean q.ranges) (q.slots ++ m ∷ []) (each_append (LeavesClean q.ranges) q.slots (m ∷ []) is.each (clean, tt));
    }

-- two queues are joined
pub queue_joined : (q more : Queue) → IsQueue q → IsQueue more → length q.ranges + length more.ranges ≤ q.range_room → length q.slots + length more.slots ≤ q.slot_room → HasOwners q → HasOwners more → AreApart q.slots more.slots → IsQueue (after_append q more)
queue_joined q more is also ranges slots owned also_owned apart =
    let all : List QueuedRange = q.ranges ++ more.ranges in
    record {
      range_room = omega (arith, length-append q.ranges more.ranges, ranges);
      slot_room = omega (arith, long_by_kind (q.slots ++ more.slots), length-append q.slots more.slots, slots);
      distinct = distinct_by_kind (q.slots ++ more.slots) (distinct_append q.slots more.slots is.distinct also.distinct apart);
      each =
          each_by_kind (LeavesClean all) (q.slots ++ more.slots) (each_append (LeavesClean all) q.slots more.slots
          (each_both (LeavesClean q.ranges) (λ m. holds m.name more.slots ≡ false) (LeavesClean all) q.slots
          (λ m c other. clean_same q.ranges all m
          (ranges_append m.name q.ranges more.ranges
          ∙ ap (λ l. ranges_of m.name q.ranges ++ l) (none_unheld m.name more.ranges more.slots also_owned other)
          ∙ append-nil (ranges_of m.name q.ranges)) c)
          is.each apart)
          (each_both (LeavesClean more.ranges) (λ m. holds m.name q.slots ≡ false) (LeavesClean all) more.slots
          (λ m c other. clean_same more.ranges all m
          (ranges_append m.name q.ranges more.ranges
          ∙ ap (λ l. l ++ ranges_of m.name more.ranges) (none_unheld m.name q.ranges q.slots owned other)) c)
          also.each (apart_other_way q.slots more.slots apart)));
    }

pub owned_joined : (q more : Queue) → HasOwners q → HasOwners more → HasOwners (after_append q more)
owned_joined q more owned also_owned =
    owned_by_kind (q.ranges ++ more.ranges) (q.slots ++ more.slots) (each_append (λ r. holds (owner r) (q.slots ++ more.slots) ≡ true) q.ranges more.ranges
    (owned_more q.ranges q.slots more.slots owned) (owned_later more.ranges q.slots more.slots also_owned))

-- the ranges that were just pushed for a slot
own_ranges : (kind : QueueKind) (slot : ℕ) (rs : List ByteRange) → ranges_of (record { kind = slot_kind kind; slot = slot }) (map (range_of kind slot) rs) ≡ rs
own_ranges kind slot [] = refl
own_ranges kind slot (r ∷ rs) =
    let name : SlotName = record { kind = slot_kind kind; slot = slot } in
    ranges_here name (range_of kind slot r) (map (range_of kind slot) rs) (slot_self name) ∙ ap (λ (l : List ByteRange). r ∷ l) (own_ranges kind slot rs)

-- What has to hold of a slot that is pushed behind its ranges: they are whole pages of it, it is clean once they are
-- decommitted where that is known, and it can be zeroed by hand where it is zeroed so.
pub leaves_clean : (kind : QueueKind) (m : Queued) (rs : List ByteRange) (q : Queue) → m.name.kind ≡ slot_kind kind → HasOwners q → holds m.name q.slots ≡ false → IsReset rs m → LeavesClean (with_ranges kind m.name.slot rs q).ranges m
leaves_clean kind m rs q is owned free reset =
    let own : SlotName = record { kind = slot_kind kind; slot = m.name.slot } in
    let same : own ≡ m.name = (λ i. record { kind = sym is i; slot = m.name.slot }) in
    let mine : List QueuedRange = map (range_of kind m.name.slot) rs in
    let R : SlotName → Type 0 = λ n. ranges_of n mine ≡ rs in
    let all : ranges_of m.name (q.ranges ++ mine) ≡ rs =
    ranges_append m.name q.ranges mine
    ∙ ap (λ l. l ++ ranges_of m.name mine) (none_unheld m.name q.ranges q.slots owned free)
    ∙ subst R same (own_ranges kind m.name.slot rs) in
    let P : List ByteRange → Type 0 = λ l. All (IsPart m.slot.region.page (size_of m.slot)) l in
    let C : List ByteRange → Type 0 = λ l. IsClean (decommitted_all l m.slot) in
    record { fits = reset.fits; parts = subst P (sym all) reset.parts; clean = λ known. subst C (sym all) (reset.clean known); by_hand = reset.by_hand; zeroed = reset.zeroed; bytes = reset.bytes }

own_owned : (kind : QueueKind) (m : Queued) (rs : List ByteRange) (ms : List Queued) → m.name.kind ≡ slot_kind kind → AreOwned (map (range_of kind m.name.slot) rs) (ms ++ m ∷ [])
own_owned kind m [] ms is = tt
own_owned kind m (r ∷ rs) ms is =
    let own : SlotName = record { kind = slot_kind kind; slot = m.name.slot } in
    let same : own ≡ m.name = (λ i. record { kind = sym is i; slot = m.name.slot }) in
    let last : holds own (m ∷ []) ≡ true = or_left (same_slot own m.name) false (slot_if own m.name same) in
    (list_any-append (λ n. same_slot own n.name) ms (m ∷ []) ∙ or_right (holds own ms) (holds own (m ∷ [])) last, own_owned kind m rs ms is)

-- the slot is pushed behind its ranges
pub owned_pushed : (kind : QueueKind) (m : Queued) (rs : List ByteRange) (q : Queue) → m.name.kind ≡ slot_kind kind → HasOwners q → HasOwners (with_slot m (with_ranges kind m.name.slot rs q))
owned_pushed kind m rs q is owned =
    let mine : List QueuedRange = map (range_of kind m.name.slot) rs in
    owned_by_kind (q.ranges ++ mine) (q.slots ++ m ∷ []) (each_append (λ r. holds (owner r) (q.slots ++ m ∷ []) ≡ true) q.ranges mine
    (owned_more q.ranges q.slots (m ∷ []) owned) (own_owned kind m rs q.slots is))

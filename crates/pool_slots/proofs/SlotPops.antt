-- A slot of a kind is taken out of a queue without ranges, or zeroed by hand in it.
use Rattle.std.proofs.Common.{◌≡◌, ℕ, zero, suc, ◌<◌, ◌≤◌, true, false, List, [], ◌∷◌, length, get_or, refl, sym, ap, ◌∙◌, subst, inl, inr, arith, set, Option, Some, None, IfSome, IsSome, OnSome, is_some, remove}
use Rattle.pool_slots.proofs.Imports.{AllByRecursion, HoldsAt, list_any, cases_Bool, or_parts, or_from, true≢false, All-nil, SlotKind, IsPart, size_of}
use Rattle.pool_slots.specs.declared.slot_name.SlotName.{SlotName}
use Rattle.pool_slots.specs.declared.queued_range.QueuedRange.{QueuedRange}
use Rattle.pool_slots.specs.SlotQueues.{Queued, QueuedList, Queue, same_kind, same_slot, holds, AreDistinct, CanBeZeroed, LeavesClean, IsQueue, IsSettled, first_of_kind, others_of_kind, is_to_zero, zeroed_by, zeroed, zeroed_slot, first_zeroed}
use Rattle.pool_slots.proofs.ByHand.{zeroed_clean, zeroed_still, zeroed_fits}
use Rattle.pool_slots.proofs.Lists.{each_weaker}

-- the others hold no more, and each of them was there
unheld_others : (kind : SlotKind) (n : SlotName) (ms : List Queued) → holds n ms ≡ false → holds n (others_of_kind kind ms) ≡ false
unheld_others kind n [] free = refl
unheld_others kind n (m ∷ ms) free =
    let parts = or_parts (same_slot n m.name) (holds n ms) free in
    elim (cases_Bool (same_kind kind m.name.kind)) [
      | inl is ↦ rw is parts.1
      | inr not ↦ rw not (or_from (same_slot n m.name) (holds n (others_of_kind kind ms)) parts.0 (unheld_others kind n ms parts.1))
    ]

distinct_others : (kind : SlotKind) (ms : List Queued) → AreDistinct ms → AreDistinct (others_of_kind kind ms)
distinct_others kind [] d = tt
distinct_others kind (m ∷ ms) d =
    elim (cases_Bool (same_kind kind m.name.kind)) [
      | inl is ↦ rw is d.1
      | inr not ↦ rw not (unheld_others kind m.name ms d.0, distinct_others kind ms d.1)
    ]

pub each_others : (P : Queued → Type 0) (kind : SlotKind) (ms : List Queued) → AllByRecursion P ms → AllByRecursion P (others_of_kind kind ms)
each_others P kind [] a = tt
each_others P kind (m ∷ ms) a =
    elim (cases_Bool (same_kind kind m.name.kind)) [
      | inl is ↦ rw is a.1
      | inr not ↦ rw not (a.0, each_others P kind ms a.1)
    ]

pub fewer_others : (kind : SlotKind) (ms : List Queued) → length (others_of_kind kind ms) ≤ length ms
fewer_others kind [] = omega arith
fewer_others kind (m ∷ ms) =
    let r = fewer_others kind ms in
    elim (cases_Bool (same_kind kind m.name.kind)) [
      | inl is ↦ rw is (omega arith)
      | inr not ↦ rw not (omega arith)
    ]

pub queue_popped : (kind : SlotKind) (q : Queue) → IsQueue q → IsQueue (record q { slots = others_of_kind kind q.slots })
queue_popped kind q is =
    record {
      range_room = is.range_room;
      slot_room = let f = fewer_others kind q.slots in omega (arith, is.slot_room);
      distinct = distinct_others kind q.slots is.distinct;
      each = each_others (LeavesClean q.ranges) kind q.slots is.each;
    }

first_is_one : (P : Queued → Type 0) (kind : SlotKind) (ms : List Queued) → AllByRecursion P ms → IfSome (first_of_kind kind ms) P
first_is_one P kind [] a = tt
first_is_one P kind (m ∷ ms) a =
    elim (cases_Bool (same_kind kind m.name.kind)) [
      | inl is ↦ rw is a.0
      | inr not ↦ rw not (first_is_one P kind ms a.1)
    ]

settled_of : (ranges : List QueuedRange) (m : Queued) → ranges ≡ [] → LeavesClean ranges m → IsSettled m
settled_of ranges m none c =
    let L : List QueuedRange → Type 0 = λ l. LeavesClean l m in
    let done : LeavesClean [] m = subst L none c in
    record { clean = done.clean; bytes = done.bytes }

pub first_settled : (kind : SlotKind) (q : Queue) → IsQueue q → q.ranges ≡ [] → IfSome (first_of_kind kind q.slots) IsSettled
first_settled kind q is none = first_is_one IsSettled kind q.slots (each_weaker (LeavesClean q.ranges) IsSettled q.slots (λ m c. settled_of q.ranges m none c) is.each)

-- the first slot that is to be zeroed, by its place
pub zeroed_at : (kind : SlotKind) (ms : List Queued) (i : ℕ) (d : Queued) → i < length ms → ((k : ℕ) → k < i → HoldsAt (λ m. is_to_zero kind m ≡ false) ms k) → is_to_zero kind (get_or ms i d) ≡ true → (list_any (is_to_zero kind) ms ≡ true) × (first_zeroed kind ms ≡ set ms i (zeroed (get_or ms i d)))
zeroed_at kind [] i d inside before here = absurd (omega arith)
zeroed_at kind (m ∷ ms) zero d inside before here = (rw here refl, rw here refl)
zeroed_at kind (m ∷ ms) (suc i) d inside before here =
    let not : is_to_zero kind m ≡ false = before 0 (omega arith) m in
    let rest = zeroed_at kind ms i d (omega arith) (λ k below e. before (suc k) (omega arith) e) here in
    (rw not rest.0, rw not (ap (λ (l : List Queued). m ∷ l) rest.1))

pub zeroed_first : (kind : SlotKind) (ms : List Queued) (room i : ℕ) (new : QueuedList) → i < length ms → ((k : ℕ) → k < i → HoldsAt (λ m. is_to_zero kind m ≡ false) ms k) → HoldsAt (λ m. is_to_zero kind m ≡ true) ms i → ((d : Queued) → new ≡ record { items = set ms i (zeroed (get_or ms i d)); room = room }) → (list_any (is_to_zero kind) ms ≡ true) × (new ≡ record { items = first_zeroed kind ms; room = room })
zeroed_first kind [] room i new inside before here now = absurd (omega arith)
zeroed_first kind (m ∷ ms) room i new inside before here now =
    let first = zeroed_at kind (m ∷ ms) i m inside before (here m) in
    let R : List Queued → QueuedList = λ l. record { items = l; room = room } in
    (first.0, now m ∙ ap R (sym first.1))

pub one_to_zero : (kind : SlotKind) (ms : List Queued) (i : ℕ) → i < length ms → ((k : ℕ) → k < i → HoldsAt (λ m. is_to_zero kind m ≡ false) ms k) → HoldsAt (λ m. is_to_zero kind m ≡ true) ms i → list_any (is_to_zero kind) ms ≡ true
one_to_zero kind [] i inside before here = absurd (omega arith)
one_to_zero kind (m ∷ ms) i inside before here = (zeroed_at kind (m ∷ ms) i m inside before (here m)).0

pub none_to_zero : (kind : SlotKind) (ms : List Queued) → ((k : ℕ) → k < length ms → HoldsAt (λ m. is_to_zero kind m ≡ false) ms k) → (list_any (is_to_zero kind) ms ≡ false) × (first_zeroed kind ms ≡ ms)
none_to_zero kind [] none = (refl, refl)
none_to_zero kind (m ∷ ms) none =
    let not : is_to_zero kind m ≡ false = none 0 (omega arith) m in
    let rest = none_to_zero kind ms (λ k below e. none (suc k) (omega arith) e) in
    (rw not rest.0, rw not (ap (λ (l : List Queued). m ∷ l) rest.1))

-- a slot that is zeroed is clean, and can be zeroed again
zeroed_leaves : (o : Option ℕ) (m : Queued) → m.by_hand ≡ o → LeavesClean [] m → LeavesClean [] (zeroed_by o m)
zeroed_leaves None m e c = c
zeroed_leaves (Some n) m e c =
    let Z : Option ℕ → Type 0 = λ o. IfSome o (λ k. CanBeZeroed k m.slot) in
    let can : CanBeZeroed n m.slot = subst Z e c.zeroed in
    let W : Option ℕ → Type 0 = λ o. IfSome o (λ k. CanBeZeroed k (zeroed_slot n m.slot)) in
    record {
      fits = zeroed_fits n m.slot can;
      parts = All-nil (IsPart m.slot.region.page (size_of (zeroed_slot n m.slot)));
      clean = λ known. zeroed_clean n m.slot can;
      by_hand = c.by_hand;
      zeroed = subst W (sym e) (zeroed_still n m.slot can);
      bytes = c.bytes;
    }

name_zeroed : (o : Option ℕ) (m : Queued) → (zeroed_by o m).name ≡ m.name
name_zeroed None m = refl
name_zeroed (Some n) m = refl

unheld_zeroed : (kind : SlotKind) (n : SlotName) (ms : List Queued) → holds n (first_zeroed kind ms) ≡ holds n ms
unheld_zeroed kind n [] = refl
unheld_zeroed kind n (m ∷ ms) =
    elim (cases_Bool (is_to_zero kind m)) [
      | inl is ↦ rw (is, name_zeroed m.by_hand m) refl
      | inr not ↦ rw (not, unheld_zeroed kind n ms) refl
    ]

distinct_zeroed : (kind : SlotKind) (ms : List Queued) → AreDistinct ms → AreDistinct (first_zeroed kind ms)
distinct_zeroed kind [] d = tt
distinct_zeroed kind (m ∷ ms) d =
    elim (cases_Bool (is_to_zero kind m)) [
      | inl is ↦ rw is (ap (λ (n : SlotName). holds n ms) (name_zeroed m.by_hand m) ∙ d.0, d.1)
      | inr not ↦ rw not (unheld_zeroed kind m.name ms ∙ d.0, distinct_zeroed kind ms d.1)
    ]

each_zeroed : (kind : SlotKind) (ms : List Queued) → AllByRecursion (LeavesClean []) ms → AllByRecursion (LeavesClean []) (first_zeroed kind ms)
each_zeroed kind [] a = tt
each_zeroed kind (m ∷ ms) a =
    elim (cases_Bool (is_to_zero kind m)) [
      | inl is ↦ rw is (zeroed_leaves m.by_hand m refl a.0, a.1)
      | inr not ↦ rw not (a.0, each_zeroed kind ms a.1)
    ]

pub zeroed_long : (kind : SlotKind) (ms : List Queued) → length (first_zeroed kind ms) ≡ length ms
zeroed_long kind [] = refl
zeroed_long kind (m ∷ ms) =
    let r = zeroed_long kind ms in
    elim (cases_Bool (is_to_zero kind m)) [
      | inl is ↦ rw is refl
      | inr not ↦ rw (not, r) refl
    ]

pub queue_zeroed : (kind : SlotKind) (q : Queue) → IsQueue q → q.ranges ≡ [] → IsQueue (record q { slots = first_zeroed kind q.slots })
queue_zeroed kind q is none =
    let E : List QueuedRange → Type 0 = λ l. AllByRecursion (LeavesClean l) q.slots in
    let F : List QueuedRange → Type 0 = λ l. AllByRecursion (LeavesClean l) (first_zeroed kind q.slots) in
    record {
      range_room = is.range_room;
      slot_room = let l = zeroed_long kind q.slots in omega (arith, is.slot_room);
      distinct = distinct_zeroed kind q.slots is.distinct;
      each = subst F (sym none) (each_zeroed kind q.slots (subst E none is.each));
    }

pub can_zero : (q : Queue) → IsQueue q → AllByRecursion (λ m. IfSome m.by_hand (λ n. CanBeZeroed n m.slot)) q.slots
can_zero q is = each_weaker (LeavesClean q.ranges) (λ m. IfSome m.by_hand (λ n. CanBeZeroed n m.slot)) q.slots (λ m c. c.zeroed) is.each

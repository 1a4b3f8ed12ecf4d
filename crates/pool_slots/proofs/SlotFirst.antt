-- What the decommit of the first range makes of a queue, by the place of its slot.
use Rattle.std.proofs.Common.{◌≡◌, ℕ, ◌<◌, true, false, List, [], ◌∷◌, length, get_or, refl, sym, ap, ◌∙◌, subst, arith, Option, None, Some, map, slice_set, All, IfSome}
use Rattle.pool_slots.proofs.Imports.{AllByRecursion, AllZip, HoldsAt, All-head, All-nil, each_at, SlotKind, ByteRange, IsPart, size_of}
use Rattle.pool_hall.specs.declared.unit_name.SlotKind.TheVariants as of_slot
use Rattle.pool_slots.specs.declared.queued_range.QueuedRange.{QueuedRange}
use Rattle.pool_slots.specs.declared.slot_name.SlotName.{SlotName}
use Rattle.pool_slots.specs.SlotQueues.{decommitted_at, Queued, QueuedList, Queue, owner, is_of, ranges_of, holds, AreDistinct, CanBeZeroed, MayBeByHand, LeavesClean, IsQueue, same_kind, change_at, forgotten, IsLeftItem, IsLeftBy}
use Rattle.pool_slots.specs.SlotSteps.{begins_with, after_first_of, after_first}
use Rattle.pool_slots.proofs.Lists.{zip_weaker, zip_length}
use Rattle.pool_slots.proofs.SlotFaults.{IsLeftStill, left_at}
use Rattle.pool_slots.proofs.SlotLists.{ranges_here, set_is_change}
use Rattle.pool_slots.proofs.SlotNames.{slot_is}
use Rattle.pool_slots.proofs.SlotSteps.{queue_first}

pub first_is : (ranges : List QueuedRange) (r : QueuedRange) (rs : List QueuedRange) (k : SlotName) → ranges ≡ r ∷ rs → begins_with k ranges ≡ true → is_of k r ≡ true
first_is ranges r rs k e begins =
    let B : List QueuedRange → Type 0 = λ l. begins_with k l ≡ true in
    subst B e begins

pub part_first : (q : Queue) (r : QueuedRange) (rs : List QueuedRange) (i : ℕ) (d : Queued) → IsQueue q → q.ranges ≡ r ∷ rs → i < length q.slots → HoldsAt (λ m. begins_with m.name q.ranges ≡ true) q.slots i → IsPart (get_or q.slots i d).slot.region.page (size_of (get_or q.slots i d).slot) r.range
part_first q r rs i d is e inside begins =
    let m : Queued = get_or q.slots i d in
    let P : ByteRange → Type 0 = IsPart m.slot.region.page (size_of m.slot) in
    let clean : LeavesClean q.ranges m = each_at (LeavesClean q.ranges) q.slots i d inside is.each in
    let R : List QueuedRange → Type 0 = λ l. All P (ranges_of m.name l) in
    let parts : All P (ranges_of m.name (r ∷ rs)) = subst R e clean.parts in
    let S : List ByteRange → Type 0 = λ l. All P l in
    let here : All P (r.range ∷ ranges_of m.name rs) = subst S (ranges_here m.name r rs (first_is q.ranges r rs m.name e (begins d))) parts in
    All-head P r.range (ranges_of m.name rs) here

-- the slot at a place is changed: it is that of the range
slots_first : (ms : List Queued) (r : QueuedRange) (i : ℕ) (new : List Queued) → i < length ms → AreDistinct ms → HoldsAt (λ m. is_of m.name r ≡ true) ms i → ((d : Queued) → new ≡ slice_set ms i (record (get_or ms i d) { slot = decommitted_at r.range (get_or ms i d).slot })) → new ≡ map (change_at (owner r) (decommitted_at r.range)) ms
slots_first [] r i new inside distinct of now = absurd (omega arith)
slots_first (m ∷ ms) r i new inside distinct of now =
    now m ∙ set_is_change (owner r) (decommitted_at r.range) (m ∷ ms) i m inside distinct (sym (slot_is (owner r) (get_or (m ∷ ms) i m).name (of m)))

room_of : (ms : List Queued) (room i : ℕ) (new : QueuedList) → i < length ms → ((d : Queued) → new.room ≡ room) → new.room ≡ room
room_of [] room i new inside now = absurd (omega arith)
room_of (m ∷ ms) room i new inside now = now m

pub first_done : (q : Queue) (r : QueuedRange) (rs : List QueuedRange) (i : ℕ) (new : QueuedList) → IsQueue q → q.ranges ≡ r ∷ rs → i < length q.slots → HoldsAt (λ m. begins_with m.name q.ranges ≡ true) q.slots i → ((d : Queued) → new ≡ record { items = slice_set q.slots i (record (get_or q.slots i d) { slot = decommitted_at r.range (get_or q.slots i d).slot }); room = q.slot_room }) → record q { ranges = rs; slots = new.items; slot_room = new.room } ≡ after_first q
first_done q r rs i new is e inside begins now =
    let items : new.items ≡ map (change_at (owner r) (decommitted_at r.range)) q.slots =
    slots_first q.slots r i new.items inside is.distinct (λ d. first_is q.ranges r rs (get_or q.slots i d).name e (begins d)) (λ d. ap (λ (l : QueuedList). l.items) (now d)) in
    let room : new.room ≡ q.slot_room = room_of q.slots q.slot_room i new inside (λ d. ap (λ (l : QueuedList). l.room) (now d)) in
    ap (λ (l : List Queued). record q { ranges = rs; slots = l; slot_room = new.room }) items
    ∙ ap (λ (n : ℕ). record q { ranges = rs; slots = map (change_at (owner r) (decommitted_at r.range)) q.slots; slot_room = n }) room
    ∙ ap (λ (l : List QueuedRange). after_first_of l q) (sym e)

pub queue_done : (q : Queue) (r : QueuedRange) (rs : List QueuedRange) → IsQueue q → q.ranges ≡ r ∷ rs → IsQueue (after_first q)
queue_done q r rs is e =
    let K : List QueuedRange → Type 0 = λ l. IsQueue (after_first_of l q) in
    let Q : List QueuedRange → Type 0 = λ l. IsQueue (record q { ranges = l }) in
    subst K (sym e) (queue_first r rs q (subst Q e is))

-- nothing is known of any slot, which keep their names
left_name : (k : SlotName) (m n : Queued) → IsLeftStill k m n → n.name ≡ m.name
left_name k m n left = ap (λ (x : Queued). x.name) left.left.same

holds_left : (k slot : SlotName) (ms ns : List Queued) → AllZip (IsLeftStill k) ms ns → holds slot ns ≡ holds slot ms
holds_left k slot [] [] a = refl
holds_left k slot [] (n ∷ ns) a = absurd a
holds_left k slot (m ∷ ms) [] a = absurd a
holds_left k slot (m ∷ ms) (n ∷ ns) a = rw (left_name k m n a.0, holds_left k slot ms ns a.1) refl

distinct_left : (k : SlotName) (ms ns : List Queued) → AllZip (IsLeftStill k) ms ns → AreDistinct ms → AreDistinct ns
distinct_left k [] [] a d = tt
distinct_left k [] (n ∷ ns) a d = absurd a
distinct_left k (m ∷ ms) [] a d = absurd a
distinct_left k (m ∷ ms) (n ∷ ns) a d = (ap (λ (x : SlotName). holds x ns) (left_name k m n a.0) ∙ holds_left k m.name ms ns a.1 ∙ d.0, distinct_left k ms ns a.1 d.1)

-- what is zeroed by hand is no memory
zeroed_left : (kind : SlotKind) (o : Option ℕ) (P Q : ℕ → Type 0) → MayBeByHand kind o → IfSome o P → ((n : ℕ) → same_kind of_slot.Memory kind ≡ false → P n → Q n) → IfSome o Q
zeroed_left kind None P Q may some f = tt
zeroed_left of_slot.Memory (Some n) P Q may some f = absurd cc
zeroed_left of_slot.Table (Some n) P Q may some f = f n refl some
zeroed_left of_slot.Stack (Some n) P Q may some f = f n refl some
zeroed_left of_slot.Heap (Some n) P Q may some f = f n refl some

unknown_clean : (k : SlotName) (ranges : List QueuedRange) (m n : Queued) → IsLeftStill k m n → LeavesClean ranges m → LeavesClean [] n
unknown_clean k ranges m n left c =
    let unknown : n.known ≡ false = ap (λ (x : Queued). x.known) left.left.same in
    let Z : Option ℕ → Type 0 = λ o. IfSome o (λ b. CanBeZeroed b n.slot) in
    let M : Queued → Type 0 = λ x. MayBeByHand x.name.kind x.by_hand in
    record {
      fits = left.fits c.fits;
      parts = All-nil (IsPart n.slot.region.page (size_of n.slot));
      clean = λ known. absurd (cc (known, unknown));
      by_hand = subst M (sym left.left.same) c.by_hand;
      zeroed = subst Z (sym (ap (λ (x : Queued). x.by_hand) left.left.same)) (zeroed_left m.name.kind m.by_hand (λ b. CanBeZeroed b m.slot) (λ b. CanBeZeroed b n.slot) c.by_hand c.zeroed left.zeroed);
      bytes = let same : n.bytes ≡ m.bytes = ap (λ (x : Queued). x.bytes) left.left.same in rw same c.bytes;
    }

each_left : (k : SlotName) (ranges : List QueuedRange) (ms ns : List Queued) → AllZip (IsLeftStill k) ms ns → AllByRecursion (LeavesClean ranges) ms → AllByRecursion (LeavesClean []) ns
each_left k ranges [] [] a c = tt
each_left k ranges [] (n ∷ ns) a c = absurd a
each_left k ranges (m ∷ ms) [] a c = absurd a
each_left k ranges (m ∷ ms) (n ∷ ns) a c = (unknown_clean k ranges m n a.0 c.0, each_left k ranges ms ns a.1 c.1)

pub queue_left : (k : SlotName) (q : Queue) (ns : List Queued) → IsQueue q → AllZip (IsLeftStill k) q.slots ns → IsQueue (record q { ranges = []; slots = ns })
queue_left k q ns is left =
    record {
      range_room = omega arith;
      slot_room = omega (arith, is.slot_room, zip_length (IsLeftStill k) q.slots ns left);
      distinct = distinct_left k q.slots ns left is.distinct;
      each = each_left k q.ranges q.slots ns left is.each;
    }

pub left_by_all : (k : SlotName) (ms ns : List Queued) → AllZip (IsLeftStill k) ms ns → AllZip (IsLeftBy k) ms ns
left_by_all k ms ns still = zip_weaker (IsLeftStill k) (IsLeftBy k) ms ns (λ m n left. left.left) still

faulted_at : (ms : List Queued) (room : ℕ) (r : QueuedRange) (i : ℕ) (new : QueuedList) → i < length ms → AreDistinct ms → HoldsAt (λ m. is_of m.name r ≡ true) ms i → ((d : Queued) → (n : Queued) × IsLeftItem r.range (get_or ms i d) n × (new ≡ record { items = slice_set ms i n; room = room })) → AllZip (IsLeftStill (owner r)) ms (map forgotten new.items) × (new.room ≡ room)
faulted_at [] room r i new inside distinct of now = absurd (omega arith)
faulted_at (m ∷ ms) room r i new inside distinct of now =
    let w = now m in
    let L : List Queued → Type 0 = λ l. AllZip (IsLeftStill (owner r)) (m ∷ ms) (map forgotten l) in
    (subst L (sym (ap (λ (l : QueuedList). l.items) w.2)) (left_at (owner r) r.range (m ∷ ms) i m w.0 inside distinct (sym (slot_is (owner r) (get_or (m ∷ ms) i m).name (of m))) w.1), ap (λ (l : QueuedList). l.room) w.2)

pub first_faulted : (q : Queue) (r : QueuedRange) (rs : List QueuedRange) (i : ℕ) (new : QueuedList) → IsQueue q → q.ranges ≡ r ∷ rs → i < length q.slots → HoldsAt (λ m. begins_with m.name q.ranges ≡ true) q.slots i → ((d : Queued) → (n : Queued) × IsLeftItem r.range (get_or q.slots i d) n × (new ≡ record { items = slice_set q.slots i n; room = q.slot_room })) → AllZip (IsLeftStill (owner r)) q.slots (map forgotten new.items) × (new.room ≡ q.slot_room)
first_faulted q r rs i new is e inside begins now =
    faulted_at q.slots q.slot_room r i new inside is.distinct (λ d. first_is q.ranges r rs (get_or q.slots i d).name e (begins d)) now

-- The lists of a queue: which ranges are of which slot, and slots that differ.
use Rattle.std.proofs.Common.{◌≡◌, ℕ, zero, suc, ◌<◌, ◌≤◌, Bool, true, false, List, [], ◌∷◌, ◌++◌, length, get_or, refl, sym, ap, ◌∙◌, subst, inl, inr, arith, set, map, filter, cond}
use Rattle.pool_slots.proofs.Imports.{AllByRecursion, HoldsAt, cases_lt, or_parts, or_from, or_left, or_right, true≢false, map-append, list_any-append, list_any_none, ByteRange, Slot}
use Rattle.pool_slots.specs.declared.queued_range.QueuedRange.{QueuedRange}
use Rattle.pool_slots.specs.declared.slot_name.SlotName.{SlotName}
use Rattle.pool_slots.specs.SlotQueues.{Queued, same_slot, owner, is_of, ranges_of, holds, AreDistinct, AreApart, change_at}
use Rattle.pool_slots.proofs.Lists.{each_weaker, each_both, each_known, filter_append, filter_none}
use Rattle.pool_slots.proofs.SlotNames.{slot_if, slots_apart, slot_not, slot_cases, slot_other_way}

pub ranges_append : (slot : SlotName) (xs ys : List QueuedRange) → ranges_of slot (xs ++ ys) ≡ ranges_of slot xs ++ ranges_of slot ys
ranges_append slot xs ys =
    let f : QueuedRange → ByteRange = λ r. r.range in
    ap (map f) (filter_append (is_of slot) xs ys) ∙ map-append f (filter (is_of slot) xs) (filter (is_of slot) ys)

pub ranges_none : (slot : SlotName) (ranges : List QueuedRange) → AllByRecursion (λ r. is_of slot r ≡ false) ranges → ranges_of slot ranges ≡ []
ranges_none slot ranges none = let f : QueuedRange → ByteRange = λ r. r.range in ap (map f) (filter_none (is_of slot) ranges none)

-- the first range is one of the slot, or isn't
pub ranges_here : (slot : SlotName) (r : QueuedRange) (rs : List QueuedRange) → is_of slot r ≡ true → ranges_of slot (r ∷ rs) ≡ r.range ∷ ranges_of slot rs
ranges_here slot r rs e = rw e refl

pub ranges_elsewhere : (slot : SlotName) (r : QueuedRange) (rs : List QueuedRange) → is_of slot r ≡ false → ranges_of slot (r ∷ rs) ≡ ranges_of slot rs
ranges_elsewhere slot r rs e = rw e refl

-- a slot that is held isn't one that isn't
pub held_apart : (m slot : SlotName) (slots : List Queued) → holds m slots ≡ true → holds slot slots ≡ false → same_slot m slot ≡ false
held_apart m slot slots held free =
    elim (slot_cases m slot) [
      | inl e ↦ let H : SlotName → Type 0 = λ n. holds n slots ≡ true in absurd (true≢false (sym (subst H e held) ∙ free))
      | inr other ↦ slot_not m slot other
    ]

-- each range of a list has its slot among these
abbrev pub AreOwned : List QueuedRange → List Queued → Type 0
AreOwned ranges slots = AllByRecursion (λ r. holds (owner r) slots ≡ true) ranges

-- no range is of a slot that isn't held
pub none_unheld : (slot : SlotName) (ranges : List QueuedRange) (slots : List Queued) → AreOwned ranges slots → holds slot slots ≡ false → ranges_of slot ranges ≡ []
none_unheld slot ranges slots owned free =
    ranges_none slot ranges
    (each_weaker (λ r. holds (owner r) slots ≡ true) (λ r. is_of slot r ≡ false) ranges (λ r held. held_apart (owner r) slot slots held free) owned)

-- a change that keeps names keeps which slots are held, and that they differ
pub holds_map : (f : Queued → Queued) → ((m : Queued) → (f m).name ≡ m.name) → (slot : SlotName) (ms : List Queued) → holds slot (map f ms) ≡ holds slot ms
holds_map f same slot [] = refl
holds_map f same slot (m ∷ ms) = rw (same m, holds_map f same slot ms) refl

pub distinct_map : (f : Queued → Queued) → ((m : Queued) → (f m).name ≡ m.name) → (ms : List Queued) → AreDistinct ms → AreDistinct (map f ms)
distinct_map f same [] d = tt
distinct_map f same (m ∷ ms) d = (ap (λ (n : SlotName). holds n (map f ms)) (same m) ∙ holds_map f same m.name ms ∙ d.0, distinct_map f same ms d.1)

change_name_if : (b : Bool) (change : Slot → Slot) (m : Queued) → (cond b (record m { slot = change m.slot }) m).name ≡ m.name
change_name_if true change m = refl
change_name_if false change m = refl

pub change_name : (slot : SlotName) (change : Slot → Slot) (m : Queued) → (change_at slot change m).name ≡ m.name
change_name slot change m = change_name_if (same_slot slot m.name) change m

-- ranges that have owners still have them after such a change
pub owned_map : (f : Queued → Queued) → ((m : Queued) → (f m).name ≡ m.name) → (ranges : List QueuedRange) (ms : List Queued) → AreOwned ranges ms → AreOwned ranges (map f ms)
owned_map f same ranges ms owned =
    each_weaker (λ r. holds (owner r) ms ≡ true) (λ r. holds (owner r) (map f ms) ≡ true) ranges
    (λ r held. holds_map f same (owner r) ms ∙ held) owned

-- ranges that have owners have them among more slots
pub owned_more : (ranges : List QueuedRange) (ms ns : List Queued) → AreOwned ranges ms → AreOwned ranges (ms ++ ns)
owned_more ranges ms ns owned =
    each_weaker (λ r. holds (owner r) ms ≡ true) (λ r. holds (owner r) (ms ++ ns) ≡ true) ranges (λ r held. list_any-append (λ m. same_slot (owner r) m.name) ms ns ∙ or_left (holds (owner r) ms) (holds (owner r) ns) held) owned

pub owned_later : (ranges : List QueuedRange) (ms ns : List Queued) → AreOwned ranges ns → AreOwned ranges (ms ++ ns)
owned_later ranges ms ns owned =
    each_weaker (λ r. holds (owner r) ns ≡ true) (λ r. holds (owner r) (ms ++ ns) ≡ true) ranges (λ r held. list_any-append (λ m. same_slot (owner r) m.name) ms ns ∙ or_right (holds (owner r) ms) (holds (owner r) ns) held) owned

-- slots that differ from one another and from others differ together
holds_both : (slot : SlotName) (ms ns : List Queued) → holds slot ms ≡ false → holds slot ns ≡ false → holds slot (ms ++ ns) ≡ false
holds_both slot ms ns a b = list_any-append (λ m. same_slot slot m.name) ms ns ∙ or_from (holds slot ms) (holds slot ns) a b

pub distinct_append : (ms ns : List Queued) → AreDistinct ms → AreDistinct ns → AreApart ms ns → AreDistinct (ms ++ ns)
distinct_append [] ns d e apart = e
distinct_append (m ∷ ms) ns d e apart = (holds_both m.name ms ns d.0 apart.0, distinct_append ms ns d.1 e apart.1)

-- a slot that isn't held isn't that of any held one
pub unheld_each : (slot : SlotName) (ns : List Queued) → holds slot ns ≡ false → AllByRecursion (λ n. same_slot slot n.name ≡ false) ns
unheld_each slot [] free = tt
unheld_each slot (n ∷ ns) free =
    let parts = or_parts (same_slot slot n.name) (holds slot ns) free in
    (parts.0, unheld_each slot ns parts.1)

pub apart_other_way : (ms ns : List Queued) → AreApart ms ns → AreApart ns ms
apart_other_way [] ns apart = each_known (λ n. holds n.name [] ≡ false) ns (λ n. refl)
apart_other_way (m ∷ ms) ns apart =
    each_both (λ n. same_slot m.name n.name ≡ false) (λ n. holds n.name ms ≡ false) (λ n. holds n.name (m ∷ ms) ≡ false) ns
    (λ n a b. or_from (same_slot n.name m.name) (holds n.name ms) (slot_other_way m.name n.name a) b)
    (unheld_each m.name ns apart.0) (apart_other_way ms ns apart.1)

pub apart_of_unheld : (slot : SlotName) (ms : List Queued) (i : ℕ) (d : Queued) → i < length ms → holds slot ms ≡ false → same_slot slot (get_or ms i d).name ≡ false
apart_of_unheld slot [] i d below free = absurd (omega arith)
apart_of_unheld slot (m ∷ ms) zero d below free = (or_parts (same_slot slot m.name) (holds slot ms) free).0
apart_of_unheld slot (m ∷ ms) (suc i) d below free = apart_of_unheld slot ms i d (omega arith) (or_parts (same_slot slot m.name) (holds slot ms) free).1

pub change_here : (slot : SlotName) (change : Slot → Slot) (m : Queued) → same_slot slot m.name ≡ true → change_at slot change m ≡ record m { slot = change m.slot }
change_here slot change m e = rw e refl

pub change_elsewhere : (slot : SlotName) (change : Slot → Slot) (m : Queued) → same_slot slot m.name ≡ false → change_at slot change m ≡ m
change_elsewhere slot change m e = rw e refl

unchanged : (slot : SlotName) (change : Slot → Slot) (ms : List Queued) → holds slot ms ≡ false → map (change_at slot change) ms ≡ ms
unchanged slot change [] free = refl
unchanged slot change (m ∷ ms) free =
    let parts = or_parts (same_slot slot m.name) (holds slot ms) free in
    rw (change_elsewhere slot change m parts.0, unchanged slot change ms parts.1) refl

-- a change of the slot at a place is one of the slot with its name
pub set_is_change : (slot : SlotName) (change : Slot → Slot) (ms : List Queued) (i : ℕ) (d : Queued) → i < length ms → AreDistinct ms → (get_or ms i d).name ≡ slot → set ms i (record (get_or ms i d) { slot = change (get_or ms i d).slot }) ≡ map (change_at slot change) ms
set_is_change slot change [] i d below distinct e = absurd (omega arith)
set_is_change slot change (m ∷ ms) zero d below distinct e =
    let free : holds slot ms ≡ false = ap (λ (n : SlotName). holds n ms) (sym e) ∙ distinct.0 in
    sym (rw (change_here slot change m (slot_if slot m.name (sym e)), unchanged slot change ms free) refl)
set_is_change slot change (m ∷ ms) (suc i) d below distinct e =
    let inside : i < length ms = omega arith in
    let apart : same_slot m.name slot ≡ false = ap (λ (n : SlotName). same_slot m.name n) (sym e) ∙ apart_of_unheld m.name ms i d inside distinct.0 in
    let other : same_slot slot m.name ≡ false = slot_not slot m.name (λ k. slots_apart m.name slot apart (sym k)) in
    sym (rw (change_elsewhere slot change m other, sym (set_is_change slot change ms i d inside distinct.1 e)) refl)

-- a slot that none of the places has isn't held
pub not_there : (slot : SlotName) (from : ℕ) (ms : List Queued) → ((k : ℕ) → from ≤ k → k < length ms → HoldsAt (λ m. same_slot slot m.name ≡ false) ms k) → ((k : ℕ) → 0 ≤ k → k < from → HoldsAt (λ m. same_slot slot m.name ≡ false) ms k) → holds slot ms ≡ false
not_there slot from ms later before =
    list_any_none (λ m. same_slot slot m.name) ms
    (λ k d below.
    elim (cases_lt k from) [
      | inl under ↦ before k (omega arith) under d
      | inr over ↦ later k over below d
    ])

-- What queues, leases and freed slots have, and what their counts say of the numbers in them.
use Rattle.std.proofs.Common.{◌≡◌, ℕ, ◌+◌, ◌≤◌, Bool, true, false, List, [], ◌∷◌, ◌++◌, refl, sym, ap, ◌∙◌, inl, inr, arith, map, filter, sum_by, if◌then◌else◌, not}
use Rattle.pool_alloc.proofs.Imports.{units_append, units_by_kind, by_kind, RegionNumbers, AllZip, or_from, sum_by-cons, sum_by_push, sum_by-filter_both, Queue, Queued, holds, AreApart, after_run, IsLeftBy, IsFaulted, first_slot, slot_not, slot_cases, SlotName}
use Rattle.pool_alloc.specs.Leases.{Lease, memory_slot}
use Rattle.pool_alloc.specs.Places.{Thing, right_to, region_of, slot_count, both_count, queued_count, leased_count, tables_count, freed_count}
use Rattle.pool_alloc.specs.TableLeases.{LeasedTable, table_slot}
use Rattle.pool_alloc.specs.declared.frame.FreedSlot.{FreedSlot}
use Rattle.pool_alloc.proofs.SlotCounts.{slot_once, slot_regions, both_regions}

-- sums of numbers that agree, and of none
pub sum_by_agree : {X : Type 0} (f g : X → ℕ) → ((x : X) → f x ≡ g x) → (xs : List X) → sum_by f xs ≡ sum_by g xs
sum_by_agree f g same [] = refl
sum_by_agree f g same (x ∷ xs) = omega (arith, sum_by-cons f x xs, sum_by-cons g x xs, same x, sum_by_agree f g same xs)

pub sum_by_none : {X : Type 0} (f : X → ℕ) → ((x : X) → f x ≡ 0) → (xs : List X) → sum_by f xs ≡ 0
sum_by_none f none [] = refl
sum_by_none f none (x ∷ xs) = omega (arith, sum_by-cons f x xs, none x, sum_by_none f none xs)

-- what a lease weighs
abbrev pub leased_one : Thing → Lease → ℕ
leased_one t l = both_count t (memory_slot l.index) l.numbers

abbrev pub table_one : Thing → LeasedTable → ℕ
table_one t l = both_count t (table_slot l.index) l.numbers

-- a slot in a queue, and that of a lease, has its region
pub queued_regions : (name : SlotName) (ms : List Queued) → queued_count (region_of name) ms ≡ queued_count (right_to name) ms
queued_regions name [] = refl
queued_regions name (m ∷ ms) = omega (arith, both_regions name m.name m.numbers, queued_regions name ms)

pub leased_regions : (name : SlotName) (ls : List Lease) → leased_count (region_of name) ls ≡ leased_count (right_to name) ls
leased_regions name ls = sum_by_agree (leased_one (region_of name)) (leased_one (right_to name)) (λ l. both_regions name (memory_slot l.index) l.numbers) ls

pub tables_regions : (name : SlotName) (ls : List LeasedTable) → tables_count (region_of name) ls ≡ tables_count (right_to name) ls
tables_regions name ls = sum_by_agree (table_one (region_of name)) (table_one (right_to name)) (λ l. both_regions name (table_slot l.index) l.numbers) ls

-- a freed slot hasn't
pub freed_regions : (name : SlotName) (xs : List FreedSlot) → freed_count (region_of name) xs ≡ 0
freed_regions name xs = sum_by_none (λ (x : FreedSlot). slot_count (region_of name) x.name) (λ x. slot_regions name x.name) xs

pub leased_first : (t : Thing) (l : Lease) (ls : List Lease) → leased_count t (l ∷ ls) ≡ leased_one t l + leased_count t ls
leased_first t l ls = sum_by-cons (leased_one t) l ls

pub tables_first : (t : Thing) (l : LeasedTable) (ls : List LeasedTable) → tables_count t (l ∷ ls) ≡ table_one t l + tables_count t ls
tables_first t l ls = sum_by-cons (table_one t) l ls

pub freed_first : (t : Thing) (x : FreedSlot) (xs : List FreedSlot) → freed_count t (x ∷ xs) ≡ slot_count t x.name + freed_count t xs
freed_first t x xs = sum_by-cons (λ (y : FreedSlot). slot_count t y.name) x xs

-- one more, behind the last of its kind
pub queued_last : (t : Thing) (ms : List Queued) (m : Queued) → queued_count t (by_kind (ms ++ m ∷ [])) ≡ queued_count t ms + both_count t m.name m.numbers
queued_last t ms m = omega (arith, units_by_kind t (ms ++ m ∷ []), units_append t ms (m ∷ []))

pub leased_last : (t : Thing) (ls : List Lease) (l : Lease) → leased_count t (ls ++ l ∷ []) ≡ leased_count t ls + leased_one t l
leased_last t ls l = sum_by_push (leased_one t) ls l

pub tables_last : (t : Thing) (ls : List LeasedTable) (l : LeasedTable) → tables_count t (ls ++ l ∷ []) ≡ tables_count t ls + table_one t l
tables_last t ls l = sum_by_push (table_one t) ls l

pub freed_last : (t : Thing) (xs : List FreedSlot) (x : FreedSlot) → freed_count t (xs ++ x ∷ []) ≡ freed_count t xs + slot_count t x.name
freed_last t xs x = sum_by_push (λ (y : FreedSlot). slot_count t y.name) xs x

-- two queues' slots
pub queued_joined : (t : Thing) (ms ns : List Queued) → queued_count t (by_kind (ms ++ ns)) ≡ queued_count t ms + queued_count t ns
queued_joined t ms ns = units_by_kind t (ms ++ ns) ∙ units_append t ms ns

-- those that pass a test, and the others
pub freed_parted : (t : Thing) (p : FreedSlot → Bool) (xs : List FreedSlot) → freed_count t (filter p xs) + freed_count t (filter (λ x. not (p x)) xs) ≡ freed_count t xs
freed_parted t p xs = sum_by-filter_both p (λ x. not (p x)) (λ x. refl) (λ (y : FreedSlot). slot_count t y.name) xs

-- slots whose names and numbers stay are counted as before, whatever is summed of them
pub same_zip : (of : Queued → ℕ) (R : Queued → Queued → Type 0) → ((a b : Queued) → R a b → of b ≡ of a) → (ms ns : List Queued) → AllZip R ms ns → sum_by of ns ≡ sum_by of ms
same_zip of R same [] [] z = refl
same_zip of R same [] (n ∷ ns) z = absurd z
same_zip of R same (m ∷ ms) [] z = absurd z
same_zip of R same (m ∷ ms) (n ∷ ns) z = omega (arith, same m n z.0, sum_by-cons of m ms, sum_by-cons of n ns, same_zip of R same ms ns z.1)

same_map : (of : Queued → ℕ) (f : Queued → Queued) → ((m : Queued) → of (f m) ≡ of m) → (ms : List Queued) → sum_by of (map f ms) ≡ sum_by of ms
same_map of f same [] = refl
same_map of f same (m ∷ ms) = omega (arith, same m, sum_by-cons of m ms, sum_by-cons of (f m) (map f ms), same_map of f same ms)

changed_one : (of : Queued → ℕ) (b : Bool) (m n : Queued) → of n ≡ of m → of (if b then n else m) ≡ of m
changed_one of true m n same = same
changed_one of false m n same = refl

-- so a decommit leaves the slots of a queue, and so does one that fails
pub run_names : (of : SlotName → RegionNumbers → ℕ) (q : Queue) → sum_by (λ m. of m.name m.numbers) (after_run q).slots ≡ sum_by (λ m. of m.name m.numbers) q.slots
run_names of q = same_map (λ m. of m.name m.numbers) _ (λ m. changed_one (λ x. of x.name x.numbers) _ m _ refl) q.slots

pub faulted_names : (of : SlotName → RegionNumbers → ℕ) (old new : Queue) → IsFaulted old new → sum_by (λ m. of m.name m.numbers) new.slots ≡ sum_by (λ m. of m.name m.numbers) old.slots
faulted_names of old new faulted = same_zip (λ m. of m.name m.numbers) (IsLeftBy (first_slot old.ranges)) (λ a b left. ap (λ (m : Queued). of m.name m.numbers) left.same) old.slots new.slots faulted.slots

-- and what these weigh
pub queued_sum : (t : Thing) (ms : List Queued) → queued_count t ms ≡ sum_by (λ m. both_count t m.name m.numbers) ms
queued_sum t [] = refl
queued_sum t (m ∷ ms) = omega (arith, queued_sum t ms, sum_by-cons (λ (x : Queued). both_count t x.name x.numbers) m ms)

pub run_counts : (t : Thing) (q : Queue) → queued_count t (after_run q).slots ≡ queued_count t q.slots
run_counts t q = queued_sum t (after_run q).slots ∙ run_names (both_count t) q ∙ sym (queued_sum t q.slots)

pub faulted_counts : (t : Thing) (old new : Queue) → IsFaulted old new → queued_count t new.slots ≡ queued_count t old.slots
faulted_counts t old new faulted = queued_sum t new.slots ∙ faulted_names (both_count t) old new faulted ∙ sym (queued_sum t old.slots)

-- a slot that isn't counted isn't held
pub not_held : (name : SlotName) (ms : List Queued) → queued_count (right_to name) ms ≡ 0 → holds name ms ≡ false
not_held name [] none = refl
not_held name (m ∷ ms) none =
    elim (slot_cases name m.name) [
      | inl e ↦
          let one : slot_count (right_to name) m.name ≡ 1 = ap (slot_count (right_to name)) (sym e) ∙ slot_once name in
          absurd (omega arith)
      | inr other ↦ or_from _ (holds name ms) (slot_not name m.name other) (not_held name ms (omega arith))
    ]

-- two queues that have no slot both hold no slot both
pub apart_by_count : (these those : List Queued) → ((name : SlotName) → queued_count (right_to name) these + queued_count (right_to name) those ≤ 1) → AreApart these those
apart_by_count [] those once = tt
apart_by_count (m ∷ ms) those once =
    (not_held m.name those (omega (arith, once m.name, slot_once m.name)), apart_by_count ms those (λ name. omega (arith, once name)))

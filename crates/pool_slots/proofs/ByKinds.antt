-- Slots that stand kind by kind: all of them, each once.
use Rattle.std.proofs.Common.{◌≡◌, ◌+◌, ◌||◌, Bool, true, false, List, [], ◌∷◌, ◌++◌, length, refl, sym, ap, ◌∙◌, subst, arith, All}
use Rattle.pool_slots.proofs.Imports.{AllByRecursion, list_any, or_parts, or_from, append_assoc, length-append, All-cons, All-head, All-tail, SlotKind}
use Rattle.pool_hall.specs.declared.unit_name.SlotKind.TheVariants as of_slot
use Rattle.pool_slots.specs.declared.slot_name.SlotName.{SlotName}
use Rattle.pool_slots.specs.declared.queued_range.QueuedRange.{QueuedRange}
use Rattle.pool_slots.specs.SlotQueues.{Queued, same_kind, same_slot, is_kind, owner, holds, AreDistinct, of_kind, by_kind}
use Rattle.pool_slots.proofs.Lists.{each_weaker}
use Rattle.pool_slots.proofs.SlotNames.{slot_other_way}

-- a slot more stands somewhere between the others
record IsBetween (m : Queued) (ms ns : List Queued) : Type 0 where
  pub front : List Queued
  pub back : List Queued
  pub before : ms ≡ front ++ back
  pub after : ns ≡ front ++ m ∷ back

between : (kind : SlotKind) (m : Queued) (ms : List Queued) → m.name.kind ≡ kind → IsBetween m (by_kind ms) (by_kind (m ∷ ms))
between of_slot.Memory m ms e = record { front = []; back = by_kind ms; before = refl; after = rw e refl }
between of_slot.Table m ms e =
    record { front = of_kind of_slot.Memory ms; back = of_kind of_slot.Table ms ++ (of_kind of_slot.Stack ms ++ of_kind of_slot.Heap ms); before = refl; after = rw e refl }
between of_slot.Stack m ms e =
    let a : List Queued = of_kind of_slot.Memory ms in
    let b : List Queued = of_kind of_slot.Table ms in
    let c : List Queued = of_kind of_slot.Stack ms ++ of_kind of_slot.Heap ms in
    let p : is_kind of_slot.Memory m ≡ false = ap (λ (k : SlotKind). same_kind of_slot.Memory k) e in
    let q : is_kind of_slot.Table m ≡ false = ap (λ (k : SlotKind). same_kind of_slot.Table k) e in
    let r : is_kind of_slot.Stack m ≡ true = ap (λ (k : SlotKind). same_kind of_slot.Stack k) e in
    let z : is_kind of_slot.Heap m ≡ false = ap (λ (k : SlotKind). same_kind of_slot.Heap k) e in
    record { front = a ++ b; back = c; before = sym (append_assoc a b c); after = rw (p, q, r, z) (sym (append_assoc a b (m ∷ c))) }
between of_slot.Heap m ms e =
    let a : List Queued = of_kind of_slot.Memory ms in
    let b : List Queued = of_kind of_slot.Table ms in
    let c : List Queued = of_kind of_slot.Stack ms in
    let d : List Queued = of_kind of_slot.Heap ms in
    let three : (l : List Queued) → a ++ (b ++ (c ++ l)) ≡ (a ++ (b ++ c)) ++ l = λ l. ap (λ (x : List Queued). a ++ x) (sym (append_assoc b c l)) ∙ sym (append_assoc a (b ++ c) l) in
    let p : is_kind of_slot.Memory m ≡ false = ap (λ (k : SlotKind). same_kind of_slot.Memory k) e in
    let q : is_kind of_slot.Table m ≡ false = ap (λ (k : SlotKind). same_kind of_slot.Table k) e in
    let r : is_kind of_slot.Stack m ≡ false = ap (λ (k : SlotKind). same_kind of_slot.Stack k) e in
    let z : is_kind of_slot.Heap m ≡ true = ap (λ (k : SlotKind). same_kind of_slot.Heap k) e in
    record { front = a ++ (b ++ c); back = d; before = three d; after = rw (p, q, r, z) (three (m ∷ d)) }

-- What holds of slots and of the same slots with one more somewhere holds of slots and of those kind by kind.
pub rearranged : (F : List Queued → List Queued → Type 0) → F [] [] → ((m : Queued) (ms front back : List Queued) → F ms (front ++ back) → F (m ∷ ms) (front ++ m ∷ back)) → (ms : List Queued) → F ms (by_kind ms)
rearranged F none more [] = none
rearranged F none more (m ∷ ms) =
    let at = between m.name.kind m ms refl in
    subst (λ (l : List Queued). F (m ∷ ms) l) (sym at.after) (more m ms at.front at.back (subst (λ (l : List Queued). F ms l) at.before (rearranged F none more ms)))

-- There are as many,
long_between : (m : Queued) (front back : List Queued) → length (front ++ m ∷ back) ≡ length (front ++ back) + 1
long_between m front back = omega (arith, length-append front (m ∷ back), length-append front back)

pub long_by_kind : (ms : List Queued) → length (by_kind ms) ≡ length ms
long_by_kind =
    rearranged (λ ms ns. length ns ≡ length ms) refl (λ m ms front back had. omega (arith, long_between m front back, had))

-- what holds of each still does,
each_between : (P : Queued → Type 0) (m : Queued) (front back : List Queued) → P m → AllByRecursion P (front ++ back) → AllByRecursion P (front ++ m ∷ back)
each_between P m [] back here each = (here, each)
each_between P m (x ∷ front) back here each = (each.0, each_between P m front back here each.1)

pub each_by_kind : (P : Queued → Type 0) (ms : List Queued) → AllByRecursion P ms → AllByRecursion P (by_kind ms)
each_by_kind P =
    rearranged (λ ms ns. AllByRecursion P ms → AllByRecursion P ns) (λ _. tt) (λ m ms front back had each. each_between P m front back each.0 (had each.1))

all_between : (P : Queued → Type 0) (m : Queued) (front back : List Queued) → P m → All P (front ++ back) → All P (front ++ m ∷ back)
all_between P m [] back here all = All-cons P m back here all
all_between P m (x ∷ front) back here all =
    All-cons P x (front ++ m ∷ back) (All-head P x (front ++ back) all) (all_between P m front back here (All-tail P x (front ++ back) all))

pub all_by_kind : (P : Queued → Type 0) (ms : List Queued) → All P ms → All P (by_kind ms)
all_by_kind P =
    rearranged (λ ms ns. All P ms → All P ns) (λ all. all) (λ m ms front back had all. all_between P m front back (All-head P m ms all) (had (All-tail P m ms all)))

-- the same slots are held,
or_swapped : (a b c : Bool) → (a || (b || c)) ≡ (b || (a || c))
or_swapped true true c = refl
or_swapped true false c = refl
or_swapped false true c = refl
or_swapped false false c = refl

any_between : (p : Queued → Bool) (m : Queued) (front back : List Queued) → list_any p (front ++ m ∷ back) ≡ list_any p (m ∷ (front ++ back))
any_between p m [] back = refl
any_between p m (x ∷ front) back = ap (λ (b : Bool). p x || b) (any_between p m front back) ∙ or_swapped (p x) (p m) (list_any p (front ++ back))

pub any_by_kind : (p : Queued → Bool) (ms : List Queued) → list_any p (by_kind ms) ≡ list_any p ms
any_by_kind p =
    rearranged (λ ms ns. list_any p ns ≡ list_any p ms) refl (λ m ms front back had. any_between p m front back ∙ ap (λ (b : Bool). p m || b) had)

pub held_by_kind : (name : SlotName) (ms : List Queued) → holds name (by_kind ms) ≡ holds name ms
held_by_kind name ms = any_by_kind (λ m. same_slot name m.name) ms

-- and no two of them are one.
distinct_between : (m : Queued) (front back : List Queued) → holds m.name (front ++ back) ≡ false → AreDistinct (front ++ back) → AreDistinct (front ++ m ∷ back)
distinct_between m [] back free distinct = (free, distinct)
distinct_between m (x ∷ front) back free distinct =
    let parts = or_parts (same_slot m.name x.name) (holds m.name (front ++ back)) free in (
      any_between (λ n. same_slot x.name n.name) m front back ∙ or_from (same_slot x.name m.name) (holds x.name (front ++ back)) (slot_other_way m.name x.name parts.0) distinct.0,
      distinct_between m front back parts.1 distinct.1,
    )

pub distinct_by_kind : (ms : List Queued) → AreDistinct ms → AreDistinct (by_kind ms)
distinct_by_kind ms =
    let F : List Queued → List Queued → Type 0 = λ old new. (AreDistinct old → AreDistinct new) × ((name : SlotName) → holds name new ≡ holds name old) in
    (rearranged F (λ _. tt, λ name. refl) (λ m old front back had. (
      (λ distinct. distinct_between m front back (had.1 m.name ∙ distinct.0) (had.0 distinct.1)),
      (λ name. any_between (λ n. same_slot name n.name) m front back ∙ ap (λ (b : Bool). same_slot name m.name || b) (had.1 name)),
    )) ms).0

-- One slot alone stands so,
alone : (kind : SlotKind) (m : Queued) → m.name.kind ≡ kind → by_kind (m ∷ []) ≡ m ∷ []
alone of_slot.Memory m e = rw e refl
alone of_slot.Table m e = rw e refl
alone of_slot.Stack m e = rw e refl
alone of_slot.Heap m e = rw e refl

pub one_by_kind : (m : Queued) → by_kind (m ∷ []) ≡ m ∷ []
one_by_kind m = alone m.name.kind m refl

-- and ranges have their owners among them.
pub owned_by_kind : (ranges : List QueuedRange) (ms : List Queued) → AllByRecursion (λ r. holds (owner r) ms ≡ true) ranges → AllByRecursion (λ r. holds (owner r) (by_kind ms) ≡ true) ranges
owned_by_kind ranges ms owned =
    each_weaker (λ r. holds (owner r) ms ≡ true) (λ r. holds (owner r) (by_kind ms) ≡ true) ranges (λ r held. held_by_kind (owner r) ms ∙ held) owned

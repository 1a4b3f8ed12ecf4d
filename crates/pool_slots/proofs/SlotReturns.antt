-- Slots go back kind by kind: those of a kind leave a queue, and the others stay.
use Rattle.std.proofs.Common.{◌≡◌, ℕ, ◌<◌, Bool, true, false, List, [], ◌∷◌, length, refl, sym, ap, ◌∙◌, subst, inl, inr, arith, Option, Some, None, map, filter, not, ◌&&◌, is_some}
use Rattle.pool_slots.proofs.Imports.{list_any, cases_Bool, or_parts, or_left, true≢false, SlotKind}
use Rattle.pool_hall.specs.declared.unit_name.SlotKind.TheVariants as of_slot
use Rattle.pool_slots.specs.declared.slot_name.SlotName.{SlotName}
use Rattle.pool_slots.specs.SlotQueues.{Queued, Queue, same_kind, first_of_kind, others_of_kind, is_to_zero, zeroed_by, zeroed, first_zeroed, is_kind, of_kind}
use Rattle.pool_slots.specs.Flushes.{without_kind, zeroed_of, given_back}
use Rattle.pool_slots.proofs.SlotNames.{kind_is}

pub kind_others : (kind : SlotKind) (ms : List Queued) → without_kind kind (others_of_kind kind ms) ≡ without_kind kind ms
kind_others kind [] = refl
kind_others kind (m ∷ ms) =
    elim (cases_Bool (same_kind kind m.name.kind)) [
      | inl e ↦ rw e refl
      | inr e ↦ rw (e, e) (ap (λ (l : List Queued). m ∷ l) (kind_others kind ms))
    ]

pub kind_over : (kind : SlotKind) (ms : List Queued) → first_of_kind kind ms ≡ None → (of_kind kind ms ≡ []) × (without_kind kind ms ≡ ms) × (others_of_kind kind ms ≡ ms) × (list_any (is_kind kind) ms ≡ false)
kind_over kind [] none = (refl, refl, refl, refl)
kind_over kind (m ∷ ms) none =
    elim (cases_Bool (same_kind kind m.name.kind)) [
      | inl e ↦ let here : Some m ≡ None = rw e at none in absurd (cc here)
      | inr e ↦
          let there : first_of_kind kind ms ≡ None = rw e at none in
          let r = kind_over kind ms there in
          (rw e r.0, rw e (ap (λ (l : List Queued). m ∷ l) r.1), rw e (ap (λ (l : List Queued). m ∷ l) r.2), rw e r.3)
    ]

pub kind_fewer : (kind : SlotKind) (ms : List Queued) (m : Queued) → first_of_kind kind ms ≡ Some m → length (others_of_kind kind ms) < length ms
kind_fewer kind [] m is = absurd cc
kind_fewer kind (n ∷ ms) m is =
    elim (cases_Bool (same_kind kind n.name.kind)) [
      | inl e ↦ rw e (omega arith)
      | inr e ↦
          let there : first_of_kind kind ms ≡ Some m = rw e at is in
          let r = kind_fewer kind ms m there in
          rw e (omega (arith, r))
    ]

-- a slot that leaves as one of a kind is of that kind
pub kind_right : (kind other : SlotKind) (ms : List Queued) (m : Queued) → first_of_kind kind ms ≡ Some m → m.name.kind ≡ other → same_kind kind other ≡ true
kind_right kind other [] m is e = absurd cc
kind_right kind other (n ∷ ms) m is e =
    elim (cases_Bool (same_kind kind n.name.kind)) [
      | inl k ↦
          let here : Some n ≡ Some m = rw k at is in
          let same : n ≡ m = cc here in
          ap (λ (s : SlotKind). same_kind kind s) (sym e) ∙ ap (λ (x : Queued). same_kind kind x.name.kind) (sym same) ∙ k
      | inr k ↦
          let there : first_of_kind kind ms ≡ Some m = rw k at is in
          kind_right kind other ms m there e
    ]

-- zeroing by hand, one slot after the other
and_no : (a b : Bool) → (a && (b && false)) ≡ false
and_no true true = refl
and_no true false = refl
and_no false b = refl

no_zero : (kind : SlotKind) (m : Queued) → is_to_zero kind m ≡ false → zeroed_of kind m ≡ m
no_zero kind m e = rw e refl

zero_of : (kind : SlotKind) (m : Queued) → is_to_zero kind m ≡ true → zeroed_of kind m ≡ zeroed m
zero_of kind m e = rw e refl

none_by_hand : (kind : SlotKind) (m : Queued) → m.by_hand ≡ None → is_to_zero kind m ≡ false
none_by_hand kind m e =
    let P : Option ℕ → Type 0 = λ o. (same_kind kind m.name.kind && (is_some o && not m.known)) ≡ false in
    let no : (a : Bool) → (a && false) ≡ false = λ a. and_no a false in
    subst P (sym e) (no (same_kind kind m.name.kind))

zeroed_once : (kind : SlotKind) (o : Option ℕ) (m : Queued) → m.by_hand ≡ o → is_to_zero kind m ≡ true → is_to_zero kind (zeroed_by o m) ≡ false
zeroed_once kind None m e to = absurd (true≢false (sym to ∙ none_by_hand kind m e))
zeroed_once kind (Some n) m e to = and_no (same_kind kind m.name.kind) (is_some m.by_hand)

pub zeroed_next : (kind : SlotKind) (ms : List Queued) → map (zeroed_of kind) (first_zeroed kind ms) ≡ map (zeroed_of kind) ms
zeroed_next kind [] = refl
zeroed_next kind (m ∷ ms) =
    elim (cases_Bool (is_to_zero kind m)) [
      | inl e ↦
          let done : zeroed_of kind (zeroed m) ≡ zeroed m = no_zero kind (zeroed m) (zeroed_once kind m.by_hand m refl e) in
          rw e (ap (λ (x : Queued). x ∷ map (zeroed_of kind) ms) done)
      | inr e ↦ rw (e, no_zero kind m e) (ap (λ (l : List Queued). m ∷ l) (zeroed_next kind ms))
    ]

pub to_zero_fewer : (kind : SlotKind) (ms : List Queued) → list_any (is_to_zero kind) ms ≡ true → length (filter (is_to_zero kind) (first_zeroed kind ms)) < length (filter (is_to_zero kind) ms)
to_zero_fewer kind [] some = absurd cc
to_zero_fewer kind (m ∷ ms) some =
    elim (cases_Bool (is_to_zero kind m)) [
      | inl e ↦
          let done : is_to_zero kind (zeroed m) ≡ false = zeroed_once kind m.by_hand m refl e in
          rw (e, done) (omega arith)
      | inr e ↦
          let later : list_any (is_to_zero kind) ms ≡ true = rw e at some in
          let r = to_zero_fewer kind ms later in
          rw (e, e) r
    ]

pub zeroed_over : (kind : SlotKind) (ms : List Queued) → list_any (is_to_zero kind) ms ≡ false → map (zeroed_of kind) ms ≡ ms
zeroed_over kind [] none = refl
zeroed_over kind (m ∷ ms) none =
    let parts = or_parts (is_to_zero kind m) (list_any (is_to_zero kind) ms) none in
    rw (no_zero kind m parts.0, zeroed_over kind ms parts.1) refl

pub none_zeroed : (kind : SlotKind) (ms : List Queued) → list_any (is_to_zero kind) ms ≡ false → first_zeroed kind ms ≡ ms
none_zeroed kind [] none = refl
none_zeroed kind (m ∷ ms) none =
    let parts = or_parts (is_to_zero kind m) (list_any (is_to_zero kind) ms) none in
    rw parts.0 (ap (λ (l : List Queued). m ∷ l) (none_zeroed kind ms parts.1))

pub zero_smaller : (kind : SlotKind) (now new : Queue) → list_any (is_to_zero kind) now.slots ≡ true → new ≡ record now { slots = first_zeroed kind now.slots } → length (filter (is_to_zero kind) new.slots) < length (filter (is_to_zero kind) now.slots)
zero_smaller kind now new some is =
    let F : Queue → Type 0 = λ q. length (filter (is_to_zero kind) q.slots) < length (filter (is_to_zero kind) now.slots) in
    subst F (sym is) (to_zero_fewer kind now.slots some)

pub zero_same : (kind : SlotKind) (old now new : Queue) → now ≡ record old { slots = now.slots } → new ≡ record now { slots = first_zeroed kind now.slots } → new ≡ record old { slots = new.slots }
zero_same kind old now new same is =
    is
    ∙ ap (λ (q : Queue). record q { slots = first_zeroed kind now.slots }) same
    ∙ ap (λ (l : List Queued). record old { slots = l }) (sym (ap (λ (q : Queue). q.slots) is))

pub zero_kept : (kind : SlotKind) (old now new : Queue) → map (zeroed_of kind) now.slots ≡ map (zeroed_of kind) old.slots → new ≡ record now { slots = first_zeroed kind now.slots } → map (zeroed_of kind) new.slots ≡ map (zeroed_of kind) old.slots
zero_kept kind old now new kept is = ap (λ (q : Queue). map (zeroed_of kind) q.slots) is ∙ zeroed_next kind now.slots ∙ kept

pub zero_over : (kind : SlotKind) (old now new : Queue) → now ≡ record old { slots = now.slots } → map (zeroed_of kind) now.slots ≡ map (zeroed_of kind) old.slots → list_any (is_to_zero kind) now.slots ≡ false → new ≡ record now { slots = first_zeroed kind now.slots } → new ≡ record old { slots = map (zeroed_of kind) old.slots }
zero_over kind old now new same kept none is =
    let slots : new.slots ≡ map (zeroed_of kind) old.slots =
    ap (λ (q : Queue). q.slots) is ∙ none_zeroed kind now.slots none ∙ sym (zeroed_over kind now.slots none) ∙ kept in
    zero_same kind old now new same is ∙ ap (λ (l : List Queued). record old { slots = l }) slots

-- zeroing keeps names
pub name_by : (o : Option ℕ) (m : Queued) → (zeroed_by o m).name ≡ m.name
name_by None m = refl
name_by (Some n) m = refl

name_of : (kind : SlotKind) (m : Queued) → (zeroed_of kind m).name ≡ m.name
name_of kind m =
    elim (cases_Bool (is_to_zero kind m)) [
      | inl e ↦ ap (λ (x : Queued). x.name) (zero_of kind m e) ∙ name_by m.by_hand m
      | inr e ↦ ap (λ (x : Queued). x.name) (no_zero kind m e)
    ]

kind_of : (k kind : SlotKind) (m : Queued) → is_kind k (zeroed_of kind m) ≡ is_kind k m
kind_of k kind m = ap (λ (n : SlotName). same_kind k n.kind) (name_of kind m)

kind_map : (k kind : SlotKind) (ms : List Queued) → of_kind k (map (zeroed_of kind) ms) ≡ map (zeroed_of kind) (of_kind k ms)
kind_map k kind [] = refl
kind_map k kind (m ∷ ms) =
    elim (cases_Bool (is_kind k m)) [
      | inl e ↦ rw (kind_of k kind m, e) (ap (λ (l : List Queued). zeroed_of kind m ∷ l) (kind_map k kind ms))
      | inr e ↦ rw (kind_of k kind m, e) (kind_map k kind ms)
    ]

-- slots of one kind are none of another
apart : (j k : SlotKind) (m : Queued) → same_kind j k ≡ false → is_kind k m ≡ true → is_kind j m ≡ false
apart j k m other is = ap (λ (s : SlotKind). same_kind j s) (sym (kind_is k m.name.kind is)) ∙ other

kind_without : (j k : SlotKind) (ms : List Queued) → same_kind j k ≡ false → of_kind k (without_kind j ms) ≡ of_kind k ms
kind_without j k [] other = refl
kind_without j k (m ∷ ms) other =
    elim (cases_Bool (is_kind k m)) [
      | inl e ↦ rw (apart j k m other e, e) (ap (λ (l : List Queued). m ∷ l) (kind_without j k ms other))
      | inr e ↦
          elim (cases_Bool (is_kind j m)) [
            | inl i ↦ rw (i, e) (kind_without j k ms other)
            | inr i ↦ rw (i, e) (kind_without j k ms other)
          ]
    ]

untouched : (j k : SlotKind) (ms : List Queued) → same_kind j k ≡ false → map (zeroed_of j) (of_kind k ms) ≡ of_kind k ms
untouched j k [] other = refl
untouched j k (m ∷ ms) other =
    elim (cases_Bool (is_kind k m)) [
      | inl e ↦
          let not_j : is_to_zero j m ≡ false = ap (λ (b : Bool). b && (is_some m.by_hand && not m.known)) (apart j k m other e) in
          rw (e, no_zero j m not_j) (ap (λ (l : List Queued). m ∷ l) (untouched j k ms other))
      | inr e ↦ rw e (untouched j k ms other)
    ]

-- what is left of slots once the memories are back, the tables zeroed and back, and the stacks zeroed
abbrev pub after_memories : List Queued → List Queued
after_memories ms = map (zeroed_of of_slot.Table) (without_kind of_slot.Memory ms)

abbrev pub after_tables : List Queued → List Queued
after_tables ms = map (zeroed_of of_slot.Stack) (without_kind of_slot.Table (after_memories ms))

pub tables_back : (ms : List Queued) → of_kind of_slot.Table (after_memories ms) ≡ given_back of_slot.Table ms
tables_back ms =
    kind_map of_slot.Table of_slot.Table (without_kind of_slot.Memory ms)
    ∙ ap (map (zeroed_of of_slot.Table)) (kind_without of_slot.Memory of_slot.Table ms refl)

pub stacks_back : (ms : List Queued) → of_kind of_slot.Stack (after_tables ms) ≡ given_back of_slot.Stack ms
stacks_back ms =
    kind_map of_slot.Stack of_slot.Stack (without_kind of_slot.Table (after_memories ms))
    ∙ ap (map (zeroed_of of_slot.Stack)) (
    kind_without of_slot.Table of_slot.Stack (after_memories ms) refl
    ∙ kind_map of_slot.Stack of_slot.Table (without_kind of_slot.Memory ms)
    ∙ ap (map (zeroed_of of_slot.Table)) (kind_without of_slot.Memory of_slot.Stack ms refl)
    ∙ untouched of_slot.Table of_slot.Stack ms refl)

-- nothing is left then, as no slot is one of a heap
none_of : (k : SlotKind) (ms : List Queued) → of_kind k (without_kind k ms) ≡ []
none_of k [] = refl
none_of k (m ∷ ms) =
    elim (cases_Bool (is_kind k m)) [
      | inl e ↦ rw e (none_of k ms)
      | inr e ↦ rw (e, e) (none_of k ms)
    ]

kept : (k : SlotKind) (m : Queued) (ms : List Queued) → m.name.kind ≡ k → same_kind k k ≡ true → of_kind k (m ∷ ms) ≡ [] → ⊥
kept k m ms e self none =
    let is : is_kind k m ≡ true = ap (λ (s : SlotKind). same_kind k s) e ∙ self in
    let here : of_kind k (m ∷ ms) ≡ m ∷ of_kind k ms = rw is refl in
    let h : (m ∷ of_kind k ms) ≡ [] = sym here ∙ none in
    absurd (cc h)

left_none : (kind : SlotKind) (m : Queued) (ms : List Queued) → m.name.kind ≡ kind → of_kind of_slot.Memory (m ∷ ms) ≡ [] → of_kind of_slot.Table (m ∷ ms) ≡ [] → of_kind of_slot.Stack (m ∷ ms) ≡ [] → list_any (is_kind of_slot.Heap) (m ∷ ms) ≡ false → ⊥
left_none of_slot.Memory m ms e a b c d = kept of_slot.Memory m ms e refl a
left_none of_slot.Table m ms e a b c d = kept of_slot.Table m ms e refl b
left_none of_slot.Stack m ms e a b c d = kept of_slot.Stack m ms e refl c
left_none of_slot.Heap m ms e a b c d =
    let is : is_kind of_slot.Heap m ≡ true = ap (λ (s : SlotKind). same_kind of_slot.Heap s) e in
    absurd (true≢false (sym (or_left (is_kind of_slot.Heap m) (list_any (is_kind of_slot.Heap) ms) is) ∙ d))

all_left : (ms : List Queued) → of_kind of_slot.Memory ms ≡ [] → of_kind of_slot.Table ms ≡ [] → of_kind of_slot.Stack ms ≡ [] → list_any (is_kind of_slot.Heap) ms ≡ false → ms ≡ []
all_left [] a b c d = refl
all_left (m ∷ ms) a b c d = absurd (left_none m.name.kind m ms refl a b c d)

pub nothing_left : (ms : List Queued) → list_any (is_kind of_slot.Heap) (without_kind of_slot.Stack (after_tables ms)) ≡ false → without_kind of_slot.Stack (after_tables ms) ≡ []
nothing_left ms no_heap =
    let first : List Queued = without_kind of_slot.Memory ms in
    let second : List Queued = without_kind of_slot.Table (after_memories ms) in
    let no_memory : of_kind of_slot.Memory (without_kind of_slot.Stack (after_tables ms)) ≡ [] =
    kind_without of_slot.Stack of_slot.Memory (after_tables ms) refl
    ∙ kind_map of_slot.Memory of_slot.Stack second
    ∙ ap (map (zeroed_of of_slot.Stack)) (
    kind_without of_slot.Table of_slot.Memory (after_memories ms) refl
    ∙ kind_map of_slot.Memory of_slot.Table first
    ∙ ap (map (zeroed_of of_slot.Table)) (none_of of_slot.Memory ms)) in
    let no_table : of_kind of_slot.Table (without_kind of_slot.Stack (after_tables ms)) ≡ [] =
    kind_without of_slot.Stack of_slot.Table (after_tables ms) refl
    ∙ kind_map of_slot.Table of_slot.Stack second
    ∙ ap (map (zeroed_of of_slot.Stack)) (none_of of_slot.Table (after_memories ms)) in
    all_left (without_kind of_slot.Stack (after_tables ms)) no_memory no_table (none_of of_slot.Stack (after_tables ms)) no_heap

-- a change of the slots of a queue after another
pub slots_twice : (f g : List Queued → List Queued) (q a b : Queue) → a ≡ record q { slots = f q.slots } → b ≡ record a { slots = g a.slots } → b ≡ record q { slots = g (f q.slots) }
slots_twice f g q a b first second = second ∙ ap (λ (x : Queue). record x { slots = g x.slots }) first

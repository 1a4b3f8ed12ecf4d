-- A slot at a place among the slots of a queue, in the list of its kind.
use Rattle.std.proofs.Common.{◌≡◌, ℕ, ◌+◌, ◌-◌, ◌<◌, ◌≤◌, List, [], ◌∷◌, ◌++◌, length, get_or, refl, sym, ap, ◌∙◌, subst, arith, set, suc, zero, Result, Ok, Err, OnOk, OnErr}
use Rattle.std.proofs.lemmas.List.{set-append_left, set-append_right, get_or-append-add}
use Rattle.pool_slots.proofs.Imports.{HoldsAt, get_or_append_left, get_or-append_right, get_or_default, SlotKind, ByteRange}
use Rattle.pool_slots.specs.declared.slot_name.SlotName.{SlotName}
use Rattle.pool_slots.specs.SlotQueues.{Queued, QueuedList, IsLeftItem, decommitted_at}
use Rattle.pool_slots.specs.KindLists.{AreOfKind}

-- What holds at a place of a list holds there where others stand behind it, and further on where they stand before it.
pub front_at : (P : Queued → Type 0) (xs ys : List Queued) (i : ℕ) → i < length xs → HoldsAt P xs i → HoldsAt P (xs ++ ys) i
front_at P xs ys i inside holds d = subst P (sym (get_or_append_left xs ys d i inside)) (holds d)

pub at_front : (P : Queued → Type 0) (xs ys : List Queued) (i : ℕ) → i < length xs → HoldsAt P (xs ++ ys) i → HoldsAt P xs i
at_front P xs ys i inside holds d = subst P (get_or_append_left xs ys d i inside) (holds d)

pub behind_at : (P : Queued → Type 0) (xs ys : List Queued) (n i : ℕ) → length xs ≡ n → n ≤ i → HoldsAt P ys (i - n) → HoldsAt P (xs ++ ys) i
behind_at P xs ys n i long over holds d = subst P (sym (get_or-append_right xs ys n i d long over)) (holds d)

pub at_behind : (P : Queued → Type 0) (xs ys : List Queued) (n i : ℕ) → length xs ≡ n → n ≤ i → HoldsAt P (xs ++ ys) i → HoldsAt P ys (i - n)
at_behind P xs ys n i long over holds d = subst P (get_or-append_right xs ys n i d long over) (holds d)

-- The place of a memory, a table or a stack is one of the list of its kind.
pub table_at : (P : Queued → Type 0) (a b c : List Queued) (n i : ℕ) → length a ≡ n → n ≤ i → i - n < length b → HoldsAt P b (i - n) → HoldsAt P (a ++ (b ++ c)) i
table_at P a b c n i long over inside holds = behind_at P a (b ++ c) n i long over (front_at P b c (i - n) inside holds)

pub at_table : (P : Queued → Type 0) (a b c : List Queued) (n i : ℕ) → length a ≡ n → n ≤ i → i - n < length b → HoldsAt P (a ++ (b ++ c)) i → HoldsAt P b (i - n)
at_table P a b c n i long over inside holds = at_front P b c (i - n) inside (at_behind P a (b ++ c) n i long over holds)

pub stack_at : (P : Queued → Type 0) (a b c : List Queued) (n k i : ℕ) → length a ≡ n → n ≤ i → length b ≡ k → k ≤ i - n → HoldsAt P c (i - n - k) → HoldsAt P (a ++ (b ++ c)) i
stack_at P a b c n k i long over wide past holds = behind_at P a (b ++ c) n i long over (behind_at P b c k (i - n) wide past holds)

pub at_stack : (P : Queued → Type 0) (a b c : List Queued) (n k i : ℕ) → length a ≡ n → n ≤ i → length b ≡ k → k ≤ i - n → HoldsAt P (a ++ (b ++ c)) i → HoldsAt P c (i - n - k)
at_stack P a b c n k i long over wide past holds = at_behind P b c k (i - n) wide past (at_behind P a (b ++ c) n i long over holds)

-- The place in the list of its kind, counted from the first of all.
behind_after : (P : Queued → Type 0) (xs ys : List Queued) (n i : ℕ) → n ≡ length xs → HoldsAt P ys i → HoldsAt P (xs ++ ys) (n + i)
behind_after P xs ys n i long holds d =
    subst P (sym (ap (λ (k : ℕ). get_or (xs ++ ys) (k + i) d) long ∙ get_or-append-add xs ys i d)) (holds d)

pub table_after : (P : Queued → Type 0) (a b c : List Queued) (n i : ℕ) → n ≡ length a → i < length b → HoldsAt P b i → HoldsAt P (a ++ (b ++ c)) (n + i)
table_after P a b c n i long inside holds = behind_after P a (b ++ c) n i long (front_at P b c i inside holds)

pub stack_after : (P : Queued → Type 0) (a b c : List Queued) (n k i : ℕ) → n ≡ length a → k ≡ length b → HoldsAt P c i → HoldsAt P (a ++ (b ++ c)) ((n + k) + i)
stack_after P a b c n k i long wide holds =
    let e : n + (k + i) ≡ (n + k) + i = omega arith in
    subst (λ (j : ℕ). HoldsAt P (a ++ (b ++ c)) j) e (behind_after P a (b ++ c) n (k + i) long (behind_after P b c k i wide holds))

-- Another stands there in the list, and so among all.
pub memory_set : (m new : QueuedList) (rest : List Queued) (i : ℕ) (y : Queued) → i < length m.items → new ≡ record m { items = set m.items i y } → ◌≡◌ {A = QueuedList} (record { items = new.items ++ rest; room = new.room }) (record { items = set (m.items ++ rest) i y; room = m.room })
memory_set m new rest i y inside is =
    ap (λ (l : QueuedList). record { items = l.items ++ rest; room = l.room }) is
    ∙ ap (λ (l : List Queued). record { items = l; room = m.room }) (sym (set-append_left m.items rest i y inside))

pub table_set : (a : List Queued) (t new : QueuedList) (c : List Queued) (room n i : ℕ) (y : Queued) → length a ≡ n → n ≤ i → i - n < length t.items → new ≡ record t { items = set t.items (i - n) y } → ◌≡◌ {A = QueuedList} (record { items = a ++ (new.items ++ c); room = room }) (record { items = set (a ++ (t.items ++ c)) i y; room = room })
table_set a t new c room n i y long over inside is =
    ap (λ (l : QueuedList). record { items = a ++ (l.items ++ c); room = room }) is
    ∙ ap (λ (l : List Queued). record { items = a ++ l; room = room }) (sym (set-append_left t.items c (i - n) y inside))
    ∙ ap (λ (l : List Queued). record { items = l; room = room }) (sym (set-append_right a (t.items ++ c) n i y long over))

pub stack_set : (a b : List Queued) (s new : QueuedList) (room n k i : ℕ) (y : Queued) → length a ≡ n → n ≤ i → length b ≡ k → k ≤ i - n → new ≡ record s { items = set s.items (i - n - k) y } → ◌≡◌ {A = QueuedList} (record { items = a ++ (b ++ new.items); room = room }) (record { items = set (a ++ (b ++ s.items)) i y; room = room })
stack_set a b s new room n k i y long over wide past is =
    ap (λ (l : QueuedList). record { items = a ++ (b ++ l.items); room = room }) is
    ∙ ap (λ (l : List Queued). record { items = a ++ l; room = room }) (sym (set-append_right b s.items k (i - n) y wide past))
    ∙ ap (λ (l : List Queued). record { items = l; room = room }) (sym (set-append_right a (b ++ s.items) n i y long over))

-- After a decommit another stands there, with the same name.
pub record IsChangedAt (i : ℕ) (old new : QueuedList) : Type 0 where
  pub item : Queued
  pub is : new ≡ record old { items = set old.items i item }
  pub name : (d : Queued) → item.name ≡ (get_or old.items i d).name

some_of : (xs : List Queued) (i : ℕ) → i < length xs → Queued
some_of [] i inside = absurd (omega (arith, inside))
some_of (x ∷ xs) i inside = x

pub changed_at : {T E : Type 0} (r : Result T E) (range : ByteRange) (i : ℕ) (old new : QueuedList) → i < length old.items → OnOk r (HoldsAt (λ m. new ≡ record old { items = set old.items i (record m { slot = decommitted_at range m.slot }) }) old.items i) → OnErr r (HoldsAt (λ m. (n : Queued) × IsLeftItem range m n × (new ≡ record old { items = set old.items i n })) old.items i) → IsChangedAt i old new
changed_at (Ok v) range i old new inside ok err =
    let e : Queued = some_of old.items i inside in
    let m : Queued = get_or old.items i e in
    record { item = record m { slot = decommitted_at range m.slot }; is = ok e; name = λ d. ap (λ (x : Queued). x.name) (get_or_default old.items i e d inside) }
changed_at (Err v) range i old new inside ok err =
    let e : Queued = some_of old.items i inside in
    let w = err e in
    record { item = w.0; is = w.2; name = λ d. ap (λ (x : Queued). x.name) w.1.same ∙ ap (λ (x : Queued). x.name) (get_or_default old.items i e d inside) }

-- So the list is of one kind still, and as long.
pub kind_set : (kind : SlotKind) (xs : List Queued) (i : ℕ) (y : Queued) → AreOfKind kind xs → ((d : Queued) → y.name ≡ (get_or xs i d).name) → AreOfKind kind (set xs i y)
kind_set kind [] i y of same = tt
kind_set kind (x ∷ xs) zero y of same = (ap (λ (n : SlotName). n.kind) (same x) ∙ of.0, of.1)
kind_set kind (x ∷ xs) (suc i) y of same = (of.0, kind_set kind xs i y of.1 same)

long_set : (xs : List Queued) (i : ℕ) (y : Queued) → length (set xs i y) ≡ length xs
long_set [] i y = refl
long_set (x ∷ xs) zero y = refl
long_set (x ∷ xs) (suc i) y = ap (λ (n : ℕ). suc n) (long_set xs i y)

pub record IsLikeBefore (kind : SlotKind) (old new : QueuedList) : Type 0 where
  pub only : AreOfKind kind old.items → AreOfKind kind new.items
  pub long : length new.items ≡ length old.items
  pub room : new.room ≡ old.room

pub like_before : (kind : SlotKind) (i : ℕ) (old new : QueuedList) → IsChangedAt i old new → IsLikeBefore kind old new
like_before kind i old new at =
    record {
      only = λ of. subst (AreOfKind kind) (sym (ap (λ (l : QueuedList). l.items) at.is)) (kind_set kind old.items i at.item of at.name);
      long = ap (λ (l : QueuedList). length l.items) at.is ∙ long_set old.items i at.item;
      room = ap (λ (l : QueuedList). l.room) at.is;
    }

-- The slots of a queue in a list for each kind: what is done in one of the lists is done in all slots.
use Rattle.std.proofs.Common.{◌≡◌, ℕ, suc, ◌<◌, ◌==◌, ◌&&◌, ◌||◌, ◌↔◌, Bool, true, false, not, List, [], ◌∷◌, ◌++◌, length, refl, sym, ap, ◌∙◌, subst, inl, inr, arith, Option, Some, None, IsSome, is_some, option_map, slice_get, slice_index_or}
use Rattle.std.specs.Option.{option_to_list}
use Rattle.pool_slots.proofs.Imports.{AllByRecursion, list_any, cases_Bool, eqb-true, true≢false, append-nil, list_any-append, SlotKind}
use Rattle.pool_hall.specs.declared.unit_name.SlotKind.TheVariants as of_slot
use Rattle.pool_slots.specs.declared.slot_name.SlotName.{SlotName}
use Rattle.pool_slots.specs.SlotQueues.{Queued, QueuedList, same_kind, same_slot, holds, is_kind, of_kind, by_kind, first_of_kind, others_of_kind, is_to_zero, is_unzeroed, first_zeroed}
use Rattle.pool_slots.specs.KindLists.{AreOfKind, AreKindLists}
use Rattle.pool_slots.proofs.Lists.{each_append, each_weaker, filter_append}
use Rattle.pool_slots.proofs.SlotNames.{kind_self}

-- Slots of a kind are all of that kind, and none of another.
only : (kind : SlotKind) (ms : List Queued) → AreOfKind kind ms → of_kind kind ms ≡ ms
only kind [] of = refl
only kind (m ∷ ms) of =
    let here : is_kind kind m ≡ true = ap (λ (k : SlotKind). same_kind kind k) of.0 ∙ kind_self kind in
    rw here (ap (λ (l : List Queued). m ∷ l) (only kind ms of.1))

-- none of the slots is of this kind
abbrev AreNotOf : SlotKind → List Queued → Type 0
AreNotOf kind ms = AllByRecursion (λ m. is_kind kind m ≡ false) ms

not_of : (kind other : SlotKind) (ms : List Queued) → same_kind kind other ≡ false → AreOfKind other ms → AreNotOf kind ms
not_of kind other ms apart of =
    each_weaker (λ m. m.name.kind ≡ other) (λ m. is_kind kind m ≡ false) ms (λ m is. ap (λ (k : SlotKind). same_kind kind k) is ∙ apart) of

none : (kind : SlotKind) (ms : List Queued) → AreNotOf kind ms → of_kind kind ms ≡ []
none kind [] differ = refl
none kind (m ∷ ms) differ = rw differ.0 (none kind ms differ.1)

three : (kind : SlotKind) (a b c : List Queued) → of_kind kind (a ++ (b ++ c)) ≡ of_kind kind a ++ (of_kind kind b ++ of_kind kind c)
three kind a b c = filter_append (is_kind kind) a (b ++ c) ∙ ap (λ (l : List Queued). of_kind kind a ++ l) (filter_append (is_kind kind) b c)

-- the memories, the tables and the stacks
pub record AreKinds (a b c : List Queued) : Type 0 where
  pub memories : AreOfKind of_slot.Memory a
  pub tables : AreOfKind of_slot.Table b
  pub stacks : AreOfKind of_slot.Stack c

pub kinds_of : (m t s : QueuedList) → AreKindLists m t s → AreKinds m.items t.items s.items
kinds_of m t s is = record { memories = is.only_memories; tables = is.only_tables; stacks = is.only_stacks }

memories_of : (a b c : List Queued) → AreKinds a b c → of_kind of_slot.Memory (a ++ (b ++ c)) ≡ a
memories_of a b c is =
    three of_slot.Memory a b c
    ∙ rw (only of_slot.Memory a is.memories, none of_slot.Memory b (not_of of_slot.Memory of_slot.Table b refl is.tables), none of_slot.Memory c (not_of of_slot.Memory of_slot.Stack c refl is.stacks)) (append-nil a)

tables_of : (a b c : List Queued) → AreKinds a b c → of_kind of_slot.Table (a ++ (b ++ c)) ≡ b
tables_of a b c is =
    three of_slot.Table a b c
    ∙ rw (none of_slot.Table a (not_of of_slot.Table of_slot.Memory a refl is.memories), only of_slot.Table b is.tables, none of_slot.Table c (not_of of_slot.Table of_slot.Stack c refl is.stacks)) (append-nil b)

stacks_of : (a b c : List Queued) → AreKinds a b c → of_kind of_slot.Stack (a ++ (b ++ c)) ≡ c
stacks_of a b c is =
    three of_slot.Stack a b c
    ∙ rw (none of_slot.Stack a (not_of of_slot.Stack of_slot.Memory a refl is.memories), none of_slot.Stack b (not_of of_slot.Stack of_slot.Table b refl is.tables), only of_slot.Stack c is.stacks) refl

no_heaps : (a b c : List Queued) → AreKinds a b c → AreNotOf of_slot.Heap (a ++ (b ++ c))
no_heaps a b c is =
    let N : Queued → Type 0 = λ m. is_kind of_slot.Heap m ≡ false in
    each_append N a (b ++ c) (not_of of_slot.Heap of_slot.Memory a refl is.memories)
    (each_append N b c (not_of of_slot.Heap of_slot.Table b refl is.tables) (not_of of_slot.Heap of_slot.Stack c refl is.stacks))

-- Slots join others kind by kind:
both : (kind : SlotKind) (xs ys x y : List Queued) → of_kind kind xs ≡ x → of_kind kind ys ≡ y → of_kind kind (xs ++ ys) ≡ x ++ y
both kind xs ys x y e f = filter_append (is_kind kind) xs ys ∙ rw (e, f) refl

pub kinds_joined : (a b c d e f : List Queued) → AreKinds a b c → AreKinds d e f → by_kind ((a ++ (b ++ c)) ++ (d ++ (e ++ f))) ≡ (a ++ d) ++ ((b ++ e) ++ (c ++ f))
kinds_joined a b c d e f is also =
    let xs : List Queued = a ++ (b ++ c) in
    let ys : List Queued = d ++ (e ++ f) in
    let m : of_kind of_slot.Memory (xs ++ ys) ≡ a ++ d = both of_slot.Memory xs ys a d (memories_of a b c is) (memories_of d e f also) in
    let t : of_kind of_slot.Table (xs ++ ys) ≡ b ++ e = both of_slot.Table xs ys b e (tables_of a b c is) (tables_of d e f also) in
    let s : of_kind of_slot.Stack (xs ++ ys) ≡ c ++ f = both of_slot.Stack xs ys c f (stacks_of a b c is) (stacks_of d e f also) in
    let h : of_kind of_slot.Heap (xs ++ ys) ≡ [] = both of_slot.Heap xs ys [] [] (none of_slot.Heap xs (no_heaps a b c is)) (none of_slot.Heap ys (no_heaps d e f also)) in
    rw (m, t, s, h) (ap (λ (l : List Queued). (a ++ d) ++ ((b ++ e) ++ l)) (append-nil (c ++ f)))

-- a memory, a table or a stack comes behind the last of its kind.
pub memory_joined : (a b c : List Queued) (m : Queued) → AreKinds a b c → m.name.kind ≡ of_slot.Memory → by_kind ((a ++ (b ++ c)) ++ m ∷ []) ≡ (a ++ m ∷ []) ++ (b ++ c)
memory_joined a b c m is kind =
    kinds_joined a b c (m ∷ []) [] [] is (record { memories = (kind, tt); tables = tt; stacks = tt })
    ∙ rw (append-nil b, append-nil c) refl

pub table_joined : (a b c : List Queued) (m : Queued) → AreKinds a b c → m.name.kind ≡ of_slot.Table → by_kind ((a ++ (b ++ c)) ++ m ∷ []) ≡ a ++ ((b ++ m ∷ []) ++ c)
table_joined a b c m is kind =
    kinds_joined a b c [] (m ∷ []) [] is (record { memories = tt; tables = (kind, tt); stacks = tt })
    ∙ rw (append-nil a, append-nil c) refl

pub stack_joined : (a b c : List Queued) (m : Queued) → AreKinds a b c → m.name.kind ≡ of_slot.Stack → by_kind ((a ++ (b ++ c)) ++ m ∷ []) ≡ a ++ (b ++ (c ++ m ∷ []))
stack_joined a b c m is kind =
    kinds_joined a b c [] [] (m ∷ []) is (record { memories = tt; tables = tt; stacks = (kind, tt) })
    ∙ rw (append-nil a, append-nil b) refl

-- The first of a kind and the others, where slots of other kinds stand before or behind.
first_past : (kind : SlotKind) (xs ys : List Queued) → AreNotOf kind xs → (first_of_kind kind (xs ++ ys) ≡ first_of_kind kind ys) × (others_of_kind kind (xs ++ ys) ≡ xs ++ others_of_kind kind ys)
first_past kind [] ys differ = (refl, refl)
first_past kind (x ∷ xs) ys differ =
    let r = first_past kind xs ys differ.1 in
    (rw differ.0 r.0, rw differ.0 (ap (λ (l : List Queued). x ∷ l) r.1))

none_first : (kind : SlotKind) (ys : List Queued) → AreNotOf kind ys → (first_of_kind kind ys ≡ None) × (others_of_kind kind ys ≡ ys)
none_first kind [] differ = (refl, refl)
none_first kind (y ∷ ys) differ =
    let r = none_first kind ys differ.1 in
    (rw differ.0 r.0, rw differ.0 (ap (λ (l : List Queued). y ∷ l) r.1))

first_ahead : (kind : SlotKind) (xs ys : List Queued) → AreNotOf kind ys → (first_of_kind kind (xs ++ ys) ≡ first_of_kind kind xs) × (others_of_kind kind (xs ++ ys) ≡ others_of_kind kind xs ++ ys)
first_ahead kind [] ys differ = none_first kind ys differ
first_ahead kind (x ∷ xs) ys differ =
    let r = first_ahead kind xs ys differ in
    elim (cases_Bool (is_kind kind x)) [
      | inl e ↦ rw e (refl, refl)
      | inr e ↦ rw e (r.0, ap (λ (l : List Queued). x ∷ l) r.1)
    ]

-- a list of one kind without its first
pub record IsPopped (o : Option Queued) (old new : List Queued) : Type 0 where
  pub items : old ≡ option_to_list o ++ new
  pub variant : IsSome o ↔ (0 < length old)

popped : (kind : SlotKind) (o : Option Queued) (old new : List Queued) → AreOfKind kind old → IsPopped o old new → (first_of_kind kind old ≡ o) × (others_of_kind kind old ≡ new)
popped kind None [] new of is = (refl, is.items)
popped kind None (x ∷ old) new of is = let some : false ≡ true = is.variant.1 (omega arith) in absurd cc
popped kind (Some m) old new of is =
    let now : AreOfKind kind (m ∷ new) = subst (AreOfKind kind) is.items of in
    let here : is_kind kind m ≡ true = ap (λ (k : SlotKind). same_kind kind k) now.0 ∙ kind_self kind in
    let first : first_of_kind kind (m ∷ new) ≡ Some m = rw here refl in
    let others : others_of_kind kind (m ∷ new) ≡ new = rw here refl in
    (ap (λ (l : List Queued). first_of_kind kind l) is.items ∙ first, ap (λ (l : List Queued). others_of_kind kind l) is.items ∙ others)

pub memory_popped : (o : Option Queued) (a b c new : List Queued) → AreKinds a b c → IsPopped o a new → (first_of_kind of_slot.Memory (a ++ (b ++ c)) ≡ o) × (others_of_kind of_slot.Memory (a ++ (b ++ c)) ≡ new ++ (b ++ c))
memory_popped o a b c new is gone =
    let N : Queued → Type 0 = λ m. is_kind of_slot.Memory m ≡ false in
    let r = first_ahead of_slot.Memory a (b ++ c) (each_append N b c (not_of of_slot.Memory of_slot.Table b refl is.tables) (not_of of_slot.Memory of_slot.Stack c refl is.stacks)) in
    let p = popped of_slot.Memory o a new is.memories gone in
    (r.0 ∙ p.0, r.1 ∙ ap (λ (l : List Queued). l ++ (b ++ c)) p.1)

pub table_popped : (o : Option Queued) (a b c new : List Queued) → AreKinds a b c → IsPopped o b new → (first_of_kind of_slot.Table (a ++ (b ++ c)) ≡ o) × (others_of_kind of_slot.Table (a ++ (b ++ c)) ≡ a ++ (new ++ c))
table_popped o a b c new is gone =
    let q = first_past of_slot.Table a (b ++ c) (not_of of_slot.Table of_slot.Memory a refl is.memories) in
    let r = first_ahead of_slot.Table b c (not_of of_slot.Table of_slot.Stack c refl is.stacks) in
    let p = popped of_slot.Table o b new is.tables gone in
    (q.0 ∙ r.0 ∙ p.0, q.1 ∙ ap (λ (l : List Queued). a ++ l) (r.1 ∙ ap (λ (l : List Queued). l ++ c) p.1))

pub stack_popped : (o : Option Queued) (a b c new : List Queued) → AreKinds a b c → IsPopped o c new → (first_of_kind of_slot.Stack (a ++ (b ++ c)) ≡ o) × (others_of_kind of_slot.Stack (a ++ (b ++ c)) ≡ a ++ (b ++ new))
stack_popped o a b c new is gone =
    let q = first_past of_slot.Stack a (b ++ c) (not_of of_slot.Stack of_slot.Memory a refl is.memories) in
    let r = first_past of_slot.Stack b c (not_of of_slot.Stack of_slot.Table b refl is.tables) in
    let p = popped of_slot.Stack o c new is.stacks gone in
    (q.0 ∙ r.0 ∙ p.0, q.1 ∙ ap (λ (l : List Queued). a ++ l) (r.1 ∙ ap (λ (l : List Queued). b ++ l) p.1))

pub no_heap_popped : (a b c : List Queued) → AreKinds a b c → (first_of_kind of_slot.Heap (a ++ (b ++ c)) ≡ None) × (others_of_kind of_slot.Heap (a ++ (b ++ c)) ≡ a ++ (b ++ c))
no_heap_popped a b c is = none_first of_slot.Heap (a ++ (b ++ c)) (no_heaps a b c is)

-- whether there is one of a kind
not_none : (n : ℕ) → (suc n == 0) ≡ false
not_none n =
    elim (cases_Bool (suc n == 0)) [
      | inl e ↦ absurd (omega (arith, eqb-true (suc n) 0 e))
      | inr e ↦ e
    ]

some_first : (kind : SlotKind) (ms : List Queued) → AreOfKind kind ms → is_some (first_of_kind kind ms) ≡ not (length ms == 0)
some_first kind [] of = refl
some_first kind (m ∷ ms) of =
    let here : is_kind kind m ≡ true = ap (λ (k : SlotKind). same_kind kind k) of.0 ∙ kind_self kind in
    let some : (suc (length ms) == 0) ≡ false = not_none (length ms) in
    rw (here, some) refl

some_if : (o p : Option Queued) (b : Bool) → o ≡ p → is_some p ≡ b → is_some o ≡ b
some_if o p b e f = ap (λ (x : Option Queued). is_some x) e ∙ f

pub memory_held : (a b c : List Queued) → AreKinds a b c → is_some (first_of_kind of_slot.Memory (a ++ (b ++ c))) ≡ not (length a == 0)
memory_held a b c is =
    let N : Queued → Type 0 = λ m. is_kind of_slot.Memory m ≡ false in
    let r = first_ahead of_slot.Memory a (b ++ c) (each_append N b c (not_of of_slot.Memory of_slot.Table b refl is.tables) (not_of of_slot.Memory of_slot.Stack c refl is.stacks)) in
    some_if _ _ _ r.0 (some_first of_slot.Memory a is.memories)

pub table_held : (a b c : List Queued) → AreKinds a b c → is_some (first_of_kind of_slot.Table (a ++ (b ++ c))) ≡ not (length b == 0)
table_held a b c is =
    some_if _ _ _ ((first_past of_slot.Table a (b ++ c) (not_of of_slot.Table of_slot.Memory a refl is.memories)).0 ∙ (first_ahead of_slot.Table b c (not_of of_slot.Table of_slot.Stack c refl is.stacks)).0) (some_first of_slot.Table b is.tables)

pub stack_held : (a b c : List Queued) → AreKinds a b c → is_some (first_of_kind of_slot.Stack (a ++ (b ++ c))) ≡ not (length c == 0)
stack_held a b c is =
    some_if _ _ _ ((first_past of_slot.Stack a (b ++ c) (not_of of_slot.Stack of_slot.Memory a refl is.memories)).0 ∙ (first_past of_slot.Stack b c (not_of of_slot.Stack of_slot.Table b refl is.tables)).0) (some_first of_slot.Stack c is.stacks)

-- the first of one kind stands first in their list
first_here : (kind : SlotKind) (ms : List Queued) → AreOfKind kind ms → first_of_kind kind ms ≡ slice_get ms 0
first_here kind [] of = refl
first_here kind (m ∷ ms) of =
    let here : is_kind kind m ≡ true = ap (λ (k : SlotKind). same_kind kind k) of.0 ∙ kind_self kind in
    rw here refl

pub memory_first : (a b c : List Queued) → AreKinds a b c → first_of_kind of_slot.Memory (a ++ (b ++ c)) ≡ slice_get a 0
memory_first a b c is =
    let N : Queued → Type 0 = λ m. is_kind of_slot.Memory m ≡ false in
    (first_ahead of_slot.Memory a (b ++ c) (each_append N b c (not_of of_slot.Memory of_slot.Table b refl is.tables) (not_of of_slot.Memory of_slot.Stack c refl is.stacks))).0 ∙ first_here of_slot.Memory a is.memories

pub table_first : (a b c : List Queued) → AreKinds a b c → first_of_kind of_slot.Table (a ++ (b ++ c)) ≡ slice_get b 0
table_first a b c is =
    (first_past of_slot.Table a (b ++ c) (not_of of_slot.Table of_slot.Memory a refl is.memories)).0
    ∙ (first_ahead of_slot.Table b c (not_of of_slot.Table of_slot.Stack c refl is.stacks)).0
    ∙ first_here of_slot.Table b is.tables

pub stack_first : (a b c : List Queued) → AreKinds a b c → first_of_kind of_slot.Stack (a ++ (b ++ c)) ≡ slice_get c 0
stack_first a b c is =
    (first_past of_slot.Stack a (b ++ c) (not_of of_slot.Stack of_slot.Memory a refl is.memories)).0
    ∙ (first_past of_slot.Stack b c (not_of of_slot.Stack of_slot.Table b refl is.tables)).0
    ∙ first_here of_slot.Stack c is.stacks

-- its name, where there is one
pub none_named : (ms : List Queued) → (length ms == 0) ≡ true → ◌≡◌ {A = Option SlotName} None (option_map (λ m. m.name) (slice_get ms 0))
none_named [] none = refl
none_named (m ∷ ms) none = absurd (true≢false (sym none ∙ not_none (length ms)))

pub first_named : (ms : List Queued) (m : Queued) → (length ms == 0) ≡ false → m ≡ slice_index_or ms 0 m → Some m.name ≡ option_map (λ x. x.name) (slice_get ms 0)
first_named [] m some is = absurd (true≢false some)
first_named (x ∷ ms) m some is = ap (λ (y : Queued). Some y.name) is

-- The first of a kind that is to be zeroed, likewise.
no_zero : (kind : SlotKind) (m : Queued) → is_kind kind m ≡ false → is_to_zero kind m ≡ false
no_zero kind m differ = ap (λ (b : Bool). b && is_unzeroed m) differ

zero_past : (kind : SlotKind) (xs ys : List Queued) → AreNotOf kind xs → (list_any (is_to_zero kind) (xs ++ ys) ≡ list_any (is_to_zero kind) ys) × (first_zeroed kind (xs ++ ys) ≡ xs ++ first_zeroed kind ys)
zero_past kind [] ys differ = (refl, refl)
zero_past kind (x ∷ xs) ys differ =
    let r = zero_past kind xs ys differ.1 in
    (rw (no_zero kind x differ.0) r.0, rw (no_zero kind x differ.0) (ap (λ (l : List Queued). x ∷ l) r.1))

none_zero : (kind : SlotKind) (ys : List Queued) → AreNotOf kind ys → (list_any (is_to_zero kind) ys ≡ false) × (first_zeroed kind ys ≡ ys)
none_zero kind [] differ = (refl, refl)
none_zero kind (y ∷ ys) differ =
    let r = none_zero kind ys differ.1 in
    (rw (no_zero kind y differ.0) r.0, rw (no_zero kind y differ.0) (ap (λ (l : List Queued). y ∷ l) r.1))

zero_ahead : (kind : SlotKind) (xs ys : List Queued) → AreNotOf kind ys → (list_any (is_to_zero kind) (xs ++ ys) ≡ list_any (is_to_zero kind) xs) × (first_zeroed kind (xs ++ ys) ≡ first_zeroed kind xs ++ ys)
zero_ahead kind [] ys differ = none_zero kind ys differ
zero_ahead kind (x ∷ xs) ys differ =
    let r = zero_ahead kind xs ys differ in
    elim (cases_Bool (is_to_zero kind x)) [
      | inl e ↦ rw e (refl, refl)
      | inr e ↦ rw e (r.0, ap (λ (l : List Queued). x ∷ l) r.1)
    ]

pub memory_zeroed : (a b c : List Queued) → AreKinds a b c → (list_any (is_to_zero of_slot.Memory) (a ++ (b ++ c)) ≡ list_any (is_to_zero of_slot.Memory) a) × (first_zeroed of_slot.Memory (a ++ (b ++ c)) ≡ first_zeroed of_slot.Memory a ++ (b ++ c))
memory_zeroed a b c is =
    let N : Queued → Type 0 = λ m. is_kind of_slot.Memory m ≡ false in
    zero_ahead of_slot.Memory a (b ++ c) (each_append N b c (not_of of_slot.Memory of_slot.Table b refl is.tables) (not_of of_slot.Memory of_slot.Stack c refl is.stacks))

pub table_zeroed : (a b c : List Queued) → AreKinds a b c → (list_any (is_to_zero of_slot.Table) (a ++ (b ++ c)) ≡ list_any (is_to_zero of_slot.Table) b) × (first_zeroed of_slot.Table (a ++ (b ++ c)) ≡ a ++ (first_zeroed of_slot.Table b ++ c))
table_zeroed a b c is =
    let q = zero_past of_slot.Table a (b ++ c) (not_of of_slot.Table of_slot.Memory a refl is.memories) in
    let r = zero_ahead of_slot.Table b c (not_of of_slot.Table of_slot.Stack c refl is.stacks) in
    (q.0 ∙ r.0, q.1 ∙ ap (λ (l : List Queued). a ++ l) r.1)

pub stack_zeroed : (a b c : List Queued) → AreKinds a b c → (list_any (is_to_zero of_slot.Stack) (a ++ (b ++ c)) ≡ list_any (is_to_zero of_slot.Stack) c) × (first_zeroed of_slot.Stack (a ++ (b ++ c)) ≡ a ++ (b ++ first_zeroed of_slot.Stack c))
stack_zeroed a b c is =
    let q = zero_past of_slot.Stack a (b ++ c) (not_of of_slot.Stack of_slot.Memory a refl is.memories) in
    let r = zero_past of_slot.Stack b c (not_of of_slot.Stack of_slot.Table b refl is.tables) in
    (q.0 ∙ r.0, q.1 ∙ ap (λ (l : List Queued). a ++ l) r.1)

pub no_heap_zeroed : (a b c : List Queued) → AreKinds a b c → (list_any (is_to_zero of_slot.Heap) (a ++ (b ++ c)) ≡ false) × (first_zeroed of_slot.Heap (a ++ (b ++ c)) ≡ a ++ (b ++ c))
no_heap_zeroed a b c is = none_zero of_slot.Heap (a ++ (b ++ c)) (no_heaps a b c is)

-- What holds of all holds of each list.
each_front : (P : Queued → Type 0) (xs ys : List Queued) → AllByRecursion P (xs ++ ys) → AllByRecursion P xs
each_front P [] ys each = tt
each_front P (x ∷ xs) ys each = (each.0, each_front P xs ys each.1)

each_back : (P : Queued → Type 0) (xs ys : List Queued) → AllByRecursion P (xs ++ ys) → AllByRecursion P ys
each_back P [] ys each = each
each_back P (x ∷ xs) ys each = each_back P xs ys each.1

pub each_of_three : (P : Queued → Type 0) (a b c : List Queued) → AllByRecursion P (a ++ (b ++ c)) → AllByRecursion P a × AllByRecursion P b × AllByRecursion P c
each_of_three P a b c each =
    let rest = each_back P a (b ++ c) each in
    (each_front P a (b ++ c) each, each_front P b c rest, each_back P b c rest)

-- Only the list of a slot's kind holds it.
unheld : (kind other : SlotKind) (slot : SlotName) (ms : List Queued) → slot.kind ≡ kind → same_kind kind other ≡ false → AreOfKind other ms → holds slot ms ≡ false
unheld kind other slot [] is apart of = refl
unheld kind other slot (m ∷ ms) is apart of =
    let differ : same_slot slot m.name ≡ false =
    ap (λ (k : SlotKind). same_kind k m.name.kind && slot.slot == m.name.slot) is
    ∙ ap (λ (k : SlotKind). same_kind kind k && slot.slot == m.name.slot) of.0
    ∙ ap (λ (b : Bool). b && slot.slot == m.name.slot) apart in
    rw differ (unheld kind other slot ms is apart of.1)

held_three : (slot : SlotName) (a b c : List Queued) → holds slot (a ++ (b ++ c)) ≡ (holds slot a || (holds slot b || holds slot c))
held_three slot a b c =
    let p : Queued → Bool = λ m. same_slot slot m.name in
    list_any-append p a (b ++ c) ∙ ap (λ (x : Bool). holds slot a || x) (list_any-append p b c)

or_no : (b : Bool) → (b || false) ≡ b
or_no true = refl
or_no false = refl

pub memory_there : (slot : SlotName) (a b c : List Queued) → AreKinds a b c → slot.kind ≡ of_slot.Memory → holds slot (a ++ (b ++ c)) ≡ true → holds slot a ≡ true
memory_there slot a b c is kind held =
    let no_b : holds slot b ≡ false = unheld of_slot.Memory of_slot.Table slot b kind refl is.tables in
    let no_c : holds slot c ≡ false = unheld of_slot.Memory of_slot.Stack slot c kind refl is.stacks in
    sym (held_three slot a b c ∙ rw (no_b, no_c) (or_no (holds slot a))) ∙ held

pub table_there : (slot : SlotName) (a b c : List Queued) → AreKinds a b c → slot.kind ≡ of_slot.Table → holds slot (a ++ (b ++ c)) ≡ true → holds slot b ≡ true
table_there slot a b c is kind held =
    let no_a : holds slot a ≡ false = unheld of_slot.Table of_slot.Memory slot a kind refl is.memories in
    let no_c : holds slot c ≡ false = unheld of_slot.Table of_slot.Stack slot c kind refl is.stacks in
    sym (held_three slot a b c ∙ rw (no_a, no_c) (or_no (holds slot b))) ∙ held

pub stack_there : (slot : SlotName) (a b c : List Queued) → AreKinds a b c → slot.kind ≡ of_slot.Stack → holds slot (a ++ (b ++ c)) ≡ true → holds slot c ≡ true
stack_there slot a b c is kind held =
    let no_a : holds slot a ≡ false = unheld of_slot.Stack of_slot.Memory slot a kind refl is.memories in
    let no_b : holds slot b ≡ false = unheld of_slot.Stack of_slot.Table slot b kind refl is.tables in
    sym (held_three slot a b c ∙ rw (no_a, no_b) refl) ∙ held

pub no_heap_there : (slot : SlotName) (a b c : List Queued) → AreKinds a b c → slot.kind ≡ of_slot.Heap → holds slot (a ++ (b ++ c)) ≡ false
no_heap_there slot a b c is kind =
    held_three slot a b c ∙ rw (unheld of_slot.Heap of_slot.Memory slot a kind refl is.memories, unheld of_slot.Heap of_slot.Table slot b kind refl is.tables, unheld of_slot.Heap of_slot.Stack slot c kind refl is.stacks) refl

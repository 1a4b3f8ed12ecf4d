-- What queued slots have together once the first of a kind is taken out, or zeroed.
use Rattle.std.proofs.Common.{◌≡◌, ℕ, ◌+◌, false, List, [], ◌∷◌, length, refl, sym, ap, ◌∙◌, inl, inr, arith, Option, Some, None, subst, sum_by}
use Rattle.pool_alloc.proofs.Imports.{AllByRecursion, cases_Bool, same_Some, sum_by-cons, SlotKind, Queued, same_kind, is_to_zero, zeroed_by, zeroed, first_of_kind, others_of_kind, first_zeroed, RegionNumbers, SlotName, kind_is}
use Rattle.pool_alloc.specs.Places.{Thing, both_count, queued_count}
use Rattle.pool_alloc.proofs.QueueCounts.{queued_sum}

-- all are the first of a kind and the others
pub sum_first : (of : Queued → ℕ) (kind : SlotKind) (m : Queued) (ms : List Queued) → first_of_kind kind ms ≡ Some m → sum_by of ms ≡ of m + sum_by of (others_of_kind kind ms)
sum_first of kind m [] is = absurd cc
sum_first of kind m (x ∷ xs) is =
    elim (cases_Bool (same_kind kind x.name.kind)) [
      | inl here ↦
          let first : first_of_kind kind (x ∷ xs) ≡ Some x = rw here refl in
          let others : others_of_kind kind (x ∷ xs) ≡ xs = rw here refl in
          omega (arith, ap of (same_Some x m (sym first ∙ is)), ap (sum_by of) others, sum_by-cons of x xs)
      | inr other ↦
          let first : first_of_kind kind (x ∷ xs) ≡ first_of_kind kind xs = rw other refl in
          let others : others_of_kind kind (x ∷ xs) ≡ x ∷ others_of_kind kind xs = rw other refl in
          omega (arith, ap (sum_by of) others, sum_by-cons of x xs, sum_by-cons of x (others_of_kind kind xs), sum_first of kind m xs (sym first ∙ is))
    ]

pub others_long : (kind : SlotKind) (m : Queued) (ms : List Queued) → first_of_kind kind ms ≡ Some m → length ms ≡ length (others_of_kind kind ms) + 1
others_long kind m [] is = absurd cc
others_long kind m (x ∷ xs) is =
    elim (cases_Bool (same_kind kind x.name.kind)) [
      | inl here ↦
          let others : others_of_kind kind (x ∷ xs) ≡ xs = rw here refl in
          omega (arith, ap (length {A = Queued}) others)
      | inr other ↦
          let first : first_of_kind kind (x ∷ xs) ≡ first_of_kind kind xs = rw other refl in
          let others : others_of_kind kind (x ∷ xs) ≡ x ∷ others_of_kind kind xs = rw other refl in
          omega (arith, ap (length {A = Queued}) others, others_long kind m xs (sym first ∙ is))
    ]

pub counts_first : (t : Thing) (kind : SlotKind) (m : Queued) (ms : List Queued) → first_of_kind kind ms ≡ Some m → queued_count t ms ≡ both_count t m.name m.numbers + queued_count t (others_of_kind kind ms)
counts_first t kind m ms is = omega (arith, queued_sum t ms, queued_sum t (others_of_kind kind ms), sum_first (λ (x : Queued). both_count t x.name x.numbers) kind m ms is)

-- what is so of all is so of the first of a kind, which is of that kind
pub first_has : (Q : Queued → Type 0) (kind : SlotKind) (m : Queued) (ms : List Queued) → first_of_kind kind ms ≡ Some m → AllByRecursion Q ms → Q m
first_has Q kind m [] is each = absurd cc
first_has Q kind m (x ∷ xs) is each =
    elim (cases_Bool (same_kind kind x.name.kind)) [
      | inl here ↦
          let first : first_of_kind kind (x ∷ xs) ≡ Some x = rw here refl in
          subst Q (same_Some x m (sym first ∙ is)) each.0
      | inr other ↦
          let first : first_of_kind kind (x ∷ xs) ≡ first_of_kind kind xs = rw other refl in
          first_has Q kind m xs (sym first ∙ is) each.1
    ]

pub first_kind : (kind : SlotKind) (m : Queued) (ms : List Queued) → first_of_kind kind ms ≡ Some m → kind ≡ m.name.kind
first_kind kind m [] is = absurd cc
first_kind kind m (x ∷ xs) is =
    elim (cases_Bool (same_kind kind x.name.kind)) [
      | inl here ↦
          let first : first_of_kind kind (x ∷ xs) ≡ Some x = rw here refl in
          kind_is kind x.name.kind here ∙ ap (λ (y : Queued). y.name.kind) (same_Some x m (sym first ∙ is))
      | inr other ↦
          let first : first_of_kind kind (x ∷ xs) ≡ first_of_kind kind xs = rw other refl in
          first_kind kind m xs (sym first ∙ is)
    ]

-- where there is none of a kind, each is of another
pub none_first : (kind : SlotKind) (ms : List Queued) → first_of_kind kind ms ≡ None → AllByRecursion (λ m. same_kind kind m.name.kind ≡ false) ms
none_first kind [] none = tt
none_first kind (m ∷ ms) none =
    elim (cases_Bool (same_kind kind m.name.kind)) [
      | inl here ↦ let first : first_of_kind kind (m ∷ ms) ≡ Some m = rw here refl in absurd (cc (sym none ∙ first))
      | inr other ↦ let first : first_of_kind kind (m ∷ ms) ≡ first_of_kind kind ms = rw other refl in (other, none_first kind ms (sym first ∙ none))
    ]

pub none_others : (kind : SlotKind) (ms : List Queued) → first_of_kind kind ms ≡ None → others_of_kind kind ms ≡ ms
none_others kind [] none = refl
none_others kind (m ∷ ms) none =
    elim (cases_Bool (same_kind kind m.name.kind)) [
      | inl here ↦ let first : first_of_kind kind (m ∷ ms) ≡ Some m = rw here refl in absurd (cc (sym none ∙ first))
      | inr other ↦
          let first : first_of_kind kind (m ∷ ms) ≡ first_of_kind kind ms = rw other refl in
          let others : others_of_kind kind (m ∷ ms) ≡ m ∷ others_of_kind kind ms = rw other refl in
          others ∙ ap (λ (xs : List Queued). m ∷ xs) (none_others kind ms (sym first ∙ none))
    ]

-- the names and the numbers stay as one is zeroed
zeroed_name : (of : SlotName → RegionNumbers → ℕ) (o : Option ℕ) (m : Queued) → of (zeroed_by o m).name (zeroed_by o m).numbers ≡ of m.name m.numbers
zeroed_name of None m = refl
zeroed_name of (Some n) m = refl

pub zeroed_names : (of : SlotName → RegionNumbers → ℕ) (kind : SlotKind) (ms : List Queued) → sum_by (λ m. of m.name m.numbers) (first_zeroed kind ms) ≡ sum_by (λ m. of m.name m.numbers) ms
zeroed_names of kind [] = refl
zeroed_names of kind (m ∷ ms) =
    let F : Queued → ℕ = λ x. of x.name x.numbers in
    elim (cases_Bool (is_to_zero kind m)) [
      | inl here ↦
          let first : first_zeroed kind (m ∷ ms) ≡ zeroed m ∷ ms = rw here refl in
          omega (arith, ap (sum_by F) first, zeroed_name of m.by_hand m, sum_by-cons F (zeroed m) ms, sum_by-cons F m ms)
      | inr other ↦
          let first : first_zeroed kind (m ∷ ms) ≡ m ∷ first_zeroed kind ms = rw other refl in
          omega (arith, ap (sum_by F) first, sum_by-cons F m (first_zeroed kind ms), sum_by-cons F m ms, zeroed_names of kind ms)
    ]

pub zeroed_counts : (t : Thing) (kind : SlotKind) (ms : List Queued) → queued_count t (first_zeroed kind ms) ≡ queued_count t ms
zeroed_counts t kind ms = queued_sum t (first_zeroed kind ms) ∙ zeroed_names (both_count t) kind ms ∙ sym (queued_sum t ms)

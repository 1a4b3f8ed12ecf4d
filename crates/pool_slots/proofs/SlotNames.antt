-- Names of slots are one, or differ.
use Rattle.std.proofs.Common.{◌≡◌, true, false, refl, sym, ap, ◌∙◌, inl, inr, ◌==◌, ◌⊎◌}
use Rattle.pool_slots.proofs.Imports.{and_parts, and_from, cases_Bool, eq-eqb, eqb-true, true≢false, SlotKind, Table, Stack, Heap}
use Rattle.pool_hall.specs.declared.unit_name.SlotKind.TheVariants.{Memory}
use Rattle.pool_slots.specs.SlotQueues.{same_kind, same_slot}
use Rattle.pool_slots.specs.declared.slot_name.SlotName.{SlotName}

pub kind_is : (a b : SlotKind) → same_kind a b ≡ true → a ≡ b
kind_is Memory Memory e = refl
kind_is Table Table e = refl
kind_is Stack Stack e = refl
kind_is Heap Heap e = refl
kind_is Memory Table e = absurd cc
kind_is Memory Stack e = absurd cc
kind_is Memory Heap e = absurd cc
kind_is Table Memory e = absurd cc
kind_is Table Stack e = absurd cc
kind_is Table Heap e = absurd cc
kind_is Stack Memory e = absurd cc
kind_is Stack Table e = absurd cc
kind_is Stack Heap e = absurd cc
kind_is Heap Memory e = absurd cc
kind_is Heap Table e = absurd cc
kind_is Heap Stack e = absurd cc

pub kind_self : (a : SlotKind) → same_kind a a ≡ true
kind_self Memory = refl
kind_self Table = refl
kind_self Stack = refl
kind_self Heap = refl

pub slot_is : (a b : SlotName) → same_slot a b ≡ true → a ≡ b
slot_is a b e =
    let parts = and_parts (same_kind a.kind b.kind) (a.slot == b.slot) e in
    λ i. record { kind = kind_is a.kind b.kind parts.0 i; slot = eqb-true a.slot b.slot parts.1 i }

pub slot_self : (a : SlotName) → same_slot a a ≡ true
slot_self a = and_from (same_kind a.kind a.kind) (a.slot == a.slot) (kind_self a.kind) (eq-eqb a.slot a.slot refl)

pub slot_if : (a b : SlotName) → a ≡ b → same_slot a b ≡ true
slot_if a b e = ap (λ (x : SlotName). same_slot a x) (sym e) ∙ slot_self a

pub slots_apart : (a b : SlotName) → same_slot a b ≡ false → a ≡ b → ⊥
slots_apart a b other e = true≢false (sym (slot_if a b e) ∙ other)

pub slot_not : (a b : SlotName) → (a ≡ b → ⊥) → same_slot a b ≡ false
slot_not a b other =
    elim (cases_Bool (same_slot a b)) [
      | inl is ↦ absurd (other (slot_is a b is))
      | inr not ↦ not
    ]

pub slot_cases : (a b : SlotName) → (a ≡ b) ⊎ (a ≡ b → ⊥)
slot_cases a b =
    elim (cases_Bool (same_slot a b)) [
      | inl is ↦ inl (slot_is a b is)
      | inr not ↦ inr (slots_apart a b not)
    ]

-- with the sides the other way round
pub slot_at_last : (a b : SlotName) → same_slot a b ≡ true → b ≡ a
slot_at_last a b e = sym (slot_is a b e)

-- the other way round
pub slot_other_way : (a b : SlotName) → same_slot a b ≡ false → same_slot b a ≡ false
slot_other_way a b apart = slot_not b a (λ e. slots_apart a b apart (sym e))

-- What calls on the list of heaps do to the units that it has given out.
use Rattle.std.proofs.Common.{◌≡◌, ◌≢◌, ℕ, zero, suc, ◌+◌, ◌<◌, ◌≤◌, ◌==◌, ◌&&◌, Bool, true, false, List, [], ◌∷◌, length, Option, None, refl, sym, ap, ◌∙◌, ⊎_elim, arith, true≢false, replicate, slice_index_or, slice_set}
use Rattle.pool_slots.proofs.Imports.{cases_Bool, eq-eqb, eqb-true, get_or-set_other, get_or-set_same, length-set, one_if, total, same, times, UnitName, same_is}
use Rattle.pool_hall.specs.declared.unit_name.SlotKind.TheVariants as of_slot
use Rattle.pool_slots.specs.HeapLists.{heap_unit, is_out, heap_of, noted_by, heap_entry, heap_in, memory_of, IsHere, IsOut, heaps_made, heap_taken, heap_returned, away_from, heaps_away}
use Rattle.pool_slots.specs.HeapUnits.{heap_slot, TakesOneHeap, ReturnsOneHeap, HeapsKeepToTheirSlots, HeapTakesCount, HeapReturnsCount, NoHeapsOutAtFirst, IsOfOutHeap, HeapsAwayAreOut, HeapUnitsAreOfOutSlots}
use Rattle.pool_slots.specs.ListUnits.{bare, is_right, is_region}
use Rattle.pool_slots.specs.RegionCells.{region_of, right_to}
use Rattle.pool_slots.specs.declared.allocation_index.MemoryAllocationIndex.{MemoryAllocationIndex}
use Rattle.pool_slots.specs.declared.heap_list.HeapEntry.{HeapEntry}
use Rattle.pool_slots.specs.declared.heap_list.HeapEntry.TheVariants as entry
use Rattle.pool_slots.specs.declared.slot_name.SlotName.{SlotName}

next_slot : (n k : ℕ) → suc n + k ≡ n + suc k
next_slot n k = omega arith

first_slot : (n : ℕ) → n ≡ n + zero
first_slot n = omega arith

from_zero : (k : ℕ) → 0 + k ≡ k
from_zero k = omega arith

module _ (w : UnitName → ℕ) where
  abbrev weight : ℕ → MemoryAllocationIndex → ℕ
  weight n memory = w (heap_unit n memory)

module _ {H : Type 0} where
  pub keep_to_their_slots : HeapsKeepToTheirSlots H
  keep_to_their_slots slot memory heap entries =
      let at_taken : slot < length entries → heap_entry slot (heap_taken slot memory entries) ≡ entry.Out memory =
      λ inside. get_or-set_same entries slot (entry.Out memory) (entry.Here None) inside in
      let at_returned : slot < length entries → heap_entry slot (heap_returned slot heap entries) ≡ entry.Here heap =
      λ inside. get_or-set_same entries slot (entry.Here heap) (entry.Here None) inside in
      let takes : TakesOneHeap H slot memory entries = record {
        taken = λ inside. (ap is_out (at_taken inside), ap noted_by (at_taken inside));
        size = length-set entries slot (entry.Out memory);
        others = λ other apart. get_or-set_other entries slot other (entry.Out memory) (entry.Here None) apart;
      } in
      let returns : ReturnsOneHeap H slot heap entries = record {
        returned = λ inside. (ap is_out (at_returned inside), ap heap_of (at_returned inside));
        size = length-set entries slot (entry.Here heap);
        others = λ other apart. get_or-set_other entries slot other (entry.Here heap) (entry.Here None) apart;
      } in
      (takes, returns)

  module _ (w : UnitName → ℕ) where
    abbrev out : ℕ → List (HeapEntry H) → ℕ
    out n entries = total w (away_from n entries)

    out_more : (n k : ℕ) (memory : MemoryAllocationIndex) (entries : List (HeapEntry H)) → k < length entries → IsHere k entries → out n (heap_taken k memory entries) ≡ out n entries + weight w (n + k) memory
    out_more n k memory [] inside here = absurd (omega arith)
    out_more n zero memory (entry.Here heap ∷ entries) inside here = let q : weight w n memory ≡ weight w (n + zero) memory = ap (λ (i : ℕ). weight w i memory) (first_slot n) in omega arith
    out_more n zero memory (entry.Out noted ∷ entries) inside here = absurd (true≢false here)
    out_more n (suc k) memory (entry.Here heap ∷ entries) inside here =
        let r = out_more (suc n) k memory entries (omega arith) here in
        let q : weight w (suc n + k) memory ≡ weight w (n + suc k) memory = ap (λ (i : ℕ). weight w i memory) (next_slot n k) in
        omega arith
    out_more n (suc k) memory (entry.Out noted ∷ entries) inside here =
        let r = out_more (suc n) k memory entries (omega arith) here in
        let q : weight w (suc n + k) memory ≡ weight w (n + suc k) memory = ap (λ (i : ℕ). weight w i memory) (next_slot n k) in
        omega arith

    out_less : (n k : ℕ) (heap : Option H) (entries : List (HeapEntry H)) → IsOut k entries → out n (heap_returned k heap entries) + weight w (n + k) (memory_of k entries) ≡ out n entries
    out_less n k heap [] is_out' = absurd (true≢false (sym is_out'))
    out_less n zero heap (entry.Here held ∷ entries) is_out' = absurd (true≢false (sym is_out'))
    out_less n zero heap (entry.Out noted ∷ entries) is_out' = let q : weight w n noted ≡ weight w (n + zero) noted = ap (λ (i : ℕ). weight w i noted) (first_slot n) in omega arith
    out_less n (suc k) heap (entry.Here held ∷ entries) is_out' =
        let r = out_less (suc n) k heap entries is_out' in
        let q : weight w (suc n + k) (memory_of k entries) ≡ weight w (n + suc k) (memory_of k entries) = ap (λ (i : ℕ). weight w i (memory_of k entries)) (next_slot n k) in
        omega arith
    out_less n (suc k) heap (entry.Out noted ∷ entries) is_out' =
        let r = out_less (suc n) k heap entries is_out' in
        let q : weight w (suc n + k) (memory_of k entries) ≡ weight w (n + suc k) (memory_of k entries) = ap (λ (i : ℕ). weight w i (memory_of k entries)) (next_slot n k) in
        omega arith

    -- units that weigh nothing weigh nothing together
    weightless : (n : ℕ) (entries : List (HeapEntry H)) → ((slot : ℕ) (memory : MemoryAllocationIndex) → n ≤ slot → weight w slot memory ≡ 0) → out n entries ≡ 0
    weightless n [] none = refl
    weightless n (entry.Here heap ∷ entries) none = weightless (suc n) entries (λ slot memory above. none slot memory (omega arith))
    weightless n (entry.Out noted ∷ entries) none =
        let here = none n noted (omega arith) in
        let later = weightless (suc n) entries (λ slot memory above. none slot memory (omega arith)) in
        omega arith

  pub takes_count : HeapTakesCount H
  takes_count w slot memory entries inside here =
      let r = out_more w 0 slot memory entries inside here in
      let q : weight w (0 + slot) memory ≡ weight w slot memory = ap (λ (i : ℕ). weight w i memory) (from_zero slot) in
      omega (arith, r, q)

  pub returns_count : HeapReturnsCount H
  returns_count w slot heap entries is_out' =
      let r = out_less w 0 slot heap entries is_out' in
      let q : weight w (0 + slot) (memory_of slot entries) ≡ weight w slot (memory_of slot entries) = ap (λ (i : ℕ). weight w i (memory_of slot entries)) (from_zero slot) in
      omega (arith, r, q)

none_made : (H : Type 0) (n slots : ℕ) → away_from {H = H} n (heaps_made slots) ≡ []
none_made H n zero = refl
none_made H n (suc slots) = none_made H (suc n) slots

pub none_at_first : (H : Type 0) → NoHeapsOutAtFirst H
none_at_first H slots = none_made H 0 slots

-- the region of a slot, by the unit of a heap that is out
with_true : (b : Bool) → b && true ≡ b
with_true true = refl
with_true false = refl

weighs : (k n : ℕ) (memory : MemoryAllocationIndex) → is_region (heap_slot k) (heap_unit n memory) ≡ one_if (k == n)
weighs k n memory = ap one_if (with_true (k == n))

weighs_one : (k n : ℕ) (memory : MemoryAllocationIndex) → k ≡ n → is_region (heap_slot k) (heap_unit n memory) ≡ 1
weighs_one k n memory is = weighs k n memory ∙ ap one_if (eq-eqb k n is)

weighs_none : (k n : ℕ) (memory : MemoryAllocationIndex) → k ≢ n → is_region (heap_slot k) (heap_unit n memory) ≡ 0
weighs_none k n memory apart = weighs k n memory ∙ ⊎_elim
    (λ (is : (k == n) ≡ true). absurd (apart (eqb-true k n is)))
    (λ (other : (k == n) ≡ false). ap one_if other)
    (cases_Bool (k == n))

no_one : (b : Bool) → (b ≡ true → ⊥) → one_if b ≡ 0
no_one true never = absurd (never refl)
no_one false never = refl

-- it is no right, and no region of another kind
no_right_here : (name : SlotName) (n : ℕ) (memory : MemoryAllocationIndex) → is_right name (heap_unit n memory) ≡ 0
no_right_here name n memory = no_one
    (same (right_to name) (bare (heap_unit n memory)))
    (λ e. true≢false (sym (ap (λ (u : UnitName). u.region) (same_is (right_to name) (bare (heap_unit n memory)) e))))

no_other_here : (name : SlotName) → name.kind ≢ of_slot.Heap → (n : ℕ) (memory : MemoryAllocationIndex) → is_region name (heap_unit n memory) ≡ 0
no_other_here name other n memory =
    let u : UnitName = region_of name (record { faults = 0; erases = 0 }) in
    no_one (same u (bare (heap_unit n memory))) (λ e. other (ap (λ (x : UnitName). x.kind) (same_is u (bare (heap_unit n memory)) e)))

module _ {H : Type 0} where
  region_once : (n k : ℕ) (entries : List (HeapEntry H)) → total (is_region (heap_slot (n + k))) (away_from n entries) ≡ one_if (is_out (heap_entry k entries))
  region_once n k [] = refl
  region_once n zero (entry.Here heap ∷ entries) = weightless (is_region (heap_slot (n + zero))) (suc n) entries (λ slot memory above. weighs_none (n + zero) slot memory (λ e. absurd (omega (arith, e, above))))
  region_once n zero (entry.Out noted ∷ entries) =
      let here = weighs_one (n + zero) n noted (sym (first_slot n)) in
      let later = weightless (is_region (heap_slot (n + zero))) (suc n) entries (λ slot memory above. weighs_none (n + zero) slot memory (λ e. absurd (omega (arith, e, above)))) in
      omega (arith, here, later)
  region_once n (suc k) (entry.Here heap ∷ entries) =
      ap (λ (i : ℕ). total (is_region (heap_slot i)) (away_from (suc n) entries)) (sym (next_slot n k)) ∙ region_once (suc n) k entries
  region_once n (suc k) (entry.Out noted ∷ entries) =
      let here = weighs_none (n + suc k) n noted (λ e. absurd (omega (arith, e))) in
      let later : total (is_region (heap_slot (n + suc k))) (away_from (suc n) entries) ≡ one_if (is_out (heap_entry k entries)) =
      ap (λ (i : ℕ). total (is_region (heap_slot i)) (away_from (suc n) entries)) (sym (next_slot n k)) ∙ region_once (suc n) k entries in
      omega (arith, here, later)

  -- a unit that is out is that of an entry that is out
  record IsOfEntry (n : ℕ) (u : UnitName) (entries : List (HeapEntry H)) : Type 0 where
    pub slot : ℕ
    pub out : IsOut slot entries
    pub is : u ≡ heap_unit (n + slot) (memory_of slot entries)

  of_entry : (n : ℕ) (u : UnitName) (entries : List (HeapEntry H)) → 0 < times u (away_from n entries) → IsOfEntry n u entries
  of_entry n u [] some = absurd (omega arith)
  of_entry n u (entry.Here heap ∷ entries) some =
      let r = of_entry (suc n) u entries some in
      record { slot = suc r.slot; out = r.out; is = r.is ∙ ap (λ (i : ℕ). heap_unit i (memory_of r.slot entries)) (next_slot n r.slot) }
  of_entry n u (entry.Out noted ∷ entries) some = ⊎_elim
      (λ (here : same u (heap_unit n noted) ≡ true).
      let z : IsOfEntry n u (entry.Out noted ∷ entries) = record { slot = zero; out = refl; is = same_is u (heap_unit n noted) here ∙ ap (λ (i : ℕ). heap_unit i noted) (first_slot n) } in
      z)
      (λ (other : same u (heap_unit n noted) ≡ false).
      let no : one_if (same u (heap_unit n noted)) ≡ 0 = ap one_if other in
      let r = of_entry (suc n) u entries (omega arith) in
      let z : IsOfEntry n u (entry.Out noted ∷ entries) = record { slot = suc r.slot; out = r.out; is = r.is ∙ ap (λ (i : ℕ). heap_unit i (memory_of r.slot entries)) (next_slot n r.slot) } in
      z)
      (cases_Bool (same u (heap_unit n noted)))

  of_first : (u : UnitName) (entries : List (HeapEntry H)) → IsOfEntry 0 u entries → IsOfOutHeap H u entries
  of_first u entries r = record { slot = r.slot; out = r.out; is = r.is ∙ ap (λ (i : ℕ). heap_unit i (memory_of r.slot entries)) (from_zero r.slot) }

  at_first : (slot : ℕ) (entries : List (HeapEntry H)) → total (is_region (heap_slot slot)) (heaps_away entries) ≡ one_if (is_out (heap_entry slot entries))
  at_first slot entries = ap (λ (i : ℕ). total (is_region (heap_slot i)) (heaps_away entries)) (sym (from_zero slot)) ∙ region_once 0 slot entries

  pub units_of_out_slots : HeapUnitsAreOfOutSlots H
  units_of_out_slots entries = record {
    named = λ u some. of_first u entries (of_entry 0 u entries some);
    once = λ slot. at_first slot entries;
    no_rights = λ name. weightless (is_right name) 0 entries (λ slot memory above. no_right_here name slot memory);
    no_others = λ name other. weightless (is_region name) 0 entries (λ slot memory above. no_other_here name other slot memory);
  }

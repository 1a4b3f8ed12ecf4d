-- How the pick units of used slots change when a slot is used or freed.
use Rattle.std.proofs.Common.{◌≡◌, ℕ, zero, suc, ◌+◌, ◌*◌, ◌<◌, ◌≤◌, Bool, true, false, List, [], ◌∷◌, length, Option, Some, None, refl, sym, ap, ◌∙◌, ⊎_elim, arith, true≢false, slice_index_or, slice_set, IsSome}
use Rattle.pool_index.proofs.Imports.{cases_Bool, UnitName, SlotKind, one_if, same, times, pick_unit, same_is}
use Rattle.pool_index.specs.declared.ids.MemoryInModule.{MemoryInModule}
use Rattle.pool_index.specs.Part.{used_units}

abbrev Uses : Type 0
Uses = List (Option (Option MemoryInModule))

next_number : (n k step : ℕ) → (n + step) + k * step ≡ n + suc k * step
next_number n k step = omega arith

module _ (kind : SlotKind) (step : ℕ) (u : UnitName) where
  abbrev out : ℕ → Uses → ℕ
  out n used = times u (used_units kind step n used)

  abbrev one : ℕ → ℕ
  one n = one_if (same u (pick_unit kind n))

  pub out_more : (n k : ℕ) (used : Uses) (w : Option MemoryInModule) → k < length used → slice_index_or used k None ≡ None → out n (slice_set used k (Some w)) ≡ out n used + one (n + k * step)
  out_more n k [] w h e = absurd (omega arith)
  out_more n zero (None ∷ used) w h e = let r : one n ≡ one (n + zero * step) = ap one (let q : n ≡ n + zero * step = omega arith in q) in omega arith
  out_more n zero (Some x ∷ used) w h e = absurd (cc)
  out_more n (suc k) (None ∷ used) w h e = let r = out_more (n + step) k used w (omega arith) e in let q : one ((n + step) + k * step) ≡ one (n + suc k * step) = ap one (next_number n k step) in omega arith
  out_more n (suc k) (Some x ∷ used) w h e = let r = out_more (n + step) k used w (omega arith) e in let q : one ((n + step) + k * step) ≡ one (n + suc k * step) = ap one (next_number n k step) in omega arith

  pub out_less : (n k : ℕ) (used : Uses) → k < length used → IsSome (slice_index_or used k None) → out n (slice_set used k None) + one (n + k * step) ≡ out n used
  out_less n k [] h e = absurd (omega arith)
  out_less n zero (None ∷ used) h e = absurd (true≢false (sym e))
  out_less n zero (Some x ∷ used) h e = let r : one n ≡ one (n + zero * step) = ap one (let q : n ≡ n + zero * step = omega arith in q) in omega arith
  out_less n (suc k) (None ∷ used) h e = let r = out_less (n + step) k used (omega arith) e in let q : one ((n + step) + k * step) ≡ one (n + suc k * step) = ap one (next_number n k step) in omega arith
  out_less n (suc k) (Some x ∷ used) h e = let r = out_less (n + step) k used (omega arith) e in let q : one ((n + step) + k * step) ≡ one (n + suc k * step) = ap one (next_number n k step) in omega arith

  -- a unit that is out is that of a used slot
  pub record IsOut (n : ℕ) (used : Uses) : Type 0 where
    pub slot : ℕ
    pub inside : slot < length used
    pub taken : IsSome (slice_index_or used slot None)
    pub is : u ≡ pick_unit kind (n + slot * step)

  pub is_out : (n : ℕ) (used : Uses) → 0 < out n used → IsOut n used
  is_out n [] h = absurd (omega arith)
  is_out n (None ∷ used) h = let r = is_out (n + step) used h in record { slot = suc r.slot; inside = let i = r.inside in omega arith; taken = r.taken; is = r.is ∙ ap (pick_unit kind) (next_number n r.slot step) }
  is_out n (Some x ∷ used) h = ⊎_elim
      (λ (here : same u (pick_unit kind n) ≡ true). let z : IsOut n (Some x ∷ used) = record { slot = zero; inside = omega arith; taken = refl; is = same_is u (pick_unit kind n) here ∙ ap (pick_unit kind) (let q : n ≡ n + zero * step = omega arith in q) } in z)
      (λ (other : same u (pick_unit kind n) ≡ false).
      let no : one n ≡ 0 = ap one_if other in
      let r = is_out (n + step) used (omega arith) in
      let z : IsOut n (Some x ∷ used) = record { slot = suc r.slot; inside = let i = r.inside in omega arith; taken = r.taken; is = r.is ∙ ap (pick_unit kind) (next_number n r.slot step) } in
      z)
      (cases_Bool (same u (pick_unit kind n)))

  at_most_one : (b : Bool) → one_if b ≤ 1
  at_most_one true = omega arith
  at_most_one false = omega arith

  pub out_once : 0 < step → (n : ℕ) (used : Uses) → out n used ≤ 1
  out_once apart n [] = omega arith
  out_once apart n (None ∷ used) = out_once apart (n + step) used
  out_once apart n (Some x ∷ used) = ⊎_elim
      (λ (here : same u (pick_unit kind n) ≡ true).
      let later : out (n + step) used ≡ 0 = go (out (n + step) used) refl here in
      let o = at_most_one (same u (pick_unit kind n)) in
      omega arith)
      (λ (other : same u (pick_unit kind n) ≡ false). let no : one n ≡ 0 = ap one_if other in let r = out_once apart (n + step) used in omega arith)
      (cases_Bool (same u (pick_unit kind n)))
    where
      go : (c : ℕ) → out (n + step) used ≡ c → same u (pick_unit kind n) ≡ true → c ≡ 0
      go zero e here = refl
      go (suc c) e here =
          let r = is_out (n + step) used (omega arith) in
          let s : n ≡ (n + step) + r.slot * step = ap (λ (z : UnitName). z.slot) (sym (same_is u (pick_unit kind n) here) ∙ r.is) in
          absurd (omega arith)

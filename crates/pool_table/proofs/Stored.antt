-- One more call on a store that was let through.
use Rattle.std.proofs.Common.{◌≡◌, ℕ, ◌+◌, ◌-◌, ◌<◌, true, List, [], ◌∷◌, ◌++◌, length, get_or, Option, Some, None, refl, sym, ap, ◌∙◌, subst, arith, inl, inr, IfSome, slice_get}
use Rattle.pool_table.proofs.Imports.{suc-eq-add-one, cases_lt, length-append, map-append, get_or_append_left, get_or-append_right}
use Rattle.pool_table.specs.Elements.{Element, gc_ref}
use Rattle.pool_table.specs.Stores.{StoreTold, StoreCall, call_of, store_called, store_calls, LetsThrough, StoreCalled, StorePassed, AreReferences, passed_calls}

-- one more call that the store let through
through_more : (n : ℕ) (t : StoreTold) → ((k : ℕ) → k < n → LetsThrough true (store_calls k t)) → LetsThrough true (store_calls n t) → (k : ℕ) → k < n + 1 → LetsThrough true (store_calls k t)
through_more n t before last k below =
    elim (cases_lt k n) [
      | inl under ↦ before k under
      | inr over ↦
          let same : n ≡ k = omega (arith, below, over) in
          let P : ℕ → Type 0 = λ m. LetsThrough true (store_calls m t) in
          subst P same last
    ]

-- a call behind others
called_more : {G : Type 0} (leads : G → StoreCall → G → Type 0) (calls : List StoreCall) (call : StoreCall) (a b c : G) → StoreCalled leads calls a b → leads b call c → StoreCalled leads (calls ++ call ∷ []) a c
called_more {G} leads [] call a b c first last =
    let P : G → Type 0 = λ x. leads x call c in
    (c, (subst P first last, refl))
called_more leads (d ∷ calls) call a b c first last = (first.0, (first.1.0, called_more leads calls call first.0 b c first.1.1 last))

theirs_more : (first : ℕ) (refs : List (Option ℕ)) (ref : Option ℕ) (es : List Element) → AreReferences first refs es → slice_get es (first + length refs) ≡ Some (gc_ref ref) → AreReferences first (refs ++ ref ∷ []) es
theirs_more first refs ref es before last k below =
    let n : ℕ = length refs in
    let all : length (refs ++ ref ∷ []) ≡ n + 1 = length-append refs (ref ∷ []) in
    elim (cases_lt k n) [
      | inl under ↦ before k under ∙ ap (λ (r : Option ℕ). Some (gc_ref r)) (sym (get_or_append_left refs (ref ∷ []) None k under))
      | inr over ↦
          let same : n ≡ k = omega (arith, below, all, over) in
          let start : n - n ≡ 0 = omega arith in
          let here : get_or (refs ++ ref ∷ []) n None ≡ ref = get_or-append_right refs (ref ∷ []) n n None refl (omega arith) ∙ ap (λ (m : ℕ). get_or (ref ∷ []) m None) start in
          let P : ℕ → Type 0 = λ m. slice_get es (first + m) ≡ Some (gc_ref (get_or (refs ++ ref ∷ []) m None)) in
          subst P same (last ∙ ap (λ (r : Option ℕ). Some (gc_ref r)) (sym here))
    ]

theirs_told : (first : ℕ) (refs : List (Option ℕ)) (ref : Option ℕ) (o : Option (List Element)) → IfSome o (AreReferences first refs) → IfSome o (λ es. slice_get es (first + length refs) ≡ Some (gc_ref ref)) → IfSome o (AreReferences first (refs ++ ref ∷ []))
theirs_told first refs ref None before last = tt
theirs_told first refs ref (Some es) before last = theirs_more first refs ref es before last

module _ {G : Type 0} (told : G → StoreTold) (leads : G → StoreCall → G → Type 0) (first : ℕ) (new : Option ℕ) (es : Option (List Element)) where
  pub passed_none : (store : G) → StorePassed told leads first 0 new es store store
  passed_none store = record {
    replaced = [];
    number = refl;
    theirs = none_theirs es;
    called = refl;
    tells = refl;
    through = λ k below. absurd (omega (arith, below));
  } where
    none_theirs : (o : Option (List Element)) → IfSome o (AreReferences first [])
    none_theirs None = tt
    none_theirs (Some xs) = λ k below. absurd (omega (arith, below))

  pub passed_more : (n : ℕ) (ref : Option ℕ) (a b c : G) → StorePassed told leads first n new es a b → IfSome es (λ xs. slice_get xs (first + n) ≡ Some (gc_ref ref)) → leads b (call_of ref new true) c → told c ≡ store_called (told b) → LetsThrough true (told b) → StorePassed told leads first (n + 1) new es a c
  passed_more n ref a b c is there call made passed =
      let P : ℕ → Type 0 = λ m. IfSome es (λ xs. slice_get xs (first + m) ≡ Some (gc_ref ref)) in
      let one : store_called (store_calls n (told a)) ≡ store_calls (n + 1) (told a) = ap (λ (m : ℕ). store_calls m (told a)) (suc-eq-add-one n) in
      let calls : passed_calls new (is.replaced ++ ref ∷ []) ≡ passed_calls new is.replaced ++ call_of ref new true ∷ [] = map-append (λ (old : Option ℕ). call_of old new true) is.replaced (ref ∷ []) in
      let C : List StoreCall → Type 0 = λ cs. StoreCalled leads cs a c in
      record {
        replaced = is.replaced ++ ref ∷ [];
        number = length-append is.replaced (ref ∷ []) ∙ ap (λ (m : ℕ). m + 1) is.number;
        theirs = theirs_told first is.replaced ref es is.theirs (subst P (sym is.number) there);
        called = subst C (sym calls) (called_more leads (passed_calls new is.replaced) (call_of ref new true) a b c is.called call);
        tells = made ∙ ap store_called is.tells ∙ one;
        through = through_more n (told a) is.through (subst (λ (t : StoreTold). LetsThrough true t) is.tells passed);
      }

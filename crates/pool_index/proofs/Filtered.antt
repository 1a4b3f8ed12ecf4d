-- What a list filtered by a test loses where an element is removed.
use Rattle.std.proofs.Common.{◌≡◌, ℕ, ◌+◌, ◌<◌, Bool, true, false, List, [], ◌∷◌, ◌++◌, length, refl, ap, sym, ◌∙◌, zero, suc, arith, get_or, subst, Some, None, Option, option_map, filter, remove, if◌then◌else◌}
use Rattle.std.specs.Option.{option_or}
use Rattle.pool_index.specs.Positions.{last_position}

-- an element that fails is removed
pub filter-remove_other : {X : Type 0} (p : X → Bool) (xs : List X) (i : ℕ) (d : X) → i < length xs → p (get_or xs i d) ≡ false → filter p (remove xs i) ≡ filter p xs
filter-remove_other p [] i d inside fails = absurd (omega arith)
filter-remove_other p (x ∷ xs) zero d inside fails = rw fails refl
filter-remove_other p (x ∷ xs) (suc i) d inside fails = ap (λ l. if p x then x ∷ l else l) (filter-remove_other p xs i d (omega arith) fails)

-- where a step of `last_position` leads
data Last {X : Type 0} (p : X → Bool) (x : X) (xs : List X) (i : ℕ) : Type 0 where
  later : (j : ℕ) → i ≡ suc j → last_position p xs ≡ Some j → Last p x xs i
  here : i ≡ 0 → last_position p xs ≡ None → p x ≡ true → Last p x xs i

split_last : {X : Type 0} (p : X → Bool) (x : X) (xs : List X) (i : ℕ) (o : Option ℕ) (b : Bool) → last_position p xs ≡ o → p x ≡ b → option_or (option_map (λ i. i + 1) o) (if b then Some 0 else None) ≡ Some i → Last p x xs i
split_last p x xs i (Some j) b e f h = later j (let same : j + 1 ≡ i = cc h in omega arith) e
split_last p x xs i None true e f h = here (let same : 0 ≡ i = cc h in omega arith) e f
split_last p x xs i None false e f h = absurd (cc h)

last_of_cons : {X : Type 0} (p : X → Bool) (x : X) (xs : List X) (i : ℕ) → last_position p (x ∷ xs) ≡ Some i → Last p x xs i
last_of_cons p x xs i e = split_last p x xs i (last_position p xs) (p x) refl refl e

-- a place that `last_position` gives
pub record IsLast {X : Type 0} (p : X → Bool) (xs : List X) (i : ℕ) (d : X) : Type 0 where
  pub inside : i < length xs
  pub passes : p (get_or xs i d) ≡ true

pub last_passes : {X : Type 0} (p : X → Bool) (xs : List X) (i : ℕ) (d : X) → last_position p xs ≡ Some i → IsLast p xs i d
last_passes p [] i d e = absurd (cc e)
last_passes p (x ∷ xs) i d e =
    elim (last_of_cons p x xs i e) [
      | later j at' rest ↦ let r = last_passes p xs j d rest in record { inside = let k : j < length xs = r.inside in omega arith; passes = ap (λ m. p (get_or (x ∷ xs) m d)) at' ∙ r.passes }
      | here at' rest yes' ↦ record { inside = omega arith; passes = ap (λ m. p (get_or (x ∷ xs) m d)) at' ∙ yes' }
    ]

none_of : {X : Type 0} (p : X → Bool) (x : X) (xs : List X) (o : Option ℕ) (b : Bool) → last_position p xs ≡ o → (o ≡ None → filter p xs ≡ []) → p x ≡ b → option_or (option_map (λ i. i + 1) o) (if b then Some 0 else None) ≡ None → filter p (x ∷ xs) ≡ []
none_of p x xs (Some j) b f rest g h = absurd (cc h)
none_of p x xs None true f rest g h = absurd (cc h)
none_of p x xs None false f rest g h = rw g (rest refl)

pub none_passes : {X : Type 0} (p : X → Bool) (xs : List X) → last_position p xs ≡ None → filter p xs ≡ []
none_passes p [] e = refl
none_passes p (x ∷ xs) e = none_of p x xs (last_position p xs) (p x) refl (none_passes p xs) refl e

kept : {X : Type 0} (x : X) (ys zs : List X) (last : X) (b : Bool) → ys ≡ zs ++ last ∷ [] → (if b then x ∷ ys else ys) ≡ (if b then x ∷ zs else zs) ++ last ∷ []
kept x ys zs last true e = ap (λ l. x ∷ l) e
kept x ys zs last false e = e

-- the last element that passes is removed
pub filter-remove_last : {X : Type 0} (p : X → Bool) (xs : List X) (i : ℕ) (d : X) → last_position p xs ≡ Some i → filter p xs ≡ filter p (remove xs i) ++ get_or xs i d ∷ []
filter-remove_last p [] i d e = absurd (cc e)
filter-remove_last p (x ∷ xs) i d e =
    elim (last_of_cons p x xs i e) [
      | later j at' rest ↦
          subst (λ m. filter p (x ∷ xs) ≡ filter p (remove (x ∷ xs) m) ++ get_or (x ∷ xs) m d ∷ []) (sym at') (kept x (filter p xs) (filter p (remove xs j)) (get_or xs j d) (p x) (filter-remove_last p xs j d rest))
      | here at' rest yes' ↦
          let none' : filter p xs ≡ [] = none_passes p xs rest in
          subst (λ m. filter p (x ∷ xs) ≡ filter p (remove (x ∷ xs) m) ++ get_or (x ∷ xs) m d ∷ []) (sym at') (rw (yes', none') refl)
    ]

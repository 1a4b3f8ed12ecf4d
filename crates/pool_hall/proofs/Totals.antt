-- Sums over lists: what a change of one element does to them, and what they tell of the elements.
use Rattle.std.proofs.Common.{◌≡◌, ◌≢◌, ℕ, zero, suc, ◌+◌, ◌<◌, ◌≤◌, List, [], ◌∷◌, ◌++◌, length, take, set, slice_get, Some, ⊎_elim, sym, refl, ap, ◌∙◌, suc-ne-zero, arith}
use Rattle.std.proofs.lemmas.Bool.{cases_lt}
use mathlib.Core.Option.{some, some-injective, some-ne-none}
use lib.ListN.{get_elem?}
use Rattle.atomic_table.proofs.Lists.{set_else}
use Rattle.pool_hall.specs.Sum.{total}

module _ {X : Type 0} where
  -- an element stands within the list
  pub inside : (l : List X) (i : ℕ) (x : X) → get_elem? l i ≡ some x → i < length l
  inside [] i x e = absurd (some-ne-none x (sym e))
  inside (y ∷ ys) zero x e = omega arith
  inside (y ∷ ys) (suc i) x e = let r = inside ys i x e in omega arith

  -- within the list stands an element
  pub element : (l : List X) (i : ℕ) → i < length l → (x : X) × (get_elem? l i ≡ some x)
  element [] i h = absurd (omega arith)
  element (y ∷ ys) zero h = (y, refl)
  element (y ∷ ys) (suc i) h = element ys i (omega arith)

  pub got : (l : List X) (i : ℕ) (x : X) → get_elem? l i ≡ some x → slice_get l i ≡ Some x
  got [] i x e = absurd (some-ne-none x (sym e))
  got (y ∷ ys) zero x e = ap (λ (z : X). Some z) (some-injective y x e)
  got (y ∷ ys) (suc i) x e = got ys i x e

  pub gotten : (l : List X) (i : ℕ) (x : X) → slice_get l i ≡ Some x → get_elem? l i ≡ some x
  gotten [] i x e = absurd (cc)
  gotten (y ∷ ys) zero x e = let is : y ≡ x = cc in ap some is
  gotten (y ∷ ys) (suc i) x e = gotten ys i x e

  -- one more of the list's first elements
  pub take_next : (l : List X) (i : ℕ) (x : X) → get_elem? l i ≡ some x → take (i + 1) l ≡ take i l ++ x ∷ []
  take_next [] i x e = absurd (some-ne-none x (sym e))
  take_next (y ∷ ys) zero x e = λ k. some-injective y x e k ∷ []
  take_next (y ∷ ys) (suc i) x e = ap (λ (n : ℕ). take n (y ∷ ys)) (let f : suc i + 1 ≡ suc (i + 1) = omega arith in f) ∙ ap (λ r. y ∷ r) (take_next ys i x e)

  -- a list of the same length that has each element is the same
  pub same_list : (l k : List X) → length l ≡ length k → ((i : ℕ) (x : X) → get_elem? l i ≡ some x → get_elem? k i ≡ some x) → l ≡ k
  same_list [] [] e h = refl
  same_list [] (y ∷ ys) e h = absurd (omega arith)
  same_list (x ∷ xs) [] e h = absurd (omega arith)
  same_list (x ∷ xs) (y ∷ ys) e h = let r = same_list xs ys (omega arith) (λ i z f. h (suc i) z f) in λ i. sym (some-injective y x (h zero x refl)) i ∷ r i

  -- where one element changes, the sum changes by the difference
  pub total_set : (f : X → ℕ) (l : List X) (i : ℕ) (v w : X) → get_elem? l i ≡ some v → total f (set l i w) + f v ≡ total f l + f w
  total_set f [] i v w e = absurd (some-ne-none v (sym e))
  total_set f (x ∷ xs) zero v w e = let is : f x ≡ f v = ap f (some-injective x v e) in omega arith
  total_set f (x ∷ xs) (suc i) v w e = let r = total_set f xs i v w e in omega arith

  pub total_append : (f : X → ℕ) (l m : List X) → total f (l ++ m) ≡ total f l + total f m
  total_append f [] m = omega arith
  total_append f (x ∷ xs) m = let r = total_append f xs m in omega arith

  -- a new element adds its own number
  pub total_snoc : (f : X → ℕ) (l : List X) (v : X) → total f (l ++ v ∷ []) ≡ total f l + f v
  total_snoc f l v = let r = total_append f l (v ∷ []) in omega arith

  pub total_at : (f : X → ℕ) (l : List X) (i : ℕ) (v : X) → get_elem? l i ≡ some v → f v ≤ total f l
  total_at f [] i v e = absurd (some-ne-none v (sym e))
  total_at f (x ∷ xs) zero v e = let is : f x ≡ f v = ap f (some-injective x v e) in omega arith
  total_at f (x ∷ xs) (suc i) v e = let r = total_at f xs i v e in omega arith

  pub total_two : (f : X → ℕ) (l : List X) (i j : ℕ) (v w : X) → j ≢ i → get_elem? l i ≡ some v → get_elem? l j ≡ some w → f v + f w ≤ total f l
  total_two f [] i j v w n a b = absurd (some-ne-none v (sym a))
  total_two f (x ∷ xs) zero zero v w n a b = absurd (n refl)
  total_two f (x ∷ xs) zero (suc j) v w n a b = let is : f x ≡ f v = ap f (some-injective x v a) in let r = total_at f xs j w b in omega arith
  total_two f (x ∷ xs) (suc i) zero v w n a b = let is : f x ≡ f w = ap f (some-injective x w b) in let r = total_at f xs i v a in omega arith
  total_two f (x ∷ xs) (suc i) (suc j) v w n a b = let r = total_two f xs i j v w (λ e. n (ap suc e)) a b in omega arith

  -- a sum above 0 has an element whose number is
  pub total_some : (f : X → ℕ) (l : List X) → 0 < total f l → (i : ℕ) × (v : X) × (get_elem? l i ≡ some v) × (0 < f v)
  total_some f [] h = absurd (omega arith)
  total_some f (x ∷ xs) h =
      ⊎_elim (λ (here : 0 < f x). (zero, x, refl, here)) (λ (none : f x ≤ 0). let r = total_some f xs (omega arith) in (suc r.0, r.1, r.2, r.3)) (cases_lt 0 (f x))

  pub total_le : (f g : X → ℕ) (l : List X) → ((i : ℕ) (v : X) → get_elem? l i ≡ some v → f v ≤ g v) → total f l ≤ total g l
  total_le f g [] h = omega arith
  total_le f g (x ∷ xs) h = let a = h zero x refl in let r = total_le f g xs (λ i v e. h (suc i) v e) in omega arith

  pub total_zero : (f : X → ℕ) (l : List X) → ((i : ℕ) (v : X) → get_elem? l i ≡ some v → f v ≡ 0) → total f l ≡ 0
  total_zero f [] h = refl
  total_zero f (x ∷ xs) h = let a = h zero x refl in let r = total_zero f xs (λ i v e. h (suc i) v e) in omega arith

  -- where one element has all of g, and those with none of g have none of f, it has all of f
  pub total_alone : (f g : X → ℕ) (l : List X) (i : ℕ) (v : X) → get_elem? l i ≡ some v → total g l ≡ g v → ((j : ℕ) (w : X) → get_elem? l j ≡ some w → g w ≡ 0 → f w ≡ 0) → total f l ≡ f v
  total_alone f g [] i v e all h = absurd (some-ne-none v (sym e))
  total_alone f g (x ∷ xs) zero v e all h =
      let is : x ≡ v = some-injective x v e in
      let fx : f x ≡ f v = ap f is in
      let gx : g x ≡ g v = ap g is in
      let rest : total f xs ≡ 0 = total_zero f xs (λ j w at. h (suc j) w at (let le = total_at g xs j w at in omega arith)) in
      omega arith
  total_alone f g (x ∷ xs) (suc i) v e all h =
      let le = total_at g xs i v e in
      let first : f x ≡ 0 = h zero x refl (omega arith) in
      let r = total_alone f g xs i v e (omega arith) (λ j w at. h (suc j) w at) in
      omega arith

  -- where one element takes over the numbers of another, the sum stays
  pub total_joined : (f : X → ℕ) (l : List X) (i j : ℕ) (v w both spent : X) → get_elem? l i ≡ some v → j ≢ i → get_elem? l j ≡ some w → f both + f spent ≡ f v + f w
      → total f (set (set l i both) j spent) ≡ total f l
  total_joined f l i j v w both spent a n b e =
      let first = total_set f l i v both a in
      let still : get_elem? (set l i both) j ≡ some w = set_else l i j both n ∙ b in
      let second = total_set f (set l i both) j w spent still in
      omega arith

  -- where one element is cut in two, the sum stays
  pub total_split : (f : X → ℕ) (l : List X) (i : ℕ) (v left right : X) → get_elem? l i ≡ some v → f left + f right ≡ f v → total f (set l i left ++ right ∷ []) ≡ total f l
  total_split f l i v left right a e = let first = total_set f l i v left a in let second = total_snoc f (set l i left) right in omega arith

  -- where no other element has any of f, one has all
  pub total_only : (f : X → ℕ) (l : List X) (i : ℕ) (v : X) → get_elem? l i ≡ some v → ((j : ℕ) (w : X) → j ≢ i → get_elem? l j ≡ some w → f w ≡ 0) → total f l ≡ f v
  total_only f [] i v e h = absurd (some-ne-none v (sym e))
  total_only f (x ∷ xs) zero v e h =
      let is : f x ≡ f v = ap f (some-injective x v e) in
      let rest : total f xs ≡ 0 = total_zero f xs (λ j w at'. h (suc j) w (λ z. suc-ne-zero j z) at') in
      omega arith
  total_only f (x ∷ xs) (suc i) v e h =
      let first : f x ≡ 0 = h zero x (λ z. suc-ne-zero i (sym z)) refl in
      let r = total_only f xs i v e (λ j w n. h (suc j) w (λ z. n (omega arith))) in
      omega arith

  -- where the changed element keeps its number, the sum stays
  pub total_kept : (f : X → ℕ) (l : List X) (i : ℕ) (v w : X) → get_elem? l i ≡ some v → f w ≡ f v → total f (set l i w) ≡ total f l
  total_kept f l i v w e same = let s = total_set f l i v w e in omega arith

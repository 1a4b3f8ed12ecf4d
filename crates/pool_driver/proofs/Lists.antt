-- Lists that grow by one element at the end, as a loop moves the elements of another over.
use Rattle.std.proofs.Common.{◌≡◌, ◌+◌, List, [], ◌∷◌, ◌++◌, length, map, refl, sym, ap, subst, ◌∙◌, arith}
use Rattle.std.specs.List.{AllByRecursion}

module _ {X : Type 0} where
  pushed_long : (had : List X) (x : X) → length (had ++ x ∷ []) ≡ length had + 1
  pushed_long [] x = refl
  pushed_long (w ∷ had) x = let r = pushed_long had x in omega arith

  -- There is room for the rest still.
  pub leaves_room : {Y : Type 0} (had new : List X) (x : X) (y : Y) (left rest : List Y) → new ≡ had ++ x ∷ [] → left ≡ y ∷ rest → length new + length rest ≡ length had + length left
  leaves_room had new x y left rest pushed next = omega (arith, ap length pushed, pushed_long had x, ap length next)

module _ {X Y : Type 0} (f : X → Y) where
  grows : (xs : List X) (x : X) (ys : List Y) → map f (xs ++ x ∷ []) ++ ys ≡ map f xs ++ f x ∷ ys
  grows [] x ys = refl
  grows (w ∷ xs) x ys = ap (λ l. f w ∷ l) (grows xs x ys)

  none_more : (ys : List Y) → ys ++ [] ≡ ys
  none_more [] = refl
  none_more (y ∷ ys) = ap (λ l. y ∷ l) (none_more ys)

  -- One element moves over.
  pub moves_one : (had new : List X) (x : X) (y : Y) (left rest all : List Y) → new ≡ had ++ x ∷ [] → f x ≡ y → left ≡ y ∷ rest → map f had ++ left ≡ all → map f new ++ rest ≡ all
  moves_one had new x y left rest all pushed is next before =
      ap (λ l. map f l ++ rest) pushed ∙ grows had x rest ∙ ap (λ z. map f had ++ z ∷ rest) is ∙ ap (λ l. map f had ++ l) (sym next) ∙ before

  -- All have moved over.
  pub moved_all : (had : List X) (left all : List Y) → left ≡ [] → map f had ++ left ≡ all → map f had ≡ all
  moved_all had left all none before = sym (none_more (map f had)) ∙ ap (λ l. map f had ++ l) (sym none) ∙ before

module _ {X : Type 0} (P : X → Type 0) where
  all_pushed : (had : List X) (x : X) → AllByRecursion P had → P x → AllByRecursion P (had ++ x ∷ [])
  all_pushed [] x all one = (one, tt)
  all_pushed (w ∷ had) x all one = (all.0, all_pushed had x all.1 one)

  -- What holds of all and of the one that is pushed holds of all then.
  pub holds_of_all : (had new : List X) (x : X) → new ≡ had ++ x ∷ [] → AllByRecursion P had → P x → AllByRecursion P new
  holds_of_all had new x pushed all one = subst (AllByRecursion P) (sym pushed) (all_pushed had x all one)

-- A list of items, seen through what each of them is.
use Rattle.std.proofs.Common.{◌≡◌, ℕ, zero, suc, ◌+◌, ◌-◌, ◌<◌, ◌≤◌, List, [], ◌∷◌, ◌++◌, length, get_or, take, drop, replicate, refl, sym, ap, ◌∙◌, arith, map}
use Rattle.pool_table.proofs.Imports.{length-map, length-replicate, map-append, take_all, take-map, drop-map, same_lists, get_or-replicate, put_all}

pub take_none : {X : Type 0} (n : ℕ) (ys : List X) → take n [] ++ ys ≡ ys
take_none {X} n ys = ap (λ (xs : List X). xs ++ ys) (take_all n [] (omega arith))

module _ {X Y : Type 0} (f : X → Y) where
  pub map_replicate : (n : ℕ) (x : X) → map f (replicate n x) ≡ replicate n (f x)
  map_replicate zero x = refl
  map_replicate (suc n) x = ap (λ (ys : List Y). f x ∷ ys) (map_replicate n x)

  pub map_put_all : (first count : ℕ) (x : X) (xs : List X) → map f (put_all first count x xs) ≡ put_all first count (f x) (map f xs)
  map_put_all first count x xs =
      let many : List X = replicate count x in
      let same : map f many ≡ replicate count (f x) = map_replicate count x in
      let long : length many ≡ length (replicate count (f x)) = length-replicate count x ∙ sym (length-replicate count (f x)) in
      map-append f (take first xs) (many ++ drop (first + length many) xs)
      ∙ ap (λ (ys : List Y). ys ++ map f (many ++ drop (first + length many) xs)) (sym (take-map f first xs))
      ∙ ap (λ (ys : List Y). take first (map f xs) ++ ys) (
      map-append f many (drop (first + length many) xs)
      ∙ ap (λ (ys : List Y). ys ++ map f (drop (first + length many) xs)) same
      ∙ ap (λ (ys : List Y). replicate count (f x) ++ ys) (sym (drop-map f (first + length many) xs) ∙ ap (λ (n : ℕ). drop (first + n) (map f xs)) long)
      )

  -- a list with items behind it
  pub map_resized : (n m : ℕ) (x : X) (xs ys : List X) → m ≡ length xs → length xs ≤ n → ys ≡ take n xs ++ replicate (n - m) x → map f ys ≡ map f xs ++ replicate (n - length (map f xs)) (f x)
  map_resized n m x xs ys long more is =
      let count : n - m ≡ n - length (map f xs) = omega (arith, long, length-map xs f) in
      ap (map f) (is ∙ ap (λ (zs : List X). zs ++ replicate (n - m) x) (take_all n xs more))
      ∙ map-append f xs (replicate (n - m) x)
      ∙ ap (λ (zs : List Y). map f xs ++ zs) (map_replicate (n - m) x ∙ ap (λ (k : ℕ). replicate k (f x)) count)

-- a list all of whose elements are one
pub all_one : {Y : Type 0} (y : Y) (ys : List Y) → ((k : ℕ) (d : Y) → k < length ys → get_or ys k d ≡ y) → ys ≡ replicate (length ys) y
all_one {Y} y ys each =
    same_lists ys (replicate (length ys) y) (sym (length-replicate (length ys) y))
    (λ k d below. each k d below ∙ sym (get_or-replicate (length ys) k y d below))

-- and one that has another
pub not_one : {Y : Type 0} (y : Y) (ys : List Y) (k : ℕ) (d : Y) → k < length ys → (get_or ys k d ≡ y → ⊥) → ys ≡ replicate (length ys) y → ⊥
not_one {Y} y ys k d below other same = other (ap (λ (zs : List Y). get_or zs k d) same ∙ get_or-replicate (length ys) k y d below)

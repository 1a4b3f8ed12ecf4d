-- The ends of a list with a slot more and with a slot less.
use Rattle.std.proofs.Common.{◌≡◌, ℕ, ◌+◌, ◌-◌, ◌<◌, List, [], ◌∷◌, ◌++◌, length, refl, ap, sym, ◌∙◌, arith, Option, None, Some}
use Rattle.pool_index.specs.Links.{first_of, last_in, last_or, ends_of, ends_last, ends_with, ends_without, ends_around}
use Rattle.pool_index.proofs.Linking.{last_or_is}

last_in_append : (k : ℕ) (ls : List ℕ) (b : ℕ) (bs : List ℕ) → last_in k (ls ++ b ∷ bs) ≡ last_in b bs
last_in_append k [] b bs = refl
last_in_append k (a ∷ ls) b bs = last_in_append a ls b bs

pub last_of_ends : (ks : List ℕ) → ends_last (ends_of ks) ≡ last_or None ks
last_of_ends [] = refl
last_of_ends (k ∷ ks) = sym (last_or_is k ks)

length_with : (ls : List ℕ) (y : ℕ) → length (ls ++ y ∷ []) ≡ length ls + 1
length_with [] y = refl
length_with (a ∷ ls) y = let r : length (ls ++ y ∷ []) ≡ length ls + 1 = length_with ls y in omega arith

pub ends_push : (ks : List ℕ) (y : ℕ) → ends_of (ks ++ y ∷ []) ≡ ends_with (ends_of ks) y
ends_push [] y = refl
ends_push (k ∷ ks) y =
    let l : length (k ∷ (ks ++ y ∷ [])) ≡ length (k ∷ ks) + 1 = length_with (k ∷ ks) y in
    (λ i. Some (record { first = k; last = last_in_append k ks y [] i; len = l i }))

length_without : (ls : List ℕ) (x : ℕ) (bs : List ℕ) → length (ls ++ bs) ≡ length (ls ++ x ∷ bs) - 1
length_without [] x bs = omega arith
length_without (a ∷ ls) x bs = let r : length (ls ++ bs) ≡ length (ls ++ x ∷ bs) - 1 = length_without ls x bs in let s : 0 < length (ls ++ x ∷ bs) = some ls in omega arith where
  some : (ls : List ℕ) → 0 < length (ls ++ x ∷ bs)
  some [] = omega arith
  some (a ∷ ls) = omega arith

append_none : (ls : List ℕ) → ls ++ [] ≡ ls
append_none [] = refl
append_none (a ∷ ls) = ap (λ l. a ∷ l) (append_none ls)

without_at : (ls : List ℕ) (x : ℕ) (bs : List ℕ) → ends_of (ls ++ bs) ≡ ends_without (record { before = last_or None ls; after = first_of bs }) (ends_of (ls ++ x ∷ bs))
without_at [] x [] = refl
without_at [] x (b ∷ bs) = let l : length (b ∷ bs) ≡ length (x ∷ b ∷ bs) - 1 = length_without [] x (b ∷ bs) in (λ i. Some (record { first = b; last = last_in b bs; len = l i }))
without_at (a ∷ ls) x [] =
    let l : length (a ∷ ls ++ []) ≡ length (a ∷ ls ++ x ∷ []) - 1 = length_without (a ∷ ls) x [] in
    (λ i. Some (record { first = a; last = last_in a (append_none ls i); len = l i }))
    ∙ ap (λ (o : Option ℕ). ends_around o None (record { first = a; last = last_in a (ls ++ x ∷ []); len = length (a ∷ ls ++ x ∷ []) })) (sym (last_or_is a ls))
without_at (a ∷ ls) x (b ∷ bs) =
    let l : length (a ∷ ls ++ b ∷ bs) ≡ length (a ∷ ls ++ x ∷ b ∷ bs) - 1 = length_without (a ∷ ls) x (b ∷ bs) in
    let e : last_in a (ls ++ b ∷ bs) ≡ last_in a (ls ++ x ∷ b ∷ bs) = last_in_append a ls b bs ∙ sym (last_in_append a ls x (b ∷ bs)) in
    (λ i. Some (record { first = a; last = e i; len = l i }))
    ∙ ap (λ (o : Option ℕ). ends_around o (Some b) (record { first = a; last = last_in a (ls ++ x ∷ b ∷ bs); len = length (a ∷ ls ++ x ∷ b ∷ bs) })) (sym (last_or_is a ls))

pub ends_remove : (ls : List ℕ) (x : ℕ) (bs : List ℕ) (before after : Option ℕ) → before ≡ last_or None ls → after ≡ first_of bs → ends_of (ls ++ bs) ≡ ends_without (record { before = before; after = after }) (ends_of (ls ++ x ∷ bs))
ends_remove ls x bs before after b a = without_at ls x bs ∙ (λ i. ends_without (record { before = sym b i; after = sym a i }) (ends_of (ls ++ x ∷ bs)))

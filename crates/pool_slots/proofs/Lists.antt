-- Facts that hold of each element of a list, or of two lists element by element.
use Rattle.std.proofs.Common.{◌≡◌, ℕ, suc, Bool, true, false, List, [], ◌∷◌, ◌++◌, length, refl, ap, Ok, Err, map, filter, cond, Result, OnErr}
use Rattle.std.specs.List.{AllByRecursion, AllZip}

pub each_append : {X : Type 0} (P : X → Type 0) (xs ys : List X) → AllByRecursion P xs → AllByRecursion P ys → AllByRecursion P (xs ++ ys)
each_append P [] ys a b = b
each_append P (x ∷ xs) ys a b = (a.0, each_append P xs ys a.1 b)

pub each_weaker : {X : Type 0} (P Q : X → Type 0) (xs : List X) → ((x : X) → P x → Q x) → AllByRecursion P xs → AllByRecursion Q xs
each_weaker P Q [] step a = tt
each_weaker P Q (x ∷ xs) step a = (step x a.0, each_weaker P Q xs step a.1)

pub each_map : {X : Type 0} (P Q : X → Type 0) (f : X → X) (xs : List X) → ((x : X) → P x → Q (f x)) → AllByRecursion P xs → AllByRecursion Q (map f xs)
each_map P Q f [] step a = tt
each_map P Q f (x ∷ xs) step a = (step x a.0, each_map P Q f xs step a.1)

pub each_both : {X : Type 0} (P Q R : X → Type 0) (xs : List X) → ((x : X) → P x → Q x → R x) → AllByRecursion P xs → AllByRecursion Q xs → AllByRecursion R xs
each_both P Q R [] step a b = tt
each_both P Q R (x ∷ xs) step a b = (step x a.0 b.0, each_both P Q R xs step a.1 b.1)

pub each_known : {X : Type 0} (P : X → Type 0) (xs : List X) → ((x : X) → P x) → AllByRecursion P xs
each_known P [] step = tt
each_known P (x ∷ xs) step = (step x, each_known P xs step)

filter_step : {X : Type 0} (b : Bool) (x : X) (fs gs hs : List X) → fs ≡ gs ++ hs → cond b (x ∷ fs) fs ≡ cond b (x ∷ gs) gs ++ hs
filter_step true x fs gs hs e = ap (λ l. x ∷ l) e
filter_step false x fs gs hs e = e

pub filter_append : {X : Type 0} (p : X → Bool) (xs ys : List X) → filter p (xs ++ ys) ≡ filter p xs ++ filter p ys
filter_append p [] ys = refl
filter_append p (x ∷ xs) ys = filter_step (p x) x (filter p (xs ++ ys)) (filter p xs) (filter p ys) (filter_append p xs ys)

pub filter_none : {X : Type 0} (p : X → Bool) (xs : List X) → AllByRecursion (λ x. p x ≡ false) xs → filter p xs ≡ []
filter_none p [] none = refl
filter_none p (x ∷ xs) none = rw (none.0, filter_none p xs none.1) refl

pub zip_same : {X : Type 0} (R : X → X → Type 0) (xs : List X) → ((x : X) → R x x) → AllZip R xs xs
zip_same R [] same = tt
zip_same R (x ∷ xs) same = (same x, zip_same R xs same)

pub zip_both : {X : Type 0} (R S T : X → X → Type 0) (xs ys zs : List X) → ((x y z : X) → R x y → S y z → T x z) → AllZip R xs ys → AllZip S ys zs → AllZip T xs zs
zip_both R S T [] [] [] step a b = tt
zip_both R S T [] [] (z ∷ zs) step a b = absurd b
zip_both R S T [] (y ∷ ys) zs step a b = absurd a
zip_both R S T (x ∷ xs) [] zs step a b = absurd a
zip_both R S T (x ∷ xs) (y ∷ ys) [] step a b = absurd b
zip_both R S T (x ∷ xs) (y ∷ ys) (z ∷ zs) step a b = (step x y z a.0 b.0, zip_both R S T xs ys zs step a.1 b.1)

pub zip_map : {X : Type 0} (R T : X → X → Type 0) (f : X → X) (xs ys : List X) → ((x y : X) → R x y → T x (f y)) → AllZip R xs ys → AllZip T xs (map f ys)
zip_map R T f [] [] step a = tt
zip_map R T f [] (y ∷ ys) step a = absurd a
zip_map R T f (x ∷ xs) [] step a = absurd a
zip_map R T f (x ∷ xs) (y ∷ ys) step a = (step x y a.0, zip_map R T f xs ys step a.1)

pub zip_length : {X : Type 0} (R : X → X → Type 0) (xs ys : List X) → AllZip R xs ys → length ys ≡ length xs
zip_length R [] [] a = refl
zip_length R [] (y ∷ ys) a = absurd a
zip_length R (x ∷ xs) [] a = absurd a
zip_length R (x ∷ xs) (y ∷ ys) a = ap (λ (n : ℕ). suc n) (zip_length R xs ys a.1)

-- two relations between the items of two lists
pub zip_and : {X : Type 0} (R S : X → X → Type 0) (xs ys : List X) → AllZip R xs ys → AllZip S xs ys → AllZip (λ x y. R x y × S x y) xs ys
zip_and R S [] [] a b = tt
zip_and R S [] (y ∷ ys) a b = absurd a
zip_and R S (x ∷ xs) [] a b = absurd a
zip_and R S (x ∷ xs) (y ∷ ys) a b = ((a.0, b.0), zip_and R S xs ys a.1 b.1)

pub zip_weaker : {X : Type 0} (R S : X → X → Type 0) (xs ys : List X) → ((x y : X) → R x y → S x y) → AllZip R xs ys → AllZip S xs ys
zip_weaker R S [] [] step a = tt
zip_weaker R S [] (y ∷ ys) step a = absurd a
zip_weaker R S (x ∷ xs) [] step a = absurd a
zip_weaker R S (x ∷ xs) (y ∷ ys) step a = (step x y a.0, zip_weaker R S xs ys step a.1)

pub always_err : {T E : Type 0} (r : Result T E) (P : Type 0) → P → OnErr r P
always_err (Ok x) P p = tt
always_err (Err e) P p = p

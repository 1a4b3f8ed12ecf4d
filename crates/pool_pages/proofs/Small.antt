-- Small facts on tests, options and lists.
use Rattle.std.proofs.Common.{◌≡◌, ℕ, zero, suc, ◌+◌, ◌-◌, ◌<◌, ◌≤◌, Bool, true, false, List, [], ◌∷◌, length, get_or, replicate, slice_range, Option, Some, None, refl, sym, ap, ◌∙◌, arith, ◌&&◌, ◌||◌, is_some, option_map, slice_get, IfSome, IsSome, if◌then◌else◌}
use Rattle.pool_pages.proofs.Imports.{AllByRecursion, length-replicate, get_or-replicate, same_lists}
use Rattle.pool_pages.proofs.Puts.{length-range, get_or-range}

pub or_false : (b : Bool) → (b || false) ≡ b
or_false true = refl
or_false false = refl

pub and_false : (b : Bool) → (b && false) ≡ false
and_false true = refl
and_false false = refl

-- both parts of a conjunction hold
pub first_true : (a b : Bool) → (a && b) ≡ true → a ≡ true
first_true true b is = refl
first_true false b is = absurd cc

pub second_true : (a b : Bool) → (a && b) ≡ true → b ≡ true
second_true true b is = is
second_true false b is = absurd cc

-- nothing is true and false
pub not_both : {X : Type 0} (b : Bool) → b ≡ true → b ≡ false → X
not_both true is other = absurd cc
not_both false is other = absurd cc

-- what is there where a test passes
pub told_if : {X : Type 0} (b : Bool) (x : X) → is_some (if b then Some x else None) ≡ b
told_if true x = refl
told_if false x = refl

-- what is there is there in another form
pub mapped_some : {X Y : Type 0} (f : X → Y) (o : Option X) → is_some (option_map f o) ≡ is_some o
mapped_some f None = refl
mapped_some f (Some x) = refl

pub some_mapped : {X Y : Type 0} (f : X → Y) (o : Option X) → is_some o ≡ true → is_some (option_map f o) ≡ true
some_mapped f None some = absurd cc
some_mapped f (Some x) some = refl

pub none_mapped : {X Y : Type 0} (f : X → Y) (o : Option X) → option_map f o ≡ None → o ≡ None
none_mapped f None is = refl
none_mapped f (Some x) is = absurd cc

-- what is told of something holds of what follows of it
pub told_weaker : {X : Type 0} (P Q : X → Type 0) (o : Option X) → ((x : X) → P x → Q x) → IfSome o P → IfSome o Q
told_weaker P Q None step h = h
told_weaker P Q (Some x) step h = step x h

pub told_both : {X : Type 0} (P Q R : X → Type 0) (o : Option X) → ((x : X) → P x → Q x → R x) → IfSome o P → IfSome o Q → IfSome o R
told_both P Q R None step h k = h
told_both P Q R (Some x) step h k = step x h k

-- what is so of each element is so of that at a place
pub each_at : {X : Type 0} (P : X → Type 0) (xs : List X) (i : ℕ) (d : X) → i < length xs → AllByRecursion P xs → P (get_or xs i d)
each_at P [] i d below each = absurd (omega (arith, below))
each_at P (x ∷ xs) zero d below each = each.0
each_at P (x ∷ xs) (suc i) d below each = each_at P xs i d (omega (arith, below)) each.1

-- below the length there is an element
pub is_there : {X : Type 0} (xs : List X) (i : ℕ) → i < length xs → IsSome (slice_get xs i)
is_there [] i below = absurd (omega (arith, below))
is_there (x ∷ xs) zero below = refl
is_there (x ∷ xs) (suc i) below = is_there xs i (omega (arith, below))

-- among zeros, and past them, all is zero
pub replicated : (n k : ℕ) → get_or (replicate {A = ℕ} n 0) k 0 ≡ 0
replicated zero k = refl
replicated (suc n) zero = refl
replicated (suc n) (suc k) = replicated n k

-- within zeros all is zeros
pub zeros_within : (xs : List ℕ) (a b i j : ℕ) → b ≤ length xs → a ≤ i → i ≤ j → j ≤ b → slice_range xs a b ≡ replicate (b - a) 0 → slice_range xs i j ≡ replicate (j - i) 0
zeros_within xs a b i j fits from order to zeros =
    let short : length (slice_range xs i j) ≡ j - i = length-range xs i j (omega arith) in
    same_lists (slice_range xs i j) (replicate (j - i) 0) (short ∙ sym (length-replicate {A = ℕ} (j - i) 0))
    (λ k d below.
    let here : k < j - i = omega (arith, short) in
    let place : a + (i - a + k) ≡ i + k = omega arith in
    get_or-range xs i j k d here
    ∙ ap (λ (m : ℕ). get_or xs m d) (sym place)
    ∙ sym (get_or-range xs a b (i - a + k) d (omega (arith, here)))
    ∙ ap (λ (ys : List ℕ). get_or ys (i - a + k) d) zeros
    ∙ get_or-replicate (b - a) (i - a + k) 0 d (omega (arith, here))
    ∙ sym (get_or-replicate (j - i) k 0 d here))

-- What is told of the thing that is asked for next: one of a list, or the only one that is asked for.
use Rattle.std.proofs.Common.{◌≡◌, ℕ, zero, suc, ◌<◌, List, [], ◌∷◌, length, get_or, slice_get, slice_index_or, refl, sym, subst, arith, Bor, Option, Some, None, IfSome, option_map, option_copied}

-- what holds of the only element of a list, with what stands beside it in another
pub told_one : {X Y : Type 0} (Q : X → Y → Type 0) (x : X) (y d : Y) (k : ℕ) → Q x y → IfSome (slice_get (x ∷ []) k) (λ z. Q z (slice_index_or (y ∷ []) k d))
told_one Q x y d zero q = q
told_one Q x y d (suc k) q = tt

pub there_one : {X Y : Type 0} (Q : X → Y → Type 0) (x : X) (y d : Y) (k : ℕ) → k < length (x ∷ []) → IfSome (slice_get (x ∷ []) k) (λ z. Q z (slice_index_or (y ∷ []) k d)) → Q x y
there_one Q x y d zero below q = q
there_one Q x y d (suc k) below q = absurd (omega arith)

-- what holds of the only element of a list
pub told_alone : {X : Type 0} (Q : X → Type 0) (x : X) (k : ℕ) → Q x → IfSome (slice_get (x ∷ []) k) Q
told_alone Q x zero q = q
told_alone Q x (suc k) q = tt

pub there_alone : {X : Type 0} (Q : X → Type 0) (x : X) (k : ℕ) → k < length (x ∷ []) → IfSome (slice_get (x ∷ []) k) Q → Q x
there_alone Q x zero below q = q
there_alone Q x (suc k) below q = absurd (omega arith)

-- what holds of an element of a list, by its place
pub told_at : {X : Type 0} (Q : X → Type 0) (xs : List X) (k : ℕ) (x : X) → x ≡ get_or xs k x → Q x → IfSome (slice_get xs k) Q
told_at Q [] k x same q = tt
told_at Q (y ∷ ys) zero x same q = subst Q same q
told_at Q (y ∷ ys) (suc k) x same q = told_at Q ys k x same q

pub there_at : {X : Type 0} (Q : X → Type 0) (xs : List X) (k : ℕ) (x : X) → k < length xs → x ≡ get_or xs k x → IfSome (slice_get xs k) Q → Q x
there_at Q [] k x below same q = absurd (omega arith)
there_at Q (y ∷ ys) zero x below same q = subst Q (sym same) q
there_at Q (y ∷ ys) (suc k) x below same q = there_at Q ys k x (omega arith) same q

-- the same of a list that is this one element
pub told_by : {X : Type 0} (Q : X → Type 0) (xs : List X) (x : X) (k : ℕ) → xs ≡ x ∷ [] → Q x → IfSome (slice_get xs k) Q
told_by {X} Q xs x k same q = subst (λ (l : List X). IfSome (slice_get l k) Q) (sym same) (told_alone Q x k q)

pub there_by : {X : Type 0} (Q : X → Type 0) (xs : List X) (x : X) (k : ℕ) → xs ≡ x ∷ [] → k < length xs → IfSome (slice_get xs k) Q → Q x
there_by {X} Q xs x k same below q = there_alone Q x k (subst (λ (l : List X). k < length l) same below) (subst (λ (l : List X). IfSome (slice_get l k) Q) same q)

pub told_beside : {X Y : Type 0} (Q : X → Y → Type 0) (xs : List X) (ys : List Y) (x : X) (y d : Y) (k : ℕ) → xs ≡ x ∷ [] → ys ≡ y ∷ [] → Q x y → IfSome (slice_get xs k) (λ z. Q z (slice_index_or ys k d))
told_beside {X} {Y} Q xs ys x y d k same beside q =
    subst (λ (l : List X). IfSome (slice_get l k) (λ z. Q z (slice_index_or ys k d))) (sym same)
    (subst (λ (m : List Y). IfSome (slice_get (x ∷ []) k) (λ z. Q z (slice_index_or m k d))) (sym beside) (told_one Q x y d k q))

pub there_beside : {X Y : Type 0} (Q : X → Y → Type 0) (xs : List X) (ys : List Y) (x : X) (y d : Y) (k : ℕ) → xs ≡ x ∷ [] → ys ≡ y ∷ [] → k < length xs → IfSome (slice_get xs k) (λ z. Q z (slice_index_or ys k d)) → Q x y
there_beside {X} {Y} Q xs ys x y d k same beside below q =
    there_one Q x y d k (subst (λ (l : List X). k < length l) same below)
    (subst (λ (m : List Y). IfSome (slice_get (x ∷ []) k) (λ z. Q z (slice_index_or m k d))) beside
    (subst (λ (l : List X). IfSome (slice_get l k) (λ z. Q z (slice_index_or ys k d))) same q))

-- a reference to what is there, and that itself
pub map_copied : {X Y : Type 0} (f : X → Y) (o : Option (Bor X)) → option_map (λ i. f i.now) o ≡ option_map f (option_copied o)
map_copied f None = refl
map_copied f (Some i) = refl

pub of_mapped : {X Y : Type 0} (f : X → Y) (P : Y → Type 0) (o : Option X) → IfSome (option_map f o) P → IfSome o (λ x. P (f x))
of_mapped f P None h = h
of_mapped f P (Some x) h = h

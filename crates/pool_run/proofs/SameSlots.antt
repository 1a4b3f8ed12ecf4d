-- What page calls leave of a slot, where its region tells what it holds and which calls on it fail: one outcome.
use Rattle.std.proofs.Common.{◌≡◌, ℕ, Bool, true, false, List, [], ◌∷◌, Option, Some, None, IsSome, ◌⊎◌, inl, inr, refl, sym, ap, ◌∙◌, is_some, IfSome, not}
use Rattle.pool_run.proofs.Imports.{cases_eq, Contents, Count, count, Told, PageCall, Image, outcome, Slot, SlotIdentity, IsLeft, HasImage, name_of, image_bytes, forgotten, ImageName, ByImage}
use Rattle.pool_images.specs.Orders.{Follows}

-- calls under a plan end in one way, and leave one region
followed : (calls : List PageCall) (a b : Bool) (old new other : Told) (o : Option (List ℕ)) → IsSome o → IfSome o (λ plan. ◌≡◌ {A = Bool × Told} (a, new) (outcome plan calls old)) → IfSome o (λ plan. ◌≡◌ {A = Bool × Told} (b, other) (outcome plan calls old)) → (a ≡ b) × (new ≡ other)
followed calls a b old new other None some x y = absurd cc
followed calls a b old new other (Some plan) some x y =
    let both : ◌≡◌ {A = Bool × Told} (a, new) (b, other) = x ∙ sym y in
    (ap (λ (p : Bool × Told). p.0) both, ap (λ (p : Bool × Told). p.1) both)

pub follow_same : (calls : List PageCall) (a b : Bool) (old new other : Told) → IsSome old.plan → Follows calls a old new → Follows calls b old other → (a ≡ b) × (new ≡ other)
follow_same calls a b old new other planned one two = followed calls a b old new other old.plan planned one two

pub not_same : (a b : Bool) → not a ≡ not b → a ≡ b
not_same true true same = refl
not_same true false same = absurd cc
not_same false true same = absurd cc
not_same false false same = refl

-- Of a slot of which nothing is known, what isn't forgotten is its region and what no call changes.
pub forgotten_same : (old new other : Slot) → IsLeft old new → IsLeft old other → new.region ≡ other.region → forgotten new ≡ forgotten other
forgotten_same old new other one two region =
    let F : Told → Count → ℕ → Option ℕ → Slot = λ r b n c. record { region = r; base = b; accessible = count r.page 0; static_size = n; image = None; dirty = false; colour = c } in
    let base : new.base ≡ other.base = ap (λ (z : SlotIdentity). z.base) (one.same ∙ sym two.same) in
    let size : new.static_size ≡ other.static_size = ap (λ (z : SlotIdentity). z.static_size) (one.same ∙ sym two.same) in
    let colour : new.colour ≡ other.colour = ap (λ (z : SlotIdentity). z.colour) (one.same ∙ sym two.same) in
    ap (λ (r : Told). F r new.base new.static_size new.colour) region ∙ ap (λ (b : Count). F other.region b new.static_size new.colour) base
    ∙ ap (λ (n : ℕ). F other.region other.base n new.colour) size ∙ ap (F other.region other.base other.static_size) colour

-- It can be decided whether a slot has an image.
abbrev Decided : Type 0 → Type 0
Decided A = A ⊎ (A → ⊥)

both_decided : {A B C : Type 0} → (A → B → C) → (C → A) → (C → B) → Decided A → Decided B → Decided C
both_decided make first second (inl a) (inl b) = inl (make a b)
both_decided make first second (inl a) (inr isnt) = inr (λ c. isnt (second c))
both_decided make first second (inr isnt) b = inr (λ c. isnt (first c))

number_decided : (m n : ℕ) → Decided (m ≡ n)
number_decided m n = cases_eq m n

list_decided : (xs ys : List ℕ) → Decided (xs ≡ ys)
list_decided [] [] = inl refl
list_decided [] (y ∷ ys) = inr (λ e. absurd cc)
list_decided (x ∷ xs) [] = inr (λ e. absurd cc)
list_decided (x ∷ xs) (y ∷ ys) =
    both_decided (λ (e : x ≡ y) (es : xs ≡ ys). ap (λ (z : ℕ). z ∷ xs) e ∙ ap (λ (zs : List ℕ). y ∷ zs) es) (λ e. cc) (λ e. cc) (number_decided x y) (list_decided xs ys)

name_decided : (m n : ImageName) → Decided (m ≡ n)
name_decided m n =
    both_decided
    (λ (a : (m.id.0 ≡ n.id.0) × (m.memory.0 ≡ n.memory.0)) (b : (m.offset ≡ n.offset) × (m.len ≡ n.len)).
    let N : ℕ → ℕ → ℕ → ℕ → ImageName = λ i k o l. record { id = record { 0 = i }; memory = record { 0 = k }; offset = o; len = l } in
    ap (λ (i : ℕ). N i m.memory.0 m.offset m.len) a.0 ∙ ap (λ (k : ℕ). N n.id.0 k m.offset m.len) a.1 ∙ ap (λ (o : ℕ). N n.id.0 n.memory.0 o m.len) b.0 ∙ ap (N n.id.0 n.memory.0 n.offset) b.1)
    (λ e. (ap (λ (x : ImageName). x.id.0) e, ap (λ (x : ImageName). x.memory.0) e))
    (λ e. (ap (λ (x : ImageName). x.offset) e, ap (λ (x : ImageName). x.len) e))
    (both_decided (λ x y. (x, y)) (λ p. p.0) (λ p. p.1) (number_decided m.id.0 n.id.0) (number_decided m.memory.0 n.memory.0))
    (both_decided (λ x y. (x, y)) (λ p. p.0) (λ p. p.1) (number_decided m.offset n.offset) (number_decided m.len n.len))

mapped_decided : (o : Option ImageName) (n : ImageName) → Decided (o ≡ Some n)
mapped_decided None n = inr (λ e. absurd cc)
mapped_decided (Some m) n =
    elim (name_decided m n) [
      | inl is ↦ inl (ap (λ (x : ImageName). Some x) is)
      | inr isnt ↦ inr (λ e. isnt cc)
    ]

no_image_decided : (o : Option ImageName) → Decided (o ≡ None)
no_image_decided None = inl refl
no_image_decided (Some n) = inr (λ e. absurd cc)

has_decided : (s : Slot) (image : Option Image) (c : Contents) → Decided (HasImage s image c)
has_decided s None c = no_image_decided s.image
has_decided s (Some i) c = both_decided (λ x y. (x, y)) (λ p. p.0) (λ p. p.1) (mapped_decided s.image (name_of i)) (list_decided (image_bytes s.base.bytes (name_of i) c.origin) i.bytes)

-- So what goes by the image goes one way.
by_contents : (image : Option Image) (old : Slot) (A B C D : Type 0) (o : Option Contents) → is_some o ≡ true → IfSome o (λ c. HasImage old image c → A) → IfSome o (λ c. (HasImage old image c → ⊥) → B) → IfSome o (λ c. HasImage old image c → C) → IfSome o (λ c. (HasImage old image c → ⊥) → D) → (A × C) ⊎ (B × D)
by_contents image old A B C D None tells a b c d = absurd cc
by_contents image old A B C D (Some contents) tells a b c d =
    elim (has_decided old image contents) [
      | inl has ↦ inl (a has, c has)
      | inr hasnt ↦ inr (b hasnt, d hasnt)
    ]

pub one_way : (image : Option Image) (old : Slot) (A B C D : Type 0) → is_some old.region.contents ≡ true → ByImage image old A B → ByImage image old C D → (A × C) ⊎ (B × D)
one_way image old A B C D tells one two = by_contents image old A B C D old.region.contents tells one.has one.hasnt two.has two.hasnt

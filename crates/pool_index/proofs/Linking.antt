-- Linked lists: a slot is put behind the last, and a slot is taken out.
use Rattle.std.proofs.Common.{◌≡◌, ◌≢◌, ℕ, Bool, true, false, List, [], ◌∷◌, ◌++◌, refl, ap, sym, ◌∙◌, subst, arith, eq-eqb, Option, None, Some, IfSome, filter, if◌then◌else◌}
use Rattle.std.proofs.lemmas.Bool.Decides.{nat_tests}
use Rattle.pool_index.specs.Links.{Each, Apart, first_of, last_in, last_or, is_at, Linked}

-- Facts of each slot
pub each-append : (P : ℕ → Type 0) (ls bs : List ℕ) → Each P ls → Each P bs → Each P (ls ++ bs)
each-append P [] bs h k = k
each-append P (a ∷ ls) bs h k = (h.0, each-append P ls bs h.1 k)

pub each-left : (P : ℕ → Type 0) (ls bs : List ℕ) → Each P (ls ++ bs) → Each P ls
each-left P [] bs h = tt
each-left P (a ∷ ls) bs h = (h.0, each-left P ls bs h.1)

pub each-right : (P : ℕ → Type 0) (ls bs : List ℕ) → Each P (ls ++ bs) → Each P bs
each-right P [] bs h = h
each-right P (a ∷ ls) bs h = each-right P ls bs h.1

pub each-weaker : (P Q : ℕ → Type 0) → ((k : ℕ) → P k → Q k) → (ks : List ℕ) → Each P ks → Each Q ks
each-weaker P Q f [] h = tt
each-weaker P Q f (k ∷ ks) h = (f k h.0, each-weaker P Q f ks h.1)

pub each-both : (P Q : ℕ → Type 0) (ks : List ℕ) → Each P ks → Each Q ks → Each (λ k. P k × Q k) ks
each-both P Q [] h k = tt
each-both P Q (x ∷ ks) h k = ((h.0, k.0), each-both P Q ks h.1 k.1)

each_if : (P : ℕ → Type 0) (k : ℕ) (ks : List ℕ) (b : Bool) → (b ≡ true → P k) → Each P ks → Each P (if b then k ∷ ks else ks)
each_if P k ks true h r = (h refl, r)
each_if P k ks false h r = r

pub each-filter : (P : ℕ → Type 0) (q : ℕ → Bool) (ks : List ℕ) → Each P ks → Each P (filter q ks)
each-filter P q [] h = tt
each-filter P q (k ∷ ks) h = each_if P k (filter q ks) (q k) (λ e. h.0) (each-filter P q ks h.1)

pub each-passes : (q : ℕ → Bool) (ks : List ℕ) → Each (λ k. q k ≡ true) (filter q ks)
each-passes q [] = tt
each-passes q (k ∷ ks) = each_if (λ k. q k ≡ true) k (filter q ks) (q k) (λ e. e) (each-passes q ks)

-- Slots that are apart
pub apart-rest : (ls bs : List ℕ) (x : ℕ) → Apart (ls ++ x ∷ bs) → Apart (ls ++ bs)
apart-rest [] bs x h = h.1
apart-rest (a ∷ ls) bs x h = (each-append (λ j. j ≢ a) ls bs (each-left (λ j. j ≢ a) ls (x ∷ bs) h.0) (each-right (λ j. j ≢ a) ls (x ∷ bs) h.0).1, apart-rest ls bs x h.1)

pub apart-other : (ls bs : List ℕ) (x : ℕ) → Apart (ls ++ x ∷ bs) → Each (λ j. j ≢ x) (ls ++ bs)
apart-other [] bs x h = h.0
apart-other (a ∷ ls) bs x h = (λ same. (each-right (λ j. j ≢ a) ls (x ∷ bs) h.0).0 (sym same), apart-other ls bs x h.1)

apart_if : (k : ℕ) (ks : List ℕ) (b : Bool) → Each (λ j. j ≢ k) ks → Apart ks → Apart (if b then k ∷ ks else ks)
apart_if k ks true h r = (h, r)
apart_if k ks false h r = r

pub apart-filter : (q : ℕ → Bool) (ks : List ℕ) → Apart ks → Apart (filter q ks)
apart-filter q [] h = tt
apart-filter q (k ∷ ks) h = apart_if k (filter q ks) (q k) (each-filter (λ j. j ≢ k) q ks h.0) (apart-filter q ks h.1)

pub apart-push : (ks : List ℕ) (y : ℕ) → Apart ks → Each (λ j. j ≢ y) ks → Apart (ks ++ y ∷ [])
apart-push [] y h k = (tt, tt)
apart-push (x ∷ ks) y h k = (each-append (λ j. j ≢ x) ks (y ∷ []) h.0 ((λ same. k.0 (sym same)), tt), apart-push ks y h.1 k.1)

-- Filters
filter_if : (k : ℕ) (ks ls : List ℕ) (b c : Bool) → b ≡ c → ks ≡ ls → (if b then k ∷ ks else ks) ≡ (if c then k ∷ ls else ls)
filter_if k ks ls b c e f = (λ i. if e i then k ∷ f i else f i)

pub filter-agree : (p q : ℕ → Bool) (ks : List ℕ) → Each (λ k. p k ≡ q k) ks → filter p ks ≡ filter q ks
filter-agree p q [] h = refl
filter-agree p q (k ∷ ks) h = filter_if k (filter p ks) (filter q ks) (p k) (q k) h.0 (filter-agree p q ks h.1)

pub is_at_self : (k : ℕ) (o : Option ℕ) → o ≡ Some k → is_at k o ≡ true
is_at_self k o e = ap (is_at k) e ∙ eq-eqb k k refl

pub is_at_other : (k : ℕ) (o : Option ℕ) → IfSome o (λ j. j ≢ k) → is_at k o ≡ false
is_at_other k None h = refl
is_at_other k (Some j) h = grind (arith, nat_tests)

pub last_or_is : (k : ℕ) (ks : List ℕ) → last_or (Some k) ks ≡ Some (last_in k ks)
last_or_is k [] = refl
last_or_is k (j ∷ ks) = last_or_is j ks

-- the last slot isn't one that is apart from all
pub last_apart : (x : ℕ) (p : Option ℕ) (ks : List ℕ) → IfSome p (λ j. j ≢ x) → Each (λ j. j ≢ x) ks → IfSome (last_or p ks) (λ j. j ≢ x)
last_apart x p [] h r = h
last_apart x p (k ∷ ks) h r = last_apart x (Some k) ks r.0 r.1

first_apart : (x : ℕ) (ks : List ℕ) → Each (λ j. j ≢ x) ks → IfSome (first_of ks) (λ j. j ≢ x)
first_apart x [] h = tt
first_apart x (k ∷ ks) h = h.0

-- no slot of a list is this one
abbrev pub Beside : Option ℕ → List ℕ → Type 0
Beside p ks = Each (λ k. is_at k p ≡ false) ks

beside_each : (k : ℕ) (ks : List ℕ) → Each (λ j. j ≢ k) ks → Beside (Some k) ks
beside_each k ks h = each-weaker (λ j. j ≢ k) (λ j. is_at j (Some k) ≡ false) (λ j other. is_at_other j (Some k) (λ same. other (sym same))) ks h

pub beside_none : (ks : List ℕ) → Beside None ks
beside_none [] = tt
beside_none (k ∷ ks) = (refl, beside_none ks)

module _ (after before : ℕ → Option ℕ) where
  -- what stands around a slot of a list
  pub around : (p : Option ℕ) (ls : List ℕ) (x : ℕ) (bs : List ℕ) → Linked after before p (ls ++ x ∷ bs) → (before x ≡ last_or p ls) × (after x ≡ first_of bs)
  around p [] x bs h = (h.0, h.1)
  around p (a ∷ ls) x bs h = around (Some a) ls x bs h.2

  module _ (after' before' : ℕ → Option ℕ) where
    -- the links of no slot of a list changed
    pub same_links : (p : Option ℕ) (ks : List ℕ) → Each (λ k. (after' k ≡ after k) × (before' k ≡ before k)) ks → Linked after before p ks → Linked after' before' p ks
    same_links p [] s h = tt
    same_links p (k ∷ ks) s h = (s.0.1 ∙ h.0, s.0.0 ∙ h.1, same_links (Some k) ks s.1 h.2)

    -- the neighbours of a slot are linked with each other
    abbrev pub Unlinks : ℕ → ℕ → Type 0
    Unlinks x k = (after' k ≡ (if is_at k (before x) then after x else after k)) × (before' k ≡ (if is_at k (after x) then before x else before k))

    apart_from : (x k : ℕ) → is_at k (before x) ≡ false → is_at k (after x) ≡ false → Unlinks x k → (after' k ≡ after k) × (before' k ≡ before k)
    apart_from x k b a u = (u.0 ∙ ap (λ c. if c then after x else after k) b, u.1 ∙ ap (λ c. if c then before x else before k) a)

    pub apart_from_all : (x : ℕ) (ks : List ℕ) → Beside (before x) ks → Beside (after x) ks → Each (Unlinks x) ks → Each (λ k. (after' k ≡ after k) × (before' k ≡ before k)) ks
    apart_from_all x [] b a u = tt
    apart_from_all x (k ∷ ks) b a u = (apart_from x k b.0 a.0 u.0, apart_from_all x ks b.1 a.1 u.1)

    unlink_first : (p : Option ℕ) (x : ℕ) (bs : List ℕ) → Linked after before p (x ∷ bs) → Apart bs → Beside p bs → Each (Unlinks x) bs → Linked after' before' p bs
    unlink_first p x [] h d b u = tt
    unlink_first p x (c ∷ bs) h d b u =
        let first : after x ≡ Some c = h.1 in
        let was : before x ≡ p = h.0 in (
          u.0.1 ∙ ap (λ t. if t then before x else before c) (is_at_self c (after x) first) ∙ was,
          u.0.0 ∙ ap (λ t. if t then after x else after c) (ap (is_at c) was ∙ b.0) ∙ h.2.1,
          same_links (Some c) bs (apart_from_all x bs (subst (λ o. Beside o bs) (sym was) b.1) (subst (λ o. Beside o bs) (sym first) (beside_each c bs d.0)) u.1) h.2.2,
        )

    -- after the slot before x comes what came after x
    past : (a : ℕ) (ls : List ℕ) (x : ℕ) (bs : List ℕ) → after a ≡ first_of (ls ++ x ∷ bs) → before x ≡ last_or (Some a) ls → after x ≡ first_of bs → Each (λ j. j ≢ a) ls → Unlinks x a → after' a ≡ first_of (ls ++ bs)
    past a [] x bs next b f d u = u.0 ∙ ap (λ t. if t then after x else after a) (is_at_self a (before x) b) ∙ f
    past a (c ∷ ls) x bs next b f d u = u.0 ∙ ap (λ t. if t then after x else after a) (is_at_other a (before x) (subst (λ o. IfSome o (λ j. j ≢ a)) (sym b) (last_apart a (Some c) ls d.0 d.1))) ∙ next

    -- a slot that is taken out leaves a linked list
    pub unlink : (p : Option ℕ) (ls : List ℕ) (x : ℕ) (bs : List ℕ) → Linked after before p (ls ++ x ∷ bs) → Apart (ls ++ x ∷ bs) → Beside p (ls ++ bs) → Each (Unlinks x) (ls ++ bs) → Linked after' before' p (ls ++ bs)
    unlink p [] x bs h d b u = unlink_first p x bs h d.1 b u
    unlink p (a ∷ ls) x bs h d b u =
        let r = around (Some a) ls x bs h.2 in (
          u.0.1 ∙ ap (λ t. if t then before x else before a) (is_at_other a (after x) (subst (λ o. IfSome o (λ j. j ≢ a)) (sym r.1) (first_apart a bs (each-right (λ j. j ≢ a) ls (x ∷ bs) d.0).1))) ∙ h.0,
          past a ls x bs h.1 r.0 r.1 (each-left (λ j. j ≢ a) ls (x ∷ bs) d.0) u.0,
          unlink (Some a) ls x bs h.2 d.1 (beside_each a (ls ++ bs) (each-append (λ j. j ≢ a) ls bs (each-left (λ j. j ≢ a) ls (x ∷ bs) d.0) (each-right (λ j. j ≢ a) ls (x ∷ bs) d.0).1)) u.1,
        )

    -- the last slot is linked with one behind it
    abbrev pub Appends : Option ℕ → ℕ → ℕ → Type 0
    Appends last y k = (after' k ≡ (if is_at k last then Some y else after k)) × (before' k ≡ before k)

    next_of : (k : ℕ) (ks : List ℕ) (y : ℕ) → after k ≡ first_of ks → Each (λ j. j ≢ k) ks → Appends (last_or (Some k) ks) y k → after' k ≡ first_of (ks ++ y ∷ [])
    next_of k [] y f d u = u.0 ∙ ap (λ t. if t then Some y else after k) (is_at_self k (Some k) refl)
    next_of k (c ∷ ks) y f d u = u.0 ∙ ap (λ t. if t then Some y else after k) (is_at_other k (last_or (Some c) ks) (last_apart k (Some c) ks d.0 d.1)) ∙ f

    pub append : (p : Option ℕ) (ks : List ℕ) (y : ℕ) → Linked after before p ks → Apart ks → before' y ≡ last_or p ks → after' y ≡ None → Each (Appends (last_or p ks) y) ks → Linked after' before' p (ks ++ y ∷ [])
    append p [] y h d b a u = (b, a, tt)
    append p (k ∷ ks) y h d b a u = (u.0.1 ∙ h.0, next_of k ks y h.1 d.0 u.0, append (Some k) ks y h.2 d.1 b a u.1)

-- What a maker's plan pays for. What is paid for one after the other is paid for together; a region on demand that was asked
-- for is one whose entries no later region has.
use Rattle.std.proofs.Common.{◌≡◌, ℕ, ◌+◌, ◌-◌, ◌^◌, ◌<◌, ◌≤◌, Bool, true, false, List, [], ◌∷◌, length, min, Option, Some, None, inl, inr, refl, sym, ap, ◌∙◌, subst, arith, nat_lt, nat_le, is_some, if◌then◌else◌, ◌==◌, ◌&&◌, ◌||◌, not, IfSome, count_by}
use Rattle.pool_run_on_demand.proofs.Imports.{list_all, list_any, cons_option, and_parts, and_from, nat_tests, sum_by-cons, count_by-le-length, MakerTold, Planned, on_region, on_images, same_name, call_of, calls_of, part_of, Memory, Table, OnDemand, one_if, IsBetween, IsSameMaker}
use Rattle.pool_pages.specs.declared.pages.RegionName.TheVariants.{Stack}
use Rattle.pool_run_on_demand.specs.Faults.{same_entry, once, is_from, listed_from, is_before_last, ends_before_last}
use Rattle.pool_run_on_demand.specs.Left.{calls_left, EndBeforeLast, Spends}

-- What follows for each plan follows for one that is told.
pub each_told : {X : Type 0} (o : Option X) (P : X → Type 0) → ((x : X) → P x) → IfSome o P
each_told None P all = tt
each_told (Some x) P all = all x

pub told_from : {X : Type 0} (o : Option X) (P Q : X → Type 0) → ((x : X) → P x → Q x) → IfSome o P → IfSome o Q
told_from None P Q all is = tt
told_from (Some x) P Q all is = all x is

pub told_from_both : {X : Type 0} (o : Option X) (P Q R : X → Type 0) → ((x : X) → P x → Q x → R x) → IfSome o P → IfSome o Q → IfSome o R
told_from_both None P Q R all is also = tt
told_from_both (Some x) P Q R all is also = all x is also

-- so many were met, so many are left and so many listed
abbrev Pays : ℕ → ℕ → ℕ → MakerTold → MakerTold → List Planned → Type 0
Pays met old new before after plan = ends_before_last plan ≡ true → met + (new + listed_from after.next plan) ≤ old + listed_from before.next plan

pub spends_none : (m : MakerTold) (n : ℕ) → Spends m m 0 n n
spends_none m n = each_told m.plan (Pays 0 n n m m) (λ plan ends. omega arith)

pub spends_then : (a b c : MakerTold) (j k x y z : ℕ) → b.plan ≡ a.plan → Spends a b j x y → Spends b c k y z → Spends a c (j + k) x z
spends_then a b c j k x y z same first second =
    let After : Option (List Planned) → Type 0 = λ o. IfSome o (Pays k y z b c) in
    told_from_both a.plan (Pays j x y a b) (Pays k y z b c) (Pays (j + k) x z a c) (λ plan one two ends. let p = one ends in let q = two ends in omega (arith, p, q)) first (subst After same second)

pub spends_beside : (a b : MakerTold) (met x y n : ℕ) → Spends a b met x y → Spends a b met (n + x) (n + y)
spends_beside a b met x y n is = told_from a.plan (Pays met x y a b) (Pays met (n + x) (n + y) a b) (λ plan one ends. let p = one ends in omega (arith, p)) is

pub spends_less : (a b : MakerTold) (met x y z : ℕ) → z ≤ y → Spends a b met x y → Spends a b met x z
spends_less a b met x y z less is = told_from a.plan (Pays met x y a b) (Pays met x z a b) (λ plan one ends. let p = one ends in omega (arith, p, less)) is

pub fewer_spends : (a b : MakerTold) (met few x y : ℕ) → few ≤ met → Spends a b met x y → Spends a b few x y
fewer_spends a b met few x y less is = told_from a.plan (Pays met x y a b) (Pays few x y a b) (λ plan one ends. let p = one ends in omega (arith, p, less)) is

-- how many entries are listed with one more at the front
pub counted_first : {X : Type 0} (p : X → Bool) (x : X) (xs : List X) → count_by p (x ∷ xs) ≡ one_if (p x) + count_by p xs
counted_first p x xs = sum_by-cons (λ y. one_if (p y)) x xs

-- Of different elements: how many pass with one more at the front, which isn't counted where it comes again.
abbrev pub comes_again : {X : Type 0} → (X → X → Bool) → X → List X → Bool
comes_again same x xs = list_any (λ y. same y x) xs

pub once_first : {X : Type 0} (same : X → X → Bool) (p : X → Bool) (x : X) (xs : List X) → count_by p (once same (x ∷ xs)) ≡ one_if (not (comes_again same x xs) && p x) + count_by p (once same xs)
once_first same p x xs = by (comes_again same x xs)
  where
    by : (b : Bool) → count_by p (if b then once same xs else x ∷ once same xs) ≡ one_if (not b && p x) + count_by p (once same xs)
    by true = omega arith
    by false = counted_first p x (once same xs)

abbrev same_number : ℕ → ℕ → Bool
same_number m n = m == n

abbrev pub numbers_once : List ℕ → List ℕ
numbers_once calls = once same_number calls

length_first : (x : ℕ) (xs : List ℕ) → length (numbers_once (x ∷ xs)) ≡ one_if (not (comes_again same_number x xs)) + length (numbers_once xs)
length_first x xs = by (comes_again same_number x xs)
  where
    by : (b : Bool) → length (if b then numbers_once xs else x ∷ numbers_once xs) ≡ one_if (not b) + length (numbers_once xs)
    by true = omega arith
    by false = omega arith

-- some are some different ones
pub once_some : (xs : List ℕ) → 0 < length xs → 0 < length (numbers_once xs)
once_some [] some = absurd (omega (arith, some))
once_some (x ∷ []) some = omega arith
once_some (x ∷ y ∷ ys) some = by (comes_again same_number x (y ∷ ys)) (once_some (y ∷ ys) (omega arith))
  where
    by : (b : Bool) → 0 < length (numbers_once (y ∷ ys)) → 0 < length (if b then numbers_once (y ∷ ys) else x ∷ numbers_once (y ∷ ys))
    by true rest = rest
    by false rest = omega arith

-- a number is among them where it is in the list
pub once_any : (k : ℕ) (xs : List ℕ) → list_any (λ n. n == k) (numbers_once xs) ≡ list_any (λ n. n == k) xs
once_any k [] = refl
once_any k (x ∷ xs) = by (comes_again same_number x xs) refl (once_any k xs)
  where
    here : (b : Bool) → (x == k) ≡ b → comes_again same_number x xs ≡ true → list_any (λ n. n == k) xs ≡ (b || list_any (λ n. n == k) xs)
    here true is again =
        let same : x ≡ k = grind (arith, nat_tests, is) in
        subst (λ (z : ℕ). list_any (λ n. n == z) xs ≡ true) same again
    here false is again = refl

    by : (b : Bool) → comes_again same_number x xs ≡ b → list_any (λ n. n == k) (numbers_once xs) ≡ list_any (λ n. n == k) xs → list_any (λ n. n == k) (if b then numbers_once xs else x ∷ numbers_once xs) ≡ ((x == k) || list_any (λ n. n == k) xs)
    by true again rest = rest ∙ here (x == k) refl again
    by false new rest = ap (λ (b : Bool). (x == k) || b) rest

-- and what holds of all holds of them
pub once_all : (p : ℕ → Bool) (xs : List ℕ) → list_all p xs ≡ true → list_all p (numbers_once xs) ≡ true
once_all p [] all = refl
once_all p (x ∷ xs) all = let parts = and_parts (p x) (list_all p xs) all in by (comes_again same_number x xs) parts.0 (once_all p xs parts.1)
  where
    by : (b : Bool) → p x ≡ true → list_all p (numbers_once xs) ≡ true → list_all p (if b then numbers_once xs else x ∷ numbers_once xs) ≡ true
    by true first rest = rest
    by false first rest = and_from (p x) (list_all p (numbers_once xs)) first rest

-- A call on a region comes again where the entry does that lists it.
same_calls : (n call : ℕ) (plan : List Planned) → comes_again same_number call (calls_of (OnDemand n) plan) ≡ comes_again same_entry (on_region (OnDemand n) call) plan
same_calls n call [] = refl
same_calls n call (on_images m ∷ plan) = same_calls n call plan
same_calls n call (on_region name other ∷ plan) = by (same_name (OnDemand n) name) (same_calls n call plan)
  where
    by : (b : Bool) → comes_again same_number call (calls_of (OnDemand n) plan) ≡ comes_again same_entry (on_region (OnDemand n) call) plan → comes_again same_number call (cons_option (if b then Some other else None) (calls_of (OnDemand n) plan)) ≡ ((b && (other == call)) || comes_again same_entry (on_region (OnDemand n) call) plan)
    by true rest = ap (λ (b : Bool). (other == call) || b) rest
    by false rest = rest

pub none_more : (b : Bool) → one_if (not b && false) ≡ 0
none_more true = refl
none_more false = refl

one_more_if : (b : Bool) → one_if (not b) ≡ one_if (not b && true)
one_more_if true = refl
one_more_if false = refl

-- how many different calls on a region are listed with one more entry at the front
picked_first : (n : ℕ) (e : Planned) (plan : List Planned) → length (numbers_once (calls_of (OnDemand n) (e ∷ plan))) ≡ one_if (not (comes_again same_entry e plan) && is_some (call_of (OnDemand n) e)) + length (numbers_once (calls_of (OnDemand n) plan))
picked_first n (on_region (OnDemand m) call) plan = by (n == m) refl
  where
    calls : List ℕ
    calls = calls_of (OnDemand n) plan

    again : Bool
    again = comes_again same_entry (on_region (OnDemand m) call) plan

    by : (b : Bool) → (n == m) ≡ b → length (numbers_once (cons_option (if b then Some call else None) calls)) ≡ one_if (not again && is_some (if b then Some call else None)) + length (numbers_once calls)
    by false other = omega (arith, none_more again)
    by true is =
        let same : n ≡ m = grind (arith, nat_tests, is) in
        let both : comes_again same_number call calls ≡ again = subst (λ (k : ℕ). comes_again same_number call calls ≡ comes_again same_entry (on_region (OnDemand k) call) plan) same (same_calls n call plan) in
        let one : one_if (not (comes_again same_number call calls)) ≡ one_if (not again && true) = ap (λ (b : Bool). one_if (not b)) both ∙ one_more_if again in
        omega (arith, length_first call calls, one)
picked_first n (on_region (Memory m) call) plan = omega (arith, none_more (comes_again same_entry (on_region (Memory m) call) plan))
picked_first n (on_region (Table m) call) plan = omega (arith, none_more (comes_again same_entry (on_region (Table m) call) plan))
picked_first n (on_region (Stack m) call) plan = omega (arith, none_more (comes_again same_entry (on_region (Stack m) call) plan))
picked_first n (on_images m) plan = omega (arith, none_more (comes_again same_entry (on_images m) plan))

-- what counts no more than another counts no more than it where neither counts if it comes again
counts_less : (again p q : Bool) → one_if p ≤ one_if q → one_if (not again && p) ≤ one_if (not again && q)
counts_less true p q is = omega arith
counts_less false p q is = is

both_count_less : (again p q r : Bool) → one_if p + one_if q ≤ one_if r → one_if (not again && p) + one_if (not again && q) ≤ one_if (not again && r)
both_count_less true p q r is = omega arith
both_count_less false p q r is = is

-- An entry of a later region is one of an earlier region or a later one.
region_falls : (from to m : ℕ) → nat_lt m (2 ^ 32 - 1) ≡ true → min from (2 ^ 32 - 1) ≤ to → one_if (nat_le to m) ≤ one_if (nat_le from m)
region_falls from to m small rises = by (nat_le to m) refl
  where
    by : (b : Bool) → nat_le to m ≡ b → one_if b ≤ one_if (nat_le from m)
    by false is = omega arith
    by true is =
        let less : nat_le from m ≡ true = grind (arith, nat_tests, is, small, rises) in
        subst (λ (b : Bool). 1 ≤ one_if b) (sym less) (omega arith)

entry_falls : (from to : ℕ) (e : Planned) → is_before_last e ≡ true → min from (2 ^ 32 - 1) ≤ to → one_if (is_from to e) ≤ one_if (is_from from e)
entry_falls from to (on_region (OnDemand m) call) before rises = region_falls from to m (and_parts _ _ before).0 rises
entry_falls from to (on_region (Memory m) call) before rises = omega arith
entry_falls from to (on_region (Table m) call) before rises = omega arith
entry_falls from to (on_region (Stack m) call) before rises = omega arith
entry_falls from to (on_images m) before rises = omega arith

-- As the next number rises, no more is listed.
pub listed_falls : (plan : List Planned) (from to : ℕ) → ends_before_last plan ≡ true → min from (2 ^ 32 - 1) ≤ to → listed_from to plan ≤ listed_from from plan
listed_falls [] from to ends rises = omega arith
listed_falls (e ∷ plan) from to ends rises =
    let parts = and_parts (is_before_last e) (ends_before_last plan) ends in
    let less = counts_less (comes_again same_entry e plan) (is_from to e) (is_from from e) (entry_falls from to e parts.0 rises) in
    omega (arith, once_first same_entry (is_from to) e plan, once_first same_entry (is_from from) e plan, less, listed_falls plan from to parts.1 rises)

-- An entry on this region isn't one of a later region.
region_on : (from to n m call : ℕ) → nat_lt m (2 ^ 32 - 1) ≡ true → min from (2 ^ 32 - 1) ≤ to → IsBetween from to n → one_if (is_some (if n == m then Some call else None)) + one_if (nat_le to m) ≤ one_if (nat_le from m)
region_on from to n m call small rises between = by (n == m) refl
  where
    past : n ≡ m → nat_le to m ≡ false
    past is = elim between.1 [
      | inl below ↦ grind (arith, nat_tests, below, is)
      | inr last ↦ absurd (grind (arith, nat_tests, small, last, is))
    ]

    by : (b : Bool) → (n == m) ≡ b → one_if (is_some (if b then Some call else None)) + one_if (nat_le to m) ≤ one_if (nat_le from m)
    by false is = let less = region_falls from to m small rises in omega (arith, less)
    by true is =
        let same : n ≡ m = grind (arith, nat_tests, is) in
        let from_first : nat_le from m ≡ true = grind (arith, nat_tests, between.0, same) in
        let later : one_if (nat_le to m) ≡ 0 = ap one_if (past same) in
        let earlier : one_if (nat_le from m) ≡ 1 = ap one_if from_first in
        omega (arith, later, earlier)

entry_on : (from to n : ℕ) (e : Planned) → is_before_last e ≡ true → min from (2 ^ 32 - 1) ≤ to → IsBetween from to n → one_if (is_some (call_of (OnDemand n) e)) + one_if (is_from to e) ≤ one_if (is_from from e)
entry_on from to n (on_region (OnDemand m) call) before rises between = region_on from to n m call (and_parts _ _ before).0 rises between
entry_on from to n (on_region (Memory m) call) before rises between = omega arith
entry_on from to n (on_region (Table m) call) before rises between = omega arith
entry_on from to n (on_region (Stack m) call) before rises between = omega arith
entry_on from to n (on_images m) before rises between = omega arith

-- What is listed of one region that was asked for, and of those that are later ones then, was listed before of later regions.
pub listed_on : (plan : List Planned) (from to n : ℕ) → ends_before_last plan ≡ true → min from (2 ^ 32 - 1) ≤ to → IsBetween from to n → length (numbers_once (calls_of (OnDemand n) plan)) + listed_from to plan ≤ listed_from from plan
listed_on [] from to n ends rises between = omega arith
listed_on (e ∷ plan) from to n ends rises between =
    let parts = and_parts (is_before_last e) (ends_before_last plan) ends in
    let less = both_count_less (comes_again same_entry e plan) (is_some (call_of (OnDemand n) e)) (is_from to e) (is_from from e) (entry_on from to n e parts.0 rises between) in
    omega (arith, picked_first n e plan, once_first same_entry (is_from to) e plan, once_first same_entry (is_from from) e plan, less, listed_on plan from to n parts.1 rises between)

-- No call that a plan lists on a region is the last that is numbered, if the plan has none such.
abbrev pub numbered : ℕ → Bool
numbered call = nat_lt call (2 ^ 64 - 1)

one_numbered : (name : ℕ) (e : Planned) (calls : List ℕ) → is_before_last e ≡ true → list_all numbered calls ≡ true → list_all numbered (cons_option (call_of (OnDemand name) e) calls) ≡ true
one_numbered name (on_region (OnDemand m) call) calls before all = by (name == m)
  where
    by : (b : Bool) → list_all numbered (cons_option (if b then Some call else None) calls) ≡ true
    by true = and_from (numbered call) (list_all numbered calls) (and_parts (nat_lt m (2 ^ 32 - 1)) (numbered call) before).1 all
    by false = all
one_numbered name (on_region (Memory m) call) calls before all = all
one_numbered name (on_region (Table m) call) calls before all = all
one_numbered name (on_region (Stack m) call) calls before all = all
one_numbered name (on_images m) calls before all = all

all_numbered : (name : ℕ) (plan : List Planned) → ends_before_last plan ≡ true → list_all numbered (calls_of (OnDemand name) plan) ≡ true
all_numbered name [] ends = refl
all_numbered name (e ∷ plan) ends =
    let parts = and_parts (is_before_last e) (ends_before_last plan) ends in
    one_numbered name e (calls_of (OnDemand name) plan) parts.0 (all_numbered name plan parts.1)

pub part_ends : (o : Option (List Planned)) (layers : List (List Planned)) (name : ℕ) → EndBeforeLast o (part_of (OnDemand name) o layers)
part_ends (Some plan) layers name = all_numbered name plan
part_ends None layers name = tt

pub left_at_most : (calls : List ℕ) (made : ℕ) → calls_left (Some calls) made ≤ length (numbers_once calls)
left_at_most calls made = count_by-le-length (λ call. nat_lt made call) (numbers_once calls)

-- What is left on a region that was asked for was listed before of later regions.
pub part_left : (o : Option (List Planned)) (layers : List (List Planned)) (from to n made : ℕ) (calls : Option (List ℕ)) → min from (2 ^ 32 - 1) ≤ to → IsBetween from to n → calls ≡ part_of (OnDemand n) o layers → IfSome o (λ plan. ends_before_last plan ≡ true → calls_left calls made + listed_from to plan ≤ listed_from from plan)
part_left None layers from to n made calls rises between is = tt
part_left (Some plan) layers from to n made calls rises between is = λ ends.
    let most : calls_left calls made ≤ length (numbers_once (calls_of (OnDemand n) plan)) = subst (λ (o : Option (List ℕ)). calls_left o made ≤ length (numbers_once (calls_of (OnDemand n) plan))) (sym is) (left_at_most (calls_of (OnDemand n) plan) made) in
    omega (arith, most, listed_on plan from to n ends rises between)

-- A maker that is asked for regions, none of which fails, pays for nothing.
pub same_spends : (a b : MakerTold) (n : ℕ) → IsSameMaker a b → Spends a b 0 n n
same_spends a b n is = each_told a.plan (Pays 0 n n a b) (λ plan ends. omega (arith, listed_falls plan a.next b.next ends is.rises))

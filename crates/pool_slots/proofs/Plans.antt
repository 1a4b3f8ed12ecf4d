-- Makings that a plan lists, one slot after the other.
use Rattle.std.proofs.Common.{◌≡◌, ℕ, ◌+◌, ◌<◌, true, false, List, get_or, ap, ◌∙◌, inl, inr, arith, Bool, Option, Some, None, IfSome, ◌++◌, ◌∷◌, []}
use Rattle.pool_slots.proofs.Imports.{list_any, range_with_len, cases_lt, false≢true, list_any_none, list_any_at, length-range_with_len, get_or-range_with_len, told_weaker, MakerTold, Planned}
use Rattle.pool_slots.specs.Makings.{IsListedPoolFault}
use Rattle.pool_slots.specs.Colourings.{RaisesUnlessGivenUp, RaisesBehindUnlessGivenUp}
use Rattle.pool_slots.specs.declared.errors.PoolNewError.{PoolNewError}
use Rattle.pool_slots.specs.declared.errors.PoolNewError.TheVariants as refused

-- so it is for none of the first n slots
abbrev pub NoneOf : (ℕ → Bool) → ℕ → Type 0
NoneOf f n = (i : ℕ) → i < n → f i ≡ false

pub none_of : (f : ℕ → Bool) (total : ℕ) → NoneOf f total → list_any f (range_with_len 0 total) ≡ false
none_of f total none =
    list_any_none f (range_with_len 0 total)
    (λ k d below.
    let under : k < total = rw length-range_with_len at below in
    let here : get_or (range_with_len 0 total) k d ≡ k = get_or-range_with_len 0 total k d under ∙ omega arith in
    rw here (none k under))

pub some_of : (f : ℕ → Bool) (total i : ℕ) → i < total → f i ≡ true → list_any f (range_with_len 0 total) ≡ true
some_of f total i under listed =
    let here : get_or (range_with_len 0 total) i 0 ≡ i = get_or-range_with_len 0 total i 0 under ∙ omega arith in
    list_any_at f (range_with_len 0 total) i 0 (rw length-range_with_len under) (rw here listed)

pub none_more : (f : ℕ → Bool) (n : ℕ) → NoneOf f n → f n ≡ false → NoneOf f (n + 1)
none_more f n none now k below =
    elim (cases_lt k n) [
      | inl under ↦ none k under
      | inr from ↦ let e : k ≡ n = omega arith in rw e now
    ]

pub any_told : {X : Type 0} (P : X → Type 0) (o : Option X) → ((x : X) → P x) → IfSome o P
any_told P None step = tt
any_told P (Some x) step = step x

listed_by : (f : ℕ → Bool) (total i : ℕ) (e : PoolNewError) → i < total → IsListedPoolFault (f i) e → IsListedPoolFault (list_any f (range_with_len 0 total)) e
listed_by f total i (refused.BadConfig b) under h = h
listed_by f total i refused.PageFault under h = some_of f total i under h
listed_by f total i refused.Memory under h = h

-- the making of a region that is refused is one of all
pub listed_of : (f : List Planned → ℕ → Bool) (o : Option (List Planned)) (total i : ℕ) (e : PoolNewError) → i < total → IfSome o (λ plan. IsListedPoolFault (f plan i) e) → IfSome o (λ plan. IsListedPoolFault (list_any (f plan) (range_with_len 0 total)) e)
listed_of f o total i e under h =
    told_weaker (λ plan. IsListedPoolFault (f plan i) e) (λ plan. IsListedPoolFault (list_any (f plan) (range_with_len 0 total)) e) o (λ plan k. listed_by (f plan) total i e under k) h

-- so it is with what it does to the maker's count of faults
pub faults_of : (A B : Type 0) (old new : ℕ) (e : PoolNewError) → (A → B) → RaisesUnlessGivenUp A old new e → RaisesUnlessGivenUp B old new e
faults_of A B old new (refused.BadConfig b) all h = h
faults_of A B old new refused.PageFault all h =
    elim h [
      | inl rose ↦ inl rose
      | inr one ↦ inr (all one.0, one.1)
    ]
faults_of A B old new refused.Memory all h = h

-- and to that of the maker behind
pub behind_of : (A B : Type 0) (f : ℕ → Bool) (total i old new : ℕ) (e : PoolNewError) → i < total → (A → B) → RaisesBehindUnlessGivenUp A (f i) old new e → RaisesBehindUnlessGivenUp B (list_any f (range_with_len 0 total)) old new e
behind_of A B f total i old new (refused.BadConfig b) under all h = h
behind_of A B f total i old new refused.PageFault under all h =
    elim h [
      | inl made ↦ elim made [
        | inl listed ↦ inl (inl (some_of f total i under listed))
        | inr rose ↦ inl (inr rose)
      ]
      | inr one ↦ inr (all one.0, one.1)
    ]
behind_of A B f total i old new refused.Memory under all h = h

-- a maker whose counts of faults stay tells what it told
pub same_maker : (old new : MakerTold) → new ≡ record old { behind = new.behind; faults = new.faults } → new.behind ≡ old.behind → new.faults ≡ old.faults → new ≡ old
same_maker old new same behind faults =
    same ∙ ap (λ (n : ℕ). record old { behind = n; faults = new.faults }) behind ∙ ap (λ (n : ℕ). record old { faults = n }) faults

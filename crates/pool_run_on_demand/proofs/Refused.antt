-- Why a request on demand is refused: as one of its memories or tables has a refusal of its own, or as memory was wanting, or
-- a call on pages failed.
use Rattle.std.proofs.Common.{◌≡◌, ◌^◌, ◌<◌, Bool, true, false, List, [], ◌∷◌, ◌++◌, Option, Some, None, Result, Ok, Err, ◌⊎◌, inl, inr, refl, sym, ap, ◌∙◌, arith, nat_lt, is_some, not, if◌then◌else◌}
use Rattle.pool_run_on_demand.proofs.Imports.{option_or, nat_tests, none_mapped, MakerTold, minimum_byte_size, allow_growth_to, MemoryDecl, MemoryType, TableElementType, TableType, Unsupported, SharedOnDemand, MemoryMinimum, AddressSpace, Image, LimiterError, IsSameMaker, maximum_asked, AllocError, type_of, kind_of, IsGiven, Allocates, AllocatesListed, CreatorRule, memory_refused, memory_unsupported, Want, new_memory, new_table, Terms}
use Rattle.pool_types.specs.declared.table_type.TableElementType.TheVariants as of_type
use Rattle.pool_slots.specs.declared.errors.AllocError.TheVariants as alloc
use Rattle.pool_run_on_demand.specs.OnDemand.{refusal_on_demand, first_unmade, makes_memory, IsUnmade}

-- what has no refusal of its own has a minimum that a `u64` can hold
small_by : (shared fits allowed : Bool) (o : Option Unsupported) (u : Unsupported) → (if shared then Some SharedOnDemand else (if fits then (if allowed then o else Some AddressSpace) else Some u)) ≡ None → fits ≡ true
small_by true fits allowed o u is = absurd cc
small_by false true allowed o u is = refl
small_by false false allowed o u is = absurd cc

pub small_of : (answer : Result Bool LimiterError) (refuses : CreatorRule) (ty : MemoryType) → memory_refused answer refuses ty ≡ None → minimum_byte_size ty < 2 ^ 64
small_of (Err e) refuses ty is = absurd cc
small_of (Ok false) refuses ty is = absurd cc
small_of (Ok true) refuses ty is =
    let fits : nat_lt (minimum_byte_size ty) (2 ^ 64) ≡ true = small_by ty.shared (nat_lt (minimum_byte_size ty) (2 ^ 64)) (allow_growth_to ty (minimum_byte_size ty)) (refuses (minimum_byte_size ty) (maximum_asked ty)) (MemoryMinimum ty.limits.min) (none_mapped alloc.Unsupported (memory_unsupported refuses ty) is) in
    grind (arith, nat_tests, fits)

-- and what makes memories doesn't refuse it
made_by : (shared fits allowed : Bool) (o : Option Unsupported) (u : Unsupported) → (if shared then Some SharedOnDemand else (if fits then (if allowed then o else Some AddressSpace) else Some u)) ≡ None → o ≡ None
made_by true fits allowed o u is = absurd cc
made_by false true true o u is = is
made_by false true false o u is = absurd cc
made_by false false allowed o u is = absurd cc

pub made_of : (answer : Result Bool LimiterError) (refuses : CreatorRule) (ty : MemoryType) → memory_refused answer refuses ty ≡ None → refuses (minimum_byte_size ty) (maximum_asked ty) ≡ None
made_of (Err e) refuses ty is = absurd cc
made_of (Ok false) refuses ty is = absurd cc
made_of (Ok true) refuses ty is = made_by ty.shared (nat_lt (minimum_byte_size ty) (2 ^ 64)) (allow_growth_to ty (minimum_byte_size ty)) (refuses (minimum_byte_size ty) (maximum_asked ty)) (MemoryMinimum ty.limits.min) (none_mapped alloc.Unsupported (memory_unsupported refuses ty) is)

-- what an allocation was that was granted, and one that was refused
pub granted : {X : Type 0} (o : Option AllocError) (Is : X → Type 0) (x : X) (old new : MakerTold) → Allocates o Is (Ok x) old new → (o ≡ None) × Is x
granted None Is x old new is = (refl, is.0)
granted (Some e) Is x old new is = absurd (cc is.0)

given_as : (e : AllocError) (old new : MakerTold) → IsGiven e old new → (e ≡ alloc.Memory) ⊎ (e ≡ alloc.PageFault)
given_as alloc.Memory old new is = inl refl
given_as alloc.PageFault old new is = inr refl
given_as _ old new is = absurd is

pub refused : {X : Type 0} (o : Option AllocError) (Is : X → Type 0) (e : AllocError) (old new : MakerTold) → Allocates o Is (Err e) old new → (o ≡ Some e) ⊎ ((o ≡ None) × ((e ≡ alloc.Memory) ⊎ (e ≡ alloc.PageFault)))
refused None Is e old new is = inr (refl, given_as e old new is)
refused (Some f) Is e old new is = let same : e ≡ f = cc is.0 in inl (ap Some (sym same))

-- the own refusal of a memory, and of a table
abbrev pub own_memory : Terms → MemoryDecl → Option Image → Option AllocError
own_memory t decl image = refusal_on_demand t (new_memory (record { decl = decl; image = image }))

abbrev pub own_table : Terms → TableType → Option AllocError
own_table t ty = refusal_on_demand t (new_table ty)

pub still_same : (m : MakerTold) → IsSameMaker m m
still_same m = record { same = refl; rises = omega arith }

pub none_or : {X : Type 0} (o p : Option X) → o ≡ None → option_or o p ≡ p
none_or None p is = refl
none_or (Some x) p is = absurd cc

pub some_or : {X : Type 0} (o p : Option X) (x : X) → o ≡ Some x → option_or o p ≡ Some x
some_or None p x is = absurd cc
some_or (Some y) p x is = is

-- why a request is refused at its first memory, and at a later thing
module _ (t : Terms) (decl : MemoryDecl) (image : Option Image) (wants : List Want) (e : AllocError) where
  abbrev pub all_wants : List Want
  all_wants = new_memory (record { decl = decl; image = image }) ∷ wants

  makes_first : own_memory t decl image ≡ None → makes_memory t all_wants ≡ true
  makes_first none = ap (λ (o : Option AllocError). not (is_some o)) none

  pub cause_here : (own_memory t decl image ≡ Some e) ⊎ ((own_memory t decl image ≡ None) × ((e ≡ alloc.Memory) ⊎ (e ≡ alloc.PageFault))) → IsUnmade None t all_wants e
  cause_here (inl own) = inl (some_or (own_memory t decl image) (first_unmade t wants) e own)
  cause_here (inr (none, inl memory)) = inr (inl memory)
  cause_here (inr (none, inr fault)) = inr (inr (fault, makes_first none))

  pub cause_later : own_memory t decl image ≡ None → IsUnmade None t wants e → IsUnmade None t all_wants e
  cause_later none (inl own) = inl (none_or (own_memory t decl image) (first_unmade t wants) none ∙ own)
  cause_later none (inr (inl memory)) = inr (inl memory)
  cause_later none (inr (inr fault)) = inr (inr (fault.0, makes_first none))

-- after things that have none the first own refusal is one of those that follow
pub unmade_append : (t : Terms) (xs ys : List Want) → first_unmade t xs ≡ None → first_unmade t (xs ++ ys) ≡ first_unmade t ys
unmade_append t [] ys none = refl
unmade_append t (x ∷ xs) ys none =
    elim (cases_none (refusal_on_demand t x)) [
      | inl own ↦ none_or (refusal_on_demand t x) (first_unmade t (xs ++ ys)) own ∙ unmade_append t xs ys (sym (none_or (refusal_on_demand t x) (first_unmade t xs) own) ∙ none)
      | inr own ↦ absurd (some_not_none (sym (some_or (refusal_on_demand t x) (first_unmade t xs) own.0 own.1) ∙ none))
    ]
  where
    cases_none : {X : Type 0} (o : Option X) → (o ≡ None) ⊎ ((x : X) × (o ≡ Some x))
    cases_none None = inl refl
    cases_none (Some x) = inr (x, refl)

    some_not_none : {X : Type 0} {x : X} → Some x ≡ None → ⊥
    some_not_none is = cc is

-- the same of tables
pub listed_granted : {X : Type 0} (o : Option AllocError) (Is : X → Type 0) (x : X) → AllocatesListed o Is (Ok x) → (o ≡ None) × Is x
listed_granted None Is x is = (refl, is)
listed_granted (Some e) Is x is = absurd (cc is)

pub table_here : {X : Type 0} (rest o : Option AllocError) (Is : X → Type 0) (e : AllocError) → AllocatesListed o Is (Err e) → (option_or o rest ≡ Some e) ⊎ (e ≡ alloc.Memory)
table_here rest None Is e is = inr is
table_here rest (Some f) Is e is = let same : e ≡ f = cc is in inl (ap Some (sym same))

pub type_of_kind : (ty : TableElementType) (lazy : Bool) → type_of (kind_of ty lazy) ≡ ty
type_of_kind of_type.Func lazy = refl
type_of_kind of_type.GcRef lazy = refl
type_of_kind of_type.Cont lazy = refl

-- What the making of a memory or a table answers, as the allocator answers it.
use Rattle.std.proofs.Common.{◌≡◌, ℕ, ◌^◌, Bool, true, false, refl, sym, ap, subst, Option, Some, None, Result, Ok, Err, ◌↔◌, IfOk, nat_lt, option_map, if◌then◌else◌}
use Rattle.pool_on_demand.proofs.Imports.{MakerTold, minimum_byte_size, allow_growth_to, MemoryTunables, MemoryType, Unsupported, SharedOnDemand, MemoryMinimum, AddressSpace, LimiterError, Image, Design, IsDynamic, RefusesBy, DynamicLeaves, dynamic_limits, limiter_answer, maximum_asked, state_of, Memory, MemoryError, AllocError}
use Rattle.pool_memory.specs.declared.memory_error.MemoryError.TheVariants as in_memory
use Rattle.pool_slots.specs.declared.errors.AllocError.TheVariants as refusal
use Rattle.pool_on_demand.specs.Answers.{Allocates, GrantsOrGives, memory_refusal}
use Rattle.pool_on_demand.specs.Grants.{IsMemoryMade, IsLeased}
use Rattle.pool_on_demand.specs.Refusals.{CreatorRule, memory_refused, answer_given}
use Rattle.pool_on_demand.specs.declared.lease.OnDemandMemory.{OnDemandMemory}

module _ {M L : Type 0} where
  -- the limiter answered the same
  pub same_answer : (made : Result (Memory M L) MemoryError) (result : Result (OnDemandMemory M L) AllocError) → IsLeased made result → answer_given result ≡ limiter_answer made
  same_answer (Ok memory) result leased = ap answer_given leased.1.0
  same_answer (Err in_memory.Memory) result leased = ap answer_given leased
  same_answer (Err (in_memory.Unsupported u)) result leased = ap answer_given leased
  same_answer (Err (in_memory.LimiterDenied min)) result leased = ap answer_given leased
  same_answer (Err (in_memory.LimiterFault e)) result leased = ap answer_given leased
  same_answer (Err in_memory.PageFault) result leased = ap answer_given leased

  -- a refusal goes on
  goes_on : (made : Result (Memory M L) MemoryError) (result : Result (OnDemandMemory M L) AllocError) (e : MemoryError) → made ≡ Err e → IsLeased made result → result ≡ Err (memory_refusal e)
  goes_on made result e is leased = subst (λ (r : Result (Memory M L) MemoryError). IsLeased r result) is leased

  module _ (ty : MemoryType) (tunables : MemoryTunables) (design : Option Design) (image : Option Image) (to : ℕ) (old new : MakerTold) where
    abbrev pub Made : OnDemandMemory M L → Type 0
    Made = IsMemoryMade ty tunables design image to old

    -- what the creator answered, where it was asked
    from_creator : (made : Result (Memory M L) MemoryError) (result : Result (OnDemandMemory M L) AllocError) (refuses : Option Unsupported) → limiter_answer made ≡ Ok true → IsLeased made result → IfOk made (λ m. IsDynamic ty tunables design image to old (state_of m)) → ((u : Unsupported) → (made ≡ Err (in_memory.Unsupported u)) ↔ (refuses ≡ Some u)) → DynamicLeaves made old new → Allocates (option_map refusal.Unsupported refuses) Made result old new
    from_creator (Ok memory) result (Some u) allowed leased is told left = let no : Ok memory ≡ Err (in_memory.Unsupported u) = (told u).1 refl in absurd (cc no)
    from_creator (Ok memory) result None allowed leased is told left =
        let e : leased.0.memory ≡ memory = leased.1.1.1 in
        let lease_made : Made leased.0 = record { index = leased.1.1.0; memory = subst (λ (m : Memory M L). IsDynamic ty tunables design image to old (state_of m)) (sym e) is } in
        subst (λ (r : Result (OnDemandMemory M L) AllocError). GrantsOrGives Made r old new) (sym leased.1.0) (lease_made, left)
    from_creator (Err in_memory.Memory) result (Some u) allowed leased is told left = let no : Err in_memory.Memory ≡ Err (in_memory.Unsupported u) = (told u).1 refl in absurd (cc no)
    from_creator (Err in_memory.Memory) result None allowed leased is told left = subst (λ (r : Result (OnDemandMemory M L) AllocError). GrantsOrGives Made r old new) (sym leased) left
    from_creator (Err (in_memory.Unsupported v)) result refuses allowed leased is told left =
        let e : refuses ≡ Some v = (told v).0 refl in
        subst (λ (r : Option Unsupported). Allocates (option_map refusal.Unsupported r) Made result old new) (sym e) (leased, left)
    from_creator (Err (in_memory.LimiterDenied min)) result refuses allowed leased is told left = absurd (cc allowed)
    from_creator (Err (in_memory.LimiterFault e)) result refuses allowed leased is told left = absurd (cc allowed)
    from_creator (Err in_memory.PageFault) result (Some u) allowed leased is told left = let no : Err in_memory.PageFault ≡ Err (in_memory.Unsupported u) = (told u).1 refl in absurd (cc no)
    from_creator (Err in_memory.PageFault) result None allowed leased is told left = subst (λ (r : Result (OnDemandMemory M L) AllocError). GrantsOrGives Made r old new) (sym leased) left

    -- what is tested of the type, where the limiter allowed it
    from_type : (shared small reached : Bool) (limits : ℕ × Option ℕ) (x y z : Unsupported) (made : Result (Memory M L) MemoryError) (result : Result (OnDemandMemory M L) AllocError) (refuses : CreatorRule) → limiter_answer made ≡ Ok true → IsLeased made result → IfOk made (λ m. IsDynamic ty tunables design image to old (state_of m)) → RefusesBy (if shared then Err (in_memory.Unsupported x) else (if small then (if reached then Ok limits else Err (in_memory.Unsupported y)) else Err (in_memory.Unsupported z))) refuses made old new → DynamicLeaves made old new → Allocates (option_map refusal.Unsupported (if shared then Some x else (if small then (if reached then refuses limits.0 limits.1 else Some y) else Some z))) Made result old new
    from_type true small reached limits x y z made result refuses allowed leased is by left = (goes_on made result (in_memory.Unsupported x) by.0 leased, by.1)
    from_type false true true limits x y z made result refuses allowed leased is by left = from_creator made result (refuses limits.0 limits.1) allowed leased is by left
    from_type false true false limits x y z made result refuses allowed leased is by left = (goes_on made result (in_memory.Unsupported y) by.0 leased, by.1)
    from_type false false reached limits x y z made result refuses allowed leased is by left = (goes_on made result (in_memory.Unsupported z) by.0 leased, by.1)

    from_limiter : (answer : Result Bool LimiterError) (made : Result (Memory M L) MemoryError) (result : Result (OnDemandMemory M L) AllocError) (refuses : CreatorRule) → limiter_answer made ≡ answer → IsLeased made result → IfOk made (λ m. IsDynamic ty tunables design image to old (state_of m)) → RefusesBy (dynamic_limits answer ty) refuses made old new → DynamicLeaves made old new → Allocates (memory_refused answer refuses ty) Made result old new
    from_limiter (Ok true) made result refuses allowed leased is by left = from_type ty.shared (nat_lt (minimum_byte_size ty) (2 ^ 64)) (allow_growth_to ty (minimum_byte_size ty)) (minimum_byte_size ty, maximum_asked ty) SharedOnDemand AddressSpace (MemoryMinimum ty.limits.min) made result refuses allowed leased is by left
    from_limiter (Ok false) made result refuses allowed leased is by left = (goes_on made result (in_memory.LimiterDenied ty.limits.min) by.0 leased, by.1)
    from_limiter (Err e) made result refuses allowed leased is by left = (goes_on made result (in_memory.LimiterFault e) by.0 leased, by.1)

    pub memory_allocated : (made : Result (Memory M L) MemoryError) (result : Result (OnDemandMemory M L) AllocError) (refuses : CreatorRule) → IsLeased made result → IfOk made (λ m. IsDynamic ty tunables design image to old (state_of m)) → RefusesBy (dynamic_limits (limiter_answer made) ty) refuses made old new → DynamicLeaves made old new → Allocates (memory_refused (answer_given result) refuses ty) Made result old new
    memory_allocated made result refuses leased is by left = subst (λ (a : Result Bool LimiterError). Allocates (memory_refused a refuses ty) Made result old new) (sym (same_answer made result leased)) (from_limiter (limiter_answer made) made result refuses refl leased is by left)

-- What a memory's own refusal can be.
use Rattle.std.proofs.Common.{◌≡◌, ℕ, ◌^◌, Bool, true, false, Option, Some, Result, Ok, Err, subst, nat_lt, if◌then◌else◌}
use Rattle.pool_run.proofs.Imports.{same_Some, minimum_byte_size, allow_growth_to, MemoryType, AddressSpace, MemoryMinimum, LimiterError, maximum_asked, limits_answer, AllocError}
use Rattle.pool_memory.specs.declared.memory_error.MemoryError.TheVariants as unmade
use Rattle.pool_slots.specs.declared.errors.AllocError.TheVariants as refusal
use Rattle.pool_run.specs.Private.{refused_by}

abbrev pub IsOwn : AllocError → Type 0
IsOwn (refusal.Unsupported rule) = Unit {0}
IsOwn (refusal.LimiterDenied table least) = Unit {0}
IsOwn (refusal.LimiterFault e) = Unit {0}
IsOwn _ = ⊥

limits_own : (ty : MemoryType) (represented allowed : Bool) (e : AllocError) → refused_by {X = ℕ × Option ℕ} (if represented then (if allowed then Ok (minimum_byte_size ty, maximum_asked ty) else Err (unmade.Unsupported AddressSpace)) else Err (unmade.Unsupported (MemoryMinimum ty.limits.min))) ≡ Some e → IsOwn e
limits_own ty true true e is = absurd cc
limits_own ty true false e is = subst IsOwn (same_Some (refusal.Unsupported AddressSpace) e is) tt
limits_own ty false allowed e is = subst IsOwn (same_Some (refusal.Unsupported (MemoryMinimum ty.limits.min)) e is) tt

-- the limiter's answer comes first
pub answer_own : (answer : Result Bool LimiterError) (ty : MemoryType) (e : AllocError) → refused_by (limits_answer answer ty) ≡ Some e → IsOwn e
answer_own (Err x) ty e is = subst IsOwn (same_Some (refusal.LimiterFault x) e is) tt
answer_own (Ok false) ty e is = subst IsOwn (same_Some (refusal.LimiterDenied false ty.limits.min) e is) tt
answer_own (Ok true) ty e is = limits_own ty (nat_lt (minimum_byte_size ty) (2 ^ 64)) (allow_growth_to ty (minimum_byte_size ty)) e is

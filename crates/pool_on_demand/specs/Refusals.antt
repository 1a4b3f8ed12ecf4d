-- When the allocator on demand refuses a module, a memory, a table or a stack by itself.
use Rattle.std.specs.Prelude.{ℕ, ◌*◌, ◌-◌, ◌^◌, ◌==◌, nat_lt, Bool, true, false, if◌then◌else◌, Option, Some, None, option_map, Result, Ok, Err}
use Rattle.pool_on_demand.specs.Imports.{option_or, minimum_byte_size, allow_growth_to, refused_limits, ModuleInfo, MemoryType, TableType, Unsupported, SharedOnDemand, MemoryMinimum, AddressSpace, LimiterError, maximum_asked, AllocError, first_refused, element_size}
use Rattle.pool_slots.specs.declared.errors.AllocError.TheVariants as refusal

-- shared memories are made elsewhere
abbrev pub shared_refused : MemoryType → Option Unsupported
shared_refused ty = if ty.shared then Some SharedOnDemand else None

-- The first rule that a module breaks: a minimum above the maximum, of a memory and then of a table, and then a memory
-- that is shared.
abbrev pub module_refused : ModuleInfo → Option Unsupported
module_refused m =
    option_or (first_refused (λ d. refused_limits d.ty.limits) m.memories)
    (option_or (first_refused (λ ty. refused_limits ty.limits) m.tables)
    (first_refused (λ d. shared_refused d.ty) m.memories))

-- The first rule that a memory breaks which is asked for by itself.
abbrev pub type_refused : MemoryType → Option Unsupported
type_refused ty = option_or (refused_limits ty.limits) (shared_refused ty)

-- what makes memories refuses those of a minimum in bytes and of a greatest size, if they have one
abbrev pub CreatorRule : Type 0
CreatorRule = ℕ → Option ℕ → Option Unsupported

-- Why a memory of this type isn't supported, which the limiter allowed: it is shared, a `u64` or its addresses can't hold
-- its minimum, or what makes memories refuses it.
abbrev pub memory_unsupported : CreatorRule → MemoryType → Option Unsupported
memory_unsupported refuses ty =
    if ty.shared
    then Some SharedOnDemand
    else (
    if nat_lt (minimum_byte_size ty) (2 ^ 64)
    then (
    if allow_growth_to ty (minimum_byte_size ty)
    then refuses (minimum_byte_size ty) (maximum_asked ty)
    else Some AddressSpace
    )
    else Some (MemoryMinimum ty.limits.min)
    )

-- its own refusal, where the limiter gave this answer
abbrev pub memory_refused : Result Bool LimiterError → CreatorRule → MemoryType → Option AllocError
memory_refused (Err e) refuses ty = Some (refusal.LimiterFault e)
memory_refused (Ok false) refuses ty = Some (refusal.LimiterDenied false ty.limits.min)
memory_refused (Ok true) refuses ty = option_map refusal.Unsupported (memory_unsupported refuses ty)

-- Why a table is refused by itself: by the limiter, or as its elements leave the address space.
abbrev pub table_refused : Result Bool LimiterError → TableType → Option AllocError
table_refused (Err e) ty = Some (refusal.LimiterFault e)
table_refused (Ok false) ty = Some (refusal.LimiterDenied true ty.limits.min)
table_refused (Ok true) ty = if nat_lt (2 ^ 64 - 1) (ty.limits.min * element_size ty.element) then Some (refusal.Unsupported AddressSpace) else None

-- stacks of no bytes are none
abbrev pub stack_refused : ℕ → Option AllocError
stack_refused stack_size = if stack_size == 0 then Some refusal.StacksDisabled else None

-- What the limiter answered where a call was refused with this.
abbrev pub answer_behind : AllocError → Result Bool LimiterError
answer_behind (refusal.LimiterDenied table min) = Ok false
answer_behind (refusal.LimiterFault e) = Err e
answer_behind _ = Ok true

-- What the limiter answered, read off how an allocation ended.
abbrev pub answer_given : {X : Type 0} → Result X AllocError → Result Bool LimiterError
answer_given (Ok x) = Ok true
answer_given (Err e) = answer_behind e

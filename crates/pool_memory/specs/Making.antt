-- How a memory is made in a slot: what the limiter is asked, and what comes of its answer.
use Rattle.std.specs.Prelude.{◌≡◌, ℕ, ◌+◌, ◌-◌, ◌^◌, ◌<◌, ◌≤◌, length, Bool, true, false, nat_lt, if◌then◌else◌, Option, Some, None, IfSome, Result, Ok, Err}
use Rattle.pool_memory.specs.Imports.{page_size, minimum_byte_size, maximum_byte_size, allow_growth_to, MemoryType, Unsupported, MemoryMinimum, AddressSpace, GrowthQuestion, question_of, memory_kind, LimiterError, Image, Slot}
use Rattle.pool_memory.specs.Static.{Static, linear_of, made_static}
use Rattle.pool_memory.specs.Memories.{MemoryState}
use Rattle.pool_memory.specs.declared.memory.Memory.{Memory}
use Rattle.pool_memory.specs.declared.memory.Memory.TheVariants.{Local}
use Rattle.pool_memory.specs.declared.memory_error.MemoryError.{MemoryError}
use Rattle.pool_memory.specs.declared.memory_error.MemoryError.TheVariants as refused

-- the minimum that a limiter is asked for: the greatest whole number of the memory's pages where it leaves a `u64`
abbrev pub minimum_asked : MemoryType → ℕ
minimum_asked ty = if nat_lt (minimum_byte_size ty) (2 ^ 64) then minimum_byte_size ty else 2 ^ 64 - page_size ty

-- the maximum that it is told, where a `u64` can hold it
abbrev pub maximum_asked : MemoryType → Option ℕ
maximum_asked ty = if nat_lt (maximum_byte_size ty) (2 ^ 64) then Some (maximum_byte_size ty) else None

-- what it is asked
abbrev pub minimum_question : MemoryType → GrowthQuestion
minimum_question ty = question_of memory_kind 0 (minimum_asked ty) (maximum_asked ty)

-- With how many bytes a memory of this type begins, and how many it may have, where the limiter gave this answer. What
-- it doesn't refuse is refused still where a `u64` or the memory's addresses can't hold the minimum.
abbrev pub limits_answer : Result Bool LimiterError → MemoryType → Result (ℕ × Option ℕ) MemoryError
limits_answer (Err e) ty = Err (refused.LimiterFault e)
limits_answer (Ok false) ty = Err (refused.LimiterDenied ty.limits.min)
limits_answer (Ok true) ty =
    if nat_lt (minimum_byte_size ty) (2 ^ 64)
    then (
    if allow_growth_to ty (minimum_byte_size ty)
    then Ok (minimum_byte_size ty, maximum_asked ty)
    else Err (refused.Unsupported AddressSpace)
    )
    else Err (refused.Unsupported (MemoryMinimum ty.limits.min))

-- what is known of these numbers where they are granted
pub record Granted (ty : MemoryType) (limits : ℕ × Option ℕ) : Type 0 where
  pub minimum : limits.0 ≡ minimum_byte_size ty
  pub maximum : limits.1 ≡ maximum_asked ty
  pub represented : minimum_byte_size ty < 2 ^ 64

-- what the limiter answered where a making was refused with this
abbrev pub answer_behind : MemoryError → Result Bool LimiterError
answer_behind refused.Memory = Ok true
answer_behind (refused.Unsupported u) = Ok true
answer_behind (refused.LimiterDenied min) = Ok false
answer_behind (refused.LimiterFault e) = Err e
answer_behind refused.PageFault = Ok true

-- What the limiter answered, read off how the making of a memory ended.
abbrev pub limiter_answer : {X : Type 0} → Result X MemoryError → Result Bool LimiterError
limiter_answer (Ok x) = Ok true
limiter_answer (Err e) = answer_behind e

-- What the limiter answered, read off how the making of a memory in a slot ended.
abbrev pub static_limiter_answer : {X : Type 0} → Result X (Slot × MemoryError) → Result Bool LimiterError
static_limiter_answer (Ok x) = Ok true
static_limiter_answer (Err refusal) = answer_behind refusal.1

-- a memory in a slot stays where it is
abbrev pub fixed_in : MemoryType → Static → MemoryState
fixed_in ty m = record { ty = ty; may_move = false; linear = linear_of m }

-- A memory with its type in its slot, or the slot handed back with the reason why it isn't supported.
abbrev pub made_memory : {M L : Type 0} → MemoryType → Result Static (Slot × Unsupported) → Result (Memory M L) (Slot × MemoryError)
made_memory ty (Ok m) = Ok (Local (fixed_in ty m))
made_memory ty (Err refusal) = Err (refusal.0, refused.Unsupported refusal.1)

-- A memory in its slot by the limits that were granted, or the slot handed back with the refusal.
abbrev pub made_within : {M L : Type 0} → Result (ℕ × Option ℕ) MemoryError → MemoryType → ℕ → Slot → Result (Memory M L) (Slot × MemoryError)
made_within (Err e) ty base_capacity slot = Err (slot, e)
made_within (Ok limits) ty base_capacity slot = made_memory ty (made_static base_capacity limits.0 limits.1 slot)

-- The memory made in a slot that offers so much, or the slot again with what refused it, where the limiter gave this
-- answer.
abbrev pub static_answer : {M L : Type 0} → Result Bool LimiterError → MemoryType → ℕ → Slot → Result (Memory M L) (Slot × MemoryError)
static_answer answer ty base_capacity slot = made_within (limits_answer answer ty) ty base_capacity slot

-- an image ends within so many bytes
abbrev pub EndsWithin : ℕ → Option Image → Type 0
EndsWithin size image = IfSome image (λ i. i.offset + length i.bytes ≤ size)

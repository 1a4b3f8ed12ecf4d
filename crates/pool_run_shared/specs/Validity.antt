-- What an input of events on a shared memory must keep to.
use Rattle.std.specs.Prelude.{ℕ, ◌^◌, ◌==◌, ◌&&◌, ◌||◌, length, not, nat_le, nat_lt, Bool, true, false, Option, Some, None, is_some}
use Rattle.std.specs.List.{list_all}
use Rattle.pool_types.specs.MemoryTypes.{minimum_byte_size}
use Rattle.pool_types.specs.declared.module_types.MemoryDecl.{MemoryDecl}
use Rattle.pool_types.specs.declared.module_types.MemoryType.{MemoryType}
use Rattle.pool_run.specs.Validity.{most_bytes}
use Rattle.pool_run_shared.specs.declared.input.SharedEvent.{SharedEvent}
use Rattle.pool_run_shared.specs.declared.input.SharedEvent.TheVariants.{Wait32, Wait64, Wake, Notify, Read, Write, Grow, Size}
use Rattle.pool_run_shared.specs.declared.input.SharedInput.{SharedInput}

-- how many events there may be
abbrev pub most_events : ℕ
most_events = 100000

-- a waiter is a number below this
abbrev pub waiters : ℕ
waiters = 65536

-- the greatest minimum in bytes
abbrev pub most_minimum : ℕ
most_minimum = 2 ^ 32

-- a waiter is one of those that there are, and no more bytes are read or written than by a command
abbrev pub is_valid_event : SharedEvent → Bool
is_valid_event (Wait32 waiter at expect now timeout) = nat_lt waiter waiters
is_valid_event (Wait64 waiter at expect now timeout) = nat_lt waiter waiters
is_valid_event (Wake waiter now) = nat_lt waiter waiters
is_valid_event (Notify at count) = true
is_valid_event (Read at len) = nat_le len most_bytes
is_valid_event (Write at hex) = nat_le (length hex) most_bytes
is_valid_event (Grow pages) = true
is_valid_event Size = true

-- there is a maximum, which isn't below this
abbrev pub reaches : ℕ → Option ℕ → Bool
reaches min None = false
reaches min (Some max) = nat_le min max

-- pages of one byte or of 65,536, a maximum that isn't below the minimum, and not too large a minimum
abbrev pub is_shareable : MemoryType → Bool
is_shareable ty = (ty.page_size_log2 == 0 || ty.page_size_log2 == 16) && (reaches ty.limits.min ty.limits.max && nat_le (minimum_byte_size ty) most_minimum)

-- a shared memory begins without an image
abbrev pub is_valid_shared_memory : MemoryDecl → Bool
is_valid_shared_memory decl = is_shareable decl.ty && not (is_some decl.image)

-- The input of events keeps its limits.
abbrev pub is_valid_shared : SharedInput → Bool
is_valid_shared input = is_valid_shared_memory input.memory && (nat_le (length input.events) most_events && list_all is_valid_event input.events)

-- A wait for a word of a shared memory, of either width.
use Rattle.std.specs.Prelude.{◌≡◌, ℕ, Option, Result, Ok, Err}
use Rattle.std.specs.Int.{w32, w64}
use Rattle.pool_limits.specs.declared.errors.Trap.{Trap}
use Rattle.pool_shared.specs.Bounds.{IsAligned, IsRefused}
use Rattle.pool_shared.specs.Shared.{Shared, word_address, Waits}
use Rattle.pool_shared.specs.declared.hold.Asked.{Asked}
use Rattle.pool_shared.specs.declared.hold.Asked.TheVariants as asked
use Rattle.pool_shared.specs.declared.wait_step.WaitStep.{WaitStep}
use Rattle.pool_shared.specs.declared.wait_fault.WaitFault.{WaitFault}
use Rattle.pool_shared.specs.declared.wait_fault.WaitFault.TheVariants as fault

-- A wait may be made where the address is one of a word, and traps where it isn't.
abbrev pub checked : Result ℕ Trap → Result (Unit {0}) WaitFault
checked (Ok addr) = Ok tt
checked (Err trap) = Err (fault.Trap trap)

-- The address of a word of either width may be waited on, or the trap.
abbrev pub asked_valid : Asked → Shared → Result (Unit {0}) WaitFault
asked_valid (asked.Word32 addr expected) s = checked (word_address w32 addr s)
asked_valid (asked.Word64 addr expected) s = checked (word_address w64 addr s)

-- What a wait for a word of either width answers and leaves.
abbrev pub WaitsFor : Asked → ℕ → Option ℕ → ℕ → Shared → Shared → Result WaitStep WaitFault → Type 0
WaitsFor (asked.Word32 addr expected) waiter deadline now old new result = Waits w32 (word_address w32 addr old) waiter expected deadline now old new result
WaitsFor (asked.Word64 addr expected) waiter deadline now old new result = Waits w64 (word_address w64 addr old) waiter expected deadline now old new result

-- Why a wait for a word of either width is refused, by the size that the memory was made with.
abbrev pub IsRefusedFor : Asked → ℕ → WaitFault → Type 0
IsRefusedFor (asked.Word32 addr expected) size fault = IsRefused w32 addr size fault
IsRefusedFor (asked.Word64 addr expected) size fault = IsRefused w64 addr size fault

-- The address of the word is a multiple of its width.
abbrev pub IsAlignedFor : Asked → Type 0
IsAlignedFor (asked.Word32 addr expected) = IsAligned w32 addr
IsAlignedFor (asked.Word64 addr expected) = IsAligned w64 addr

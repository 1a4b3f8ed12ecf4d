-- A wait on a word whose memory tells nothing: its comparison came out so, or so.
use Rattle.std.specs.Prelude.{◌≡◌, ℕ, Bool, Option, Result, Ok, Err, List}
use Rattle.pool_shared.specs.Spot.{wait_answer, after_wait}
use Rattle.pool_shared.specs.declared.hold.Asked.{Asked}
use Rattle.pool_shared.specs.declared.hold.Asked.TheVariants as asked
use Rattle.pool_shared.specs.declared.waiting.Waiting.{Waiting}
use Rattle.pool_shared.specs.declared.wait_step.WaitStep.{WaitStep}
use Rattle.pool_shared.specs.declared.wait_step.WaitStep.TheVariants as answer
use Rattle.pool_shared.specs.declared.wait_fault.WaitFault.{WaitFault}
use Rattle.pool_shared.specs.declared.wait_fault.WaitFault.TheVariants as fault

-- the address that it is for
abbrev pub asked_address : Asked → ℕ
asked_address (asked.Word32 addr expected) = addr
asked_address (asked.Word64 addr expected) = addr

-- The fault of a wait is that the host has no memory for it; a trap is none.
abbrev pub IsWantOfMemory : WaitFault → Type 0
IsWantOfMemory fault.Memory = Unit {0}
IsWantOfMemory (fault.Trap trap) = ⊥

-- What a wait on a valid address answers and leaves, by whether the word was as expected. Memory may be short only
-- where it would park.
abbrev pub SpotWaitsAt : ℕ → ℕ → Bool → Option ℕ → ℕ → List Waiting → List Waiting → Result WaitStep WaitFault → Type 0
SpotWaitsAt addr waiter same deadline now old new (Ok step) = (step ≡ wait_answer same deadline now) × (new ≡ after_wait addr waiter same deadline now old)
SpotWaitsAt addr waiter same deadline now old new (Err fault.Memory) = (wait_answer same deadline now ≡ answer.Parked) × (new ≡ old)
SpotWaitsAt addr waiter same deadline now old new (Err (fault.Trap trap)) = ⊥

-- the wait is that of the spot, by what its comparison came to
abbrev pub SpotWaits : Asked → ℕ → Option ℕ → ℕ → List Waiting → List Waiting → Result WaitStep WaitFault → Type 0
SpotWaits asked waiter deadline now old new result = (same : Bool) × SpotWaitsAt (asked_address asked) waiter same deadline now old new result

-- What one hold of the lock of a wait comes to. A wait takes as many holds as it needs; nothing is said of when they come.
use Rattle.std.specs.Prelude.{◌≡◌, Bool, true, false, if◌then◌else◌, Result, Ok, Err}
use Rattle.pool_limits.specs.declared.errors.WaitResult.TheVariants as ended
use Rattle.pool_shared.specs.declared.hold.Turn.{Turn}
use Rattle.pool_shared.specs.declared.hold.Turn.TheVariants as turn
use Rattle.pool_shared.specs.declared.wait_step.WaitStep.{WaitStep}
use Rattle.pool_shared.specs.declared.wait_step.WaitStep.TheVariants as answer
use Rattle.pool_shared.specs.declared.wait_fault.WaitFault.{WaitFault}

-- What a step is to a wait whose own deadline has passed, or hasn't. The deadline of another wait of its number doesn't
-- end it.
abbrev pub turn_of : Bool → WaitStep → Turn
turn_of late answer.Ok = turn.Ended ended.Ok
turn_of late answer.Mismatch = turn.Ended ended.Mismatch
turn_of late answer.TimedOut = if late then turn.Ended ended.TimedOut else turn.Parked
turn_of late answer.Parked = turn.Parked

-- What one hold of the lock comes to: the wait ends, parks or goes on, or its fault.
abbrev pub turn_in : Bool → Result WaitStep WaitFault → Result Turn WaitFault
turn_in late (Ok step) = Ok (turn_of late step)
turn_in late (Err fault) = Err fault

-- A hold of a wait that hasn't begun, where its address isn't refused. While its number is in use nothing is called: it
-- waits for that until its deadline. Otherwise the wait is begun, by this call.
abbrev pub BeginsBy : {X : Type 0} → Bool → Bool → (X → Result WaitStep WaitFault → Type 0) → X → X → Result Turn WaitFault → Type 0
BeginsBy true late Begins old new result = (result ≡ Ok (if late then turn.Ended ended.TimedOut else turn.Busy)) × (new ≡ old)
BeginsBy false late Begins old new result = (called : Result WaitStep WaitFault) × (Begins new called × (result ≡ turn_in late called))

-- A hold of a wait whose number is refused, or not.
abbrev pub FirstHold : {X : Type 0} → Result (Unit {0}) WaitFault → Bool → Bool → (X → Result WaitStep WaitFault → Type 0) → X → X → Result Turn WaitFault → Type 0
FirstHold (Err fault) busy late Begins old new result = (result ≡ Err fault) × (new ≡ old)
FirstHold (Ok u) busy late Begins old new result = BeginsBy busy late Begins old new result

-- A hold of a wait that was parked. Where its number is not in use any more it was notified. Otherwise it asks how it
-- stands, by this call.
abbrev pub LaterHold : {X : Type 0} → Bool → Bool → (X → WaitStep → Type 0) → X → X → Turn → Type 0
LaterHold true late Rechecks old new result = (called : WaitStep) × (Rechecks new called × (result ≡ turn_of late called))
LaterHold false late Rechecks old new result = (result ≡ turn.Ended ended.Ok) × (new ≡ old)

-- A parking spot: who waits at which address, in order of arrival, and who was notified. It is the list of the waits
-- that have begun and not ended, in order of arrival.
use Rattle.std.specs.Prelude.{◌≡◌, ℕ, ◌==◌, Bool, false, true, ◌&&◌, ◌||◌, not, nat_le, List, [], ◌∷◌, ◌++◌, map, take, Option, None, Some, if◌then◌else◌}
use Rattle.std.specs.List.{filter, list_any}
use Rattle.pool_shared.specs.declared.waiting.Waiting.{Waiting}
use Rattle.pool_shared.specs.declared.wait_step.WaitStep.{WaitStep}
use Rattle.pool_shared.specs.declared.wait_step.WaitStep.TheVariants as answer

-- The wait is one of this waiter.
abbrev pub is_of : ℕ → Waiting → Bool
is_of waiter wait = wait.waiter == waiter

-- The wait is parked at this address: it began there, and its waiter wasn't notified.
abbrev pub is_parked_at : ℕ → Waiting → Bool
is_parked_at addr wait = (wait.addr == addr) && not wait.marked

-- the list of an address: the waits parked there, in order of arrival, with their deadlines
abbrev pub parked_at : ℕ → List Waiting → List Waiting
parked_at addr spot = filter (is_parked_at addr) spot

-- the waiter is parked or marked
abbrev pub is_waiting : ℕ → List Waiting → Bool
is_waiting waiter spot = list_any (is_of waiter) spot

-- no two waits are of one waiter; so a waiter is in one address's list at most, and not both parked and marked
abbrev pub AreDistinct : List Waiting → Type 0
AreDistinct [] = Unit {0}
AreDistinct (wait ∷ spot) = (is_waiting wait.waiter spot ≡ false) × AreDistinct spot

-- the waiter's wait passes a test
abbrev pub its_wait_is : (Waiting → Bool) → ℕ → List Waiting → Bool
its_wait_is test waiter spot = list_any (λ wait. is_of waiter wait && test wait) spot

-- the waiter is one of the marked ones
abbrev pub is_marked : ℕ → List Waiting → Bool
is_marked waiter spot = its_wait_is (λ wait. wait.marked) waiter spot

-- the deadline is at most now; where there is none it never comes
abbrev pub has_passed : ℕ → Option ℕ → Bool
has_passed now None = false
has_passed now (Some deadline) = nat_le deadline now

-- the deadline of the waiter's wait has passed
abbrev pub is_late : ℕ → ℕ → List Waiting → Bool
is_late now waiter spot = its_wait_is (λ wait. has_passed now wait.deadline) waiter spot

-- what a wait answers: a word that isn't as expected comes before a deadline that has passed
abbrev pub wait_answer : Bool → Option ℕ → ℕ → WaitStep
wait_answer same deadline now = if same then (if has_passed now deadline then answer.TimedOut else answer.Parked) else answer.Mismatch

-- A wait that parks is the last of its address's list. Any other changes nothing.
abbrev pub after_wait : ℕ → ℕ → Bool → Option ℕ → ℕ → List Waiting → List Waiting
after_wait addr waiter same deadline now spot =
    if same && not (has_passed now deadline)
    then spot ++ record { addr = addr; waiter = waiter; deadline = deadline; marked = false } ∷ []
    else spot

-- how a wait stands: a mark comes before a deadline that has passed
abbrev pub step_of : Bool → Bool → WaitStep
step_of marked late = if marked then answer.Ok else (if late then answer.TimedOut else answer.Parked)

-- what a recheck answers
abbrev pub recheck_answer : ℕ → ℕ → List Waiting → WaitStep
recheck_answer waiter now spot = step_of (is_marked waiter spot) (is_late now waiter spot)

-- all waits but this waiter's
abbrev pub without : ℕ → List Waiting → List Waiting
without waiter spot = filter (λ wait. not (is_of waiter wait)) spot

-- A recheck that finds a mark or a deadline that has passed ends the wait: its mark comes off, or it leaves its list.
abbrev pub after_recheck : ℕ → ℕ → List Waiting → List Waiting
after_recheck waiter now spot = if is_marked waiter spot || is_late now waiter spot then without waiter spot else spot

-- the waiters of the first n waits in an address's list
abbrev pub first_waiters : ℕ → ℕ → List Waiting → List ℕ
first_waiters addr n spot = map (λ wait. wait.waiter) (take n (parked_at addr spot))

-- one of these waiters
abbrev pub is_among : List ℕ → ℕ → Bool
is_among waiters waiter = list_any (λ other. waiter == other) waiters

-- a wait as it is once its waiter is marked
abbrev pub marked_wait : Waiting → Waiting
marked_wait wait = record wait { marked = true }

-- a wait, marked where it is of one of these waiters
abbrev pub marked_if : List ℕ → Waiting → Waiting
marked_if waiters wait = if is_among waiters wait.waiter then marked_wait wait else wait

-- A notify marks the first n waiters of the address's list; so they leave the list. All others stay as they are.
abbrev pub after_notify : ℕ → ℕ → List Waiting → List Waiting
after_notify addr n spot = map (marked_if (first_waiters addr n spot)) spot

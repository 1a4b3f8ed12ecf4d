-- What waits and notifies leave in the list of an address and in the set of marked waiters.
use Rattle.std.specs.Prelude.{◌≡◌, ◌≢◌, ℕ, ◌<◌, Bool, true, false, ◌||◌, List, [], ◌∷◌, ◌++◌, length, drop, slice_index_or, Option}
use Rattle.pool_shared.specs.Spot.{parked_at, is_marked, AreDistinct, has_passed, after_wait, without, after_notify, is_among, first_waiters}
use Rattle.pool_shared.specs.declared.waiting.Waiting.{Waiting}

-- a waiter with fewer than n before it in the address's list is marked by a notify of n
abbrev pub EarlyWaitersAreMarked : Type 0
EarlyWaitersAreMarked = (addr n place : ℕ) (spot : List Waiting) (wait : Waiting) → AreDistinct spot → place < n → place < length (parked_at addr spot) → is_marked (slice_index_or (parked_at addr spot) place wait).waiter (after_notify addr n spot) ≡ true

-- a notify takes the first n off the address's list, and the others stay in order
abbrev pub NotifyTakesTheFirst : Type 0
NotifyTakesTheFirst = (addr n : ℕ) (spot : List Waiting) → AreDistinct spot → parked_at addr (after_notify addr n spot) ≡ drop n (parked_at addr spot)

-- a notify changes nothing of another address's list
abbrev pub NotifyKeepsOtherLists : Type 0
NotifyKeepsOtherLists = (addr other n : ℕ) (spot : List Waiting) → AreDistinct spot → other ≢ addr → parked_at other (after_notify addr n spot) ≡ parked_at other spot

-- the marked waiters after a notify are those before it and the first n of the address's list
abbrev pub NotifyMarksTheFirst : Type 0
NotifyMarksTheFirst = (addr n waiter : ℕ) (spot : List Waiting) → is_marked waiter (after_notify addr n spot) ≡ (is_marked waiter spot || is_among (first_waiters addr n spot) waiter)

-- a wait that parks is the last of its address's list
abbrev pub WaitsEnterAtTheEnd : Type 0
WaitsEnterAtTheEnd = (addr waiter now : ℕ) (deadline : Option ℕ) (spot : List Waiting) → has_passed now deadline ≡ false → parked_at addr (after_wait addr waiter true deadline now spot) ≡ parked_at addr spot ++ record { addr = addr; waiter = waiter; deadline = deadline; marked = false } ∷ []

-- a wait changes nothing of another address's list
abbrev pub WaitsKeepOtherLists : Type 0
WaitsKeepOtherLists = (addr other waiter now : ℕ) (same : Bool) (deadline : Option ℕ) (spot : List Waiting) → other ≢ addr → parked_at other (after_wait addr waiter same deadline now spot) ≡ parked_at other spot

-- where a wait ends, the others stay in each list in order
abbrev pub OthersStayInOrder : Type 0
OthersStayInOrder = (addr waiter : ℕ) (spot : List Waiting) → parked_at addr (without waiter spot) ≡ without waiter (parked_at addr spot)

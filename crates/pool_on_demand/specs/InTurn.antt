-- Things that are allocated one after the other, until one is refused.
use Rattle.std.specs.Prelude.{◌≡◌, ℕ, ◌+◌, List, [], ◌∷◌, ◌⊎◌, Vec, Result, Ok, Err}
use Rattle.pool_on_demand.specs.Imports.{Global, AllocError}

-- All of them were allocated, in order, of which the first has this number. `One` tells what one allocation answers, and
-- which state it leads to.
abbrev pub InTurn : {D X S : Type 0} → (ℕ → D → Result X AllocError → S → S → Type 0) → ℕ → List D → List X → S → S → Type 0
InTurn One k [] [] from to = to ≡ from
InTurn One k [] (x ∷ xs) from to = ⊥
InTurn One k (d ∷ ds) [] from to = ⊥
InTurn {D} {X} {S} One k (d ∷ ds) (x ∷ xs) from to = (between : S) × (One k d (Ok x) from between × InTurn One (k + 1) ds xs between to)

-- One of them was refused with this error, and those before it were allocated, in order.
abbrev pub StopsAtOne : {D X S : Type 0} → (ℕ → D → Result X AllocError → S → S → Type 0) → ℕ → List D → AllocError → S → S → Type 0
StopsAtOne One k [] e from to = ⊥
StopsAtOne {D} {X} {S} One k (d ∷ ds) e from to = One k d (Err e) from to ⊎ ((x : X) × ((between : S) × (One k d (Ok x) from between × StopsAtOne One (k + 1) ds e between to)))

-- All were allocated in order, or one was refused and those before it were allocated.
abbrev pub EndsInTurn : {D X S : Type 0} → (ℕ → D → Result X AllocError → S → S → Type 0) → ℕ → List D → Result (List X) AllocError → S → S → Type 0
EndsInTurn One k ds (Ok xs) from to = InTurn One k ds xs from to
EndsInTurn One k ds (Err e) from to = StopsAtOne One k ds e from to

-- what a list of things is, or their refusal
abbrev pub items_of : {X : Type 0} → Result (Vec X Global) AllocError → Result (List X) AllocError
items_of (Ok list) = Ok list.items
items_of (Err e) = Err e

-- The laws on parts of a hall: what fits may stand, what a moment shows, and what a put takes.
use Rattle.std.specs.Prelude.{◌≡◌, ℕ, List, length, map, Option, Some, None}
use Rattle.pool_hall.specs.Meaning.{StandsAt}
use Rattle.pool_hall.specs.Moment.{Moment}
use Rattle.pool_hall.specs.Step.{moved, MayPut}
use Rattle.pool_hall.specs.declared.unit_name.UnitName.{UnitName}
use Rattle.pool_slots.specs.declared.part.PoolPart.{PoolPart}
use Rattle.pool_alloc.specs.BetweenSteps.{IsFrame}
use Rattle.pool_alloc.specs.PartFlows.{FlowsOnPart}
use Rattle.pool_alloc.specs.Stepping.{CanStep}
use Rattle.pool_alloc.specs.Turns.{After}
use Rattle.pool_alloc.specs.declared.frame.Frame.{Frame}
use Rattle.pool_alloc.specs.declared.frame.FrameLists.{FrameLists}
use Rattle.pool_alloc.specs.declared.pool_core.Counters.{Counters}
use Rattle.pool_driver.specs.Carrying.{Carries, CountsFrame, Grows}
use Rattle.pool_driver.specs.Placed.{About, Fits, about_made, pool_meaning}
use Rattle.pool_driver.specs.Pools.{IsPool, core_of}

-- What fits a place may stand there: what it has given out belongs to the place and is out once, and what it keeps stands beside the right to its slot.
abbrev pub FitsStands : {T P H : Type 0} → (T → About) → (T → PoolPart P H) → Type 0
FitsStands {T} about inner = (made : List T) (limits : List ℕ) (p : ℕ) (x : T) → Fits about inner made p x → StandsAt (pool_meaning about inner) made limits p x

-- The parts of a hall of a whole pool, as any moment shows them to a seat, are those of a core. A frame that is sound, whose seat has its
-- units and what else it has beside them, can make its next step on that core, with counters that count at least what the frame has.
abbrev pub MomentsAreCores : {T P H : Type 0} → (T → About) → (T → PoolPart P H) → Type 0
MomentsAreCores {T} {P} {H} about inner = (made : List T) (limits : List ℕ) (us rest : List UnitName) (a : About) (n : Counters) (spare : Option (FrameLists P)) (f : Frame P H) (moment : Moment (pool_meaning about inner) made limits us) → about_made about made ≡ Some a → IsPool a (length made) → IsFrame a.maker a.settings a.plan f → CountsFrame n f → Carries rest us f None → CanStep a.maker (core_of a n spare (map inner moment.now)) f

-- A step on the part that a seat holds, which moves between part, frame and answer what the part has more or less: the part may be put back where it
-- stands and grows, and the seat has then what the frame and the answer have, and the rest.
abbrev pub StepsMayPut : {T P H : Type 0} → (T → About) → (T → PoolPart P H) → Type 0
StepsMayPut {T} {P} {H} about inner = (made : List T) (limits : List ℕ) (p : ℕ) (x y : T) (us rest : List UnitName) (f : Frame P H) (a : After P H) → Carries rest us f None → FlowsOnPart (inner x) (inner y) f a → StandsAt (pool_meaning about inner) made limits p y → Grows (pool_meaning about inner) x y → MayPut (pool_meaning about inner) made limits p x y us × Carries rest (moved (pool_meaning about inner) x y us) a.frame a.outcome

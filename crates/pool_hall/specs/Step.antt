-- What each step does to a view, what it needs, and what it tells.
use Rattle.std.specs.Prelude.{◌≡◌, ◌≢◌, ℕ, ◌+◌, ◌-◌, ◌%◌, ◌^◌, ◌<◌, ◌≤◌, if◌then◌else◌, nat_lt, true, List, [], ◌∷◌, ◌++◌, Some, None, slice_get, slice_index}
use Rattle.atomic_table.specs.Table.{Me, Step}
use Rattle.pool_hall.specs.declared.unit_name.UnitName.{UnitName}
use Rattle.pool_hall.specs.declared.view.HeldPart.{HeldPart}
use Rattle.pool_hall.specs.declared.view.View.{View}
use Rattle.pool_hall.specs.Sum.{often}
use Rattle.pool_hall.specs.Unit.{times, minus, pick_of, Beside}
use Rattle.pool_hall.specs.Tally.{counted, additions, low_additions, subtractions, number, all_portions}
use Rattle.pool_hall.specs.Meaning.{Meaning, StandsAt}
use Rattle.pool_hall.specs.Moment.{Moment}

module _ {T : Type 0} where
  -- A part as it was taken from its place.
  abbrev pub held_at : ℕ → T → HeldPart T
  held_at p x = record { place = p; part = x }

  -- the view, with the place p and its part x
  abbrev pub with_held : ℕ → T → View T → View T
  with_held p x v = record v { held = Some (held_at p x) }

  -- a counter that was at r is added on: the addition is low where r was below the limit
  abbrev pub add_view : ℕ → ℕ → View T → View T
  add_view c r v = record v { added = c ∷ v.added; low = if nat_lt r (slice_index v.limits c) then c ∷ v.low else v.low }

  -- A seat's view once it subtracted from a counter.
  abbrev pub subtract_view : ℕ → View T → View T
  subtract_view c v = record v { subtracted = c ∷ v.subtracted }

  -- what a seat keeps that gives this many portions away
  abbrev pub left_with : ℕ → View T → View T
  left_with n v = record v { portions = v.portions - n }

  -- a new seat: the portions, what the hall was made with, and nothing else
  abbrev pub newcomer : ℕ → View T → View T
  newcomer n v = record { parts = v.parts; limits = v.limits; held = None; units = []; rises = []; topped = []; added = []; low = []; subtracted = []; portions = n }

  -- what a seat has that took in another, which held no place
  abbrev pub joined : View T → View T → View T
  joined v w = record {
    parts = v.parts;
    limits = v.limits;
    held = v.held;
    units = v.units ++ w.units;
    rises = v.rises ++ w.rises;
    topped = v.topped ++ w.topped;
    added = v.added ++ w.added;
    low = v.low ++ w.low;
    subtracted = v.subtracted ++ w.subtracted;
    portions = v.portions + w.portions;
  }

  -- what a load of r tells a seat that has all portions
  pub record Loaded (c r : ℕ) (v : View T) : Type 0 where
    pub value : r ≡ (number (additions c) v - number (subtractions c) v) % 2 ^ 64
    pub full : number (low_additions c) v < number (additions c) v → slice_index v.limits c ≤ number (low_additions c) v

module _ {T : Type 0} (m : Meaning T) where
  -- the units after a put of y where x was taken: what y has away besides and what x kept come, what x had away and what y keeps go
  abbrev pub moved : T → T → List UnitName → List UnitName
  moved x y us = minus (us ++ (m.away y ++ m.kept x)) (m.away x ++ m.kept y)

  -- the view after a put of y at p, where x was taken
  abbrev pub put_view : ℕ → T → T → View T → View T
  put_view p x y v = record v {
    held = None;
    units = moved x y v.units;
    rises = record { place = p; before = m.counts x; after = m.counts y } ∷ v.rises;
    topped = if m.topped y then p ∷ v.topped else v.topped;
  }

  -- What a take of the part x at p tells a seat with the view v
  pub record Taken (parts : List T) (limits : List ℕ) (p : ℕ) (x : T) (v : View T) : Type 0 where
    pub stands : StandsAt m parts limits p x
    -- each unit of this place that the view has is away
    pub away : (u : UnitName) → m.place parts limits u ≡ p → times u v.units ≤ times u (m.away x)
    -- the view has each region unit that is away and whose pick unit it has
    pub mine : (u : UnitName) → u.region ≡ true → 0 < times u (m.away x) → 0 < times (pick_of u) v.units → 0 < times u v.units
    -- the view has no unit that is kept
    pub kept : (u : UnitName) → 0 < times u (m.kept x) → times u v.units ≡ 0
    pub kept_once : (u : UnitName) → times u (m.kept x) ≤ 1
    pub once : (u : UnitName) → times u v.units ≤ 1
    pub beside : Beside v.units
    pub topped : 0 < often p v.topped → m.topped x ≡ true
    -- a seat with all portions knows the counts
    pub count : v.portions ≡ all_portions → (i : ℕ) → slice_index (m.counts x) i ≡ number (counted p i) v % 2 ^ 64
    pub exact : v.portions ≡ all_portions → m.steady x ≡ true → (i : ℕ) → slice_index (m.counts x) i ≡ number (counted p i) v
    -- all parts and all units at the moment of the take, and x among the parts
    pub moment : Moment m parts limits v.units
    pub here : slice_get moment.now p ≡ Some x

  -- What a put of y at p needs, where x was taken and the view has the units us
  pub record MayPut (parts : List T) (limits : List ℕ) (p : ℕ) (x y : T) (us : List UnitName) : Type 0 where
    pub stands : StandsAt m parts limits p y
    -- each unit that came home or is kept now was in the view
    pub paid : (u : UnitName) → times u (m.away x) + times u (m.kept y) ≤ times u us + (times u (m.away y) + times u (m.kept x))
    pub beside : Beside (moved x y us)
    pub topped : m.topped x ≡ true → m.topped y ≡ true
    -- a part is steady for good, or never
    pub steady : m.steady y ≡ m.steady x
    -- no count of a steady part fell
    pub rises : m.steady y ≡ true → (i : ℕ) → slice_index (m.counts x) i ≤ slice_index (m.counts y) i

  -- What the steps tell: of the step, the seat before, the number found and the seat after
  abbrev Sits : Type 0
  Sits = Me T (View T)

  -- a swap at the place p found 0, and the seat holds the place, or it found another number, and nothing changed
  abbrev pub took : ℕ → Step T → Sits → ℕ → Sits → Type 0
  took p st v r w = (r ≡ 0 → (x : T) × (w ≡ (with_held p x v.0, (p, x) ∷ v.1)) × Taken v.0.parts v.0.limits p x v.0) × (r ≢ 0 → w ≡ v)

  -- the part that the seat held is home, and the seat holds no place
  abbrev pub gave : Step T → Sits → ℕ → Sits → Type 0
  gave st v r w = (p : ℕ) (x y : T) → v.0.held ≡ Some (held_at p x) → v.1 ≡ (p, y) ∷ [] → w ≡ (put_view p x y v.0, [])

  -- What a step on a counter tells of the moment: all parts and all units.
  abbrev pub SeesMoment : Sits → Type 0
  SeesMoment v = Moment m v.0.parts v.0.limits v.0.units

  -- What an addition on the counter c changes: the adder's view notes the counter and whether the addition was low.
  abbrev pub added : ℕ → Step T → Sits → ℕ → Sits → Type 0
  added c st v r w = (w ≡ (add_view c r v.0, v.1)) × SeesMoment v

  -- What a subtraction from the counter c changes: the view notes it.
  abbrev pub subtracted : ℕ → Step T → Sits → ℕ → Sits → Type 0
  subtracted c st v r w = (w ≡ (subtract_view c v.0, v.1)) × SeesMoment v

  -- A load of the counter c changes no view. One who has all portions learns the counter's exact value.
  abbrev pub loaded : ℕ → Step T → Sits → ℕ → Sits → Type 0
  loaded c st v r w = (w ≡ v) × (v.0.portions ≡ all_portions → Loaded c r v.0) × SeesMoment v

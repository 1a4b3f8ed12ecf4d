-- Halls and seats, as the calls' clauses see them.
use Rattle.std.specs.Prelude.{◌≡◌, ℕ, ◌<◌, List, [], ◌∷◌, length, Some, None}
use Rattle.atomic_table.specs.Lent.{seat_with}
use Rattle.pool_hall.specs.declared.hall.Hall.{Hall}
use Rattle.pool_hall.specs.declared.hall.HallSeat.{HallSeat}
use Rattle.pool_hall.specs.declared.view.View.{View}
use Rattle.pool_hall.specs.Made.{parts_of, limits_in}
use Rattle.pool_hall.specs.Meaning.{Meaning}
use Rattle.pool_hall.specs.Step.{held_at, with_held, put_view, Taken, MayPut}

module _ {T : Type 0} where
  -- the parts and the limits that the hall was made with
  abbrev pub made_with : Hall T → List T
  made_with h = parts_of h.table.shared.key

  -- The limits of the counters with which a hall was made.
  abbrev pub limits_of : Hall T → List ℕ
  limits_of h = limits_in h.table.shared.key

  -- how many places at the front have their words side by side
  abbrev pub packed_of : Hall T → ℕ
  packed_of h = h.table.shared.key.packed

  -- what the seat knows
  abbrev pub view : HallSeat T → View T
  view s = s.seat.me.0

  -- the seat is one of the hall's, and has a portion
  pub record IsSeatOf (h : Hall T) (s : HallSeat T) : Type 0 where
    pub table : s.seat.table_id ≡ h.table.shared.table_id
    pub portion : 0 < (view s).portions
    pub parts : (view s).parts ≡ made_with h
    pub limits : (view s).limits ≡ limits_of h

  -- the seat holds no place
  pub record IsFree (s : HallSeat T) : Type 0 where
    pub place : (view s).held ≡ None
    pub slots : s.seat.me.1 ≡ []

  -- the seat holds its place, whose part was the first when it was taken and is the second now
  pub record Holds (s : HallSeat T) (was is : T) : Type 0 where
    pub place : (view s).held ≡ Some (held_at s.place was)
    pub slots : s.seat.me.1 ≡ (s.place, is) ∷ []
    pub within : s.place < length (view s).parts

  -- the seat, with this part at its place
  abbrev pub with_part : HallSeat T → T → HallSeat T
  with_part s x = record { seat = seat_with s.seat s.place x; place = s.place }

  -- the seat holds what it held
  pub record SamePlace (s t : HallSeat T) : Type 0 where
    pub place : t.place ≡ s.place
    pub slots : t.seat.me.1 ≡ s.seat.me.1

  -- the part at the seat's place, as it is now
  abbrev pub HasPart : HallSeat T → T → Type 0
  HasPart s x = s.seat.me.1 ≡ (s.place, x) ∷ []

module _ {T : Type 0} (m : Meaning T) where
  -- What a take does to the seat s, which is t afterwards: it holds its place, with the part there, and is told of it
  pub record IsTaken (h : Hall T) (s t : HallSeat T) : Type 0 where
    pub part : T
    pub holds : Holds t part part
    pub told : Taken m (made_with h) (limits_of h) t.place part (view s)
    pub view : view t ≡ with_held t.place part (view s)

  -- the seat holds a place whose part may be put as it is now
  pub record CanPut (h : Hall T) (s : HallSeat T) : Type 0 where
    pub was : T
    pub part : T
    pub holds : Holds s was part
    pub may : MayPut m (made_with h) (limits_of h) s.place was part (view s).units

  -- what a put does to the seat s, which is t afterwards
  abbrev pub IsPut : HallSeat T → HallSeat T → Type 0
  IsPut s t = (was part : T) → Holds s was part → view t ≡ put_view m s.place was part (view s)

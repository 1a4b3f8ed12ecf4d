-- All parts and all units of a hall at one moment, as a seat is told of them.
use Rattle.std.specs.Prelude.{◌≡◌, ℕ, ◌+◌, List, length}
use Rattle.pool_hall.specs.declared.unit_name.UnitName.{UnitName}
use Rattle.pool_hall.specs.Unit.{times, Beside}
use Rattle.pool_hall.specs.Meaning.{Meaning, AllStand}
use Rattle.pool_hall.specs.Rule.{keeping, out}

-- What holds at a moment, as a seat with the units us is told. Each part may stand at its place. Each unit is with the seat, with the others and with parts that keep it as often in all as the part at its own place has it away. Region units stand beside their pick units
pub record Moment {T : Type 0} (m : Meaning T) (parts : List T) (limits : List ℕ) (us : List UnitName) : Type 0 where
  -- each part, as it is at home or as its holder took it
  pub now : List T
  -- the units of all other seats
  pub others : List UnitName
  pub all : length now ≡ length parts
  pub stand : AllStand m parts limits now
  pub unit : (u : UnitName) → times u us + times u others + keeping m parts limits u now ≡ out m parts limits u now
  pub own : Beside us
  pub beside : Beside others

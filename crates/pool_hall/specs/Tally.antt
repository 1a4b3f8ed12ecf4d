-- The numbers of a view that are summed over all views.
use Rattle.std.specs.Prelude.{ℕ, ◌+◌, ◌-◌, ◌%◌, ◌^◌, ◌==◌, if◌then◌else◌, List, Option, Some, None, slice_index}
use Rattle.pool_hall.specs.declared.unit_name.UnitName.{UnitName}
use Rattle.pool_hall.specs.declared.view.HeldPart.{HeldPart}
use Rattle.pool_hall.specs.declared.view.CountRise.{CountRise}
use Rattle.pool_hall.specs.declared.view.View.{View}
use Rattle.pool_hall.specs.Sum.{one_if, total, often}
use Rattle.pool_hall.specs.Unit.{times}

-- The name of one number of a view: whether it holds a place, how often it has a unit, its count at a place by the count's index, its additions, low additions and subtractions on a counter, its portions
pub data Tally : Type 0 where
  holding : ℕ → Tally
  having : UnitName → Tally
  counted : ℕ → ℕ → Tally
  additions : ℕ → Tally
  low_additions : ℕ → Tally
  subtractions : ℕ → Tally
  portion_count : Tally

-- how much a number rose, modulo 2^64
abbrev pub rise : ℕ → ℕ → ℕ
rise before after = (after + (2 ^ 64 - before)) % 2 ^ 64

-- what the count i rose at the place p in this put
abbrev pub rise_at : ℕ → ℕ → CountRise → ℕ
rise_at p i e = if p == e.place then rise (slice_index e.before i) (slice_index e.after i) else 0

module _ {T : Type 0} where
  -- 1 where the place is held
  abbrev pub one_at : ℕ → Option (HeldPart T) → ℕ
  one_at p None = 0
  one_at p (Some h) = one_if (p == h.place)

  -- the number that a tally names
  abbrev pub number : Tally → View T → ℕ
  number (holding p) v = one_at p v.held
  number (having u) v = times u v.units
  number (counted p i) v = total (rise_at p i) v.rises
  number (additions c) v = often c v.added
  number (low_additions c) v = often c v.low
  number (subtractions c) v = often c v.subtracted
  number portion_count v = v.portions

  -- that number of all views together
  abbrev pub sum : Tally → List (View T) → ℕ
  sum t views = total (number t) views

-- the portions that all seats of a hall have together
abbrev pub all_portions : ℕ
all_portions = 65536

-- What ties a call's frame to the seat that drives it, and what a part may do while a seat holds it.
use Rattle.std.specs.Prelude.{◌≡◌, ℕ, ◌+◌, ◌≤◌, true, List, Option, slice_index}
use Rattle.pool_hall.specs.Meaning.{Meaning}
use Rattle.pool_hall.specs.Sum.{total}
use Rattle.pool_hall.specs.Unit.{Beside}
use Rattle.pool_hall.specs.declared.unit_name.UnitName.{UnitName}
use Rattle.pool_alloc.specs.Places.{Thing, Counts, frame_count, frame_counted, counters_counted}
use Rattle.pool_alloc.specs.Stepping.{count_granted, grant_count}
use Rattle.pool_alloc.specs.declared.frame.Frame.{Frame}
use Rattle.pool_alloc.specs.declared.frame.Outcome.{Outcome}
use Rattle.pool_alloc.specs.declared.pool_core.Counters.{Counters}

-- What a part does besides moving units: it stays topped, and where it is steady what it counts never falls.
pub record Grows {T : Type 0} (m : Meaning T) (x y : T) : Type 0 where
  pub topped : m.topped x ≡ true → m.topped y ≡ true
  pub steady : m.steady y ≡ m.steady x
  pub rises : m.steady y ≡ true → (i : ℕ) → slice_index (m.counts x) i ≤ slice_index (m.counts y) i

module _ {P H : Type 0} where
  -- The units of the seat are those of the frame and of its answer, and the rest, which the call doesn't touch. In the rest each
  -- region stands beside the right to its slot.
  pub record Carries (rest us : List UnitName) (f : Frame P H) (o : Option (Outcome P H)) : Type 0 where
    pub units : (t : Thing) → total t us ≡ frame_count t f + count_granted (grant_count t) o + total t rest
    pub beside : Beside rest

  -- The counters are no less than what the frame has counted, whatever each weighs.
  abbrev pub CountsFrame : Counters → Frame P H → Type 0
  CountsFrame n f = (k : Counts) → frame_counted k f ≤ counters_counted k n

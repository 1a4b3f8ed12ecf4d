-- What a call leaves in a seat's view that asks for nothing.
use Rattle.std.specs.Prelude.{◌≤◌}
use Rattle.pool_hall.specs.declared.view.View.{View}
use Rattle.pool_slots.specs.declared.plan.Plan.{Plan}
use Rattle.pool_threads.specs.Asked.{Scarce}
use Rattle.pool_threads.specs.Noted.{Grows, spent}

-- Nothing is forgotten, and nothing more is used up.
pub record Spares {T : Type 0} (plan : Plan) (v w : View T) : Type 0 where
  pub grows : Grows v w
  pub within : (k : Scarce) → spent plan k w ≤ spent plan k v

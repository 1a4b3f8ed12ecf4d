-- What a hold of a place for one call does.
use Rattle.std.specs.Prelude.{◌≡◌, ℕ, List}
use Rattle.pool_hall.specs.declared.view.View.{View}
use Rattle.pool_hall.specs.Meaning.{Meaning}
use Rattle.pool_hall.specs.Step.{put_view, Taken}

-- A seat with the view v held the place p, found a part there and left it as another, by what the call does. It has the view w then
pub record IsHeld {T : Type 0} (m : Meaning T) (parts : List T) (limits : List ℕ) (p : ℕ) (does : T → T → Type 0) (v w : View T) : Type 0 where
  pub before : T
  pub after : T
  pub told : Taken m parts limits p before v
  pub did : does before after
  pub view : w ≡ put_view m p before after v

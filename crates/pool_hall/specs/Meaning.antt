-- What clauses see of a part.
use Rattle.std.specs.Prelude.{◌≡◌, ℕ, ◌^◌, ◌<◌, ◌≤◌, Bool, List, [], slice_get, slice_index, Some}
use Rattle.pool_hall.specs.declared.unit_name.UnitName.{UnitName}
use Rattle.pool_hall.specs.Unit.{times, Beside}

-- Where it says `made`, the parts and limits that the hall was made with
pub record Meaning (T : Type 0) : Type 1 where
  -- a fact about the place and the part there
  pub fits : List T → List ℕ → ℕ → T → Type 0
  -- the units that the part has given out, and those that it keeps for others
  pub away : T → List UnitName
  pub kept : T → List UnitName
  -- numbers below 2^64, and that none of them ever falls
  pub counts : T → List ℕ
  pub steady : T → Bool
  -- it never turns false
  pub topped : T → Bool
  -- the place that a unit belongs to
  pub place : List T → List ℕ → UnitName → ℕ

module _ {T : Type 0} (m : Meaning T) (parts : List T) (limits : List ℕ) where
  -- The part may stand at the place: it fits there, each unit that it has away is of this place and away once, its counts are below 2^64, and what it keeps stands beside what it needs
  pub record StandsAt (p : ℕ) (x : T) : Type 0 where
    pub fits : m.fits parts limits p x
    pub own : (u : UnitName) → 0 < times u (m.away x) → m.place parts limits u ≡ p
    pub once : (u : UnitName) → times u (m.away x) ≤ 1
    pub small : (i : ℕ) → slice_index (m.counts x) i < 2 ^ 64
    pub beside : Beside (m.kept x)

  -- a part that a hall may be made with at the place: it fits there, and no unit is away or kept and all counts are 0
  pub record IsFreshAt (p : ℕ) (x : T) : Type 0 where
    pub fits : m.fits parts limits p x
    pub none_away : m.away x ≡ []
    pub none_kept : m.kept x ≡ []
    pub at_zero : (i : ℕ) → slice_index (m.counts x) i ≡ 0

-- each part may stand at its place
abbrev pub AllStand : {T : Type 0} → Meaning T → List T → List ℕ → List T → Type 0
AllStand {T} m parts limits xs = (p : ℕ) (x : T) → slice_get xs p ≡ Some x → StandsAt m parts limits p x

-- A hall may be made with all these parts, each at its place.
abbrev pub AllFresh : {T : Type 0} → Meaning T → List T → List ℕ → Type 0
AllFresh {T} m parts limits = (p : ℕ) (x : T) → slice_get parts p ≡ Some x → IsFreshAt m parts limits p x

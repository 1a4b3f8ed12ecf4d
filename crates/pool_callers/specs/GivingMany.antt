-- Grants that are given back together, one after the other.
use Rattle.std.specs.Prelude.{◌≡◌, ℕ, ◌+◌, ◌≤◌, ◌∷◌, ◌++◌, List, []}
use Rattle.std.specs.List.{AllByRecursion}
use Rattle.pool_hall.specs.Sum.{total}
use Rattle.pool_hall.specs.Unit.{times, minus, Beside}
use Rattle.pool_hall.specs.declared.unit_name.UnitName.{UnitName}
use Rattle.pool_hall.specs.declared.view.View.{View}
use Rattle.pool_alloc.specs.Calls.{IsGrant}
use Rattle.pool_alloc.specs.Places.{Counter, Thing, only}
use Rattle.pool_alloc.specs.Stepping.{grant_count, grant_counted}
use Rattle.pool_alloc.specs.declared.frame.Asked.TheVariants.{Nothing}
use Rattle.pool_alloc.specs.declared.frame.Grant.{Grant}
use Rattle.pool_driver.specs.Appending.{PutsOff, appended_in, grant_dues, owed_by}
use Rattle.pool_driver.specs.Calling.{gives_back}
use Rattle.pool_driver.specs.Faults.{GrantKeeps}
use Rattle.pool_driver.specs.Placed.{About}
use Rattle.pool_driver.specs.Telling.{NoneTaken}
use Rattle.pool_driver.specs.UnknownPuts.{UnknownCaused}
use Rattle.pool_callers.specs.Callers.{Goes, IsBounded, left_counted}
use Rattle.pool_callers.specs.GrantUnits.{grant_units}

-- The units of grants, those of one after those of the other.
abbrev pub units_of_all : {P H : Type 0} → List (Grant P H) → List UnitName
units_of_all [] = []
units_of_all (grant ∷ grants) = grant_units grant ++ units_of_all grants

module _ {T P H : Type 0} (a : About) (grants : List (Grant P H)) where
  -- All these grants may be given back by a seat with this view: each is one of the pool, none of its regions has fewer faults than its unit
  -- tells, the units of all are the seat's, the rest of which stands beside what it needs, and all are counted there.
  pub record GivesAll (v : View T) : Type 0 where
    pub are : AllByRecursion (IsGrant a.maker a.settings a.plan) grants
    pub keep : AllByRecursion GrantKeeps grants
    pub units : (u : UnitName) → times u (units_of_all grants) ≤ times u v.units
    pub beside : Beside (minus v.units (units_of_all grants))
    pub counted : (k : Counter) → total (grant_counted (only k)) grants ≤ left_counted v k

  -- All were given back, and no queue was taken for them: their units have gone, and they are counted no more. Where resets put off what they
  -- leave, a slot was appended to a queue for each of their objects of which a reset leaves something. A region of which nothing is known was
  -- put into its cell only where a cell has faulted.
  pub record AreGivenBack (v w : View T) : Type 0 where
    pub units : (t : Thing) → total t v.units ≡ total (grant_count t) grants + total t w.units
    pub counted : (k : Counter) → left_counted v k ≡ total (grant_counted (only k)) grants + left_counted w k
    pub none : NoneTaken v w a.plan
    pub appended : PutsOff a.settings → appended_in a.plan v + total (grant_dues (owed_by a.settings)) grants ≤ appended_in a.plan w
    pub unknown : UnknownCaused v w a.plan
    pub bounds : IsBounded a.plan gives_back Nothing v w
    pub goes : Goes v w

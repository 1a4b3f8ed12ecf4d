-- A pool whose parts lie in a hall.
use Rattle.std.specs.Prelude.{◌≡◌, ℕ, ◌≤◌, List, [], length, map, Option, Some, vec_capacity}
use Rattle.pool_types.specs.declared.config.PoolingAllocationConfig.{PoolingAllocationConfig}
use Rattle.pool_types.specs.declared.module_types.Tunables.{Tunables}
use Rattle.pool_types.specs.declared.offered.Offered.{Offered}
use Rattle.pool_pages.specs.MakerTold.{MakerTold}
use Rattle.pool_hall.specs.Ending.{AllTold}
use Rattle.pool_hall.specs.Meaning.{Meaning, AllStand}
use Rattle.pool_hall.specs.Rule.{AwayIsKept, first_view}
use Rattle.pool_hall.specs.Seat.{made_with, limits_of, view, IsSeatOf, IsFree}
use Rattle.pool_hall.specs.declared.hall.Hall.{Hall}
use Rattle.pool_hall.specs.declared.view.View.{View}
use Rattle.pool_slots.specs.declared.part.PoolPart.{PoolPart}
use Rattle.pool_alloc.specs.BetweenSteps.{IsSettings, IsPoolPlan}
use Rattle.pool_alloc.specs.Calls.{lists_made}
use Rattle.pool_alloc.specs.Made.{IsMadeCore}
use Rattle.pool_alloc.specs.declared.frame.FrameLists.{FrameLists}
use Rattle.pool_alloc.specs.declared.pool_core.Counters.{Counters}
use Rattle.pool_alloc.specs.declared.pool_core.PoolCore.{PoolCore}
use Rattle.pool_driver.specs.Counts.{counter_limits}
use Rattle.pool_driver.specs.Origins.{about_of, inner_of}
use Rattle.pool_driver.specs.Placed.{About, about_by, about_made}
use Rattle.pool_driver.specs.declared.open_pool.OpenPool.{OpenPool}
use Rattle.pool_driver.specs.declared.part.HallPart.{HallPart}
use Rattle.pool_driver.specs.declared.shared_pool.SharedPool.{SharedPool}

-- With what a pool was made: its configuration, and about how many shards were asked for.
pub record Making : Type 0 where
  pub config : PoolingAllocationConfig
  pub tunables : Tunables
  pub offered : Offered
  pub shards : ℕ

-- What is so of a pool with so many parts for good, whatever its parts are: its settings make sense, and its plan is right.
pub record IsPool (a : About) (places : ℕ) : Type 0 where
  pub settings : IsSettings a.settings
  pub page : a.settings.page ≡ a.maker.page
  pub plan : IsPoolPlan a.plan places
  pub stripes : length a.plan.memories ≡ a.settings.num_stripes

module _ {P H : Type 0} where
  -- Which pool the parts of a core are of.
  abbrev pub about_core : MakerTold → PoolCore P H → About
  about_core maker c = about_by maker c.settings c.plan

  -- The core is as it was made, with whatever configuration.
  abbrev pub IsAsMade : MakerTold → PoolCore P H → Type 0
  IsAsMade maker c = (of : Making) × IsMadeCore maker of.config of.tunables of.offered of.shards c

  -- The core that has these parts, counters and spare lists.
  abbrev pub core_of : About → Counters → Option (FrameLists P) → List (PoolPart P H) → PoolCore P H
  core_of a n spare parts = record { parts = parts; counters = n; settings = a.settings; plan = a.plan; spare = spare }

-- The hall has the parts of this pool, and its counters have the pool's limits.
pub record IsHallOf {T : Type 0} (about : T → About) (a : About) (h : Hall T) : Type 0 where
  pub made : about_made about (made_with h) ≡ Some a
  pub pool : IsPool a (length (made_with h))
  pub limits : limits_of h ≡ counter_limits a.settings

-- The pool that callers share is this one.
pub record IsSharedOf {P H M : Type 0} (told : M → MakerTold) (a : About) (p : SharedPool (Hall (HallPart P H M))) : Type 0 where
  pub hall : IsHallOf (about_of told) a p.hall
  pub settings : p.settings ≡ a.settings
  pub plan : p.plan ≡ a.plan

-- A pool whose parts lie in a hall, with a seat that holds none of them. What lies in no hall is as the pool was made with, and there is room
-- for all parts to come back.
pub record IsOpen {P H M R : Type 0} (told : M → MakerTold) (a : About) (o : OpenPool P H M R) : Type 0 where
  pub pool : IsSharedOf told a o.pool
  pub lists : o.lists ≡ lists_made a.settings
  pub empty : o.room.items ≡ []
  pub room : length (made_with o.pool.hall) ≤ vec_capacity o.room
  pub own : IsSeatOf o.pool.hall o.seat
  pub free : IsFree o.seat

-- A pool that was made with this configuration, and opened: its hall has the parts that were made, and its seat knows nothing else.
pub record IsMadeOpen {P H M R : Type 0} (told : M → MakerTold) (maker : MakerTold) (config : PoolingAllocationConfig) (tunables : Tunables) (offered : Offered) (shards : ℕ) (o : OpenPool P H M R) : Type 0 where
  pub core : PoolCore P H
  pub made : IsMadeCore maker config tunables offered shards core
  pub is_open : IsOpen told (about_core maker core) o
  pub parts : map inner_of (made_with o.pool.hall) ≡ core.parts
  pub view : view o.seat ≡ first_view (made_with o.pool.hall) (limits_of o.pool.hall)

-- The parts of a hall as it is closed: what they have away they keep, and the view tells what they counted.
pub record ClosesWith {T : Type 0} (m : Meaning T) (h : Hall T) (v : View T) : Type 0 where
  pub parts : List T
  pub all : length parts ≡ length (made_with h)
  pub stand : AllStand m (made_with h) (limits_of h) parts
  pub units : AwayIsKept m (made_with h) (limits_of h) parts
  pub told : AllTold m (limits_of h) v parts

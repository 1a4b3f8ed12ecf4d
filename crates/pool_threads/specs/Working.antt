-- A party that works on a thread of its own, over a pool that others use at the same time: what its seat has, and what it was told.
use Rattle.std.specs.Prelude.{◌≡◌, ℕ, List, [], ◌∷◌, ◌++◌, length, sum_by, All, true, false, Option, Some, None, IfSome, slice_get, slice_index_or}
use Rattle.pool_hall.specs.declared.unit_name.UnitName.{UnitName}
use Rattle.pool_hall.specs.declared.view.View.{View}
use Rattle.pool_slots.specs.declared.listed_heaps.ListedHeaps.{ListedHeaps}
use Rattle.pool_slots.specs.declared.listed_heaps.PlainHeap.{PlainHeap}
use Rattle.pool_slots.specs.declared.plan.Plan.{Plan}
use Rattle.pool_limits.specs.Growth.{GrowthRule}
use Rattle.pool_alloc.specs.Places.{Counts, only}
use Rattle.pool_alloc.specs.Stepping.{grant_counted}
use Rattle.pool_alloc.specs.declared.frame.Frame.{Frame}
use Rattle.pool_alloc.specs.declared.frame.Grant.{Grant}
use Rattle.pool_alloc.specs.declared.frame.Outcome.{Outcome}
use Rattle.pool_alloc.specs.declared.pool_core.PoolCore.{PoolCore}
use Rattle.pool_alloc.specs.declared.pool_core.Settings.{Settings}
use Rattle.pool_driver.specs.Beside.{StandsBeside}
use Rattle.pool_driver.specs.Calling.{GoesOnSince, HasEnded}
use Rattle.pool_driver.specs.Driving.{Given, IsDriven}
use Rattle.pool_driver.specs.Faults.{GrantKeeps}
use Rattle.pool_driver.specs.Placed.{About, about_by}
use Rattle.pool_driver.specs.Pools.{core_of}
use Rattle.pool_callers.specs.GrantUnits.{grant_units}
use Rattle.pool_run.specs.Folds.{seen_by}
use Rattle.pool_run.specs.Private.{no_grants}
use Rattle.pool_run.specs.Rooms.{World}
use Rattle.pool_run.specs.Ties.{IsParty, IsPrivate, granted_to}
use Rattle.pool_run.specs.Turns.{StepsUnder, granted_reply, host_of_party}
use Rattle.pool_run.specs.Worlds.{IsWorldOf}
use Rattle.pool_run.specs.declared.command.Command.{Command}
use Rattle.pool_run.specs.declared.reply.Reply.{Reply}
use Rattle.pool_run.specs.declared.running_party.RunningParty.{RunningParty}
use Rattle.pool_threads.specs.GrowthFaults.{AreGrowthsListed}
use Rattle.pool_threads.specs.Noted.{Grows}

-- What all parties work on: the world of their run, and the settings and the plan of the pool.
pub record Job : Type 0 where
  pub world : World
  pub settings : Settings
  pub plan : Plan

-- What a party's call is of: the job, and what else the party's seat has beside it.
pub record CallOf : Type 0 where
  pub job : Job
  pub given : Given

-- Which pool that is.
abbrev pub about_job : Job → About
about_job j = about_by j.world.maker j.settings j.plan

-- The pool without its parts: the world of a run is that of a pool by settings and plan alone.
abbrev pub bare_pool : {P : Type 0} → Job → PoolCore P PlainHeap
bare_pool j = core_of (about_job j) (record { key = 0; core_instances = 0; component_instances = 0; memories = 0; tables = 0; stacks = 0; gc_heaps = 0 }) None []

-- The world is the pool's, and no party is alone or knows what others have counted.
pub record IsJob (P : Type 0) (j : Job) : Type 0 where
  pub world : IsWorldOf {P = P} j.world (bare_pool j)
  pub alone : j.world.alone ≡ false
  pub counts : j.world.counts ≡ false

module _ {P : Type 0} where
  -- The units of live grants.
  abbrev pub live_units : List (Option (Grant P PlainHeap)) → List UnitName
  live_units [] = []
  live_units (None ∷ live) = live_units live
  live_units (Some grant ∷ live) = grant_units grant ++ live_units live

  -- What is counted of them.
  abbrev pub live_counted : List (Option (Grant P PlainHeap)) → Counts
  live_counted live k = sum_by (granted_to (grant_counted (only k))) live

  -- What the seat of a party with these live grants has beside the party's call.
  abbrev pub given_by : Job → List (Option (Grant P PlainHeap)) → Given
  given_by j live = record { about = about_job j; rest = live_units live; counted = live_counted live }

  -- A step of a party's call, over a limiter with this rule and a maker of heaps that was in one state before and is in the other after,
  -- is one of the table, on a core that has given out what its seat has.
  pub record StepsHere (g : Given) (rule : GrowthRule) (before after : ListedHeaps) (f next : Frame P PlainHeap) (o : Option (Outcome P PlainHeap)) : Type 0 where
    pub core : PoolCore P PlainHeap
    pub left : PoolCore P PlainHeap
    pub stands : StandsBeside g core f
    pub row : StepsUnder rule before after core f (record { core = left; frame = next; outcome = o })

  -- What a step tells of the call that it is one of: where the call went on, it goes on, or has ended with this answer. Its seat has
  -- forgotten nothing.
  pub record TellsOn {T : Type 0} (a : About) (v w : View T) (f next : Frame P PlainHeap) (o : Option (Outcome P PlainHeap)) : Type 0 where
    pub grows : Grows v w
    pub goes : (base : View T) (first : Frame P PlainHeap) → GoesOnSince a base v first f → o ≡ None → GoesOnSince a base w first next
    pub ended : (base : View T) (first : Frame P PlainHeap) (answer : Outcome P PlainHeap) → GoesOnSince a base v first f → o ≡ Some answer → HasEnded a base w first next answer

  -- Somewhere the frame's step can be made, and what else its seat has is given out.
  abbrev pub StandsSomewhere : Given → Frame P PlainHeap → Type 0
  StandsSomewhere g f = (c : PoolCore P PlainHeap) × StandsBeside g c f

  -- A party's seat has what its call and its live grants have, and no more, and is driven by its frame; and on some core of the pool, of
  -- which that is given out, the party is sound and its next step can be made. No region of a live grant has lost faults.
  pub record IsAtWork {T : Type 0} (j : Job) (places : ℕ) (v : View T) (p : RunningParty P) : Type 0 where
    pub core : PoolCore P PlainHeap
    pub stands : StandsBeside (given_by j p.live) core p.frame
    pub party : IsParty j.world.maker (bare_pool j) p
    pub driven : IsDriven places (given_by j p.live) v p.frame None
    pub keeps : All (λ g. IfSome g GrantKeeps) p.live

  -- The reply to each command with a live grant is that of its grant, which names the grant's slots.
  abbrev pub NamesLive : List Reply → List (Option (Grant P PlainHeap)) → Type 0
  NamesLive replies live = (i : ℕ) → IfSome (slice_index_or live i None) (λ g. slice_get replies i ≡ Some (granted_reply g))

  -- It is the party that it was: its host answers alike, and its stripe stays, once it is drawn.
  pub record StaysSame (p q : RunningParty P) : Type 0 where
    pub host : host_of_party q ≡ host_of_party p
    pub stripe : p.keyed ≡ true → q.frame.stripe ≡ p.frame.stripe

  -- What the party was told so far is a private run of its commands, and the replies name the slots of its live grants. In each run with these
  -- replies the growths of a memory that met a fault are no more than the plan of its region allows. Before it draws its stripe it has done
  -- nothing.
  pub record IsToldSoFar (j : Job) (commands : List Command) (replies : List Reply) (p : RunningParty P) : Type 0 where
    pub room : length p.live ≡ length commands
    pub private : IsPrivate (seen_by p j.world) (no_grants commands) commands replies p
    pub named : NamesLive replies p.live
    pub growths : AreGrowthsListed (seen_by p j.world) commands replies p.live
    pub fresh : p.keyed ≡ false → p.done ≡ 0

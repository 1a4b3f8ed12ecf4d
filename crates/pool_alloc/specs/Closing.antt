-- A pool that is closed: its queues are flushed, one after the other, each as by a give-back that has nothing else to give
-- back.
use Rattle.std.specs.Prelude.{◌≡◌, ℕ, ◌+◌, ◌<◌, ◌==◌, List, [], ◌∷◌, length, Bool, true, if◌then◌else◌}
use Rattle.pool_alloc.specs.Imports.{list_all, MakerTold, used_count, all_away, all_kept, queue_tried, Queue, after_take, taken_into, part_at, Plan, PoolPart}
use Rattle.pool_slots.specs.declared.part.PoolPart.TheVariants as part
use Rattle.pool_alloc.specs.BetweenSteps.{IsCore, IsFrame, IsPoolPlan, IsPartAt}
use Rattle.pool_alloc.specs.StepReads.{queue_at, with_queue, counting_instances}
use Rattle.pool_alloc.specs.Turns.{gone_to, is_flushed}
use Rattle.pool_alloc.specs.PoolAndHolders.{Holding, held_by, IsPartitioned}
use Rattle.pool_alloc.specs.declared.pool_core.PoolCore.{PoolCore}
use Rattle.pool_alloc.specs.declared.pool_core.Settings.{Settings}
use Rattle.pool_alloc.specs.declared.frame.Asked.{Asked}
use Rattle.pool_alloc.specs.declared.frame.Asked.TheVariants.{Nothing as nothing_asked}
use Rattle.pool_alloc.specs.declared.frame.Ending.{Ending}
use Rattle.pool_alloc.specs.declared.frame.Ending.TheVariants.{Returned as returned}
use Rattle.pool_alloc.specs.declared.leases.instance.InstanceLease.{InstanceLease}
use Rattle.pool_alloc.specs.declared.frame.Frame.{Frame}
use Rattle.pool_alloc.specs.declared.frame.Phase.{Phase}
use Rattle.pool_alloc.specs.declared.frame.Phase.TheVariants.{Idle, Flush, UncountInstance}

-- how far a closing is, of a pool whose regions this maker makes: so many queues are flushed, or the next one is
pub record Closer : Type 0 where
  pub maker : MakerTold
  pub emptied : ℕ

-- a give-back that only flushes asks for nothing, and has nothing
pub record IsBare {P : Type 0} (what : Asked) (end : Ending) (objects : InstanceLease P) : Type 0 where
  pub asked : what ≡ nothing_asked
  pub ending : end ≡ returned
  pub no_memories : objects.memories.items ≡ []
  pub no_tables : objects.tables.items ≡ []

module _ {P H : Type 0} where
  -- No slot of a part is used.
  abbrev pub has_free : PoolPart P H → Bool
  has_free (part.Shard s) = used_count s == 0
  has_free _ = true

  -- No slot of any part is used.
  abbrev pub all_free : List (PoolPart P H) → Bool
  all_free parts = list_all has_free parts

  -- No slot is used, each region is in its cell, and the queues are empty.
  pub record AreAtHome (parts : List (PoolPart P H)) : Type 0 where
    pub free : all_free parts ≡ true
    pub none_away : all_away parts ≡ []
    pub none_kept : all_kept parts ≡ []

  -- All parts of a pool of this maker, with these settings and this plan, each what the plan has its place for.
  pub record ArePartsOf (maker : MakerTold) (s : Settings) (planned : Plan) (parts : List (PoolPart P H)) : Type 0 where
    pub plan : IsPoolPlan planned (length parts)
    pub each : (p : ℕ) → p < length parts → IsPartAt maker s planned p (part_at p parts)

  -- Nobody has anything of the pool: what it has given out is in its queues, and nothing is counted.
  abbrev pub IsGivenBack : PoolCore P H → Type 0
  IsGivenBack c = IsPartitioned (λ (h : Holding). h) c []

  -- The place of the queue after n others.
  abbrev pub nth_queue : ℕ → PoolCore P H → ℕ
  nth_queue n c = queue_tried c.plan 0 n

  -- The first n queues hold no slots.
  abbrev pub AreEmptied : ℕ → PoolCore P H → Type 0
  AreEmptied n c = (j : ℕ) → j < n → (queue_at (nth_queue j c) c).slots ≡ []

  -- The phase is one of those that a closing goes through.
  abbrev pub IsClosingAt : Phase P H → Type 0
  IsClosingAt Idle = Unit {0}
  IsClosingAt Flush = Unit {0}
  IsClosingAt UncountInstance = Unit {0}
  IsClosingAt _ = ⊥

  -- The frame flushes a queue of the closing pool, and does nothing else.
  abbrev pub IsFlushing : Frame P H → Type 0
  IsFlushing f = IsClosingAt f.phase × IsBare f.asked f.ending f.objects

  -- The frame has all that the queues haven't, and the first n queues are empty.
  pub record IsClosing (maker : MakerTold) (n : ℕ) (c : PoolCore P H) (f : Frame P H) : Type 0 where
    pub core : IsCore maker c
    pub frame : IsFrame maker c.settings c.plan f
    pub flushing : IsFlushing f
    pub whole : IsPartitioned (λ (h : Holding). h) c (held_by f ∷ [])
    pub emptied : AreEmptied n c

  -- The closing flushed so many queues, and flushes none at this moment.
  abbrev pub IsClosed : MakerTold → ℕ → PoolCore P H → Frame P H → Type 0
  IsClosed maker n c f = IsClosing maker n c f × (f.phase ≡ Idle)

  -- The pool once a queue was taken whole to be flushed, as if an instance of nothing were given back.
  abbrev pub queue_taken : ℕ → PoolCore P H → PoolCore P H
  queue_taken p c = counting_instances (c.counters.core_instances + 1) (with_queue p (after_take (queue_at p c)) c)

  -- The frame once it took over a queue that is to be flushed.
  abbrev pub frame_taking : Queue → Frame P H → Frame P H
  frame_taking queue f = record f { asked = nothing_asked; local = taken_into f.local queue; ending = returned }

  -- What comes next for a queue that was taken: it is flushed where it holds something, else its call is counted off.
  abbrev pub closing_phase : Bool → Phase P H
  closing_phase is_flushed = if is_flushed then UncountInstance else Flush

  -- The frame that begins to flush a queue of the closing pool.
  abbrev pub frame_closing : Queue → Frame P H → Frame P H
  frame_closing queue f = let g : Frame P H = frame_taking queue f in gone_to (closing_phase (is_flushed g)) g

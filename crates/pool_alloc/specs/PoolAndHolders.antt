-- A pool with all that have something of it.
use Rattle.std.specs.Prelude.{◌≡◌, ℕ, ◌+◌, ◌≤◌, List, [], sum_by}
use Rattle.pool_alloc.specs.Imports.{warm_count, all_away, all_kept, home_of, SlotName}
use Rattle.pool_alloc.specs.Places.{right_to, region_of, Counts, Weight, of_units, kept_count, away_weight, counters_counted, frame_weight}
use Rattle.pool_alloc.specs.Stepping.{grant_weight, grant_instances, grant_components, grant_memories, grant_tables, grant_stacks, grant_heaps}
use Rattle.pool_alloc.specs.StepReads.{shard_at}
use Rattle.pool_alloc.specs.declared.pool_core.PoolCore.{PoolCore}
use Rattle.pool_alloc.specs.declared.frame.Frame.{Frame}
use Rattle.pool_alloc.specs.declared.frame.Grant.{Grant}
use Rattle.pool_alloc.specs.declared.metrics.Metrics.{Metrics}

-- how much someone has of each thing, and has counted, whatever each weighs
abbrev pub Holding : Type 0
Holding = Weight → ℕ

-- no region without its slot
abbrev pub HasSlots : Holding → Type 0
HasSlots h = (name : SlotName) → h (of_units (region_of name)) ≤ h (of_units (right_to name))

-- two holdings make a third
abbrev pub AddUp : Holding → Holding → Holding → Type 0
AddUp some more all = (w : Weight) → all w ≡ some w + more w

module _ {P H : Type 0} where
  -- What a party's call has of the pool.
  abbrev pub held_by : Frame P H → Holding
  held_by f w = frame_weight w f

  -- What a live grant has of the pool.
  abbrev pub held_by_grant : Grant P H → Holding
  held_by_grant g w = grant_weight w g

  -- The numbers of a pool count its live grants: the instances and the components, and the memories, the tables, the stacks
  -- and the heaps in them.
  pub record CountsGrants (grants : List (Grant P H)) (m : Metrics) : Type 0 where
    pub instances : m.core_instances ≡ sum_by grant_instances grants
    pub components : m.component_instances ≡ sum_by grant_components grants
    pub memories : m.memories ≡ sum_by grant_memories grants
    pub tables : m.tables ≡ sum_by grant_tables grants
    pub stacks : m.stacks ≡ sum_by grant_stacks grants
    pub heaps : m.gc_heaps ≡ sum_by grant_heaps grants

  -- how often a slot stands among the warm ones of the shard where it is at home
  abbrev pub times_warm : SlotName → PoolCore P H → ℕ
  times_warm name c = warm_count (home_of c.plan name).local.0 (shard_at (home_of c.plan name).place c).warm

  -- What the pool has given out is in one place: in a queue, or with one of those that hold something. The counters are
  -- the numbers of what they have counted.
  abbrev pub IsPartitioned : {X : Type 0} → (X → Holding) → PoolCore P H → List X → Type 0
  IsPartitioned has c holders = (w : Weight) → kept_count w.unit c + sum_by (λ x. has x w) holders ≡ away_weight w c

  -- Nothing is given out, nothing is queued, and nothing is counted, as where the pool is made.
  pub record IsUntouched (c : PoolCore P H) : Type 0 where
    pub none_away : all_away c.parts ≡ []
    pub none_kept : all_kept c.parts ≡ []
    pub counted : (n : Counts) → counters_counted n c.counters ≡ 0

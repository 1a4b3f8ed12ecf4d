-- How far a call has searched the pool for a slot, where no other party could free one meanwhile.
use Rattle.std.specs.Prelude.{IsSome, ◌≡◌, ℕ, ◌<◌, []}
use Rattle.pool_index.specs.Shard.{ShardState, use_of}
use Rattle.pool_alloc.specs.StepReads.{shard_at, queue_at, allocator_for, shard_tried, queue_tried}
use Rattle.pool_alloc.specs.declared.pool_core.PoolCore.{PoolCore}
use Rattle.pool_alloc.specs.declared.frame.Ending.{Ending}
use Rattle.pool_alloc.specs.declared.frame.Ending.TheVariants.{Granted as granted}
use Rattle.pool_alloc.specs.declared.frame.Frame.{Frame}
use Rattle.pool_alloc.specs.declared.frame.Phase.{Phase}
use Rattle.pool_alloc.specs.declared.frame.Phase.TheVariants.{Pick, TakeQueue, Flush}

-- each slot of the shard is used
abbrev pub HasNoSlot : ShardState → Type 0
HasNoSlot s = (k : ℕ) → k < s.capacity → IsSome (use_of s k)

-- what is known of a search, while the call is to end with a grant
abbrev pub IsSearchedBy : Ending → Type 0 → Type 0
IsSearchedBy granted known = known
IsSearchedBy _ known = Unit {0}

module _ {P H : Type 0} where
  -- The first n shards that are tried are full.
  abbrev pub AreFull : ℕ → PoolCore P H → Frame P H → Type 0
  AreFull n c f = (j : ℕ) → j < n → HasNoSlot (shard_at (shard_tried j c.plan f) c)

  -- The first n queues after the party's home one hold no slots.
  abbrev pub AreEmpty : ℕ → PoolCore P H → Frame P H → Type 0
  AreEmpty n c f = (j : ℕ) → j < n → (queue_at (queue_tried j c.plan f) c).slots ≡ []

  -- Where the next shard is tried, those tried before are full, and the queues that were taken before are empty.
  abbrev pub IsSearchedAt : Phase P H → PoolCore P H → Frame P H → Type 0
  IsSearchedAt (Pick tried) c f = AreEmpty f.queues c f × AreFull tried c f
  IsSearchedAt TakeQueue c f = AreEmpty f.queues c f × AreFull (allocator_for c.plan f).shards c f
  IsSearchedAt Flush c f = IsSearchedBy f.ending (AreEmpty f.queues c f)
  IsSearchedAt _ c f = Unit {0}

  -- All that the call has gone through so far holds no slot for it.
  abbrev pub IsSearched : PoolCore P H → Frame P H → Type 0
  IsSearched c f = IsSearchedAt f.phase c f

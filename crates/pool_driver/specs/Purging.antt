-- What a seat's view tells of a purge that found few slots: each shard of memories was asked for each memory that a module may have, until it
-- had no slot of it.
use Rattle.std.specs.Prelude.{ℕ, ◌+◌, ◌-◌, ◌^◌, ◌<◌, ◌≤◌, length, min}
use Rattle.pool_hall.specs.declared.view.View.{View}
use Rattle.pool_index.specs.Part.{affine_misses}
use Rattle.pool_slots.specs.declared.plan.Plan.{Plan}
use Rattle.pool_alloc.specs.StepReads.{stripe_allocator}
use Rattle.pool_alloc.specs.declared.frame.Outcome.{Outcome}
use Rattle.pool_alloc.specs.declared.frame.Outcome.TheVariants.{Purged}
use Rattle.pool_alloc.specs.declared.frame.Phase.{Phase}
use Rattle.pool_alloc.specs.declared.frame.Phase.TheVariants.{Purge}
use Rattle.pool_alloc.specs.declared.purge.PurgeCursor.{PurgeCursor}
use Rattle.pool_alloc.specs.declared.purge.PurgeStep.{PurgeStep}
use Rattle.pool_alloc.specs.declared.purge.PurgeStep.TheVariants.{Pick, TakeRegion, Forget, PutRegion, Free}
use Rattle.pool_driver.specs.Telling.{ShardsHaveMore, StripesHaveMore}

-- What is known of a call that is answered with how many slots it purged.
abbrev pub IfPurged : {P H : Type 0} → (ℕ → Type 0) → Outcome P H → Type 0
IfPurged known (Purged n) = known n
IfPurged known _ = Unit {0}

-- So many are fewer than the slots of each stripe.
abbrev pub AreFewer : Plan → ℕ → Type 0
AreFewer plan n = (stripe : ℕ) → stripe < length plan.memories → n < (stripe_allocator plan stripe).capacity

-- Of a call that began with the first view, and has the second now
module _ {T : Type 0} (base v : View T) (plan : Plan) where
  -- The first shards of a stripe, so many of them, had no slot of a memory so often at least.
  abbrev pub ShardsMissed : ℕ → ℕ → ℕ → Type 0
  ShardsMissed stripe n times = ShardsHaveMore base v plan affine_misses times stripe n

  -- So it is with all shards of the first stripes, so many of them.
  abbrev pub StripesMissed : ℕ → ℕ → Type 0
  StripesMissed n times = StripesHaveMore base v plan affine_misses times n

  -- A purge found so many slots. Where these are fewer than each stripe has, each shard of memories has missed as often as a module may have
  -- memories.
  abbrev pub HasMissed : ℕ → ℕ → Type 0
  HasMissed per_module n = AreFewer plan n → StripesMissed (length plan.memories) per_module

  -- A purge has found a slot in each of so many turns for its memory. Where it found fewer than each stripe has, the shards of the stripes
  -- before have missed each memory, those of its stripe each memory before, and so many of those also this one.
  pub record HasPurged (per_module : ℕ) (p : PurgeCursor) (tried turns : ℕ) : Type 0 where
    pub small : p.purged < 2 ^ 64
    pub found : min turns (2 ^ 64 - 1) ≤ p.purged
    pub before : AreFewer plan p.purged → StripesMissed p.stripe per_module
    pub stripe : AreFewer plan p.purged → ShardsMissed p.stripe (stripe_allocator plan p.stripe).shards p.memory
    pub shards : AreFewer plan p.purged → ShardsMissed p.stripe tried (p.memory + 1)

  -- What is known before each step of a purge. Where a slot was found, the turn has one.
  abbrev pub StepMissed : {P : Type 0} → ℕ → PurgeCursor → PurgeStep P → Type 0
  StepMissed per_module p (Pick tried) = HasPurged per_module p tried p.turn
  StepMissed per_module p (TakeRegion name) = HasPurged per_module p 0 (p.turn + 1)
  StepMissed per_module p (Forget at held) = HasPurged per_module p 0 (p.turn + 1)
  StepMissed per_module p (PutRegion at held) = HasPurged per_module p 0 (p.turn + 1)
  StepMissed per_module p (Free name) = HasPurged per_module p 0 (p.turn + 1)

  -- The same before the step of a phase. Of another call nothing is known.
  abbrev pub PhaseMissed : {P H : Type 0} → ℕ → Phase P H → Type 0
  PhaseMissed per_module (Purge p step) = StepMissed per_module p step
  PhaseMissed per_module _ = Unit {0}

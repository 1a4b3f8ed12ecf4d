-- What a seat's view tells of a release: each shard of memories was asked for all its warm slots.
use Rattle.std.specs.Prelude.{ℕ, ◌+◌, length}
use Rattle.pool_hall.specs.declared.view.View.{View}
use Rattle.pool_index.specs.Part.{warm_takes}
use Rattle.pool_slots.specs.declared.plan.Plan.{Plan}
use Rattle.pool_alloc.specs.declared.frame.Outcome.{Outcome}
use Rattle.pool_alloc.specs.declared.frame.Outcome.TheVariants.{Released}
use Rattle.pool_alloc.specs.declared.frame.Phase.{Phase}
use Rattle.pool_alloc.specs.declared.frame.Phase.TheVariants.{Release}
use Rattle.pool_alloc.specs.declared.release.ReleaseStep.{ReleaseStep}
use Rattle.pool_alloc.specs.declared.release.ReleaseStep.TheVariants.{Reserve, TakeWarm, TakeRegion, Decommit, PutRegion, Free}
use Rattle.pool_driver.specs.Telling.{ShardsHaveMore, StripesHaveMore}

-- What is known of a call that is answered with what it released.
abbrev pub IfReleased : {P H : Type 0} → Type 0 → Outcome P H → Type 0
IfReleased known (Released n) = known
IfReleased known _ = Unit {0}

-- Of a call that began with the first view, and has the second now
module _ {T : Type 0} (base v : View T) (plan : Plan) where
  -- Each of the first shards of a stripe, so many of them, gave all its warm slots at once, and has counted that.
  abbrev pub ShardsTaken : ℕ → ℕ → Type 0
  ShardsTaken stripe n = ShardsHaveMore base v plan warm_takes 1 stripe n

  -- So did all shards of the first stripes, so many of them.
  abbrev pub StripesTaken : ℕ → Type 0
  StripesTaken n = StripesHaveMore base v plan warm_takes 1 n

  -- So did all shards of memories.
  abbrev pub HasTakenWarm : Type 0
  HasTakenWarm = StripesTaken (length plan.memories)

  -- What is known before each step of a release: the shards behind it gave their warm slots.
  abbrev pub StepTaken : {P : Type 0} → ReleaseStep P → Type 0
  StepTaken Reserve = Unit {0}
  StepTaken (TakeWarm r j) = StripesTaken r.stripe × ShardsTaken r.stripe j
  StepTaken (TakeRegion r k) = StripesTaken (r.stripe + 1)
  StepTaken (Decommit r k at held) = StripesTaken (r.stripe + 1)
  StepTaken (PutRegion r k at held) = StripesTaken (r.stripe + 1)
  StepTaken (Free r x) = StripesTaken (r.stripe + 1)

  -- The same before the step of a phase. Of another call nothing is known.
  abbrev pub PhaseTaken : {P H : Type 0} → Phase P H → Type 0
  PhaseTaken (Release step) = StepTaken step
  PhaseTaken _ = Unit {0}

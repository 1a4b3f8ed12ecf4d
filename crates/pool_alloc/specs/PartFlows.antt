-- What a step moves, on the one part that it changes.
use Rattle.std.specs.Prelude.{◌≡◌, ◌+◌}
use Rattle.pool_alloc.specs.Imports.{total, part_away, part_kept, PoolPart}
use Rattle.pool_alloc.specs.Places.{Thing, frame_count}
use Rattle.pool_alloc.specs.Stepping.{count_granted, grant_count}
use Rattle.pool_alloc.specs.Turns.{After}
use Rattle.pool_alloc.specs.declared.frame.Frame.{Frame}

-- What the part gives out more, it keeps itself, or the call has it, with its answer.
pub record FlowsOnPart {P H : Type 0} (old new : PoolPart P H) (f : Frame P H) (a : After P H) : Type 0 where
  pub places : (t : Thing) → total t (part_kept new) + (frame_count t a.frame + count_granted (grant_count t) a.outcome) + total t (part_away old) ≡ total t (part_kept old) + frame_count t f + total t (part_away new)

-- What a step moves, on the one part that it changes; and where it changes none.
use Rattle.std.proofs.Common.{◌≡◌, ℕ, ◌+◌, ◌<◌, List, length, ap, arith, set}
use Rattle.pool_alloc.proofs.Imports.{total, all_away, all_kept, part_away, part_kept, part_at, PoolPart, away_follows, kept_follows}
use Rattle.pool_alloc.specs.PartFlows.{FlowsOnPart}
use Rattle.pool_alloc.specs.Places.{Thing, frame_count}
use Rattle.pool_alloc.specs.Stepping.{Conserves, count_granted, grant_count}
use Rattle.pool_alloc.specs.Turns.{After}
use Rattle.pool_alloc.specs.declared.pool_core.PoolCore.{PoolCore}
use Rattle.pool_alloc.specs.declared.frame.Frame.{Frame}
use Rattle.pool_alloc.proofs.Weights.{conserves_units}

module _ {P H : Type 0} where
  pub flows_on_part : (c : PoolCore P H) (f : Frame P H) (a : After P H) (place : ℕ) (x : PoolPart P H) → Conserves c f a → place < length c.parts → a.core.parts ≡ set c.parts place x → FlowsOnPart (part_at place c.parts) x f a
  flows_on_part c f a place x conserves below is =
      let old : PoolPart P H = part_at place c.parts in
      record {
        places = λ t. omega (
          arith,
          conserves_units c f a conserves t,
          ap (λ (xs : List (PoolPart P H)). total t (all_away xs)) is,
          ap (λ (xs : List (PoolPart P H)). total t (all_kept xs)) is,
          away_follows P H t place (λ y. x) c.parts (total t (part_away x)) (total t (part_away old)) below (omega arith),
          kept_follows P H t place (λ y. x) c.parts (total t (part_kept x)) (total t (part_kept old)) below (omega arith),
        );
      }

  pub flows_on_none : (c : PoolCore P H) (f : Frame P H) (a : After P H) (t : Thing) → Conserves c f a → a.core.parts ≡ c.parts → frame_count t a.frame + count_granted (grant_count t) a.outcome ≡ frame_count t f
  flows_on_none c f a t conserves is = omega (arith, conserves_units c f a conserves t, ap (λ (xs : List (PoolPart P H)). total t (all_away xs)) is, ap (λ (xs : List (PoolPart P H)). total t (all_kept xs)) is)

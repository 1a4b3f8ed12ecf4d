-- What else a seat has is away at each moment that the hall shows it.
use Rattle.std.proofs.Common.{◌≡◌, ℕ, ◌+◌, ◌≤◌, false, List, [], map, arith, Option, None}
use Rattle.pool_hall.specs.Sum.{total}
use Rattle.pool_hall.specs.Moment.{Moment}
use Rattle.pool_hall.specs.declared.unit_name.UnitName.{UnitName}
use Rattle.pool_limits.specs.Exchanges.{Exchange}
use Rattle.pool_slots.specs.ListUnits.{all_away, all_kept}
use Rattle.pool_slots.specs.declared.part.PoolPart.{PoolPart}
use Rattle.pool_alloc.specs.PartyTold.{PartyTold}
use Rattle.pool_alloc.specs.Places.{Thing, frame_count}
use Rattle.pool_alloc.specs.Targets.{next_target}
use Rattle.pool_alloc.specs.declared.frame.Frame.{Frame}
use Rattle.pool_alloc.specs.declared.frame.Outcome.{Outcome}
use Rattle.pool_driver.specs.Beside.{StepsBeside, StepsBesideAlike}
use Rattle.pool_driver.specs.Carrying.{Carries}
use Rattle.pool_driver.specs.Driving.{Given}
use Rattle.pool_driver.specs.Placed.{About, pool_meaning}
use Rattle.pool_driver.proofs.Cores.{all_weigh}
use Rattle.pool_driver.proofs.Hearing.{alike, is_alone}

-- What the frame has, and the rest, is given out at the moment and isn't kept.
pub away_beside : {T P H : Type 0} (about : T → About) (inner : T → PoolPart P H) (made : List T) (limits : List ℕ) (us : List UnitName) (moment : Moment (pool_meaning about inner) made limits us) (rest : List UnitName) (f : Frame P H) → Carries rest us f None → (t : Thing) → total t (all_kept (map inner moment.now)) + (frame_count t f + total t rest) ≤ total t (all_away (map inner moment.now))
away_beside about inner made limits us moment rest f carries t = omega (arith, all_weigh about inner made limits us moment t, carries.units t)

-- What is so for every party is so for one that heard nothing.
pub beside_for : {P H : Type 0} (Passes : List Exchange → Type 0) → Passes [] → (told : PartyTold) (g : Given) (f next : Frame P H) (o : Option (Outcome P H)) → is_alone (next_target g.about.settings g.about.plan f.phase f) ≡ false → StepsBesideAlike g f next o → StepsBeside Passes told told g f next o
beside_for Passes none told g f next o not_alone beside c stands =
    let s = beside told in
    record {
      core = s.core;
      left = s.left;
      stands = s.stands;
      row = alike (λ passed. passed ≡ []) Passes g.about.settings g.about.plan s.core f (record { core = s.left; frame = next; outcome = o }) not_alone (λ e. none) s.row;
    }

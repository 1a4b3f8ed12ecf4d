use Rattle.pool_alloc.proofs.SoundSteps.{sound_step}
use Rattle.pool_alloc.proofs.StepNeeds.{can_step_at}
use Rattle.pool_alloc.proofs.StepsAsRows.{without_limiter}
use Rattle.pool_alloc.proofs.pool_core.PoolCore.step_into.Goals as goal

pub advance-requires-clause-can : goal.advance-requires-clause-can
advance-requires-clause-can g c = can_step_at g.maker c.args.self.now c.args.frame.now c.requires.1.1.1.1.0 c.requires.1.1.1.1.1.0

pub advance-requires-in-None-clause-can : goal.advance-requires-in-None-clause-can
advance-requires-in-None-clause-can g c = can_step_at g.maker c.args.self.now c.args.frame.now c.requires.1.1.1.1.0 c.requires.1.1.1.1.1.0

pub returns-in-Some-clause-row : goal.returns-in-Some-clause-row
returns-in-Some-clause-row g c = rw c.in-Some.is (c.advance.ensures.row.0, c.advance.ensures.row.1.0)

pub returns-in-Some-clause-asks : goal.returns-in-Some-clause-asks
returns-in-Some-clause-asks g c = rw c.in-Some.is c.advance.ensures.row

pub returns-in-Some-clause-sound : goal.returns-in-Some-clause-sound
returns-in-Some-clause-sound g c = rw c.in-Some.is (sound_step g.maker _ _ c.args.self.now c.args.frame.now _ c.requires.1.1.1.1.0 (c.advance.ensures.row.0, c.advance.ensures.row.1.0))

pub returns-in-None-clause-row : goal.returns-in-None-clause-row
returns-in-None-clause-row g c = rw c.in-None.is (c.advance-in-None.ensures.row.0, c.advance-in-None.ensures.row.1.0)

pub returns-in-None-clause-asks : goal.returns-in-None-clause-asks
returns-in-None-clause-asks g c = rw c.in-None.is (without_limiter c.args.self.now c.args.frame.now _ (c.advance-in-None.ensures.row.0, c.advance-in-None.ensures.row.1.0))

pub returns-in-None-clause-sound : goal.returns-in-None-clause-sound
returns-in-None-clause-sound g c = rw c.in-None.is (sound_step g.maker _ _ c.args.self.now c.args.frame.now _ c.requires.1.1.1.1.0 (c.advance-in-None.ensures.row.0, c.advance-in-None.ensures.row.1.0))

use Rattle.pool_alloc.proofs.SoundSteps.{sound_step}
use Rattle.pool_alloc.proofs.StepNeeds.{can_step_at}
use Rattle.pool_alloc.proofs.StepsAsRows.{without_limiter}
use Rattle.pool_alloc.proofs.pool_core.PoolCore.step.Goals as goal

pub advance_answering-requires : goal.advance_answering-requires
advance_answering-requires g c = can_step_at g.maker c.args.self.now c.args.frame.now c.requires.1.1.1.1.0 c.requires.1.1.1.1.1

pub advance_answering-requires-in-None : goal.advance_answering-requires-in-None
advance_answering-requires-in-None g c = can_step_at g.maker c.args.self.now c.args.frame.now c.requires.1.1.1.1.0 c.requires.1.1.1.1.1

pub returns-in-Some-clause-row : goal.returns-in-Some-clause-row
returns-in-Some-clause-row g c = rw c.in-Some.is (c.advance_answering.ensures.row.0, c.advance_answering.ensures.row.1.0)

pub returns-in-Some-clause-asks : goal.returns-in-Some-clause-asks
returns-in-Some-clause-asks g c = rw c.in-Some.is c.advance_answering.ensures.row

pub returns-in-Some-clause-sound : goal.returns-in-Some-clause-sound
returns-in-Some-clause-sound g c = rw c.in-Some.is (sound_step g.maker _ _ c.args.self.now c.args.frame.now _ c.requires.1.1.1.1.0 (c.advance_answering.ensures.row.0, c.advance_answering.ensures.row.1.0))

pub returns-in-None-clause-row : goal.returns-in-None-clause-row
returns-in-None-clause-row g c = rw c.in-None.is (c.advance_answering-in-None.ensures.row.0, c.advance_answering-in-None.ensures.row.1.0)

pub returns-in-None-clause-asks : goal.returns-in-None-clause-asks
returns-in-None-clause-asks g c = rw c.in-None.is (without_limiter c.args.self.now c.args.frame.now _ (c.advance_answering-in-None.ensures.row.0, c.advance_answering-in-None.ensures.row.1.0))

pub returns-in-None-clause-sound : goal.returns-in-None-clause-sound
returns-in-None-clause-sound g c = rw c.in-None.is (sound_step g.maker _ _ c.args.self.now c.args.frame.now _ c.requires.1.1.1.1.0 (c.advance_answering-in-None.ensures.row.0, c.advance_answering-in-None.ensures.row.1.0))

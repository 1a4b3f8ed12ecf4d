use Rattle.pool_alloc.proofs.BegunFrames.{made_frame}
use Rattle.pool_alloc.proofs.pool_core.PoolCore.frame.Goals as goal

pub returns-clause-sound : goal.returns-clause-sound
returns-clause-sound g c = λ maker core. rw c.in_ok-frame.ensures.made (made_frame maker c.args.home c.args.self.now core)

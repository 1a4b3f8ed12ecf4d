use Rattle.pool_alloc.proofs.BegunFrames.{begun_frame}
use Rattle.pool_alloc.proofs.frame.Frame.begin.Goals as goal

pub returns-in-GiveBack-clause-sound : goal.returns-in-GiveBack-clause-sound
returns-in-GiveBack-clause-sound g c = λ maker s plan frame may. rw c.give_back.ensures (rw c.in-GiveBack.is at (begun_frame maker c.args.call s plan c.args.self.now frame may))

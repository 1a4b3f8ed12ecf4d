use Rattle.pool_shared.proofs.First.{MarkedSoFar}
use Rattle.pool_shared.proofs.spot_state.SpotState.notify.Given as goal

abbrev pub invariant-loop-marked : goal.invariant-loop-marked
invariant-loop-marked l = MarkedSoFar l.addr l.n l.initial.self l.self l.marked

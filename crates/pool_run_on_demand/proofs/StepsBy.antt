-- Steps that meet faults are steps by the same relation, whatever they meet.
use Rattle.std.proofs.Common.{ℕ, ◌+◌, List, [], ◌∷◌}
use Rattle.pool_run_on_demand.proofs.Imports.{Terms, PrivateState, StepsBy, Command, Reply}
use Rattle.pool_run_on_demand.specs.OnDemand.{StepOnDemand}
use Rattle.pool_run_on_demand.specs.Faults.{StepsMeeting}

pub meeting_by : (t : Terms) (n : ℕ) (commands : List Command) (replies : List Reply) (s : PrivateState) (met : ℕ) (end : PrivateState) → StepsMeeting t n commands replies s met end → StepsBy (StepOnDemand t) n commands replies s end
meeting_by t n commands [] s met end steps = steps.0
meeting_by t n [] (reply ∷ replies) s met end steps = absurd steps
meeting_by t n (command ∷ commands) (reply ∷ replies) s met end steps =
    (steps.0, steps.1.0, meeting_by t (n + 1) commands replies steps.0 steps.1.1.0 end steps.1.1.1.1)

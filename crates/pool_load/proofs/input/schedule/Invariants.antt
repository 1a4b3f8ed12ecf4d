use Rattle.std.proofs.Common.{◌≡◌}
use Rattle.pool_load.specs.Draws.{state_after}
use Rattle.pool_load.specs.Load.{load_schedule}
use Rattle.pool_load.proofs.input.schedule.Given as goal

-- the steps so far, and a draw for each
abbrev pub invariant-loop-step : goal.invariant-loop-step
invariant-loop-step l = record {
  made : l.schedule.items ≡ load_schedule l.step l.fn.draws.state;
  state : l.draws.state ≡ state_after l.step l.fn.draws.state;
}

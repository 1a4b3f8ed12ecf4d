use Rattle.std.proofs.Common.{◌≡◌, ◌*◌}
use Rattle.pool_load.specs.Draws.{state_after}
use Rattle.pool_load.specs.Load.{rounds}
use Rattle.pool_load.proofs.input.commands.Given as goal

-- the rounds so far, and five draws for each
abbrev pub invariant-loop-round : goal.invariant-loop-round
invariant-loop-round l = record {
  made : l.commands.items ≡ rounds l.round l.fn.draws.state;
  state : l.draws.state ≡ state_after (5 * l.round) l.fn.draws.state;
}

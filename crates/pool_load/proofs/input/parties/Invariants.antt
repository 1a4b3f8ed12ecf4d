use Rattle.std.proofs.Common.{◌≡◌, ◌*◌}
use Rattle.pool_load.specs.Draws.{state_after}
use Rattle.pool_load.specs.Load.{load_parties}
use Rattle.pool_load.proofs.input.parties.Given as goal

-- the parties so far, and 250 draws for each
abbrev pub invariant-loop-home : goal.invariant-loop-home
invariant-loop-home l = record {
  made : l.parties.items ≡ load_parties l.home l.fn.draws.state;
  state : l.draws.state ≡ state_after (250 * l.home) l.fn.draws.state;
}

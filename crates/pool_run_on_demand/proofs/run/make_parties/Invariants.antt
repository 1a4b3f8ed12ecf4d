use Rattle.std.proofs.Common.{◌≡◌}
use Rattle.pool_run_on_demand.proofs.Folding.{AreBegun}
use Rattle.pool_run_on_demand.proofs.run.make_parties.Given as goal

-- the parties so far
abbrev pub invariant-loop-at : goal.invariant-loop-at
invariant-loop-at g l = record {
  begun : AreBegun l.input g.common l.at l.made.items;
  all : l.parties ≡ l.input.parties;
}

use Rattle.std.proofs.Common.{◌≡◌}
use Rattle.pool_run_on_demand.specs.Runs.{ArePartiesOnDemand, HaveAll}
use Rattle.pool_run_on_demand.proofs.run.finish.Given as goal

abbrev pub ghost-repeat : goal.ghost-repeat
ghost-repeat g a = g.common

-- the parties so far have made all their commands
abbrev pub invariant-loop-i : goal.invariant-loop-i
invariant-loop-i g l = record {
  parties : ArePartiesOnDemand g.common l.input (g.M.PageMaker.told l.seat.maker) l.parties.items;
  borrows : g.M.PageMaker.borrows l.seat.maker ≡ g.M.PageMaker.borrows l.fn.seat.maker;
  all : HaveAll l.input l.i l.parties.items;
  given : l.given ≡ l.input.parties;
}

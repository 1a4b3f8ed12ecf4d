use Rattle.std.proofs.Common.{◌≡◌}
use Rattle.pool_run_on_demand.specs.Runs.{ArePartiesOnDemand, HaveStepped, steps_of}
use Rattle.pool_run_on_demand.proofs.run.repeat.Given as goal

abbrev pub ghost-step : goal.ghost-step
ghost-step g a = g.common

-- the steps so far
abbrev pub invariant-loop-turn : goal.invariant-loop-turn
invariant-loop-turn g l = record {
  parties : ArePartiesOnDemand g.common l.input (g.M.PageMaker.told l.seat.maker) l.parties.items;
  borrows : g.M.PageMaker.borrows l.seat.maker ≡ g.M.PageMaker.borrows l.fn.seat.maker;
  stepped : HaveStepped l.input (steps_of l.i l.turn) l.fn.parties.items l.parties.items;
}

use Rattle.std.proofs.Common.{◌≡◌, take}
use Rattle.pool_run_on_demand.specs.Runs.{ArePartiesOnDemand, HaveStepped, steps_in}
use Rattle.pool_run.specs.Schedules.{turns_of}
use Rattle.pool_run_on_demand.proofs.run.follow.Given as goal

abbrev pub ghost-repeat : goal.ghost-repeat
ghost-repeat g a = g.common

-- the steps of the entries so far
abbrev pub invariant-loop-at : goal.invariant-loop-at
invariant-loop-at g l = record {
  parties : ArePartiesOnDemand g.common l.input (g.M.PageMaker.told l.seat.maker) l.parties.items;
  borrows : g.M.PageMaker.borrows l.seat.maker ≡ g.M.PageMaker.borrows l.fn.seat.maker;
  stepped : HaveStepped l.input (steps_in (turns_of (take l.at l.schedule))) l.fn.parties.items l.parties.items;
}

use Rattle.pool_run_on_demand.proofs.run.run_seated.Given as goal

abbrev pub ghost-run_in_seat : goal.ghost-run_in_seat
ghost-run_in_seat g a = g.M.PageMaker.told a.seat.now.maker

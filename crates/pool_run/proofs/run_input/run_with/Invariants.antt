use Rattle.pool_run.proofs.run_input.run_with.Given as goal

abbrev pub ghost-run_by : goal.ghost-run_by
ghost-run_by g a = g.M.PageMaker.told a.pages.now

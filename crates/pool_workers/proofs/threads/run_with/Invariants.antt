use Rattle.pool_workers.proofs.threads.run_with.Given as goal

abbrev pub ghost-run_by : goal.ghost-run_by
ghost-run_by g a = g.M.PageMaker.told a.pages.now

use Rattle.pool_run.proofs.run.Run.new.Given as goal

abbrev pub ghost-of_valid : goal.ghost-of_valid
ghost-of_valid g a = g.M.PageMaker.told a.pages.now

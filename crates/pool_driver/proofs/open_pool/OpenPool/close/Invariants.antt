use Rattle.pool_driver.proofs.open_pool.OpenPool.close.Given as goal

abbrev pub ghost-close : goal.ghost-close
ghost-close g a = g.about.maker

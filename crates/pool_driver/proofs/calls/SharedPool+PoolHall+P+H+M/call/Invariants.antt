use Rattle.pool_driver.proofs.calls.SharedPool+PoolHall+P+H+M.call.Given as goal

abbrev pub ghost-run : goal.ghost-run
ghost-run g a = g.given

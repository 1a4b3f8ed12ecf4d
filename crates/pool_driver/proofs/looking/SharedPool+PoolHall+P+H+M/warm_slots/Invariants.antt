use Rattle.pool_driver.proofs.looking.SharedPool+PoolHall+P+H+M.warm_slots.Given as goal

abbrev pub ghost-look_at_all : goal.ghost-look_at_all
ghost-look_at_all g a = g.about

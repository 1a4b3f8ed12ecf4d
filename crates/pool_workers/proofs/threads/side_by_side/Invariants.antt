use Rattle.pool_workers.proofs.threads.side_by_side.Given as goal

abbrev pub ghost-join_all : goal.ghost-join_all
ghost-join_all g a = g.all

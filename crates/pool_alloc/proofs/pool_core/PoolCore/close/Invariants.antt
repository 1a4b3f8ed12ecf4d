use Rattle.pool_alloc.proofs.pool_core.PoolCore.close.Given as goal

abbrev pub ghost-flush_queues : goal.ghost-flush_queues
ghost-flush_queues g a = g.maker

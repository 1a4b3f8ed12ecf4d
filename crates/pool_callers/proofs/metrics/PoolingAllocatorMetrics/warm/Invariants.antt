use Rattle.pool_callers.specs.Callers.{about_shared}
use Rattle.pool_callers.proofs.metrics.PoolingAllocatorMetrics.warm.Given as goal

abbrev pub ghost-warm_slots : goal.ghost-warm_slots
ghost-warm_slots g a = about_shared g.M.PageMaker.told a.self.now

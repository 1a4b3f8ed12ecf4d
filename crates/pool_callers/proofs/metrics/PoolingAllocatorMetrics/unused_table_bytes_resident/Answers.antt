use Rattle.std.proofs.Common.{refl}
use Rattle.pool_callers.proofs.metrics.PoolingAllocatorMetrics.unused_table_bytes_resident.Goals as goal

pub returns-clause-warm : goal.returns-clause-warm
returns-clause-warm g c = record { found = c.warm.result; counted = c.warm.ensures.warm; is = refl }

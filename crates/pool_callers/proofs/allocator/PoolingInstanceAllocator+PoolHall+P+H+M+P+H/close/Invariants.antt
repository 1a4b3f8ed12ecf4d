use Rattle.pool_callers.specs.Callers.{about_shared}
use Rattle.pool_callers.proofs.allocator.PoolingInstanceAllocator+PoolHall+P+H+M+P+H.close.Given as goal

abbrev pub ghost-close : goal.ghost-close
ghost-close g a = about_shared g.M.PageMaker.told a.self.pool

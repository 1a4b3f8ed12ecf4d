use Rattle.pool_index.proofs.Allocating.{as_many, all_shards}
use Rattle.pool_index.proofs.allocator.ModuleAffinityIndexAllocator.places.Goals as goal

pub returns-clause-all : goal.returns-clause-all
returns-clause-all c = as_many _ _ _ _ _ _ c.args.self.now.made

pub returns-clause-shards : goal.returns-clause-shards
returns-clause-shards c = all_shards _ _ _ _ _ _ c.args.self.now.made

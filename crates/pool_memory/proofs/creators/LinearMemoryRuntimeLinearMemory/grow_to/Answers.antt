use Rattle.std.proofs.Common.{nat_lt}
use Rattle.std.specs.Result.{result_err}
use Rattle.pool_memory.specs.Malloc.{malloc_linear}
use Rattle.pool_memory.proofs.Creations.{malloc_calls}
use Rattle.pool_memory.proofs.creators.LinearMemoryRuntimeLinearMemory.grow_to.Goals as goal

pub returns-in-Malloc-clause-maker : goal.returns-in-Malloc-clause-maker
returns-in-Malloc-clause-maker g c =
    rw c.in-Malloc.is (malloc_calls (nat_lt c.in-Malloc.memory.capacity c.args.size) (result_err c.grow_to-in-Malloc.result) c.args.size c.in-Malloc.memory (malloc_linear c.grow_to-in-Malloc.new.self) (g.M.PageMaker.told c.args.maker.now))

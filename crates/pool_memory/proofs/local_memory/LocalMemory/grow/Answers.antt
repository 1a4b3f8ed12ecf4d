use Rattle.pool_memory.proofs.local_memory.LocalMemory.grow.Goals as goal

pub returns-in-Some-clause-growth : goal.returns-in-Some-clause-growth
returns-in-Some-clause-growth g c = let m = c.grow_asking.ensures.growth in rw c.in-Some.is (m.0, (m.1.0, m.1.1.0))

pub returns-in-Some-clause-maker : goal.returns-in-Some-clause-maker
returns-in-Some-clause-maker g c = rw c.in-Some.is c.grow_asking.ensures.growth

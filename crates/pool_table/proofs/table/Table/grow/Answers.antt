use Rattle.pool_table.proofs.table.Table.grow.Goals as goal

pub returns-in-Some-clause-growth : goal.returns-in-Some-clause-growth
returns-in-Some-clause-growth g c = rw c.in-Some.is c.grow_asking.ensures.growth

use Rattle.pool_table.proofs.table.Table.region.Goals as goal

pub returns-clause-holds : goal.returns-clause-holds
returns-clause-holds g c = rw (c.in-Static.is, c.region.ensures) c.size-size.ensures.always

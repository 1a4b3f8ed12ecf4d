use Rattle.pool_table.proofs.table.Table.is_all_zero.Goals as goal

pub returns-in-Static-clause-words : goal.returns-in-Static-clause-words
returns-in-Static-clause-words g c = rw c.in-Static.is c.is_all_zero.ensures

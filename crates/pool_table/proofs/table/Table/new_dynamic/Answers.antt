use Rattle.std.proofs.Common.{refl}
use Rattle.pool_table.proofs.table.Table.new_dynamic.Goals as goal

pub returns-in-Some-clause-limiter : goal.returns-in-Some-clause-limiter
returns-in-Some-clause-limiter g c = rw c.in-Some.is c.make_dynamic.ensures.limiter

pub returns-in-Some-clause-exchange : goal.returns-in-Some-clause-exchange
returns-in-Some-clause-exchange g c = rw c.in-Some.is (c.make_dynamic.new.limiter, (c.make_dynamic.ensures.exchange, refl))

use Rattle.std.proofs.Common.{arith}
use Rattle.pool_index.proofs.FreedLists.{numbers_inner, numbers_last}
use Rattle.pool_index.proofs.layout.numbers_at.Goals as goal

pub returns-then-place-count-clause-among : goal.returns-then-place-count-clause-among
returns-then-place-count-clause-among c n = numbers_inner c.args.slots_per_shard c.args.count c.args.place c.requires.slots c.requires.inside (omega arith) n

pub returns-else-place-count-clause-among : goal.returns-else-place-count-clause-among
returns-else-place-count-clause-among c n = numbers_last c.args.slots_per_shard c.args.count c.args.place c.requires.slots c.requires.inside (omega arith) n
